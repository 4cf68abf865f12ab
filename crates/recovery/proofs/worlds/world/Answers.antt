use Rattle.world_law.proofs.Clauses.{one_operation, told_once, never_again, same_shown, settled}
use Rattle.world_law.proofs.Answered.{answered_forever}
use Rattle.world_law.proofs.Worlds.{history_fronts}
use Rattle.world_law.proofs.Together.{tokens_name_one_edit}
use Rattle.recovery.proofs.worlds.world.Goals as goal

pub returns : goal.returns
returns c = record {
  one_operation = one_operation;
  told_once = told_once;
  never_again = never_again;
  same_shown = same_shown;
  settled = settled;
  answered = answered_forever;
  tokens = tokens_name_one_edit;
  moments = history_fronts;
}
