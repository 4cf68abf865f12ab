use Rattle.std.proofs.Common.{◌≡◌, [], false, refl, sym, ◌∙◌, arith}
use Rattle.std.proofs.lemmas.Bool.{true≢false}
use Rattle.piece_codec.proofs.StreamLaws.{both_join}
use Rattle.root_slots.specs.Root.{format_of}
use Rattle.group_commit.specs.Moving.{moves}
use Rattle.group_commit.specs.Plan.{newest}
use Rattle.group_commit.proofs.BeginLemmas.{some_written}
use Rattle.group_commit.proofs.MovingLemmas.{in_newest}
use Rattle.group_commit.proofs.store.Store.begin_records.Goals as goal

pub begin-requires : goal.begin-requires
begin-requires g c = λ some.
    let are = c.requires.1 in
    some_written c.requires.0 c.args.count c.args.records.now are.spells (omega (arith, are.counted)) some

pub returns-else-moves-clause-began : goal.returns-else-moves-clause-began
returns-else-moves-clause-began g c = λ ops are n is.
    let begins = c.begin.ensures.began ops are.spells n is in
    let stays : moves c.args.self.now.current ≡ false = sym c.moves.ensures ∙ c.if-moves.false in
    record {
      before = [];
      written = ops;
      begins = rw (stays, are.counted) begins;
      stays = λ none. refl;
      all_new = λ way. absurd (true≢false (sym way ∙ stays));
      spells = λ list had.
          rw begins.follows.stream (both_join newest list ops c.args.self.now.current.stream c.args.records.now
          (in_newest (format_of c.args.self.now.current.body) list c.args.self.now.current.stream had) are.spells);
    }
