use Rattle.piece_codec.proofs.Counts.{tested_clock, tested_len, tested_own, tested_some, all_behind}
use Rattle.piece_codec.proofs.room.counts.Goals as goal

pub returns-in-empty-clause-len : goal.returns-in-empty-clause-len
returns-in-empty-clause-len c = absurd (tested_some c.args.deps.now c.in-empty.len_below c.requires)

pub returns-in-empty-clause-own : goal.returns-in-empty-clause-own
returns-in-empty-clause-own c = absurd (tested_some c.args.deps.now c.in-empty.len_below c.requires)

pub returns-in-empty-clause-valid : goal.returns-in-empty-clause-valid
returns-in-empty-clause-valid c = tested_clock c.args.deps.now c.requires

pub returns-in-len1-up-clause-len : goal.returns-in-len1-up-clause-len
returns-in-len1-up-clause-len c = tested_len c.args.deps.now c.in-len1-up.len_at_least c.requires

pub returns-in-len1-up-clause-own : goal.returns-in-len1-up-clause-own
returns-in-len1-up-clause-own c =
    tested_own c.args.deps.now _ c.args.replica c.own_count.result c.in-len1-up.len_at_least (all_behind c.args.deps.now) c.requires (rw c.number.ensures at c.own_count.ensures)

pub returns-in-len1-up-clause-valid : goal.returns-in-len1-up-clause-valid
returns-in-len1-up-clause-valid c = tested_clock c.args.deps.now c.requires
