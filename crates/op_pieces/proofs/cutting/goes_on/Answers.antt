use Rattle.std.proofs.Common.{◌≡◌, ◌+◌, true, nat_le, nat_lt, length, sym, ◌∙◌}
use Rattle.std.proofs.lemmas.Bool.{and_from, le-leb, lt-ltb}
use Rattle.op_ids.specs.Clock.{is_clock}
use Rattle.op_pieces.specs.Cutting.{goes_on, is_valid}
use Rattle.op_pieces.proofs.PieceLemmas.{grown_piece}
use Rattle.op_pieces.proofs.cutting.goes_on.Goals as goal

pub returns-then-others-lt-MAX_EDIT-clause-valid : goal.returns-then-others-lt-MAX_EDIT-clause-valid
returns-then-others-lt-MAX_EDIT-clause-valid c = λ is.
    let op = c.args.op.now in
    let low : nat_le op.id.counter 281474976710655 ≡ true = rw (sym c.counter-counter.ensures.value) (le-leb _ _ c.counter-counter.ensures.in_range) in
    let deps : is_clock op.deps ≡ true = rw c.entries-entries.ensures.same at c.entries-entries.ensures.rising in
    let valid : is_valid op ≡ true = and_from _ _ low deps in
    let long : nat_lt (length c.args.piece.now.others + 1) 256 ≡ true =
    lt-ltb _ _ (rw c.others.ensures.same at c.if-others-lt-MAX_EDIT.true) in
    let on : goes_on c.args.piece.now c.args.last.now op ≡ true = and_from _ _ long (sym c.is_next.ensures ∙ is) in
    grown_piece c.args.piece.now c.args.last.now op c.requires c.others.ensures.piece valid on
