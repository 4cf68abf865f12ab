use Rattle.std.proofs.Common.{◌≡◌, ◌++◌, ◌∙◌, [], ap, sym, refl, arith, length, length-append}
use Rattle.model_laws.proofs.InTurn.{action_single}
use Rattle.op_model.specs.Actions.{asked, made_by_action}
use Rattle.op_model.specs.Causality.{clock_of}
use Rattle.op_model.specs.Made.{made, size_of}
use Rattle.replica_core.proofs.LimitLemmas.{length-made}
use Rattle.replica_core.proofs.SoundLemmas.{due_asks_right, due_counts, due_within, rev-made}
use Rattle.replica_core.proofs.preparing.prepared_one.Goals as goal

pub clock_behind-requires : goal.clock_behind-requires
clock_behind-requires c = (
  c.args.ops.now,
  c.requires.counted.clock,
  rw (c.as_slice.ensures, c.in_ok-made.ensures.made) (due_within c.args.ops.now c.args.known.now.replica c.args.edit.now c.requires.due),
)

pub place_behind-place-requires-clause-few : goal.place_behind-place-requires-clause-few
place_behind-place-requires-clause-few c =
    let few = (due_counts c.args.ops.now c.args.known.now.replica c.args.edit.now c.requires.due).0 in
    omega arith

pub place_behind-place-requires-clause-few_of_doc : goal.place_behind-place-requires-clause-few_of_doc
place_behind-place-requires-clause-few_of_doc c =
    let few = (due_counts c.args.ops.now c.args.known.now.replica c.args.edit.now c.requires.due).1 in
    rw c.requires.number (omega arith)

pub returns-clause-prepared : goal.returns-clause-prepared
returns-clause-prepared c = λ h list replica.
    let ops = c.args.ops.now in
    let r = c.args.known.now.replica in
    let e = c.args.edit.now in
    let same : made_by_action ops r (asked e []) ≡ made ops r e = action_single ops r (asked e []) e refl refl refl in
    let many : length (made ops r e) ≡ size_of e.change = length-made ops r e (due_asks_right ops r e c.requires.due) in
    let some = c.place_behind-place.ensures.some in
    let long = length-append ops (made ops r e) in
    record {
      operations = rw (list, replica) (c.in_ok-made.ensures.made ∙ sym same);
      some = rw (list, replica, same) (omega arith);
      clock = rw (list, replica, same) (c.in_ok-clock.ensures ops c.requires.counted.clock ∙ ap (λ more. clock_of (ops ++ more)) (c.as_slice.ensures ∙ c.in_ok-made.ensures.made));
      end = let end = c.place_behind-place.ensures.end in rw (list, replica, same) (omega arith);
      number = rw (list, replica, same) ((rw c.requires.number at c.place_behind-place.ensures.rev) ∙ sym (rev-made ops r e c.requires.due));
      copy = tt;
    }
