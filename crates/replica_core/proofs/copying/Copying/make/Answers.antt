use Rattle.std.proofs.Common.{◌≡◌, ◌++◌, ◌∙◌, ap, Err, refl, sym, rules, arith, length}
use Rattle.std.proofs.lemmas.Bool.{true≢false}
use Rattle.doc_core.proofs.FittingLemmas.{made_fit}
use Rattle.doc_core.proofs.NamingLemmas.{edit_there}
use Rattle.model_laws.proofs.OneChange.{closed-due, greatest-due, length-due}
use Rattle.op_model.specs.Actions.{edit_of}
use Rattle.op_model.specs.Made.{made}
use Rattle.replica_core.proofs.EditLemmas.{keeps_all}
use Rattle.replica_core.proofs.SoundLemmas.{due_within}
use Rattle.replica_core.specs.Docs.{doc_number}
use Rattle.replica_core.proofs.copying.Copying.make.Goals as goal

pub unreachable-requires-in-Err-Limit : goal.unreachable-requires-in-Err-Limit
unreachable-requires-in-Err-Limit c =
    let ops = c.requires.0 in
    let behind = c.requires.1 in
    let limit = ((c.make.ensures.limit ops behind.stands).0 (c.in-Err-Limit.is ∙ ap Err c.in-Err-Limit.field-0-is)).1 in
    true≢false (sym (keeps_all ops c.args.replica c.args.self.now.counter c.args.self.now.clock (edit_of (doc_number c.args.self.now.doc) c.args.token c.args.change.now)
    behind.closed c.requires.2 behind.counter behind.clock (rw c.entries-entries.ensures.same at c.entries-entries.ensures.rising) c.replica_is_not_nil.ensures) ∙ limit)

pub unreachable-requires-in-Err-UnknownId : goal.unreachable-requires-in-Err-UnknownId
unreachable-requires-in-Err-UnknownId c =
    let ops = c.requires.0 in
    let behind = c.requires.1 in
    let e = edit_of (doc_number c.args.self.now.doc) c.args.token c.args.change.now in
    let is : c.in-Ok.made ≡ made ops c.args.replica e = c.in-Ok.ensures.made ops e behind.stands (record { counted = behind.counter; depends = behind.clock }) refl refl refl in
    let come = made_fit ops c.args.replica e (due_within ops c.args.replica e c.requires.2) in
    let missing = (c.apply_edit.ensures.unknown ops behind.stands).0 (c.in-Err-UnknownId.is ∙ ap Err c.in-Err-UnknownId.field-0-is) in
    true≢false (sym (edit_there ops (doc_number c.args.self.now.doc) c.in-Ok.made (rw is come)) ∙ missing)

pub count_all-requires : goal.count_all-requires
count_all-requires c =
    let ops = c.requires.0 in
    let behind = c.requires.1 in
    let e = edit_of (doc_number c.args.self.now.doc) c.args.token c.args.change.now in
    let is : c.in-Ok.made ≡ made ops c.args.replica e = c.in-Ok.ensures.made ops e behind.stands (record { counted = behind.counter; depends = behind.clock }) refl refl refl in
    (ops, behind.clock, rw (c.as_slice.ensures, is) (due_within ops c.args.replica e c.requires.2))

pub returns-clause-made : goal.returns-clause-made
returns-clause-made c = λ ops behind due.
    let e = edit_of (doc_number c.args.self.now.doc) c.args.token c.args.change.now in
    let is : c.in-Ok.made ≡ made ops c.args.replica e = c.in-Ok.ensures.made ops e behind.stands (record { counted = behind.counter; depends = behind.clock }) refl refl refl in
    let come = made_fit ops c.args.replica e (due_within ops c.args.replica e due) in
    let next = greatest-due ops c.args.replica e behind.closed due in
    let long : c.len.result ≡ length c.into_ops-ops.result.items = search rules in
    let many : c.len.result ≡ length (made ops c.args.replica e) = long ∙ ap length (c.into_ops-ops.ensures ∙ is) in
    let size = length-due ops c.args.replica e behind.closed due in
    let before = behind.counter in (
      record {
        closed = closed-due ops c.args.replica e behind.closed due;
        stands = rw is at (c.in-Ok-apply_edit.ensures.taken ops behind.stands (rw is come));
        clock = rw (c.as_slice.ensures, is) at (c.in_ok-count_all.ensures ops behind.clock);
        counter = omega arith;
      },
      c.in_ok-append.ensures.items ∙ ap (λ more. c.args.self.now.ops.items ++ more) (c.into_ops-ops.ensures ∙ is),
    )
