use Rattle.std.proofs.Common.{◌≡◌, ◌∙◌, nat_le, ap, subst, sym}
use Rattle.op_model.specs.Causality.{IsCausallyClosed}
use Rattle.op_model.specs.Held.{ReplicaHeld}
use Rattle.op_model.specs.Text.{rev}
use Rattle.replica_core.proofs.PastLemmas.{past_of}
use Rattle.replica_core.proofs.replica.Replica.past.Goals as goal

pub drafted-requires : goal.drafted-requires
drafted-requires c = record { closed = subst (λ ops. IsCausallyClosed ops) (sym c.as_slice.ensures) c.self.invariant.sound.closed }

pub returns-in_ok-finish-in-Some-clause-was : goal.returns-in_ok-finish-in-Some-clause-was
returns-in_ok-finish-in-Some-clause-was c =
    let list : c.as_slice.result ≡ c.args.self.now.list = c.as_slice.ensures ∙ ap (λ (h : ReplicaHeld). h.list) c.self.view_is in
    let found = rw c.in-Some.is at c.in_ok-draft.ensures.drafted in
    past_of c.in-Some.draft c.in_ok-finish-in-Some.field-0 c.as_slice.result c.args.self.now.list c.args.doc c.args.rev found.0 list found.1
    c.in_ok-finish-in-Some.ensures.number c.in_ok-finish-in-Some.ensures.stands

pub returns-in_ok-finish-in-Some-clause-there : goal.returns-in_ok-finish-in-Some-clause-there
returns-in_ok-finish-in-Some-clause-there c =
    let list : c.as_slice.result ≡ c.args.self.now.list = c.as_slice.ensures ∙ ap (λ (h : ReplicaHeld). h.list) c.self.view_is in
    (rw c.in-Some.is at c.in_ok-draft.ensures.there) ∙ ap (λ ops. nat_le c.args.rev (rev ops c.args.doc)) list

pub returns-in-None-clause-there : goal.returns-in-None-clause-there
returns-in-None-clause-there c =
    let list : c.as_slice.result ≡ c.args.self.now.list = c.as_slice.ensures ∙ ap (λ (h : ReplicaHeld). h.list) c.self.view_is in
    (rw c.in-None.is at c.in_ok-draft.ensures.there) ∙ ap (λ ops. nat_le c.args.rev (rev ops c.args.doc)) list
