use Rattle.std.proofs.Common.{◌++◌, false, take, drop, refl}
use Rattle.std.proofs.lemmas.Result.{err_from_is_err_and}
use Rattle.char_sequence.specs.Cells.{is_known, past_greater}
use Rattle.char_sequence.specs.Weave.{Starts, Weaves}
use Rattle.char_sequence.proofs.KnownLemmas.{unknown_there, none_refused}
use Rattle.char_sequence.proofs.WovenLemmas.{is_woven, shown, takes_insert_in, woven_is, woven_with}
use Rattle.char_sequence.proofs.weave.Weave.insert.Goals as goal

pub returns-in-None-clause-unknown : goal.returns-in-None-clause-unknown
returns-in-None-clause-unknown c = λ ops doc holds.
    let w = shown _ _ c.args.self.now c.self.invariant c.self.view_is in
    let gone = c.in-None.ensures c.self.inside.next.items c.args.self.now w in
    unknown_there c.args.self.now ops doc c.args.origin _ holds (λ _. gone, λ _. refl)

pub returns-in_err-slot-clause-unknown : goal.returns-in_err-slot-clause-unknown
returns-in_err-slot-clause-unknown c = λ ops doc holds.
    let p = err_from_is_err_and c.from_residual.result c.from_residual.ensures.1 in
    let w = shown _ _ c.args.self.now c.self.invariant c.self.view_is in
    let known = (c.in-Some.ensures c.self.inside.next.items c.args.self.now w).0 in
    unknown_there c.args.self.now ops doc c.args.origin _ holds
    (none_refused (is_known c.args.self.now c.args.origin) _ (rw (p.1, p.2) (λ never. cc)) known)

pub returns-in_err-push-clause-unknown : goal.returns-in_err-push-clause-unknown
returns-in_err-push-clause-unknown c = λ ops doc holds.
    let p = err_from_is_err_and c.from_residual-in_err-push.result c.from_residual-in_err-push.ensures.1 in
    let w = shown _ _ c.args.self.now c.self.invariant c.self.view_is in
    let known = (c.in-Some.ensures c.self.inside.next.items c.args.self.now w).0 in
    unknown_there c.args.self.now ops doc c.args.origin _ holds
    (none_refused (is_known c.args.self.now c.args.origin) _ (rw (p.1, p.2) (λ never. cc)) known)

-- what hangs from the origin starts at the place that was found
begun : (c : goal.After-tie) → (w : Weaves c.self.inside.cells c.self.inside.next.items c.args.self.now)
    → Starts w.order c.args.self.now c.args.origin c.in-Some.from
begun c w = (c.in-Some.ensures c.self.inside.next.items c.args.self.now w).1

-- the weave with the character
grown : (c : goal.After-tie) → (w : Weaves c.self.inside.cells c.self.inside.next.items c.args.self.now)
    → (start : Starts w.order c.args.self.now c.args.origin c.in-Some.from)
    → Weaves c.push.new.self c.tie.new.next.items
    (take start.steps c.args.self.now ++ past_greater (record { id = c.args.id; value = c.args.value; is_removed = false })
    (drop start.steps c.args.self.now))
grown c w start =
    let next = c.in_ok-slot.ensures.next in
    let passes = rw (c.deref-2.ensures.value, next) at c.past-at.ensures in
    let behind = rw (c.deref-3.ensures.value, next) at c.next_of-behind.ensures in
    let tied = rw (c.push_reserved.ensures.items, next, behind, c.in_ok-slot.ensures.slot) at c.tie.ensures in
    rw c.in_ok-push.ensures.put
    (woven_with c.self.inside.cells c.self.inside.next.items c.tie.new.next.items c.args.self.now c.args.origin c.in-Some.from c.past-at.result
    (record { id = c.args.id; value = c.args.value; is_removed = false }) w start passes tied)

pub invariant_of-self-2 : goal.invariant_of-self-2
invariant_of-self-2 c =
    let w = shown _ _ c.args.self.now c.self.invariant c.self.view_is in
    is_woven _ _ _ (grown c w (begun c w))

pub returns-clause-taken : goal.returns-clause-taken
returns-clause-taken c =
    let w = shown _ _ c.args.self.now c.self.invariant c.self.view_is in
    let start = begun c w in
    takes_insert_in c.args.id c.args.origin c.args.value c.args.self.now _ w.order c.in-Some.from start
    (record { id = c.args.id; value = c.args.value; is_removed = false }) refl (woven_is _ _ _ (grown c w start))

pub returns-clause-unknown : goal.returns-clause-unknown
returns-clause-unknown c = λ ops doc holds.
    let w = shown _ _ c.args.self.now c.self.invariant c.self.view_is in
    let known = (c.in-Some.ensures c.self.inside.next.items c.args.self.now w).0 in
    unknown_there c.args.self.now ops doc c.args.origin _ holds (none_refused (is_known c.args.self.now c.args.origin) _ (λ never. cc) known)
