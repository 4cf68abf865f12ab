use Rattle.std.proofs.Common.{◌-◌, suc, true, Some, refl, arith}
use Rattle.char_sequence.specs.Cells.{has_cell}
use Rattle.char_sequence.proofs.KnownLemmas.{unknown_there, none_refused}
use Rattle.char_sequence.proofs.WeaveLemmas.{cell_within, found, lacks_woven, starts_found, woven_set}
use Rattle.char_sequence.proofs.WovenLemmas.{is_woven, read_found, shown, takes_remove_in, woven_is}
use Rattle.char_sequence.proofs.weave.Weave.remove.Goals as goal

pub returns-in-None-clause-unknown : goal.returns-in-None-clause-unknown
returns-in-None-clause-unknown c = λ ops doc holds.
    let w = shown _ _ c.args.self.now c.self.invariant c.self.view_is in
    let gone = lacks_woven c.self.inside.cells c.self.inside.next.items c.args.self.now c.args.id w c.in-None.ensures in
    unknown_there c.args.self.now ops doc (Some c.args.id) _ holds (λ _. gone, λ _. refl)

pub remove-requires : goal.remove-requires
remove-requires c =
    let one = c.in-Some.ensures in
    let at = cell_within c.self.inside.cells c.in-Some.at one.0 one.1 in
    let here = at.1 in
    let inside = at.3 in
    omega arith

pub invariant_of-self : goal.invariant_of-self
invariant_of-self c =
    let w = shown _ _ c.args.self.now c.self.invariant c.self.view_is in
    let one = c.in-Some.ensures in
    let read = read_found c.self.inside.cells c.in-Some.at one.0 one.1 in
    let it = found _ _ _ w (suc (c.in-Some.at - 1)) one.0 read in
    rw (c.remove.ensures.removed one.0 read) (is_woven _ _ _ (woven_set _ _ _ w (c.in-Some.at - 1) one.0 (record one.0 { is_removed = true }) it))

pub returns-clause-taken : goal.returns-clause-taken
returns-clause-taken c =
    let w = shown _ _ c.args.self.now c.self.invariant c.self.view_is in
    let one = c.in-Some.ensures in
    let read = read_found c.self.inside.cells c.in-Some.at one.0 one.1 in
    let it = found _ _ _ w (suc (c.in-Some.at - 1)) one.0 read in
    rw (c.remove.ensures.removed one.0 read)
    (takes_remove_in c.args.id c.args.self.now _ w.order (suc (c.in-Some.at - 1)) one.0 it one.2
    (woven_is _ _ _ (woven_set _ _ _ w (c.in-Some.at - 1) one.0 (record one.0 { is_removed = true }) it)))

pub returns-clause-unknown : goal.returns-clause-unknown
returns-clause-unknown c = λ ops doc holds.
    let w = shown _ _ c.args.self.now c.self.invariant c.self.view_is in
    let one = c.in-Some.ensures in
    let known = (starts_found _ _ _ w c.in-Some.at one.0 c.args.id one.1 one.2).0 in
    unknown_there c.args.self.now ops doc (Some c.args.id) _ holds (none_refused (has_cell c.args.self.now c.args.id) _ (λ never. cc) known)
