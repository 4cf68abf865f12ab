use Rattle.std.proofs.Common.{◌≡◌, ◌<◌, Some, None, length, refl, sym, arith}
use Rattle.replica_core.specs.Makers.{maker_place}
use Rattle.replica_core.proofs.MakerLemmas.{found_within, no_room, none_kept, put_index, put_index_others, put_index_room}
use Rattle.replica_core.proofs.maker.put.Goals as goal

pub index_mut-maker-requires : goal.index_mut-maker-requires
index_mut-maker-requires c =
    let within : c.in-Some.at < length c.deref.result.now = found_within c.deref.result.now c.args.replica c.in-Some.at (sym c.in-Some.ensures) in
    omega (arith, c.deref.ensures.len)

pub unreachable-requires : goal.unreachable-requires
unreachable-requires c =
    let found : maker_place c.args.makers.now.items c.args.replica ≡ Some c.in-Some.at = sym (rw c.deref.ensures.value at c.in-Some.ensures) in
    no_room c.args.makers.now.items c.args.replica c.in-Some.at c.index_mut-maker.result.now found c.index_mut-maker.ensures.value c.in-Err.ensures.full c.requires

pub unreachable-requires-in-None : goal.unreachable-requires-in-None
unreachable-requires-in-None c =
    let none : maker_place c.args.makers.now.items c.args.replica ≡ None = sym (rw c.deref.ensures.value at c.in-None.ensures) in
    let empty = (none_kept c.args.makers.now.items c.args.replica none).1 in
    let some = c.requires in
    omega arith

pub returns-clause-own : goal.returns-clause-own
returns-clause-own c =
    let found : maker_place c.args.makers.now.items c.args.replica ≡ Some c.in-Some.at = sym (rw c.deref.ensures.value at c.in-Some.ensures) in
    put_index c.args.makers.now.items c.args.replica c.in-Some.at c.index_mut-maker.result.now _ c.args.index found c.index_mut-maker.ensures.value refl c.in-Ok.ensures.items

pub returns-clause-others : goal.returns-clause-others
returns-clause-others c =
    let found : maker_place c.args.makers.now.items c.args.replica ≡ Some c.in-Some.at = sym (rw c.deref.ensures.value at c.in-Some.ensures) in
    put_index_others c.args.makers.now.items c.args.replica c.in-Some.at c.index_mut-maker.result.now _ found c.index_mut-maker.ensures.value refl

pub returns-clause-room : goal.returns-clause-room
returns-clause-room c =
    let found : maker_place c.args.makers.now.items c.args.replica ≡ Some c.in-Some.at = sym (rw c.deref.ensures.value at c.in-Some.ensures) in
    put_index_room c.args.makers.now.items c.args.replica c.in-Some.at c.index_mut-maker.result.now _ found c.index_mut-maker.ensures.value refl c.in-Ok.ensures.len c.in-Ok.ensures.capacity
