use Rattle.std.proofs.Common.{◌≡◌, ◌<◌, Some, None, length, refl, sym, arith}
use Rattle.std.proofs.lemmas.Result.{on_ok_weaker}
use Rattle.replica_core.specs.Makers.{maker_place}
use Rattle.replica_core.proofs.MakerLemmas.{found_within, put_same, put_room, push_same, push_room}
use Rattle.replica_core.proofs.maker.reserve.Goals as goal

pub index_mut-maker-requires : goal.index_mut-maker-requires
index_mut-maker-requires c =
    let within : c.in-Some.at < length c.deref.result.now = found_within c.deref.result.now c.args.replica c.in-Some.at (sym c.in-Some.ensures) in
    omega (arith, c.deref.ensures.len)

pub returns-in-Some-clause-same : goal.returns-in-Some-clause-same
returns-in-Some-clause-same c =
    let found : maker_place c.args.makers.now.items c.args.replica ≡ Some c.in-Some.at = sym (rw c.deref.ensures.value at c.in-Some.ensures) in
    put_same c.args.makers.now.items c.args.replica c.in-Some.at c.index_mut-maker.result.now _ found c.index_mut-maker.ensures.value refl c.reserve.ensures.items

pub returns-in-Some-clause-room : goal.returns-in-Some-clause-room
returns-in-Some-clause-room c =
    let found : maker_place c.args.makers.now.items c.args.replica ≡ Some c.in-Some.at = sym (rw c.deref.ensures.value at c.in-Some.ensures) in
    on_ok_weaker c.reserve.result (λ roomy.
    put_room c.args.makers.now.items c.args.replica c.in-Some.at c.args.count c.index_mut-maker.result.now _ found c.index_mut-maker.ensures.value refl roomy)
    c.reserve.ensures.ok

pub returns-in_ok-push-in-None-clause-same : goal.returns-in_ok-push-in-None-clause-same
returns-in_ok-push-in-None-clause-same c =
    let none : maker_place c.args.makers.now.items c.args.replica ≡ None = sym (rw c.deref.ensures.value at c.in-None.ensures) in
    rw c.in_ok-push-in-None.ensures.items
    (push_same c.args.makers.now.items c.args.replica _ none refl c.in_ok-places-in-None.ensures.items)

pub returns-in_ok-push-in-None-clause-room : goal.returns-in_ok-push-in-None-clause-room
returns-in_ok-push-in-None-clause-room c =
    let none : maker_place c.args.makers.now.items c.args.replica ≡ None = sym (rw c.deref.ensures.value at c.in-None.ensures) in
    rw c.in_ok-push-in-None.ensures.items
    (push_room c.args.makers.now.items c.args.replica c.args.count _ none refl c.in_ok-places-in-None.ensures.len c.in_ok-places-in-None.ensures.exact)
