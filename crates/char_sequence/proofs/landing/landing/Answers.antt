use Rattle.std.proofs.Common.{arith}
use Rattle.char_sequence.proofs.LandingLemmas.{behind_fits, behind_place, lands_behind}
use Rattle.char_sequence.proofs.landing.landing.Goals as goal

pub overflow_add-behind : goal.overflow_add-behind
overflow_add-behind c =
    let few = behind_fits c.args.chunks.now c.in-Some.id c.in-Some-place.found.chunk c.in-Some-place.found.at c.are_sized.ensures.chunks.sized
    c.in-Some-place.ensures in
    omega arith

pub past-requires-in-Some : goal.past-requires-in-Some
past-requires-in-Some c = behind_place c.args.chunks.now c.in-Some.id c.in-Some-place.found.chunk c.in-Some-place.found.at c.in-Some-place.ensures

pub returns-in-Some-place : goal.returns-in-Some-place
returns-in-Some-place c =
    lands_behind c.args.chunks.now c.args.origin.now c.in-Some.id c.args.cell.now c.in-Some-place.found.chunk c.in-Some-place.found.at
    c.past-in-Some.result c.in-Some.is c.in-Some-place.ensures c.past-in-Some.ensures.place c.past-in-Some.ensures.stops
    c.past-in-Some.ensures.past
