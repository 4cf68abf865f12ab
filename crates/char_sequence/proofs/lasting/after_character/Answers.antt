use Rattle.std.proofs.Common.{arith}
use Rattle.char_sequence.proofs.LandingLemmas.{behind_fits, behind_place}
use Rattle.char_sequence.proofs.LastingLemmas.{at_after, none_after}
use Rattle.char_sequence.proofs.lasting.after_character.Goals as goal

pub overflow_add-behind : goal.overflow_add-behind
overflow_add-behind c =
    let few = behind_fits c.args.chunks.now c.args.id.now c.in-Some.found.chunk c.in-Some.found.at c.are_sized.ensures.chunks.sized c.in-Some.ensures in
    omega arith

pub seen_before-requires : goal.seen_before-requires
seen_before-requires c = behind_place c.args.chunks.now c.args.id.now c.in-Some.found.chunk c.in-Some.found.at c.in-Some.ensures

pub returns-in-Some-clause-at : goal.returns-in-Some-clause-at
returns-in-Some-clause-at c = λ ops doc holds.
    at_after c.args.chunks.now ops doc c.args.id.now c.in-Some.found.chunk c.in-Some.found.at _ c.in-Some.ensures c.seen_before.ensures.seen holds

pub returns-in-None-clause-at : goal.returns-in-None-clause-at
returns-in-None-clause-at c = λ ops doc holds. none_after c.args.chunks.now ops doc c.args.id.now c.in-None.ensures holds
