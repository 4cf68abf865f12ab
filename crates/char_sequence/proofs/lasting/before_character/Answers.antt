use Rattle.char_sequence.proofs.LastingLemmas.{at_before, none_before}
use Rattle.char_sequence.proofs.lasting.before_character.Goals as goal

pub returns-in-Some-clause-at : goal.returns-in-Some-clause-at
returns-in-Some-clause-at c = λ ops doc holds.
    at_before c.args.chunks.now ops doc c.args.id.now c.in-Some.found.chunk c.in-Some.found.at _ c.in-Some.ensures c.seen_before.ensures.seen holds

pub returns-in-None-clause-at : goal.returns-in-None-clause-at
returns-in-None-clause-at c = λ ops doc holds. none_before c.args.chunks.now ops doc c.args.id.now c.in-None.ensures holds
