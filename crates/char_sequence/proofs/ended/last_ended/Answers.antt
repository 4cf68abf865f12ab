use Rattle.std.proofs.Common.{◌≡◌, length, sym, ◌∙◌, ap, arith}
use Rattle.std.proofs.lemmas.Bool.Decides.{nat_tests}
use Rattle.char_sequence.specs.Reading.{is_among, last_ended, tombstones_from}
use Rattle.char_sequence.proofs.EndedLemmas.{ended_alike, ended_by_none}
use Rattle.char_sequence.proofs.HiddenLemmas.{no_items}
use Rattle.char_sequence.proofs.ended.last_ended.Goals as goal

pub returns-then-is_empty : goal.returns-then-is_empty
returns-then-is_empty g c = λ once.
    let ended = c.ended-ended.result.now in
    let run = tombstones_from c.args.chunks.now c.args.from.now in
    let none : length ended ≡ 0 = (let test = c.is_empty.ensures in let is = c.if-is_empty.true in grind (arith, nat_tests)) in
    sym (ended_alike (g.M.EndsAfter.ends_after c.args.marks.now) (λ id. is_among id ended) c.args.before run c.ended-ended.ensures
    ∙ (ap (λ es. last_ended (λ id. is_among id es) c.args.before run) (no_items ended none) ∙ ended_by_none c.args.before run))

pub returns : goal.returns
returns g c = λ once.
    c.last_found.ensures once
    ∙ sym (ended_alike (g.M.EndsAfter.ends_after c.args.marks.now) (λ id. is_among id c.ended-ended.result.now) c.args.before
    (tombstones_from c.args.chunks.now c.args.from.now) c.ended-ended.ensures)
