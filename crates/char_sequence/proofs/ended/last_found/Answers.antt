use Rattle.std.proofs.Common.{length, sym, ◌≤◌, ◌∙◌, ap, subst, drop, ◌+◌, arith}
use Rattle.std.proofs.Math.ListN.{drop_of_length-le}
use Rattle.char_sequence.specs.Reading.{HidesUpTo, is_among, last_ended, tombstones_from}
use Rattle.char_sequence.proofs.EndedLemmas.{ended_by_none, ended_here, ended_skip}
use Rattle.char_sequence.proofs.ended.last_found.Goals as goal
use Rattle.char_sequence.proofs.ended.last_found.Goals.{in-Some, in_default}

pub loop-id-preserved : goal.loop-id-preserved
loop-id-preserved c =
    let held = c.args.chunks.now in
    let ended = c.args.ended.now in
    let left = drop (c.loop-id.id-index + 1) ended in
    elim c.match-behind_id.branch [
      | in-Some w ↦ record {
        upto = subst (λ p. HidesUpTo held p c.args.tombstones.now.to) (sym w.at-is) w.in-Some.ensures.0;
        last = λ once.
            ended_here ended (tombstones_from held c.loop-id.at) (tombstones_from held w.in-Some.behind) c.loop-id.id-index c.id-item.result _
            c.loop-id.last c.loop-id-test.true c.id-item.is (w.in-Some.ensures.1 once) (c.loop-id.invariant.last once)
            ∙ (ap (λ last. last_ended (λ id. is_among id left) last (tombstones_from held w.in-Some.behind)) (sym w.last-is)
            ∙ ap (λ p. last_ended (λ id. is_among id left) c.match-behind_id.last (tombstones_from held p)) (sym w.at-is));
      }
      | in_default w ↦ record {
        upto = subst (λ p. HidesUpTo held p c.args.tombstones.now.to) (sym w.at-is) c.loop-id.invariant.upto;
        last = λ once.
            ended_skip ended (tombstones_from held c.loop-id.at) c.loop-id.id-index c.id-item.result _
            c.loop-id.last c.loop-id-test.true c.id-item.is (w.in_default.ensures once) (c.loop-id.invariant.last once)
            ∙ (ap (λ last. last_ended (λ id. is_among id left) last (tombstones_from held c.loop-id.at)) (sym w.last-is)
            ∙ ap (λ p. last_ended (λ id. is_among id left) c.match-behind_id.last (tombstones_from held p)) (sym w.at-is));
      }
    ]

pub returns : goal.returns
returns c = λ once.
    let held = c.args.chunks.now in
    let run = tombstones_from held c.loop-id.at in
    let end : length c.args.ended.now ≤ c.loop-id.id-index = (let out = c.loop-id-test.false in omega arith) in
    sym (c.loop-id.invariant.last once
    ∙ (ap (λ es. last_ended (λ id. is_among id es) c.loop-id.last run) (drop_of_length-le c.args.ended.now end) ∙ ended_by_none c.loop-id.last run))
