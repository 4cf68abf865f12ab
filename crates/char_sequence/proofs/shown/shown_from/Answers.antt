use Rattle.std.proofs.Common.{◌-◌, ◌<◌, ◌≤◌, length, map, take, ◌++◌, ◌∙◌, ap, arith}
use Rattle.char_sequence.specs.Cells.{behind_shown}
use Rattle.char_sequence.specs.Chunks.{cells_of, from}
use Rattle.char_sequence.proofs.BehindLemmas.{ids_end, ids_full, ids_more}
use Rattle.char_sequence.proofs.HiddenLemmas.{hidden_shown, no_longer}
use Rattle.char_sequence.proofs.StartLemmas.{fewer}
use Rattle.char_sequence.proofs.shown.shown_from.Goals as goal

pub loop-at-preserved : goal.loop-at-preserved
loop-at-preserved c =
    let here : length c.loop-at.ids.items < c.args.count = (let test = c.loop-at-test.true in let long = c.len.ensures in omega arith) in
    let same = hidden_shown c.args.chunks.now c.loop-at.at c.past_hidden-from.result c.past_hidden-from.ensures in
    let more = ids_more c.args.count (behind_shown (cells_of c.args.chunks.now) c.args.k)
    (from c.args.chunks.now c.past_hidden-from.result.chunk c.past_hidden-from.result.at)
    (from c.args.chunks.now c.in-Some.found.1.chunk c.in-Some.found.1.at)
    c.loop-at.ids.items c.push_shown.new.ids.items c.in-Some.found.0
    (c.loop-at.invariant.found
    ∙ ap (λ seen. c.loop-at.ids.items ++ map (λ d. d.id) (take (c.args.count - length c.loop-at.ids.items) seen)) same)
    here c.in-Some.ensures.first c.in_ok-push_shown.ensures in
    record { place = c.in-Some.ensures.place; found = more.0; few = more.1 }

pub loop-at-smaller : goal.loop-at-smaller
loop-at-smaller c =
    let less = fewer c.args.chunks.now c.past_hidden-from.result c.in-Some.found.1 c.in-Some.found.0 c.in-Some.ensures in
    let same = no_longer c.args.chunks.now c.loop-at.at c.past_hidden-from.result c.past_hidden-from.ensures in
    omega arith

pub returns-clause-range : goal.returns-clause-range
returns-clause-range c =
    let full : c.args.count ≤ length c.loop-at.ids.items = (let out = c.loop-at-test.false in let long = c.len.ensures in omega arith) in
    ids_full c.args.count c.args.k (cells_of c.args.chunks.now) (from c.args.chunks.now c.loop-at.at.chunk c.loop-at.at.at) c.loop-at.ids.items
    c.loop-at.invariant.found full

pub returns-in-None-clause-range : goal.returns-in-None-clause-range
returns-in-None-clause-range c =
    let same = hidden_shown c.args.chunks.now c.loop-at.at c.past_hidden-from.result c.past_hidden-from.ensures in
    ids_end c.args.count c.args.k (cells_of c.args.chunks.now)
    (from c.args.chunks.now c.past_hidden-from.result.chunk c.past_hidden-from.result.at) c.loop-at.ids.items
    (c.loop-at.invariant.found
    ∙ ap (λ seen. c.loop-at.ids.items ++ map (λ d. d.id) (take (c.args.count - length c.loop-at.ids.items) seen)) same)
    c.in-None.ensures
