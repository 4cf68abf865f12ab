use Rattle.std.proofs.Common.{◌≡◌, ◌*◌, [], length, ap, sym, ◌∙◌, rules, arith}
use Rattle.std.proofs.lemmas.List.{length-append, nil_from_length}
use Rattle.std.proofs.lemmas.Result.{err_from_is_err_and}
use Rattle.page_file.specs.Pages.{pages, joined}
use Rattle.page_file.proofs.Looked.{looked_on}
use Rattle.group_commit.proofs.PartLemmas.{cut_parts, joined_parts, length_whole, on_more, part_fault, reads_all, reads_next, whole_parts}
use Rattle.group_commit.proofs.load_parts.read_parts.Goals as goal

pub read_part-requires-clause-whole : goal.read_part-requires-clause-whole
read_part-requires-clause-whole g c = λ told.
    let at = c.loop-rest.invariant in
    let before = at.looks.tells.0 told in
    let part = c.split_at.result.0.now in
    let others = c.split_at.result.1.now in
    let rest = c.loop-rest.rest.now in
    let cut = cut_parts c.min.result part others rest c.split_at.ensures.front c.split_at.ensures.back in
    rw (at.looks.looks before).same (whole_parts part others rest (g.D.DiskFacts.content c.args.disk.now) cut (at.whole before)).0

pub returns-in_err-it-clause-fault : goal.returns-in_err-it-clause-fault
returns-in_err-it-clause-fault g c = λ told.
    let p = err_from_is_err_and c.from_residual.result c.from_residual.ensures.1 in
    let at = c.loop-rest.invariant in
    let file = g.D.DiskFacts.content c.args.disk.now in
    let cut = cut_parts c.min.result c.split_at.result.0.now c.split_at.result.1.now c.loop-rest.rest.now c.split_at.ensures.front c.split_at.ensures.back in
    let fault = rw (at.looks.looks told).same at (c.in_err-it.ensures.fault (at.looks.tells.1 told)) in
    rw (p.1, p.2) (part_fault c.args.begun.left c.args.begun.reader.format c.args.begun.reader.count (pages c.args.numbers.now file)
    (joined (pages c.loop-rest.rest.now file)) (joined (pages c.split_at.result.0.now file)) (joined (pages c.split_at.result.1.now file)) c.loop-rest.it
    c.in_err-it.field-0.0 (c.requires.whole told) (joined_parts c.split_at.result.0.now c.split_at.result.1.now c.loop-rest.rest.now file cut) (at.reads told) at.on.format at.on.count fault)

pub loop-rest-preserved : goal.loop-rest-preserved
loop-rest-preserved g c =
    let at = c.loop-rest.invariant in
    let file = g.D.DiskFacts.content c.args.disk.now in
    let part = c.split_at.result.0.now in
    let others = c.split_at.result.1.now in
    let rest = c.loop-rest.rest.now in
    let cut = cut_parts c.min.result part others rest c.split_at.ensures.front c.split_at.ensures.back in
    let on = c.in_ok-it.ensures.on in
    record {
      looks = looked_on g.D.DiskFacts 0 0 c.args.disk.now c.loop-rest.disk c.read_part.new.disk at.looks c.in_ok-it.ensures.looks;
      few = omega (arith, at.few, ap length cut, length-append part others);
      on = on_more c.args.begun c.loop-rest.it c.in_ok-it.it (length c.args.numbers.now) (length rest) (length part) (length others) at.on on
          (sym (length-append part others) ∙ ap length cut) at.few;
      room = omega (arith, at.room, on.left, ap length cut, length-append part others);
      whole = λ told. (whole_parts part others rest file cut (at.whole told)).1;
      reads = λ told.
          let takes = rw (at.looks.looks told).same at (c.in_ok-it.ensures.takes (at.looks.tells.1 told)) in
          reads_next c.args.begun.left (joined (pages c.args.numbers.now file)) (joined (pages rest file)) (joined (pages part file)) (joined (pages others file))
          c.loop-rest.it c.in_ok-it.it (4096 * length part) (joined_parts part others rest file cut) (at.reads told) takes
          (length_whole part file (whole_parts part others rest file cut (at.whole told)).0) on.left;
    }

pub returns-clause-value : goal.returns-clause-value
returns-clause-value g c = λ told.
    let at = c.loop-rest.invariant in
    let file = g.D.DiskFacts.content c.args.disk.now in
    let empty : length c.loop-rest.rest.now ≡ 0 = search rules in
    let none : joined (pages c.loop-rest.rest.now file) ≡ [] = ap (λ ns. joined (pages ns file)) (nil_from_length c.loop-rest.rest.now empty) in
    reads_all c.args.begun.left (pages c.args.numbers.now file) _ c.loop-rest.it.tail c.loop-rest.it.left (c.requires.whole told) none (at.reads told)
