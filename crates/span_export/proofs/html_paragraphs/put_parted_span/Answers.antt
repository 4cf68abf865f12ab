use Rattle.std.proofs.Common.{◌≡◌, ◌≢◌, ◌∙◌, ◌+◌, ◌<◌, length, get_or, sym, arith}
use Rattle.std.proofs.lemmas.List.{get_or_read}
use Rattle.span_export.proofs.ParagraphLemmas.{unbroken_none, unbroken_more, parted_at_other}
use Rattle.span_export.proofs.HtmlParagraphLemmas.{put_at_break, put_at_end}
use Rattle.span_export.proofs.html_paragraphs.put_parted_span.Goals as goal
use Rattle.span_export.proofs.html_paragraphs.put_parted_span.Goals.{then-character-eq10+in_ok-put_part+in_ok-put, else-character-eq10}

pub loop-i-preserved : goal.loop-i-preserved
loop-i-preserved c =
    let xs = c.args.text.now in
    let m = c.args.marks.now in
    let i = c.loop-i.i in
    let start = c.loop-i.start in
    let within : i < length xs = c.loop-i-test.true in
    let so = c.loop-i.invariant in
    let item : c.index-text-i.result ≡ get_or xs i 0 = get_or_read xs i c.index-text-i.result within c.index-text-i.is 0 in
    elim c.if-character-eq10.branch [
      | then-character-eq10+in_ok-put_part+in_ok-put w ↦
          rw (w.out-is, w.start-is)
          (record {
            within = omega arith;
            unbroken = unbroken_none (i + 1) xs;
            rest =
                put_at_break start i xs m _ _ _ within (sym item ∙ w.if-character-eq10.true) so.unbroken (rw w.between.ensures at w.in_ok-put_part.ensures)
                w.in_ok-put.ensures
                ∙ so.rest;
          })
      | else-character-eq10 w ↦
          let other : get_or xs i 0 ≢ 10 = λ e. w.if-character-eq10.false (item ∙ e) in
          rw (w.out-is, w.start-is)
          (record {
            within = omega arith;
            unbroken = unbroken_more start i xs so.within within other;
            rest = rw (← parted_at_other start i xs m so.within within other) so.rest;
          })
    ]

pub returns : goal.returns
returns c =
    let so = c.loop-i.invariant in
    let past : c.loop-i.i ≡ length c.args.text.now = omega arith in
    put_at_end _ c.loop-i.start c.loop-i.i c.args.text.now c.args.marks.now _ _ _ past so.unbroken so.rest
    (rw c.between-2.ensures at c.put_part-2.ensures)
