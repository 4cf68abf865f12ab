use Rattle.std.proofs.Common.{◌≡◌, ◌≢◌, ◌∙◌, ◌+◌, ◌<◌, length, get_or, sym, arith}
use Rattle.std.proofs.lemmas.List.{get_or_read}
use Rattle.span_export.proofs.ParagraphLemmas.{unbroken_none, unbroken_more, parted_at_other}
use Rattle.span_export.proofs.MarkdownParagraphLemmas.{written_at_break, written_at_end}
use Rattle.span_export.proofs.markdown_paragraphs.add_parted_span.Goals as goal
use Rattle.span_export.proofs.markdown_paragraphs.add_parted_span.Goals.{then-character-eq10+in_ok-add_part+in_ok-write_break, else-character-eq10}

pub loop-i-preserved : goal.loop-i-preserved
loop-i-preserved c =
    let m = c.args.marks.now in
    let xs = c.args.text.now in
    let start = c.loop-i.start in
    let i = c.loop-i.i in
    let within : i < length xs = c.loop-i-test.true in
    let so = c.loop-i.invariant in
    let item : c.index-text-i.result ≡ get_or xs i 0 = get_or_read xs i c.index-text-i.result within c.index-text-i.is 0 in
    elim c.if-character-eq10.branch [
      | then-character-eq10+in_ok-add_part+in_ok-write_break w ↦
          rw (w.draft-is, w.start-is)
          (record {
            within = omega arith;
            unbroken = unbroken_none (i + 1) xs;
            rest =
                written_at_break start i xs m c.loop-i.draft _ _ within (sym item ∙ w.if-character-eq10.true) so.unbroken (rw w.between.ensures at w.in_ok-add_part.ensures) w.in_ok-write_break.ensures
                ∙ so.rest;
          })
      | else-character-eq10 w ↦
          let other : get_or xs i 0 ≢ 10 = λ e. w.if-character-eq10.false (item ∙ e) in
          rw (w.draft-is, w.start-is)
          (record {
            unbroken = unbroken_more start i xs so.within within other;
            within = omega arith;
            rest = rw (← parted_at_other start i xs m so.within within other) so.rest;
          })
    ]

pub returns : goal.returns
returns c =
    let so = c.loop-i.invariant in
    let past : c.loop-i.i ≡ length c.args.text.now = omega arith in
    written_at_end _ c.loop-i.start c.loop-i.i c.args.text.now c.args.marks.now c.loop-i.draft _ _ past so.unbroken so.rest
    (rw c.between-2.ensures at c.add_part-2.ensures)
