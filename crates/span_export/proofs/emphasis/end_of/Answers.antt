use Rattle.std.proofs.Common.{◌≡◌, ◌+◌, ◌∙◌, ◌<◌, length, get_or, take, cond, ap, sym, arith}
use Rattle.std.proofs.lemmas.List.{get_or_default}
use Rattle.std.specs.Char.{is_whitespace}
use Rattle.span_export.specs.Markdown.{end_of}
use Rattle.span_export.proofs.SpaceLemmas.{end_of-more}
use Rattle.span_export.proofs.emphasis.end_of.Goals as goal
use Rattle.span_export.proofs.emphasis.end_of.Goals.{then-not-is_whitespace, else-not-is_whitespace}

pub loop-i-preserved : goal.loop-i-preserved
loop-i-preserved c =
    let xs = c.args.characters.now in
    let i = c.loop-i.i in
    let within : i < length xs = omega arith in
    let item : c.index-characters-i.result ≡ get_or xs i 0 = c.index-characters-i.is ∙ get_or_default xs i _ 0 within in
    let more : end_of (take (i + 1) xs) ≡ cond c.is_whitespace.result c.loop-i.end (i + 1) =
    end_of-more xs i c.loop-i.end within c.loop-i.invariant.value ∙ ap (λ t. cond t c.loop-i.end (i + 1)) (ap is_whitespace (sym item) ∙ sym c.is_whitespace.ensures) in
    elim c.if-not-is_whitespace.branch [
      | then-not-is_whitespace w ↦ record { value = grind arith; within = omega arith }
      | else-not-is_whitespace w ↦ record { value = grind arith; within = omega arith }
    ]
