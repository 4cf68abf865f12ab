use Rattle.std.proofs.Common.{◌≡◌, ℕ, true, List, [], ◌∷◌, get_or, set, sym, refl}
use Rattle.op_model.specs.declared.mark.Marks.{Marks}
use Rattle.op_model.specs.declared.span.Span.{Span}
use Rattle.op_model.specs.Spans.{with_front}
use Rattle.slow_programs.specs.Joining.{joins_first_of}
use Rattle.slow_programs.proofs.spanning.push_front.Goals as goal

-- a first span that a character joins is the first one of the spans before it
joined : (value : ℕ) (marks : Marks) (spans : List Span) (first : Span) (text : List ℕ) → first ≡ get_or spans 0 first
    → joins_first_of marks spans ≡ true → text ≡ value ∷ first.text
    → set spans 0 (record { text = text; marks = first.marks }) ≡ with_front value marks spans
joined value marks [] first text is_first joins is_text = cc
joined value marks (s ∷ ss) first text is_first joins is_text = rw joins (rw is_text (rw is_first refl))

pub returns-then-joins_first : goal.returns-then-joins_first
returns-then-joins_first c =
    joined c.args.value c.args.marks c.args.spans.now.items c.index_mut-first.result.now c.insert.new.self
    c.index_mut-first.ensures.value (rw c.deref.ensures.value at (sym c.if-joins_first.ensures)) c.in_ok-insert.ensures.ok
