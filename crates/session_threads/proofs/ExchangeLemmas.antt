-- Exchanges one after the other, and those that are cut off.
use Rattle.std.proofs.Common.{ℕ, List, [], ◌∷◌, ◌++◌, Option, refl, sym, ap, ◌∙◌, subst, append_assoc, append-nil}
use Rattle.session_lines.specs.declared.command.Command.{Command}
use Rattle.session_lines.specs.declared.answer.Answer.{Answer}
use Rattle.session_threads.specs.Exchanges.{Exchange, Exchanges}
use Rattle.byte_streams.specs.Fronts.{BeginsWith}
use Rattle.session_threads.specs.Outcomes.{CutOff}

pub begins_with_itself : {A : Type 0} (xs : List A) → BeginsWith xs xs
begins_with_itself xs = ([], sym (append-nil xs))

module _ {D : Type 0} (serves : D → Command → Answer → D → Type 0) where
  pub one_exchange : (old new : D) (line : Option (List ℕ)) (text : List ℕ)
      → Exchange serves old line text new → Exchanges serves old (line ∷ []) text new
  one_exchange old new line text done = (new, text, [], done, (refl, refl), sym (append-nil text))

  pub Exchanges-append : (old between new : D) (xs ys : List (Option (List ℕ))) (first rest : List ℕ)
      → Exchanges serves old xs first between → Exchanges serves between ys rest new
      → Exchanges serves old (xs ++ ys) (first ++ rest) new
  Exchanges-append old between new [] ys first rest (none, same) done =
      let P : D → List ℕ → Type 0 = λ d text. Exchanges serves d ys text new in
      rw (none) (subst (λ d. P d rest) same done)
  Exchanges-append old between new (x ∷ xs) ys first rest (d, text, texts, one, more, all) done = (
    d,
    text,
    texts ++ rest,
    one,
    Exchanges-append d between new xs ys texts rest more done,
    ap (λ l. l ++ rest) all ∙ append_assoc text texts rest,
  )

  -- a line that is answered, before lines that are cut off
  cut_off_later : (old between new : D) (line : Option (List ℕ)) (lines : List (Option (List ℕ))) (first rest : List ℕ)
      → Exchange serves old line first between → CutOff serves between lines rest new
      → CutOff serves old (line ∷ lines) (first ++ rest) new
  cut_off_later old between new line [] first rest one (none, same) = (
    first,
    subst (λ d. Exchange serves old line first d) (sym same) one,
    ([], sym (append-nil _ ∙ ap (λ l. first ++ l) none ∙ append-nil first)),
  )
  cut_off_later old between new line (next ∷ lines) first rest one cut = (between, first, rest, one, cut, refl)

  -- lines that are answered, before lines that are cut off
  pub CutOff-append : (old between new : D) (xs ys : List (Option (List ℕ))) (first rest : List ℕ)
      → Exchanges serves old xs first between → CutOff serves between ys rest new
      → CutOff serves old (xs ++ ys) (first ++ rest) new
  CutOff-append old between new [] ys first rest (none, same) cut =
      rw (none) (subst (λ d. CutOff serves d ys rest new) same cut)
  CutOff-append old between new (x ∷ xs) ys first rest (d, text, texts, one, more, all) cut =
      rw (all, append_assoc)
      (cut_off_later old d new x (xs ++ ys) text (texts ++ rest) one (CutOff-append d between new xs ys texts rest more cut))

  -- lines that are answered may be all
  pub CutOff-whole : (old new : D) (lines : List (Option (List ℕ))) (text : List ℕ)
      → Exchanges serves old lines text new → CutOff serves old lines text new
  CutOff-whole old new [] text done = done
  CutOff-whole old new (x ∷ xs) text (d, first, rest, one, more, all) =
      rw all (cut_off_later old d new x xs first rest one (CutOff-whole d new xs rest more))
