-- White space at the ends of a text.
use Rattle.std.proofs.Common.{◌≡◌, ℕ, ◌+◌, ◌<◌, cond, List, [], ◌∷◌, ◌++◌, length, take, get_or, refl, ◌∙◌, arith, inl, inr, Result, Ok, Err, OnOk}
use Rattle.std.proofs.lemmas.List.{take_more, length-take-le}
use Rattle.std.proofs.lemmas.Bool.{cases_Bool}
use Rattle.std.proofs.lemmas.Bool.Decides.{nat_tests}
use Rattle.std.specs.Char.{is_whitespace}
use Rattle.span_export.specs.Draft.{Written}
use Rattle.span_export.specs.MarkdownText.{add_characters}
use Rattle.span_export.specs.Markdown.{end_of, add_open, add_close, add_core}

-- with one more character at the end
end_of-last : (xs : List ℕ) (c : ℕ) → end_of (xs ++ c ∷ []) ≡ cond (is_whitespace c) (end_of xs) (length xs + 1)
end_of-last [] c = elim (cases_Bool (is_whitespace c)) [ inl is ↦ rw is refl | inr is ↦ rw is refl ]
end_of-last (x ∷ xs) c =
    rw (end_of-last xs c)
    (elim (cases_Bool (is_whitespace c)) [ inl is ↦ rw is refl | inr is ↦ rw is (grind (arith, nat_tests)) ])

-- with one more character of those that are there
pub end_of-more : (xs : List ℕ) (i end : ℕ) → i < length xs → end ≡ end_of (take i xs)
    → end_of (take (i + 1) xs) ≡ cond (is_whitespace (get_or xs i 0)) end (i + 1)
end_of-more xs i end within is =
    let long : length (take i xs) ≡ i = length-take-le i xs (omega arith) in
    rw (take_more xs i 0 within, end_of-last (take i xs) (get_or xs i 0), ← is, long) refl

-- a core that is there
core_is : (marks core : List ℕ) (w : Written) (n : ℕ) → n + 1 ≡ length core
    → add_close marks (get_or core n 0) (add_characters core (add_open marks (get_or core 0 0) w)) ≡ add_core marks core w
core_is marks [] w n long = absurd (omega arith)
core_is marks (c ∷ cs) w n long = let e : n ≡ length cs = omega arith in rw e refl

-- its three parts, one after the other
pub core_steps : {T E : Type 0} (r : Result T E) (marks core : List ℕ) (first last n : ℕ) (w one two new : Written)
    → n + 1 ≡ length core → first ≡ get_or core 0 0 → last ≡ get_or core n 0
    → one ≡ add_open marks first w → two ≡ add_characters core one → OnOk r (new ≡ add_close marks last two)
    → OnOk r (new ≡ add_core marks core w)
core_steps (Ok x) marks core first last n w one two new long f l p q is =
    is ∙ rw (q, p, f, l) (core_is marks core w n long)
core_steps (Err e) marks core first last n w one two new long f l p q is = tt
