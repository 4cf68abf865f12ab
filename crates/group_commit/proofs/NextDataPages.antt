-- The numbers of the data pages of a next root: the first of the old ones, and new ones behind them.
use Rattle.std.proofs.Common.{◌≡◌, ℕ, ◌-◌, ◌<◌, ◌≤◌, ◌^◌, List, ◌++◌, length, get_or, take, drop, inl, inr, refl, sym, ap, subst, ◌∙◌, arith, length-take}
use Rattle.std.proofs.lemmas.Bool.{cases_lt}
use Rattle.std.proofs.lemmas.List.{drop-take, drop-append-le, get_or-take, get_or_append_left, get_or-append_right}

-- those behind a place
pub next_behind : (first kept : ℕ) (olds news : List ℕ) → first ≤ kept → kept ≤ length olds
    → take (kept - first) (drop first olds) ++ news ≡ drop first (take kept olds ++ news)
next_behind first kept olds news before within =
    ap (λ t. t ++ news) (sym (drop-take first (kept - first) olds) ∙ ap (λ n. drop first (take n olds)) (omega (arith, before)))
    ∙ sym (drop-append-le first (take kept olds) news (omega (arith, length-take kept olds, before, within)))

-- each has four bytes
pub next_small : (kept : ℕ) (olds news : List ℕ) → ((i : ℕ) → get_or olds i 0 < 2 ^ 32) → ((i : ℕ) → get_or news i 0 < 2 ^ 32)
    → (i : ℕ) → get_or (take kept olds ++ news) i 0 < 2 ^ 32
next_small kept olds news old new i = elim (cases_lt i (length (take kept olds))) [
  | inl below ↦
      let in_front : i < kept = omega (arith, below, length-take kept olds) in
      subst (λ n. n < 2 ^ 32) (sym (get_or_append_left (take kept olds) news 0 i below ∙ get_or-take kept olds i 0 in_front)) (old i)
  | inr above ↦
      subst (λ n. n < 2 ^ 32)
      (sym (get_or-append_right (take kept olds) news (length (take kept olds)) i 0 refl above))
      (new (i - length (take kept olds)))
]
