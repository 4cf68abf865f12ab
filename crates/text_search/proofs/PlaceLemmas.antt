-- Which places are decided when so much was read, and what is found at the next one.
use Rattle.std.proofs.Common.{◌≡◌, ℕ, zero, suc, ◌+◌, ◌-◌, ◌≤◌, ◌<◌, ◌⊎◌, inl, inr, List, [], ◌∷◌, ◌++◌, length, take, drop, get_or, Bool, true, false}
use Rattle.std.proofs.Common.{refl, sym, ap, ◌∙◌, arith, append_assoc, append-nil, length-append, map, Option, Some, length-drop, drop-cons, cond}
use Rattle.std.proofs.Math.Seq.{take-suc, take-add, take-append_seam}
use Rattle.std.proofs.lemmas.Bool.{cases_order}
use Rattle.std.proofs.lemmas.List.{length-take-le, length-take, get_or-drop, nil_from_length, map-append}
use Rattle.std.proofs.lemmas.Slice.Eq.{bytes_eq-Decides}
use Rattle.text_search.specs.Ends.{EndsWith}
use Rattle.text_search.specs.Places.{begins_with, stands_after}
use Rattle.text_search.proofs.EndLemmas.{ends_within, shorter_end}

-- how many places are decided when so many characters were read
abbrev pub decided : List ℕ → ℕ → ℕ
decided p n = suc n - length p

-- the places that aren't decided yet
abbrev pub undecided : List ℕ → List ℕ → ℕ → ℕ → List ℕ
undecided p t from n = stands_after (from + decided p n) p (drop (decided p n) t)

-- a text that is too short has none
too_short : (at : ℕ) (p t : List ℕ) → length t < length p → stands_after at p t ≡ []
too_short at p [] short = refl
too_short at p (c ∷ cs) short =
    by_test (begins_with p (c ∷ cs)) refl (too_short (suc at) p cs (omega (arith, short)))
  where
    never : take (length p) (c ∷ cs) ≡ p → ⊥
    never same = let long = ap length same in omega (arith, long, short, length-take (length p) (c ∷ cs))

    by_test : (b : Bool) → begins_with p (c ∷ cs) ≡ b → stands_after (suc at) p cs ≡ []
        → cond b (at ∷ stands_after (suc at) p cs) (stands_after (suc at) p cs) ≡ []
    by_test true is none = absurd (never ((bytes_eq-Decides (take (length p) (c ∷ cs)) p).0 is))
    by_test false is none = none

-- where all was read, all are decided
pub all_decided : (p t : List ℕ) (from n : ℕ) → 0 < length p → length t ≤ n → undecided p t from n ≡ []
all_decided p t from n some past = too_short (from + decided p n) p (drop (decided p n) t) (omega (arith, some, past, length-drop (decided p n) t))

-- where nothing was read, none is
pub none_decided : (p t : List ℕ) (from : ℕ) → 0 < length p → undecided p t from 0 ≡ stands_after from p t
none_decided p t from some = rw first (same from refl)
  where
    first : decided p 0 ≡ 0
    first = omega (arith, some)

    all : (t : List ℕ) → drop 0 t ≡ t
    all [] = refl
    all (x ∷ xs) = refl

    same : (at : ℕ) → at ≡ from → stands_after (from + 0) p (drop 0 t) ≡ stands_after from p t
    same at is = let zero : from + 0 ≡ from = omega arith in rw (zero, all t) refl

-- what was read, when its end stands at the last decided place
parts : (p t : List ℕ) (n : ℕ) → length p ≤ suc n → take (suc n) t ≡ take (decided p n) t ++ take (length p) (drop (decided p n) t)
parts p t n short =
    let sum : suc n ≡ decided p n + length p = omega (arith, short) in
    ap (λ m. take m t) sum ∙ take-add (decided p n) (length p) t

-- the text stands there if what was read ends with it
begins : (p t : List ℕ) (n : ℕ) → n < length t → EndsWith p (take (suc n) t) (length p)
    → begins_with p (drop (decided p n) t) ≡ true
begins p t n within (_, front, whole) =
    let full : take (length p) p ≡ p = ap (λ xs. take (length p) xs) (sym (append-nil p)) ∙ take-append_seam p [] in
    let long = ap length whole in
    let read = length-take-le (suc n) t (omega (arith, within)) in
    let short : length p ≤ suc n = omega (arith, long, read, length-append front (take (length p) p), ap length full) in
    let order : length front ≤ length (take (decided p n) t) =
    omega (arith, long, read, short, within, length-append front (take (length p) p), ap length full, length-take-le (decided p n) t (omega (arith, within))) in
    let (h, longer, rest) = shorter_end front (take (decided p n) t) (take (length p) p) (take (length p) (drop (decided p n) t))
    (sym whole ∙ parts p t n short) order in
    let none : h ≡ [] = nil_from_length h
    (omega (
      arith,
      ap length longer,
      long,
      read,
      short,
      within,
      length-append front h,
      length-append front (take (length p) p),
      ap length full,
      length-take-le (decided p n) t (omega (arith, within)),
    )) in
    (bytes_eq-Decides (take (length p) (drop (decided p n) t)) p).1 (sym (sym full ∙ rest ∙ ap (λ xs. xs ++ take (length p) (drop (decided p n) t)) none))

-- and what was read ends with it if it stands there
ended : (p t : List ℕ) (n : ℕ) → length p ≤ suc n → begins_with p (drop (decided p n) t) ≡ true → EndsWith p (take (suc n) t) (length p)
ended p t n short is =
    let full : take (length p) p ≡ p = ap (λ xs. take (length p) xs) (sym (append-nil p)) ∙ take-append_seam p [] in
    let there : take (length p) (drop (decided p n) t) ≡ p = (bytes_eq-Decides (take (length p) (drop (decided p n) t)) p).0 is in
    (omega arith, take (decided p n) t, parts p t n short ∙ ap (λ xs. take (decided p n) t ++ xs) (there ∙ sym full))

-- the next place, and those after it
next_place : (p t : List ℕ) (from n : ℕ) → 0 < length p → length p ≤ suc n → n < length t
    → undecided p t from n
    ≡ cond (begins_with p (drop (decided p n) t)) ((from + decided p n) ∷ undecided p t from (suc n)) (undecided p t from (suc n))
next_place p t from n some short within =
    let later : decided p (suc n) ≡ suc (decided p n) = omega (arith, short) in
    rw later (open_list (drop (decided p n) t) (drop-cons t (decided p n) (get_or t (decided p n) 0) (omega (arith, within, some, short))))
  where
    open_list : (xs : List ℕ) → xs ≡ get_or t (decided p n) (get_or t (decided p n) 0) ∷ drop (suc (decided p n)) t
        → stands_after (from + decided p n) p xs
        ≡ cond (begins_with p xs) ((from + decided p n) ∷ stands_after (from + suc (decided p n)) p (drop (suc (decided p n)) t))
        (stands_after (from + suc (decided p n)) p (drop (suc (decided p n)) t))
    open_list xs is = let next : from + suc (decided p n) ≡ suc (from + decided p n) = omega arith in rw (is, next) refl

-- one more is found
pub stands_here : (p t xs whole : List ℕ) (from n : ℕ) → 0 < length p → n < length t → EndsWith p (take (suc n) t) (length p)
    → xs ++ undecided p t from n ≡ whole → (xs ++ (from + decided p n) ∷ []) ++ undecided p t from (suc n) ≡ whole
stands_here p t xs whole from n some within ends so_far =
    let short : length p ≤ suc n = let most = ends_within p (take (suc n) t) (length p) ends in
    omega (arith, most, length-take-le (suc n) t (omega (arith, within))) in
    let here : undecided p t from n ≡ (from + decided p n) ∷ undecided p t from (suc n) =
    next_place p t from n some short within
    ∙ ap (λ b. cond b ((from + decided p n) ∷ undecided p t from (suc n)) (undecided p t from (suc n))) (begins p t n within ends) in
    append_assoc xs ((from + decided p n) ∷ []) (undecided p t from (suc n)) ∙ ap (λ ys. xs ++ ys) (sym here) ∙ so_far

-- none is found
pub stands_not : (p t xs whole : List ℕ) (from n : ℕ) → 0 < length p → n < length t → (EndsWith p (take (suc n) t) (length p) → ⊥)
    → xs ++ undecided p t from n ≡ whole → xs ++ undecided p t from (suc n) ≡ whole
stands_not p t xs whole from n some within ends_not so_far = by_order (cases_order (suc n) (length p))
  where
    by_test : length p ≤ suc n → (b : Bool) → begins_with p (drop (decided p n) t) ≡ b → undecided p t from n ≡ undecided p t from (suc n)
    by_test short true is = absurd (ends_not (ended p t n short is))
    by_test short false is =
        next_place p t from n some short within
        ∙ ap (λ b. cond b ((from + decided p n) ∷ undecided p t from (suc n)) (undecided p t from (suc n))) is

    passes : length p ≤ suc n → xs ++ undecided p t from (suc n) ≡ whole
    passes short = ap (λ ys. xs ++ ys) (sym (by_test short (begins_with p (drop (decided p n) t)) refl)) ∙ so_far

    early : suc n < length p → xs ++ undecided p t from (suc n) ≡ whole
    early less =
        let same : decided p (suc n) ≡ decided p n = omega (arith, less) in rw same so_far

    by_order : (suc n ≡ length p) ⊎ ((suc n < length p) ⊎ (length p < suc n)) → xs ++ undecided p t from (suc n) ≡ whole
    by_order (inl same) = passes (omega (arith, same))
    by_order (inr (inl less)) = early less
    by_order (inr (inr more)) = passes (omega (arith, more))

-- the next character is read
pub reads_more : (text : List ℕ) (from i c : ℕ) → from ≤ i → i < length text → c ≡ get_or text i c
    → take (suc (i - from)) (drop from text) ≡ take (i - from) (drop from text) ++ c ∷ []
reads_more text from i c order within is =
    let inside : i - from < length (drop from text) = omega (arith, order, within, length-drop from text) in
    let place : from + (i - from) ≡ i = omega (arith, order) in
    let same : get_or (drop from text) (i - from) c ≡ c = get_or-drop from text (i - from) c ∙ ap (λ n. get_or text n c) place ∙ sym is in
    take-suc (drop from text) (i - from) c inside ∙ ap (λ x. take (i - from) (drop from text) ++ x ∷ []) same

-- nothing of a text
pub nothing_read : (t : List ℕ) → take 0 t ≡ []
nothing_read [] = refl
nothing_read (x ∷ xs) = refl

-- a list that isn't longer
take_short : (n : ℕ) (xs : List ℕ) → length xs ≤ n → take n xs ≡ xs
take_short n [] short = by_number n
  where
    by_number : (n : ℕ) → take {A = ℕ} n [] ≡ []
    by_number zero = refl
    by_number (suc n) = refl
take_short zero (x ∷ xs) short = absurd (omega (arith, short))
take_short (suc n) (x ∷ xs) short = ap (λ ys. x ∷ ys) (take_short n xs (omega (arith, short)))

-- those found, with one more
pub found_more : (items new : List (Option ℕ)) (found : List ℕ) (value at : ℕ) → items ≡ map (λ n. Some n) found
    → new ≡ items ++ Some value ∷ [] → value ≡ at → new ≡ map (λ n. Some n) (found ++ at ∷ [])
found_more items new found value at are is same =
    is ∙ ap (λ xs. xs ++ Some value ∷ []) are ∙ ap (λ n. map (λ n. Some n) found ++ Some n ∷ []) same
    ∙ sym (map-append (λ n. Some n) found (at ∷ []))

-- so many are found as are told at once
pub found_most : (most : ℕ) (found rest whole : List ℕ) → found ++ rest ≡ whole → length found ≡ most → take most whole ≡ found
found_most most found rest whole all full = ap (λ n. take n whole) (sym full) ∙ ap (take (length found)) (sym all) ∙ take-append_seam found rest

-- all are found
pub found_all : (most : ℕ) (found rest whole : List ℕ) → found ++ rest ≡ whole → rest ≡ [] → length found ≤ most → take most whole ≡ found
found_all most found rest whole all none short =
    ap (take most) (sym all ∙ ap (λ xs. found ++ xs) none ∙ append-nil found) ∙ take_short most found short
