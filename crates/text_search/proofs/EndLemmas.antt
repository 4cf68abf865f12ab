-- What a text ends with, and what of it is known after one more character.
use Rattle.std.proofs.Common.{◌≡◌, ◌⊎◌, inl, inr, add-one, append-nil, length-drop, ◌-◌, ℕ, zero, suc, ◌+◌}
use Rattle.std.proofs.Common.{◌≤◌, ◌<◌, List, [], ◌∷◌, ◌++◌, length, take, drop, get_or, true, false}
use Rattle.std.proofs.Common.{true≢false, refl, sym, ap, ◌∙◌, arith, append_assoc, length-append, nat_eq}
use Rattle.std.proofs.Math.Seq.{take-suc, get_or-append_seam}
use Rattle.std.proofs.lemmas.List.{length-take-le, get_or_append_left}
use Rattle.std.proofs.lemmas.Bool.{cases_order}
use Rattle.std.proofs.lemmas.Bool.Decides.{nat_tests}
use Rattle.text_search.specs.Ends.{fits, EndsWith, IsLongest, AreBorders}

-- the character at a place is the one that fits there
pub fits_is : (p : List ℕ) (k c d : ℕ) → k < length p → nat_eq (get_or p k d) c ≡ fits p k c
fits_is [] k c d within = absurd (omega (arith, within))
fits_is (x ∷ xs) zero c d within = refl
fits_is (x ∷ xs) (suc k) c d within = fits_is xs k c d (omega (arith, within))

-- after the end none fits
pub fits_not : (p : List ℕ) (k c : ℕ) → length p ≤ k → false ≡ fits p k c
fits_not [] k c past = refl
fits_not (x ∷ xs) zero c past = absurd (omega (arith, past))
fits_not (x ∷ xs) (suc k) c past = fits_not xs k c (omega (arith, past))

-- where a character fits, there is one
pub fits_within : (p : List ℕ) (k c : ℕ) → fits p k c ≡ true → suc k ≤ length p
fits_within [] k c fit = absurd (true≢false (sym fit))
fits_within (x ∷ xs) zero c fit = omega arith
fits_within (x ∷ xs) (suc k) c fit = let rest = fits_within xs k c fit in omega (arith, rest)

-- a beginning and the character that fits are the next beginning
pub fits_next : (p : List ℕ) (k c : ℕ) → fits p k c ≡ true → take (suc k) p ≡ take k p ++ c ∷ []
fits_next [] k c fit = absurd (true≢false (sym fit))
fits_next (x ∷ xs) zero c fit = let same : x ≡ c = grind (arith, nat_tests) in ap (λ y. y ∷ []) same
fits_next (x ∷ xs) (suc k) c fit = ap (λ ys. x ∷ ys) (fits_next xs k c fit)

-- the next beginning is a beginning and one more character, which fits
pub next_fits : (p : List ℕ) (k : ℕ) → suc k ≤ length p → (c : ℕ) × (take (suc k) p ≡ take k p ++ c ∷ []) × (fits p k c ≡ true)
next_fits [] k within = absurd (omega (arith, within))
next_fits (x ∷ xs) zero within = (x, refl, grind (arith, nat_tests))
next_fits (x ∷ xs) (suc k) within =
    let (c, parts, fit) = next_fits xs k (omega (arith, within)) in (c, ap (λ ys. x ∷ ys) parts, fit)

-- two lists with a last one each
pub same_last : (a b : List ℕ) (x y : ℕ) → a ++ x ∷ [] ≡ b ++ y ∷ [] → (a ≡ b) × (x ≡ y)
same_last [] [] x y same = (refl, ap (λ xs. get_or xs 0 x) same)
same_last [] (b ∷ bs) x y same = let long = ap length same in absurd (omega (arith, long, length-append bs (y ∷ [])))
same_last (a ∷ more) [] x y same = let long = ap length same in absurd (omega (arith, long, length-append more (x ∷ [])))
same_last (a ∷ more) (b ∷ bs) x y same =
    let (front, last) = same_last more bs x y (ap (drop 1) same) in
    let head : a ≡ b = ap (λ xs. get_or xs 0 a) same in
    (ap (λ z. z ∷ more) head ∙ ap (λ xs. b ∷ xs) front, last)

-- of two ends of one list the shorter is an end of the longer
pub shorter_end : (f g x y : List ℕ) → f ++ x ≡ g ++ y → length f ≤ length g → (h : List ℕ) × (g ≡ f ++ h) × (x ≡ h ++ y)
shorter_end [] g x y same order = (g, refl, same)
shorter_end (a ∷ f) [] x y same order = absurd (omega (arith, order))
shorter_end (a ∷ f) (b ∷ g) x y same order =
    let (h, front, rest) = shorter_end f g x y (ap (drop 1) same) (omega (arith, order)) in
    let head : a ≡ b = ap (λ xs. get_or xs 0 a) same in
    (h, sym (ap (λ z. z ∷ g) head) ∙ ap (λ xs. a ∷ xs) front, rest)

-- no text ends with more of another than it has characters
pub ends_within : (p s : List ℕ) (k : ℕ) → EndsWith p s k → k ≤ length s
ends_within p s k (within, front, parts) =
    let long = ap length parts in omega (arith, long, length-append front (take k p), length-take-le k p within)

-- one more character: what fits goes on
pub goes_on : (p s : List ℕ) (k c : ℕ) → EndsWith p s k → fits p k c ≡ true → EndsWith p (s ++ c ∷ []) (suc k)
goes_on p s k c (within, front, parts) fit = (
  fits_within p k c fit,
  front,
  ap (λ xs. xs ++ c ∷ []) parts ∙ append_assoc front (take k p) (c ∷ []) ∙ ap (λ xs. front ++ xs) (sym (fits_next p k c fit)),
)

-- what a text ends with after one more character went on from what it ended with before
pub went_on : (p s : List ℕ) (k c : ℕ) → EndsWith p (s ++ c ∷ []) (suc k) → EndsWith p s k × (fits p k c ≡ true)
went_on p s k c (within, front, parts) =
    let (d, next, fit) = next_fits p k within in
    let both : s ++ c ∷ [] ≡ (front ++ take k p) ++ d ∷ [] =
    parts ∙ ap (λ xs. front ++ xs) next ∙ sym (append_assoc front (take k p) (d ∷ [])) in
    let (before, same) = same_last s (front ++ take k p) c d both in
    ((omega (arith, within), front, before), rw same fit)

-- what a text ends with is also the end of a longer beginning that it ends with
pub border : (p s : List ℕ) (k j : ℕ) → j < k → EndsWith p s k → EndsWith p s j → EndsWith p (drop 1 (take k p)) j
border p s k j less (within, f, long) (inner, g, short) =
    let order : length f ≤ length g = omega (
      arith,
      ap length long,
      ap length short,
      length-append f (take k p),
      length-append g (take j p),
      length-take-le k p within,
      length-take-le j p inner,
      less,
    ) in
    let (h, _, rest) = shorter_end f g (take k p) (take j p) (sym long ∙ short) order in
    (inner, drop 1 h, cut h rest)
  where
    cut : (h : List ℕ) → take k p ≡ h ++ take j p → drop 1 (take k p) ≡ drop 1 h ++ take j p
    cut [] rest = absurd (omega (arith, ap length rest, length-take-le k p within, length-take-le j p inner, less))
    cut (x ∷ xs) rest = ap (drop 1) rest

-- and the other way
pub inner_end : (p s : List ℕ) (k j : ℕ) → 0 < k → EndsWith p s k → EndsWith p (drop 1 (take k p)) j → EndsWith p s j
inner_end p s k j some (within, f, long) (inner, h, rest) =
    (inner, f ++ (first (take k p) ++ h), long ∙ ap (λ xs. f ++ xs) (whole (take k p) (omega (arith, length-take-le k p within, some)) ∙ ap (λ xs. first (take k p) ++ xs) rest ∙ sym (append_assoc (first (take k p)) h (take j p))) ∙ sym (append_assoc f (first (take k p) ++ h) (take j p)))
  where
    first : List ℕ → List ℕ
    first [] = []
    first (x ∷ xs) = x ∷ []

    whole : (xs : List ℕ) → 0 < length xs → xs ≡ first xs ++ drop 1 xs
    whole [] some = absurd (omega (arith, some))
    whole (x ∷ xs) some = refl

-- a border is shorter than its beginning
before_less : (p bs : List ℕ) (k : ℕ) → AreBorders p bs → suc k ≤ length bs → get_or bs k 0 < suc k
before_less p bs k are within =
    let longest = are.1 k (omega (arith, within)) in
    let inside = ends_within p (drop 1 (take (suc k) p)) (get_or bs k 0) longest.0 in
    omega (arith, inside, length-drop 1 (take (suc k) p), length-take-le (suc k) p (omega (arith, are.0, within)))

pub border_less : (p bs : List ℕ) (k : ℕ) → AreBorders p bs → 0 < k → k ≤ length bs → get_or bs (k - 1) 0 < k
border_less p bs zero are some within = absurd (omega (arith, some))
border_less p bs (suc k) are some within =
    let same : suc k - 1 ≡ k = omega arith in rw same (before_less p bs k are within)

-- what a text ends with, and where more of it doesn't fit
abbrev pub IsTried : List ℕ → List ℕ → ℕ → ℕ → Type 0
IsTried p read c k = EndsWith p read k × ((more : ℕ) → EndsWith p read more → k < more → fits p more c ≡ false)

-- where a character doesn't fit, the longest end of the beginning is the next to try
next_try : (p read : List ℕ) (k b c : ℕ) → fits p (suc k) c ≡ false → IsLongest p (drop 1 (take (suc k) p)) b
    → IsTried p read c (suc k) → IsTried p read c b
next_try p read k b c not_this longest (ends, none) =
    (inner_end p read (suc k) b (omega arith) ends longest.0, λ more end less. by_order more end less (cases_order more (suc k)))
  where
    by_order : (more : ℕ) → EndsWith p read more → b < more → (more ≡ suc k) ⊎ ((more < suc k) ⊎ (suc k < more)) → fits p more c ≡ false
    by_order more end less (inl same) = rw same not_this
    by_order more end less (inr (inl below)) =
        let most = longest.1 more (border p read (suc k) more below ends end) in absurd (omega (arith, most, less))
    by_order more end less (inr (inr above)) = none more end above

pub tries_border : (p bs read : List ℕ) (k c : ℕ) → AreBorders p bs → 0 < k → k ≤ length bs → fits p k c ≡ false
    → IsTried p read c k → IsTried p read c (get_or bs (k - 1) 0)
tries_border p bs read zero c are some within not_this known = absurd (omega (arith, some))
tries_border p bs read (suc k) c are some within not_this known =
    let same : suc k - 1 ≡ k = omega arith in
    rw same (next_try p read k (get_or bs k 0) c not_this (are.1 k (omega (arith, within))) known)

-- after one more character that fits
pub one_longer : (p read : List ℕ) (k c : ℕ) → fits p k c ≡ true
    → IsTried p read c k → IsLongest p (read ++ c ∷ []) (k + 1)
one_longer p read k c fit (ends, none) = rw add-one (goes_on p read k c ends fit, no_more)
  where
    by_order : (j : ℕ) → EndsWith p read j → fits p j c ≡ true → (j ≡ k) ⊎ ((j < k) ⊎ (k < j)) → suc j ≤ suc k
    by_order j end fit (inl same) = omega (arith, same)
    by_order j end fit (inr (inl below)) = omega (arith, below)
    by_order j end fit (inr (inr above)) = absurd (true≢false (sym fit ∙ none j end above))

    no_more : (more : ℕ) → EndsWith p (read ++ c ∷ []) more → more ≤ suc k
    no_more zero end = omega arith
    no_more (suc j) end = let (before, fits_there) = went_on p read j c end in by_order j before fits_there (cases_order j k)

-- after one more character that nowhere fits
pub none_left : (p read : List ℕ) (k c : ℕ) → k ≡ 0 → fits p k c ≡ false → IsTried p read c k → IsLongest p (read ++ c ∷ []) 0
none_left p read k c first not_first (ends, none) = ((omega arith, read ++ c ∷ [], sym (append-nil (read ++ c ∷ []))), no_more)
  where
    never : (j : ℕ) → EndsWith p read j → fits p j c ≡ true → ⊥
    never zero end fit = true≢false (sym fit ∙ ap (λ n. fits p n c) (sym first) ∙ not_first)
    never (suc j) end fit = true≢false (sym fit ∙ none (suc j) end (omega (arith, first)))

    no_more : (more : ℕ) → EndsWith p (read ++ c ∷ []) more → more ≤ 0
    no_more zero end = omega arith
    no_more (suc j) end = let (before, fits_there) = went_on p read j c end in absurd (never j before fits_there)

-- nothing ends with nothing alone
pub ends_nothing : (p : List ℕ) → IsLongest p [] 0
ends_nothing p = ((omega arith, [], refl), λ more end. let short = ends_within p [] more end in omega (arith, short))

-- the longer beginning without its first character
pub longer_rest : (p : List ℕ) (i d : ℕ) → 0 < i → i < length p → drop 1 (take (suc i) p) ≡ drop 1 (take i p) ++ get_or p i d ∷ []
longer_rest p i d some within = ap (drop 1) (take-suc p i d within) ∙ inside (take i p) (omega (arith, some, within, length-take-le i p (omega (arith, within))))
  where
    inside : (xs : List ℕ) → 0 < length xs → drop 1 (xs ++ get_or p i d ∷ []) ≡ drop 1 xs ++ get_or p i d ∷ []
    inside [] none = absurd (omega (arith, none))
    inside (x ∷ xs) long = refl

-- one more border
pub border_more : (p bs : List ℕ) (i b : ℕ) → AreBorders p bs → length bs ≡ i → i < length p → IsLongest p (drop 1 (take (suc i) p)) b
    → AreBorders p (bs ++ b ∷ [])
border_more p bs i b are long within longest = (
  omega (arith, long, within, length-append bs (b ∷ [])),
  λ count below. by_order count below (cases_order count i),
)
  where
    last : get_or (bs ++ b ∷ []) i 0 ≡ b
    last = rw (sym long) (get_or-append_seam bs b [] 0)

    by_order : (count : ℕ) → count < length (bs ++ b ∷ []) → (count ≡ i) ⊎ ((count < i) ⊎ (i < count))
        → IsLongest p (drop 1 (take (suc count) p)) (get_or (bs ++ b ∷ []) count 0)
    by_order count below (inl same) = rw (same, last) longest
    by_order count below (inr (inl before)) =
        let inside : count < length bs = omega (arith, before, long) in
        rw (get_or_append_left bs (b ∷ []) 0 count inside) (are.1 count inside)
    by_order count below (inr (inr after)) = absurd (omega (arith, below, after, long, length-append bs (b ∷ [])))

-- the borders with one more, and the last one of them
pub borders_more : (p bs new : List ℕ) (i b : ℕ) → AreBorders p bs → length bs ≡ i → i < length p → IsLongest p (drop 1 (take (suc i) p)) b
    → new ≡ bs ++ b ∷ [] → AreBorders p new × (length new ≡ i + 1) × IsLongest p (drop 1 (take (i + 1) p)) b
borders_more p bs new i b are long within longest is =
    rw (is, add-one) (border_more p bs i b are long within longest, omega (arith, long, length-append bs (b ∷ [])), longest)

-- the last one of them, by the next character
pub border_after : (p : List ℕ) (i c b : ℕ) → 0 < i → i < length p → c ≡ get_or p i c
    → IsLongest p (drop 1 (take i p) ++ c ∷ []) b → IsLongest p (drop 1 (take (suc i) p)) b
border_after p i c b some within is longest =
    rw (longer_rest p i c some within ∙ ap (λ x. drop 1 (take i p) ++ x ∷ []) (sym is)) longest

-- and the first one
pub first_border : (p : List ℕ) (i b : ℕ) → i ≡ 0 → i < length p → IsLongest p (drop 1 (take i p)) b → IsLongest p (drop 1 (take (suc i) p)) b
first_border [] i b first within longest = absurd (omega (arith, within))
first_border (x ∷ xs) zero b first within longest = longest
first_border (x ∷ xs) (suc i) b first within longest = absurd (omega (arith, first))
