-- What is in a list, one element after another, and what stays in it.
use Rattle.std.proofs.Common.{◌≡◌, ℕ, zero, suc, ◌<◌, Bool, true, ◌⊎◌, inl, inr, List, [], ◌∷◌, length, get_or, arith, ap, ◌∙◌, refl, sym}
use Rattle.std.specs.Prelude.{filter, Contains}
use Rattle.std.proofs.lemmas.Bool.{cases_Bool, cases_order, eq-eqb, ne_eqb, lt-ltb, le-ltb}
use Rattle.op_model.specs.Spans.{with_number, rising}

-- is one of these
abbrev pub Has : {X : Type 0} → List X → X → Type 0
Has [] x = ⊥
Has (y ∷ ys) x = (y ≡ x) ⊎ Has ys x

has_at : {X : Type 0} → (xs : List X) (x : X) (k : ℕ) → k < length xs → get_or xs k x ≡ x → Has xs x
has_at [] x k l e = absurd (omega arith)
has_at (y ∷ ys) x zero l e = inl e
has_at (y ∷ ys) x (suc k) l e = inr (has_at ys x k (omega arith) e)

pub has_from_contains : {X : Type 0} → (xs : List X) (x : X) → Contains xs x → Has xs x
has_from_contains xs x h = has_at xs x h.0 h.1 h.2

pub contains_from_has : {X : Type 0} → (xs : List X) (x : X) → Has xs x → Contains xs x
contains_from_has [] x h = absurd h
contains_from_has (y ∷ ys) x (inl e) = (0, omega arith, e)
contains_from_has (y ∷ ys) x (inr h) = let (k, l, e) = contains_from_has ys x h in (suc k, omega arith, e)

pub has_filtered : {X : Type 0} → (p : X → Bool) (xs : List X) (x : X) → Has (filter p xs) x → Has xs x × (p x ≡ true)
has_filtered p [] x h = absurd h
has_filtered p (y ∷ ys) x h =
    elim (cases_Bool (p y)) [
      | inl e ↦ elim (rw e at h) [
        | inl f ↦ (inl f, rw f at e)
        | inr k ↦ let q = has_filtered p ys x k in (inr q.0, q.1)
      ]
      | inr e ↦ let q = has_filtered p ys x (rw e at h) in (inr q.0, q.1)
    ]

pub filtered_has : {X : Type 0} → (p : X → Bool) (xs : List X) (x : X) → Has xs x → p x ≡ true → Has (filter p xs) x
filtered_has p [] x h e = h
filtered_has p (y ∷ ys) x (inl f) e = let g : p y ≡ true = ap p f ∙ e in rw g (inl f)
filtered_has p (y ∷ ys) x (inr h) e =
    elim (cases_Bool (p y)) [
      | inl g ↦ rw g (inr (filtered_has p ys x h e))
      | inr g ↦ rw g (filtered_has p ys x h e)
    ]

with_new : (n : ℕ) (ns : List ℕ) → Has (with_number n ns) n
with_new n [] = inl refl
with_new n (k ∷ ns) =
    elim (cases_order n k) [
      | inl same ↦ simp (le-ltb n k (omega arith), eq-eqb n k same) (inl (sym same))
      | inr o ↦ elim o [
        | inl below ↦ rw (lt-ltb n k below) (inl refl)
        | inr above ↦ simp (le-ltb n k (omega arith), ne_eqb n k (omega arith)) (inr (with_new n ns))
      ]
    ]

with_old : (n x : ℕ) (ns : List ℕ) → Has ns x → Has (with_number n ns) x
with_old n x [] h = inr h
with_old n x (k ∷ ns) h =
    elim (cases_order n k) [
      | inl same ↦ simp (le-ltb n k (omega arith), eq-eqb n k same) h
      | inr o ↦ elim o [
        | inl below ↦ rw (lt-ltb n k below) (inr h)
        | inr above ↦ simp (le-ltb n k (omega arith), ne_eqb n k (omega arith)) (elim h [ inl e ↦ inl e | inr g ↦ inr (with_old n x ns g) ])
      ]
    ]

pub rising_has : (ns : List ℕ) (x : ℕ) → Has ns x → Has (rising ns) x
rising_has [] x h = h
rising_has (n ∷ ns) x (inl e) = rw (← e) (with_new n (rising ns))
rising_has (n ∷ ns) x (inr h) = with_old n x (rising ns) (rising_has ns x h)
