-- The deciding mark operation is one of those that cover the character, and has the greatest id of them.
use Rattle.std.proofs.Common.{◌≡◌, ℕ, zero, suc, ◌<◌, Bool, true, false, ◌&&◌, ◌⊎◌, inl, inr, List}
use Rattle.std.proofs.Common.{[], ◌∷◌, length, get_or, filter, Option, Some, None, Contains, arith}
use Rattle.std.proofs.Common.{ap, refl, ◌∙◌}
use Rattle.std.proofs.lemmas.Bool.{cases_Bool, and_parts, and_from}
use Rattle.op_ids.specs.Id.{is_below}
use Rattle.op_model.specs.declared.character.Character.{Character}
use Rattle.op_model.specs.declared.mark.MarkKey.{MarkKey}
use Rattle.op_model.specs.declared.marking.Marking.{Marking}
use Rattle.op_model.specs.Marks.{is_key, greater, greatest}
use Rattle.op_model.specs.Places.{covers}
use Rattle.op_model.specs.Spans.{deciding}
use Rattle.model_laws.proofs.Ids.{below_itself, below_turned, not_below_chain}

-- is one of these
abbrev pub Has : List Marking → Marking → Type 0
Has [] m = ⊥
Has (x ∷ xs) m = (x ≡ m) ⊎ Has xs m

has_at : (xs : List Marking) (m : Marking) (k : ℕ) → k < length xs → get_or xs k m ≡ m → Has xs m
has_at [] m k l e = absurd (omega arith)
has_at (x ∷ xs) m zero l e = inl e
has_at (x ∷ xs) m (suc k) l e = inr (has_at xs m k (omega arith) e)

pub has_from_contains : (xs : List Marking) (m : Marking) → Contains xs m → Has xs m
has_from_contains xs m h = has_at xs m h.0 h.1 h.2

contains_from_has : (xs : List Marking) (m : Marking) → Has xs m → Contains xs m
contains_from_has [] m h = absurd h
contains_from_has (x ∷ xs) m (inl e) = (0, omega arith, e)
contains_from_has (x ∷ xs) m (inr h) = let (k, l, e) = contains_from_has xs m h in (suc k, omega arith, e)

has_filtered : (p : Marking → Bool) (xs : List Marking) (m : Marking) → Has (filter p xs) m → Has xs m × (p m ≡ true)
has_filtered p [] m h = absurd h
has_filtered p (x ∷ xs) m h =
    elim (cases_Bool (p x)) [
      | inl e ↦ elim (rw e at h) [
        | inl f ↦ (inl f, rw f at e)
        | inr k ↦ let q = has_filtered p xs m k in (inr q.0, q.1)
      ]
      | inr e ↦ let q = has_filtered p xs m (rw e at h) in (inr q.0, q.1)
    ]

filtered_has : (p : Marking → Bool) (xs : List Marking) (m : Marking) → Has xs m → p m ≡ true → Has (filter p xs) m
filtered_has p [] m h e = h
filtered_has p (x ∷ xs) m (inl f) e = let g : p x ≡ true = ap p f ∙ e in rw g (inl f)
filtered_has p (x ∷ xs) m (inr h) e =
    elim (cases_Bool (p x)) [
      | inl g ↦ rw g (inr (filtered_has p xs m h e))
      | inr g ↦ rw g (filtered_has p xs m h e)
    ]

greater_is_one : (m : Marking) (o : Option Marking) (r : Marking) → greater m o ≡ r → (m ≡ r) ⊎ (o ≡ Some r)
greater_is_one m None r e = inl e
greater_is_one m (Some n) r e = elim (cases_Bool (is_below m.id n.id)) [ inl f ↦ inr (ap Some (rw f at e)) | inr f ↦ inl (rw f at e) ]

greatest_has : (ms : List Marking) (r : Marking) → greatest ms ≡ Some r → Has ms r
greatest_has [] r e = let f : ⊥ = cc in f
greatest_has (m ∷ ms) r e = elim (greater_is_one m (greatest ms) r (let f : greater m (greatest ms) ≡ r = cc in f)) [ inl f ↦ inl f | inr f ↦ inr (greatest_has ms r f) ]

not_above_first : (m : Marking) (o : Option Marking) → is_below (greater m o).id m.id ≡ false
not_above_first m None = below_itself m.id
not_above_first m (Some n) = elim (cases_Bool (is_below m.id n.id)) [ inl f ↦ rw f (below_turned m.id n.id f) | inr f ↦ rw f (below_itself m.id) ]

not_above_rest : (m n x : Marking) → is_below n.id x.id ≡ false → is_below (greater m (Some n)).id x.id ≡ false
not_above_rest m n x e = elim (cases_Bool (is_below m.id n.id)) [ inl f ↦ rw f e | inr f ↦ rw f (not_below_chain m.id n.id x.id f e) ]

greatest_above : (ms : List Marking) (x : Marking) → Has ms x
    → (r : Marking) × (greatest ms ≡ Some r) × (is_below r.id x.id ≡ false)
greatest_above [] x h = absurd h
greatest_above (m ∷ ms) x (inl e) = (greater m (greatest ms), refl, rw (← e) (not_above_first m (greatest ms)))
greatest_above (m ∷ ms) x (inr h) =
    let (r, e, f) = greatest_above ms x h in
    (greater m (greatest ms), refl, rw e (not_above_rest m r x f))

abbrev is_candidate : List Character → ℕ → MarkKey → Marking → Bool
is_candidate cs k key m = is_key m.key key && covers cs k m

pub deciding_covers : (cs : List Character) (ms : List Marking) (k : ℕ) (key : MarkKey) (m : Marking)
    → deciding cs ms k key ≡ Some m → Contains ms m × (is_key m.key key ≡ true) × (covers cs k m ≡ true)
deciding_covers cs ms k key m e =
    let q = has_filtered (is_candidate cs k key) ms m (greatest_has (filter (is_candidate cs k key) ms) m e) in
    let p = and_parts (is_key m.key key) (covers cs k m) q.1 in
    (contains_from_has ms m q.0, p.0, p.1)

pub deciding_greatest : (cs : List Character) (ms : List Marking) (k : ℕ) (key : MarkKey) (x : Marking)
    → Contains ms x → is_key x.key key ≡ true → covers cs k x ≡ true
    → (m : Marking) × (deciding cs ms k key ≡ Some m) × (is_below m.id x.id ≡ false)
deciding_greatest cs ms k key x h e f = greatest_above (filter (is_candidate cs k key) ms) x (filtered_has (is_candidate cs k key) ms x (has_from_contains ms x h) (and_from (is_key x.key key) (covers cs k x) e f))
