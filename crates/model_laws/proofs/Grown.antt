-- What a mark covers of a text that is inserted after it was put on.
use Rattle.std.proofs.Common.{◌≡◌, ℕ, zero, suc, ◌+◌, ◌*◌, ◌≤◌, ◌<◌, Bool, true, false, not, cond, ◌&&◌, inl, inr}
use Rattle.std.proofs.Common.{List, [], ◌∷◌, ◌++◌, length, take, drop, filter, Option, Some, None, arith, ap, refl, ◌∙◌, sym, subst}
use Rattle.std.proofs.Common.{append_assoc, length-append}
use Rattle.std.specs.Prelude.{nat_lt, nat_le, slice_get}
use Rattle.std.specs.Option.{option_map}
use Rattle.std.proofs.lemmas.Bool.{cases_Bool, cases_lt, or_parts, or_left, or_right, both_ways, le-leb, lt-ltb, leb-false, leb-true, le-ltb}
use Rattle.std.proofs.lemmas.Bool.{ltb-true, and_parts, false≢true}
use Rattle.std.proofs.lemmas.List.{length-take-le}
use Rattle.std.proofs.lemmas.List.Elements.{filter-append}
use Rattle.std.proofs.lemmas.List.Folds.{list_any-append}
use Rattle.op_ids.specs.Id.{Id, is_same}
use Rattle.op_model.specs.declared.character.Character.{Character}
use Rattle.op_model.specs.declared.mark.MarkKey.{MarkKey}
use Rattle.op_model.specs.declared.mark.MarkKey.TheVariants as key
use Rattle.op_model.specs.declared.marking.Marking.{Marking}
use Rattle.op_model.specs.Walk.{times}
use Rattle.op_model.specs.Places.{index_of, start_place, end_place, covers}
use Rattle.op_model.specs.Made.{id_at, id_before, start_before, start_of, end_before, end_after, end_of}
use Rattle.op_model.specs.Placing.{has_id}
use Rattle.model_laws.specs.Changed.{grows, takes_in}
use Rattle.model_laws.proofs.Ids.{equal_same, same_equal}
use Rattle.model_laws.proofs.Count.{times-append}
use Rattle.model_laws.proofs.Covered.{got_counted, got, got_none, tests_equal}
use Rattle.model_laws.proofs.Ended.{index_in_front, stands_behind}

-- a character that isn't among the last ones stands before them
stands_within : (all last front rest : List Character) (c : Character) → all ++ last ≡ front ++ c ∷ rest
    → has_id last c.id ≡ false → length front < length all
stands_within [] last front rest c e n =
    absurd (both_ways (has_id last c.id) n (ap (λ xs. has_id xs c.id) e ∙ here front))
  where
    here : (cs : List Character) → has_id (cs ++ c ∷ rest) c.id ≡ true
    here [] = or_left (is_same c.id c.id) (has_id rest c.id) (equal_same c.id c.id refl)
    here (x ∷ cs) = or_right (is_same x.id c.id) (has_id (cs ++ c ∷ rest) c.id) (here cs)
stands_within (x ∷ all) last [] rest c e n = omega arith
stands_within (x ∷ all) last (y ∷ front) rest c e n =
    let same : all ++ last ≡ front ++ c ∷ rest = cc in
    omega (arith, stands_within all last front rest c same n)

-- an id that none of the first ones has stands behind them
index_behind : (first last : List Character) (id : Id) → times id first ≡ 0 → length first ≤ index_of id (first ++ last)
index_behind [] last id none = omega arith
index_behind (x ∷ first) last id none =
    elim (cases_Bool (is_same x.id id)) [
      | inl e ↦ absurd (omega (arith, rw e at none))
      | inr e ↦ rw e (omega (arith, index_behind first last id (omega (arith, rw e at none))))
    ]

-- an id that is counted is there
pub counted_there : (cs : List Character) (id : Id) → 1 ≤ times id cs → has_id cs id ≡ true
counted_there [] id h = absurd (omega arith)
counted_there (x ∷ cs) id h =
    elim (cases_Bool (is_same x.id id)) [
      | inl f ↦ or_left (is_same x.id id) (has_id cs id) f
      | inr f ↦ or_right (is_same x.id id) (has_id cs id) (counted_there cs id (omega (arith, rw f at h)))
    ]

-- an index of two lists, one behind the other, is one of the first or of the second
get_either : (xs ys : List Character) (i : ℕ) (x : Character) → slice_get (xs ++ ys) i ≡ Some x
    → (i < length xs → slice_get xs i ≡ Some x) × (length xs ≤ i → (j : ℕ) × (slice_get ys j ≡ Some x))
get_either [] ys i x e = (λ l. absurd (omega arith), λ l. (i, e))
get_either (y ∷ xs) ys zero x e = (λ l. e, λ l. absurd (omega arith))
get_either (y ∷ xs) ys (suc i) x e =
    let p = get_either xs ys i x e in (λ l. p.0 (omega arith), λ l. p.1 (omega arith))

-- The walk w has new characters between the two parts of the old one, of which the first shows as many characters as the index is at which
-- they were inserted. c is one of them.
module _ (hidden : Character → Bool) (w f new g front rest : List Character) (c : Character) (at : ℕ)
    (whole : w ≡ f ++ (new ++ g)) (parts : w ≡ front ++ c ∷ rest) (once : (id : Id) → times id w ≤ 1)
    (fresh : has_id (f ++ g) c.id ≡ false) (shown : length (filter (λ x. not (hidden x)) f) ≡ at) where
  abbrev text_of : List Character → List Character
  text_of cs = filter (λ x. not (hidden x)) cs

  abbrev old : List Character
  old = text_of (f ++ g)

  not_there : (has_id f c.id ≡ false) × (has_id g c.id ≡ false)
  not_there = or_parts (has_id f c.id) (has_id g c.id) (sym (list_any-append (λ x. is_same x.id c.id) f g) ∙ fresh)

  behind_front : length f ≤ length front
  behind_front = stands_behind f (new ++ g) front rest c (sym whole ∙ parts) not_there.0

  before_rest : length front < length (f ++ new)
  before_rest = stands_within (f ++ new) g front rest c (append_assoc f new g ∙ sym whole ∙ parts) not_there.1

  -- a character of the text before the index stands before the new ones, any other behind them
  place_of : (i : ℕ) (x : Character) → slice_get old i ≡ Some x
      → (i < at → index_of x.id w < length front) × (at ≤ i → length front < index_of x.id w)
  place_of i x e = (first, second)
    where
      either : (i < length (text_of f) → slice_get (text_of f) i ≡ Some x) × (length (text_of f) ≤ i → (j : ℕ) × (slice_get (text_of g) j ≡ Some x))
      either = get_either (text_of f) (text_of g) i x (ap (λ xs. slice_get xs i) (sym (filter-append (λ y. not (hidden y)) f g)) ∙ e)

      first : i < at → index_of x.id w < length front
      first l =
          let there = counted_there f x.id (got_counted (λ y. not (hidden y)) f i x (either.0 (omega (arith, shown)))) in
          let index : index_of x.id w < length f = rw (ap (λ xs. index_of x.id xs) whole) (index_in_front f (new ++ g) x.id there) in
          omega (arith, index, behind_front)

      second : at ≤ i → length front < index_of x.id w
      second l =
          let last = either.1 (omega (arith, shown)) in
          let some = got_counted (λ y. not (hidden y)) g last.0 x last.1 in
          let joined : w ≡ (f ++ new) ++ g = whole ∙ sym (append_assoc f new g) in
          let all : times x.id ((f ++ new) ++ g) ≤ 1 = rw (ap (λ xs. times x.id xs) joined) at (once x.id) in
          let none : times x.id (f ++ new) ≡ 0 = omega (arith, all, some, times-append x.id (f ++ new) g) in
          let index : length (f ++ new) ≤ index_of x.id w = rw (ap (λ xs. index_of x.id xs) joined) (index_behind (f ++ new) g x.id none) in
          omega (arith, index, before_rest)

  start_test : (from : ℕ) → from < length old
      → nat_le (start_place w (start_of old from)) (2 * length front + 1) ≡ nat_lt from at
  start_test from l =
      let (x, e) = got old from l in
      let p = place_of from x e in
      ap (λ o. nat_le (start_place w (start_before (option_map (λ y. y.id) o))) (2 * length front + 1)) e
      ∙ tests_equal (2 * index_of x.id w + 1) (2 * length front + 1) (suc from) at
      (λ h. elim (cases_lt from at) [ inl b ↦ omega arith | inr b ↦ absurd (omega (arith, p.1 b)) ])
      (λ h. omega (arith, p.0 (omega arith)))

  few : length front < length w
  few = rw parts (omega (arith, length-append front (c ∷ rest)))

  before_test : (to : ℕ) → at ≤ length old
      → to ≤ length old → nat_lt (2 * length front + 1) (end_place w (end_before (id_at old to))) ≡ nat_le at to
  before_test to inside l =
      elim (cases_lt to (length old)) [
        | inl h ↦
            let (x, e) = got old to h in
            let p = place_of to x e in
            ap (λ o. nat_lt (2 * length front + 1) (end_place w (end_before (option_map (λ y. y.id) o)))) e
            ∙ tests_equal (suc (2 * length front + 1)) (2 * index_of x.id w + 1) at to
            (λ b. elim (cases_lt to at) [ inl a ↦ absurd (omega (arith, p.0 a)) | inr a ↦ a ])
            (λ b. omega (arith, p.1 b))
        | inr h ↦
            ap (λ o. nat_lt (2 * length front + 1) (end_place w (end_before (option_map (λ y. y.id) o)))) (got_none old to h)
            ∙ lt-ltb (2 * length front + 1) (2 * length w + 1) (omega (arith, few))
            ∙ sym (le-leb at to (omega arith))
      ]

  after_test : (to : ℕ) → 0 < to → to ≤ length old
      → nat_lt (2 * length front + 1) (end_place w (end_after (id_before old to))) ≡ nat_lt at to
  after_test zero some l = absurd (omega arith)
  after_test (suc n) some l =
      let (x, e) = got old n (omega arith) in
      let p = place_of n x e in
      ap (λ o. nat_lt (2 * length front + 1) (end_place w (end_after (option_map (λ y. y.id) o)))) e
      ∙ tests_equal (suc (2 * length front + 1)) (2 * index_of x.id w + 2) (suc at) (suc n)
      (λ b. elim (cases_lt n at) [ inl a ↦ absurd (omega (arith, p.0 a)) | inr a ↦ omega arith ])
      (λ b. omega (arith, p.1 (omega arith)))

  end_test : (k : MarkKey) (to : ℕ) → at ≤ length old → 0 < to → to ≤ length old
      → nat_lt (2 * length front + 1) (end_place w (end_of old k to)) ≡ cond (grows k) (nat_le at to) (nat_lt at to)
  end_test key.Strong to inside some l = before_test to inside l
  end_test key.Em to inside some l = before_test to inside l
  end_test key.Link to inside some l = after_test to some l
  end_test (key.Comment id) to inside some l = after_test to some l

  -- a mark on the characters of the old text from one index to another covers the new ones where the law says so
  pub covers_new : (m : Marking) (from to : ℕ) → at ≤ length old → from < to → to ≤ length old
      → m.start ≡ start_of old from → m.end ≡ end_of old m.key to
      → covers w (length front) m ≡ takes_in m.key from to at
  covers_new m from to inside less within s e =
      ap (λ x. nat_le (start_place w x) (2 * length front + 1) && nat_lt (2 * length front + 1) (end_place w m.end)) s
      ∙ ap (λ x. nat_le (start_place w (start_of old from)) (2 * length front + 1) && nat_lt (2 * length front + 1) (end_place w x)) e
      ∙ ap (λ r. r && nat_lt (2 * length front + 1) (end_place w (end_of old m.key to))) (start_test from (omega arith))
      ∙ ap (λ r. nat_lt from at && r) (end_test m.key to inside (omega arith) within)
