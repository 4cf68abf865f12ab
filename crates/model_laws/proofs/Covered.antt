-- A made mark covers the visible characters from one index of the text to another, and none else.
use Rattle.std.proofs.Common.{◌≡◌, ℕ, zero, suc, ◌+◌, ◌*◌, ◌≤◌, ◌<◌, Bool, true, false, not, ◌&&◌}
use Rattle.std.proofs.Common.{inl, inr, List, [], ◌∷◌, ◌++◌, length, filter, Some, None, arith, ap}
use Rattle.std.proofs.Common.{refl, ◌∙◌, sym, length-append}
use Rattle.std.specs.Prelude.{nat_lt, nat_le, slice_get}
use Rattle.std.specs.Option.{option_map}
use Rattle.std.proofs.lemmas.Bool.{cases_Bool, cases_lt, le-leb, lt-ltb, leb-true, leb-false}
use Rattle.std.proofs.lemmas.List.Elements.{filter-append}
use Rattle.op_ids.specs.Id.{Id, is_same}
use Rattle.op_model.specs.declared.character.Character.{Character}
use Rattle.op_model.specs.declared.mark.MarkKey.{MarkKey}
use Rattle.op_model.specs.declared.mark.MarkKey.TheVariants as key
use Rattle.op_model.specs.declared.marking.Marking.{Marking}
use Rattle.op_model.specs.Walk.{times}
use Rattle.op_model.specs.Places.{index_of, start_place, end_place, covers}
use Rattle.op_model.specs.Made.{id_at, id_before, start_before, start_of, end_before, end_after, end_of}
use Rattle.model_laws.proofs.Ids.{equal_same}

-- an index of the walk is to a place there as an index of the text is to the place's
pub record IsAt (index k j i : ℕ) : Type 0 where
  pub le_to : index ≤ k → j ≤ i
  pub le_from : j ≤ i → index ≤ k
  pub ge_to : k ≤ index → i ≤ j
  pub ge_from : i ≤ j → k ≤ index

at_shown : (index k j i : ℕ) → IsAt index k j i → IsAt (index + 1) (suc k) (suc j) (suc i)
at_shown index k j i p = record {
  le_to = λ l. omega (arith, p.le_to (omega arith));
  le_from = λ l. omega (arith, p.le_from (omega arith));
  ge_to = λ l. omega (arith, p.ge_to (omega arith));
  ge_from = λ l. omega (arith, p.ge_from (omega arith));
}

at_hidden : (index k j i : ℕ) → IsAt index k j i → IsAt (index + 1) (suc k) j i
at_hidden index k j i p = record {
  le_to = λ l. p.le_to (omega arith);
  le_from = λ l. omega (arith, p.le_from l);
  ge_to = λ l. p.ge_to (omega arith);
  ge_from = λ l. omega (arith, p.ge_from l);
}

got_here : (p : Character → Bool) (c : Character) (cs : List Character) (n : ℕ) (x : Character)
    → ((m : ℕ) → slice_get (filter p cs) m ≡ Some x → 1 ≤ times x.id cs) → slice_get (c ∷ filter p cs) n ≡ Some x → 1 ≤ times x.id (c ∷ cs)
got_here p c cs zero x rest g = let h : c ≡ x = cc in let s : is_same c.id x.id ≡ true = equal_same c.id x.id (ap (λ y. y.id) h) in rw s (omega arith)
got_here p c cs (suc n) x rest g = omega (arith, rest n g)

pub got_counted : (p : Character → Bool) (cs : List Character) (j : ℕ) (x : Character)
    → slice_get (filter p cs) j ≡ Some x → 1 ≤ times x.id cs
got_counted p [] j x e = let f : ⊥ = cc in absurd f
got_counted p (c ∷ cs) j x e =
    elim (cases_Bool (p c)) [
      | inl f ↦ got_here p c cs j x (λ m g. got_counted p cs m x g) (rw f at e)
      | inr f ↦ omega (arith, got_counted p cs j x (rw f at e))
    ]

differs : (c : Character) (cs : List Character) (x : Character) → times x.id (c ∷ cs) ≤ 1 → 1 ≤ times x.id cs
    → is_same c.id x.id ≡ false
differs c cs x t l = elim (cases_Bool (is_same c.id x.id)) [ inl e ↦ absurd (omega (arith, rw e at t)) | inr e ↦ e ]

module _ (hidden : Character → Bool) where
  abbrev pub seen : List Character → List Character
  seen cs = filter (λ c. not (hidden c)) cs

  here_first : (c : Character) (rest : List Character) (j : ℕ) (x : Character) → slice_get (c ∷ seen rest) j ≡ Some x
      → times x.id (c ∷ rest) ≤ 1 → IsAt (index_of x.id (c ∷ rest)) 0 j 0
  here_first c rest zero x e t =
      let h : c ≡ x = cc in
      let s : is_same c.id x.id ≡ true = equal_same c.id x.id (ap (λ y. y.id) h) in
      rw s (record { le_to = λ l. omega arith; le_from = λ l. omega arith; ge_to = λ l. omega arith; ge_from = λ l. omega arith })
  here_first c rest (suc j) x e t =
      rw (differs c rest x t (got_counted (λ y. not (hidden y)) rest j x e))
      (record { le_to = λ l. absurd (omega arith); le_from = λ l. absurd (omega arith); ge_to = λ l. omega arith; ge_from = λ l. omega arith })

  shown_first : (y : Character) (front : List Character) (c : Character) (rest : List Character) (n : ℕ) (x : Character)
      → times x.id (y ∷ (front ++ c ∷ rest)) ≤ 1
      → ((m : ℕ) → slice_get (seen (front ++ c ∷ rest)) m ≡ Some x → IsAt (index_of x.id (front ++ c ∷ rest)) (length front) m (length (seen front)))
      → slice_get (y ∷ seen (front ++ c ∷ rest)) n ≡ Some x → IsAt (index_of x.id (y ∷ (front ++ c ∷ rest))) (length (y ∷ front)) n (length (y ∷ seen front))
  shown_first y front c rest zero x t later g =
      let h : y ≡ x = cc in
      let s : is_same y.id x.id ≡ true = equal_same y.id x.id (ap (λ z. z.id) h) in
      rw s (record { le_to = λ l. omega arith; le_from = λ l. omega arith; ge_to = λ l. absurd (omega arith); ge_from = λ l. absurd (omega arith) })
  shown_first y front c rest (suc n) x t later g =
      rw (differs y (front ++ c ∷ rest) x t (got_counted (λ z. not (hidden z)) (front ++ c ∷ rest) n x g))
      (at_shown (index_of x.id (front ++ c ∷ rest)) (length front) n (length (seen front)) (later n g))

  hidden_first : (y : Character) (front : List Character) (c : Character) (rest : List Character) (n : ℕ) (x : Character)
      → times x.id (y ∷ (front ++ c ∷ rest)) ≤ 1
      → hidden y ≡ true → slice_get (seen (front ++ c ∷ rest)) n ≡ Some x
      → IsAt (index_of x.id (front ++ c ∷ rest)) (length front) n (length (seen front))
      → IsAt (index_of x.id (y ∷ (front ++ c ∷ rest))) (length (y ∷ front)) n (length (seen (y ∷ front)))
  hidden_first y front c rest n x t h g p =
      rw (h, differs y (front ++ c ∷ rest) x t (got_counted (λ z. not (hidden z)) (front ++ c ∷ rest) n x g))
      (at_hidden (index_of x.id (front ++ c ∷ rest)) (length front) n (length (seen front)) p)

  pub index_at : (front : List Character) (c : Character) (rest : List Character) (j : ℕ) (x : Character)
      → slice_get (seen (front ++ c ∷ rest)) j ≡ Some x → hidden c ≡ false
      → ((id : Id) → times id (front ++ c ∷ rest) ≤ 1) → IsAt (index_of x.id (front ++ c ∷ rest)) (length front) j (length (seen front))
  index_at [] c rest j x e v t = here_first c rest j x (rw v at e) (t x.id)
  index_at (y ∷ front) c rest j x e v t =
      elim (cases_Bool (hidden y)) [
        | inl h ↦ hidden_first y front c rest j x (t x.id) h (rw h at e) (index_at front c rest j x (rw h at e) v (λ id. omega (arith, t id)))
        | inr h ↦ rw h (shown_first y front c rest j x (t x.id) (λ m g. index_at front c rest m x g v (λ id. omega (arith, t id))) (rw h at e))
      ]

pub got : (cs : List Character) (n : ℕ) → n < length cs → (x : Character) × (slice_get cs n ≡ Some x)
got [] n l = absurd (omega arith)
got (c ∷ cs) zero l = (c, refl)
got (c ∷ cs) (suc n) l = got cs n (omega arith)

pub got_none : (cs : List Character) (n : ℕ) → length cs ≤ n → slice_get cs n ≡ None
got_none [] n l = refl
got_none (c ∷ cs) zero l = absurd (omega arith)
got_none (c ∷ cs) (suc n) l = got_none cs n (omega arith)

-- tests of orders that go together are equal
pub tests_equal : (a b c d : ℕ) → (a ≤ b → c ≤ d) → (c ≤ d → a ≤ b) → nat_le a b ≡ nat_le c d
tests_equal a b c d f g =
    elim (cases_Bool (nat_le c d)) [
      | inl e ↦ le-leb a b (g (leb-true c d e)) ∙ sym e
      | inr e ↦ elim (cases_Bool (nat_le a b)) [
        | inl h ↦ absurd (omega (arith, f (leb-true a b h), leb-false c d e))
        | inr h ↦ h ∙ sym e
      ]
    ]

module _ (hidden : Character → Bool) (front : List Character) (c : Character) (rest : List Character) (visible : hidden c ≡ false) (once : (id : Id) → times id (front ++ c ∷ rest) ≤ 1) where
  abbrev w : List Character
  w = front ++ c ∷ rest

  abbrev text_of : List Character → List Character
  text_of cs = filter (λ x. not (hidden x)) cs

  start_test : (from : ℕ) → from < length (text_of w)
      → nat_le (start_place w (start_of (text_of w) from)) (2 * length front + 1) ≡ nat_le from (length (text_of front))
  start_test from l =
      let (x, e) = got (text_of w) from l in
      let p = index_at hidden front c rest from x e visible once in
      ap (λ o. nat_le (start_place w (start_before (option_map (λ y. y.id) o))) (2 * length front + 1)) e
      ∙ tests_equal (2 * index_of x.id w + 1) (2 * length front + 1) from (length (text_of front)) (λ h. p.le_to (omega arith)) (λ h. omega (arith, p.le_from h))

  seen_here : length (text_of front) + 1 ≤ length (text_of w)
  seen_here =
      rw (filter-append (λ x. not (hidden x)) front (c ∷ rest), length-append, visible) (omega arith)

  before_one : (to : ℕ) → to < length (text_of w)
      → nat_lt (2 * length front + 1) (end_place w (end_before (id_at (text_of w) to))) ≡ nat_lt (length (text_of front)) to
  before_one to h =
      let (x, e) = got (text_of w) to h in
      let p = index_at hidden front c rest to x e visible once in
      ap (λ o. nat_lt (2 * length front + 1) (end_place w (end_before (option_map (λ y. y.id) o)))) e
      ∙ tests_equal (suc (2 * length front + 1)) (2 * index_of x.id w + 1) (suc (length (text_of front))) to
      (λ l. elim (cases_lt (length (text_of front)) to) [ inl g ↦ g | inr g ↦ absurd (omega (arith, p.le_from g)) ])
      (λ l. elim (cases_lt (length front) (index_of x.id w)) [ inl g ↦ omega arith | inr g ↦ absurd (omega (arith, p.le_to g)) ])

  before_test : (to : ℕ) → to ≤ length (text_of w)
      → nat_lt (2 * length front + 1) (end_place w (end_before (id_at (text_of w) to))) ≡ nat_lt (length (text_of front)) to
  before_test to l =
      elim (cases_lt to (length (text_of w))) [
        | inl h ↦ before_one to h
        | inr h ↦
            ap (λ o. nat_lt (2 * length front + 1) (end_place w (end_before (option_map (λ y. y.id) o)))) (got_none (text_of w) to h)
            ∙ lt-ltb (2 * length front + 1) (2 * length w + 1) (omega (arith, length-append front (c ∷ rest)))
            ∙ sym (lt-ltb (length (text_of front)) to (omega (arith, seen_here)))
      ]

  after_test : (to : ℕ) → 0 < to → to ≤ length (text_of w)
      → nat_lt (2 * length front + 1) (end_place w (end_after (id_before (text_of w) to))) ≡ nat_lt (length (text_of front)) to
  after_test zero z l = absurd (omega arith)
  after_test (suc n) z l =
      let (x, e) = got (text_of w) n (omega arith) in
      let p = index_at hidden front c rest n x e visible once in
      ap (λ o. nat_lt (2 * length front + 1) (end_place w (end_after (option_map (λ y. y.id) o)))) e
      ∙ tests_equal (suc (2 * length front + 1)) (2 * index_of x.id w + 2) (suc (length (text_of front))) (suc n) (λ h. omega (arith, p.ge_to (omega arith))) (λ h. omega (arith, p.ge_from (omega arith)))

  end_test : (k : MarkKey) (to : ℕ) → 0 < to → to ≤ length (text_of w)
      → nat_lt (2 * length front + 1) (end_place w (end_of (text_of w) k to)) ≡ nat_lt (length (text_of front)) to
  end_test key.Strong to z l = before_test to l
  end_test key.Em to z l = before_test to l
  end_test key.Link to z l = after_test to z l
  end_test (key.Comment id) to z l = after_test to z l

  -- a mark operation with the anchors of two indexes covers what lies between them
  pub covers_between : (m : Marking) (k : MarkKey) (from to : ℕ) → from < to → to ≤ length (text_of w)
      → m.start ≡ start_of (text_of w) from → m.end ≡ end_of (text_of w) k to
      → covers w (length front) m ≡ (nat_le from (length (text_of front)) && nat_lt (length (text_of front)) to)
  covers_between m k from to l t e f =
      ap (λ x. nat_le (start_place w x) (2 * length front + 1) && nat_lt (2 * length front + 1) (end_place w m.end)) e
      ∙ ap (λ x. nat_le (start_place w (start_of (text_of w) from)) (2 * length front + 1) && nat_lt (2 * length front + 1) (end_place w x)) f
      ∙ ap (λ r. r && nat_lt (2 * length front + 1) (end_place w (end_of (text_of w) k to))) (start_test from (omega arith))
      ∙ ap (λ r. nat_le from (length (text_of front)) && r) (end_test k to (omega arith) t)
