-- A character that no later mark operation covers keeps its marks.
use Rattle.std.proofs.Common.{◌≡◌, ℕ, suc, ◌+◌, ◌*◌, ◌≤◌, ◌<◌, true, cond, ◌&&◌, inl, inr, List, [], ◌∷◌, ◌++◌, length, filter}
use Rattle.std.proofs.Common.{All, arith, ap, refl, ◌∙◌, sym, append_assoc}
use Rattle.std.specs.Prelude.{◌==◌, nat_lt, nat_le}
use Rattle.std.specs.List.{cons_option}
use Rattle.std.proofs.lemmas.Bool.{cases_Bool, cases_order, or_left, le-leb, lt-ltb, eqb-true, false≢true}
use Rattle.std.proofs.lemmas.List.Elements.{All-tail}
use Rattle.op_ids.specs.Id.{Id, is_below, is_same}
use Rattle.op_model.specs.declared.op.Op.{Op}
use Rattle.op_model.specs.declared.op.Body.{Body}
use Rattle.op_model.specs.declared.op.Body.TheVariants.{Insert, Remove, AddMark, RemoveMark}
use Rattle.op_model.specs.declared.anchor.Anchor.TheVariants.{Before, After}
use Rattle.op_model.specs.declared.anchor.Start.{Start}
use Rattle.op_model.specs.declared.anchor.Start.TheVariants as start
use Rattle.op_model.specs.declared.anchor.End.{End}
use Rattle.op_model.specs.declared.anchor.End.TheVariants as end
use Rattle.op_model.specs.declared.character.Character.{Character}
use Rattle.op_model.specs.declared.mark.MarkKey.{MarkKey}
use Rattle.op_model.specs.declared.marking.Marking.{Marking}
use Rattle.op_model.specs.Characters.{characters}
use Rattle.op_model.specs.Causality.{named_by, named_by_start, named_by_end}
use Rattle.op_model.specs.Walk.{walk}
use Rattle.op_model.specs.Marks.{marking_of, markings, is_key}
use Rattle.op_model.specs.Places.{index_of, start_place, end_place, covers}
use Rattle.op_model.specs.Placing.{has_id, FitInTurn, IsOrderly}
use Rattle.model_laws.proofs.Ids.{same_equal}
use Rattle.model_laws.proofs.Covered.{tests_equal}
use Rattle.model_laws.proofs.WasShown.{walk_has, characters_of_both}

-- these ids are among the characters
abbrev pub AreThere : List Character → List Id → Type 0
AreThere cs [] = Unit {0}
AreThere cs (id ∷ ids) = (has_id cs id ≡ true) × AreThere cs ids

there_apart : (cs : List Character) (ids more : List Id) → AreThere cs (ids ++ more) → AreThere cs ids × AreThere cs more
there_apart cs [] more h = (tt, h)
there_apart cs (id ∷ ids) more h = let p = there_apart cs ids more h.1 in ((h.0, p.0), p.1)

there_as : (cs ds : List Character) → ((id : Id) → has_id cs id ≡ true → has_id ds id ≡ true) → (ids : List Id)
    → AreThere cs ids → AreThere ds ids
there_as cs ds f [] h = tt
there_as cs ds f (id ∷ ids) h = (f id h.0, there_as cs ds f ids h.1)

there_named : (cs : List Character) (low : Id) (ids : List Id) → All (λ id. (has_id cs id ≡ true) × (is_below id low ≡ true)) ids
    → AreThere cs ids
there_named cs low [] h = tt
there_named cs low (id ∷ ids) h =
    ((h 0 id (omega arith)).0, there_named cs low ids (All-tail (λ x. (has_id cs x ≡ true) × (is_below x low ≡ true)) id ids h))

-- the anchors of these mark operations are among the characters
abbrev pub AreAnchored : List Character → List Marking → Type 0
AreAnchored cs [] = Unit {0}
AreAnchored cs (m ∷ ms) = (AreThere cs (named_by_start m.start) × AreThere cs (named_by_end m.end)) × AreAnchored cs ms

anchored_as : (cs ds : List Character) → ((id : Id) → has_id cs id ≡ true → has_id ds id ≡ true) → (ms : List Marking)
    → AreAnchored cs ms → AreAnchored ds ms
anchored_as cs ds f [] h = tt
anchored_as cs ds f (m ∷ ms) h =
    ((there_as cs ds f (named_by_start m.start) h.0.0, there_as cs ds f (named_by_end m.end) h.0.1), anchored_as cs ds f ms h.1)

anchored_with : (cs : List Character) (id : Id) (b : Body) (ms : List Marking) → AreThere cs (named_by b) → AreAnchored cs ms
    → AreAnchored cs (cons_option (marking_of id b) ms)
anchored_with cs id (Insert origin value) ms h k = k
anchored_with cs id (Remove target) ms h k = k
anchored_with cs id (AddMark mark s e) ms h k = (there_apart cs (named_by_start s) (named_by_end e) h, k)
anchored_with cs id (RemoveMark key s e) ms h k = (there_apart cs (named_by_start s) (named_by_end e) h, k)

anchored_in_turn : (before ops : List Op) (doc : ℕ) → FitInTurn before doc ops
    → AreAnchored (characters (before ++ ops) doc) (markings ops doc)
anchored_in_turn before [] doc f = tt
anchored_in_turn before (op ∷ ops) doc f =
    let all : List Character = characters (before ++ op ∷ ops) doc in
    let rest : AreAnchored all (markings ops doc) = rw append_assoc at (anchored_in_turn (before ++ op ∷ []) ops doc f.1) in
    elim (cases_Bool (op.doc == doc)) [
      | inl d ↦ rw d (anchored_with all op.id op.body (markings ops doc)
          (there_as (characters before doc) all (λ id e. characters_of_both before (op ∷ ops) doc id ∙ or_left (has_id (characters before doc) id) (has_id (characters (op ∷ ops) doc) id) e) (named_by op.body)
          (there_named (characters before doc) op.id (named_by op.body) (f.0 (eqb-true op.doc doc d)).names)) rest)
      | inr d ↦ rw d rest
    ]

-- the anchors of the mark operations of an orderly list are in its walk
pub anchored_walk : (ops : List Op) (doc : ℕ) → IsOrderly ops doc → AreAnchored (walk ops doc) (markings ops doc)
anchored_walk ops doc h =
    anchored_as (characters ops doc) (walk ops doc) (λ id e. walk_has ops doc id h ∙ e) (markings ops doc) (anchored_in_turn [] ops doc h)

-- an index tells the id
index_tells : (cs : List Character) (a b : Id) → has_id cs a ≡ true → has_id cs b ≡ true → index_of a cs ≡ index_of b cs → a ≡ b
index_tells [] a b h k e = absurd (false≢true h)
index_tells (c ∷ cs) a b h k e =
    elim (cases_Bool (is_same c.id a)) [
      | inl f ↦ elim (cases_Bool (is_same c.id b)) [
        | inl g ↦ sym (same_equal c.id a f) ∙ same_equal c.id b g
        | inr g ↦ absurd (omega (arith, rw (f, g) at e))
      ]
      | inr f ↦ elim (cases_Bool (is_same c.id b)) [
        | inl g ↦ absurd (omega (arith, rw (f, g) at e))
        | inr g ↦ index_tells cs a b (rw f at h) (rw g at k) (omega (arith, rw (f, g) at e))
      ]
    ]

index_within : (cs : List Character) (id : Id) → has_id cs id ≡ true → index_of id cs < length cs
index_within [] id h = absurd (false≢true h)
index_within (c ∷ cs) id h =
    elim (cases_Bool (is_same c.id id)) [
      | inl e ↦ rw e (omega arith)
      | inr e ↦ rw e (omega (arith, index_within cs id (rw e at h)))
    ]

-- two numbers are in the order of two others
record InOrderOf (x y p q : ℕ) : Type 0 where
  le_to : x ≤ y → p ≤ q
  le_from : p ≤ q → x ≤ y
  lt_to : x < y → p < q
  lt_from : p < q → x < y

in_order_of : (x y p q : ℕ) → (x < y → p < q) → (y < x → q < p) → (x ≡ y → p ≡ q) → InOrderOf x y p q
in_order_of x y p q f g e = elim (cases_order x y) [
  | inl same ↦ let k : p ≡ q = e same in record { le_to = λ h. omega arith; le_from = λ h. omega arith; lt_to = λ h. omega arith; lt_from = λ h. omega arith }
  | inr o ↦ elim o [
    | inl less ↦ let k : p < q = f less in record { le_to = λ h. omega arith; le_from = λ h. omega arith; lt_to = λ h. omega arith; lt_from = λ h. omega arith }
    | inr more ↦ let k : q < p = g more in record { le_to = λ h. omega arith; le_from = λ h. omega arith; lt_to = λ h. omega arith; lt_from = λ h. omega arith }
  ]
]

-- the new walk has the characters of the old one, in their order
module _ (old new : List Character) (there : (id : Id) → has_id old id ≡ true → has_id new id ≡ true)
    (order : (a b : Id) → has_id old a ≡ true → has_id old b ≡ true → index_of a old < index_of b old → index_of a new < index_of b new) where
  ranked : (a b : Id) → has_id old a ≡ true → has_id old b ≡ true
      → InOrderOf (index_of a old) (index_of b old) (index_of a new) (index_of b new)
  ranked a b h k = in_order_of (index_of a old) (index_of b old) (index_of a new) (index_of b new) (order a b h k) (order b a k h)
      (λ e. ap (λ i. index_of i new) (index_tells old a b h k e))

  start_same : (s : Start) (id : Id) → AreThere old (named_by_start s) → has_id old id ≡ true
      → nat_le (start_place old s) (2 * index_of id old + 1) ≡ nat_le (start_place new s) (2 * index_of id new + 1)
  start_same start.OfText id h k = le-leb 0 (2 * index_of id old + 1) (omega arith) ∙ sym (le-leb 0 (2 * index_of id new + 1) (omega arith))
  start_same (start.From (Before a)) id h k =
      let r = ranked a id h.0 k in
      tests_equal (2 * index_of a old + 1) (2 * index_of id old + 1) (2 * index_of a new + 1) (2 * index_of id new + 1)
      (λ l. omega (arith, r.le_to (omega arith))) (λ l. omega (arith, r.le_from (omega arith)))
  start_same (start.From (After a)) id h k =
      let r = ranked a id h.0 k in
      tests_equal (2 * index_of a old + 2) (2 * index_of id old + 1) (2 * index_of a new + 2) (2 * index_of id new + 1)
      (λ l. omega (arith, r.lt_to (omega arith))) (λ l. omega (arith, r.lt_from (omega arith)))

  end_same : (e : End) (id : Id) → AreThere old (named_by_end e) → has_id old id ≡ true
      → nat_lt (2 * index_of id old + 1) (end_place old e) ≡ nat_lt (2 * index_of id new + 1) (end_place new e)
  end_same (end.To (Before b)) id h k =
      let r = ranked id b k h.0 in
      tests_equal (suc (2 * index_of id old + 1)) (2 * index_of b old + 1) (suc (2 * index_of id new + 1)) (2 * index_of b new + 1)
      (λ l. omega (arith, r.lt_to (omega arith))) (λ l. omega (arith, r.lt_from (omega arith)))
  end_same (end.To (After b)) id h k =
      let r = ranked id b k h.0 in
      tests_equal (suc (2 * index_of id old + 1)) (2 * index_of b old + 2) (suc (2 * index_of id new + 1)) (2 * index_of b new + 2)
      (λ l. omega (arith, r.le_to (omega arith))) (λ l. omega (arith, r.le_from (omega arith)))
  end_same end.OfText id h k =
      lt-ltb (2 * index_of id old + 1) (2 * length old + 1) (omega (arith, index_within old id k))
      ∙ sym (lt-ltb (2 * index_of id new + 1) (2 * length new + 1) (omega (arith, index_within new id (there id k))))

  -- a mark operation covers a character as before
  covers_same : (m : Marking) (id : Id) → AreThere old (named_by_start m.start) → AreThere old (named_by_end m.end) → has_id old id ≡ true
      → covers old (index_of id old) m ≡ covers new (index_of id new) m
  covers_same m id h k l =
      ap (λ r. r && nat_lt (2 * index_of id old + 1) (end_place old m.end)) (start_same m.start id h l)
      ∙ ap (λ r. nat_le (start_place new m.start) (2 * index_of id new + 1) && r) (end_same m.end id k l)

  pub passing_same : (k : MarkKey) (id : Id) (ms : List Marking) → AreAnchored old ms → has_id old id ≡ true
      → filter (λ m. is_key m.key k && covers old (index_of id old) m) ms ≡ filter (λ m. is_key m.key k && covers new (index_of id new) m) ms
  passing_same k id [] h l = refl
  passing_same k id (m ∷ ms) h l =
      ap (λ r. cond (is_key m.key k && r) (m ∷ filter (λ n. is_key n.key k && covers old (index_of id old) n) ms) (filter (λ n. is_key n.key k && covers old (index_of id old) n) ms))
      (covers_same m id h.0.0 h.0.1 l)
      ∙ ap (λ xs. cond (is_key m.key k && covers new (index_of id new) m) (m ∷ xs) xs) (passing_same k id ms h.1 l)
