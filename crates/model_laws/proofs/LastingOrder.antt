-- Places that last stay there, in their order.
use Rattle.std.proofs.Common.{◌≡◌, inl, inr, ℕ, zero, suc, ◌+◌, ◌*◌, ◌≤◌, ◌<◌, Bool, true, false, not, List, [], ◌∷◌, ◌++◌, length, take, filter}
use Rattle.std.proofs.Common.{Some, None, refl, sym, ◌∙◌, ap, arith}
use Rattle.std.specs.Prelude.{◌↔◌, if◌then◌else◌}
use Rattle.std.proofs.lemmas.Bool.{cases_Bool, cases_lt, false≢true}
use Rattle.op_ids.specs.Id.{Id, is_same}
use Rattle.op_model.specs.declared.op.Op.{Op}
use Rattle.op_model.specs.declared.character.Character.{Character}
use Rattle.op_model.specs.declared.anchor.Anchor.{Anchor}
use Rattle.op_model.specs.declared.anchor.Anchor.TheVariants.{Before, After}
use Rattle.op_model.specs.declared.lasting.Lasting.{Lasting}
use Rattle.op_model.specs.declared.lasting.Lasting.TheVariants.{StartOfText, Beside, EndOfText}
use Rattle.op_model.specs.Lasting.{at_of, has_character, is_there, number_of, reach, seen_of}
use Rattle.op_model.specs.Places.{index_of, place}
use Rattle.op_model.specs.Placing.{has_id, IsOrderly}
use Rattle.op_model.specs.Text.{is_removed}
use Rattle.op_model.specs.Walk.{walk}
use Rattle.model_laws.proofs.Ids.{same_equal}
use Rattle.model_laws.proofs.LaterWalk.{order_kept, still_there}

anchor_stays : (before more : List Op) (doc : ℕ) (anchor : Anchor) → IsOrderly (before ++ more) doc
    → has_character (walk before doc) anchor ≡ true → has_character (walk (before ++ more) doc) anchor ≡ true
anchor_stays before more doc (Before id) orderly there = still_there before more doc id orderly there
anchor_stays before more doc (After id) orderly there = still_there before more doc id orderly there

pub place_stays : (before more : List Op) (doc : ℕ) (p : Lasting) → IsOrderly (before ++ more) doc
    → is_there (walk before doc) p ≡ true → is_there (walk (before ++ more) doc) p ≡ true
place_stays before more doc StartOfText orderly there = refl
place_stays before more doc (Beside anchor) orderly there = anchor_stays before more doc anchor orderly there
place_stays before more doc EndOfText orderly there = refl

-- two numbers are in the order of two others
record Kept (m n now_m now_n : ℕ) : Type 0 where
  up : m < n → now_m < now_n
  same : m ≡ n → now_m ≡ now_n
  down : n < m → now_n < now_m

-- a character that is there stands before the end
index_within : (cs : List Character) (id : Id) → has_id cs id ≡ true → index_of id cs < length cs
index_within [] id there = absurd (false≢true there)
index_within (c ∷ cs) id there = elim (cases_Bool (is_same c.id id)) [
  | inl same ↦ rw same (omega arith)
  | inr other ↦ let rest = index_within cs id (rw other at there) in rw other (omega arith)
]

-- two ids at one index are one
index_once : (cs : List Character) (a b : Id) → has_id cs a ≡ true → index_of a cs ≡ index_of b cs → a ≡ b
index_once [] a b there same = absurd (false≢true there)
index_once (c ∷ cs) a b there same = elim (cases_Bool (is_same c.id a)) [
  | inl is_a ↦ elim (cases_Bool (is_same c.id b)) [
    | inl is_b ↦ sym (same_equal c.id a is_a) ∙ same_equal c.id b is_b
    | inr not_b ↦ absurd (omega (arith, rw (is_a, not_b) at same))
  ]
  | inr not_a ↦ elim (cases_Bool (is_same c.id b)) [
    | inl is_b ↦ absurd (omega (arith, rw (not_a, is_b) at same))
    | inr not_b ↦ index_once cs a b (rw not_a at there) (omega (arith, rw (not_a, not_b) at same))
  ]
]

-- the indices of two characters keep their order
indices_kept : (before more : List Op) (doc : ℕ) (a b : Id) → IsOrderly (before ++ more) doc
    → has_id (walk before doc) a ≡ true → has_id (walk before doc) b ≡ true
    → Kept (index_of a (walk before doc)) (index_of b (walk before doc))
    (index_of a (walk (before ++ more) doc)) (index_of b (walk (before ++ more) doc))
indices_kept before more doc a b orderly has_a has_b = record {
  up = order_kept before more doc a b orderly has_a has_b;
  same = λ same. ap (λ id. index_of id (walk (before ++ more) doc)) (index_once (walk before doc) a b has_a same);
  down = order_kept before more doc b a orderly has_b has_a;
}

-- so do the numbers of two anchors
anchors_kept : (before more : List Op) (doc : ℕ) (a b : Anchor) → IsOrderly (before ++ more) doc
    → has_character (walk before doc) a ≡ true → has_character (walk before doc) b ≡ true
    → Kept (place (walk before doc) a) (place (walk before doc) b) (place (walk (before ++ more) doc) a) (place (walk (before ++ more) doc) b)
anchors_kept before more doc (Before a) (Before b) orderly has_a has_b =
    let k = indices_kept before more doc a b orderly has_a has_b in
    let up = k.up in
    let same = k.same in
    let down = k.down in
    record { up = λ h. omega arith; same = λ h. omega arith; down = λ h. omega arith }
anchors_kept before more doc (Before a) (After b) orderly has_a has_b =
    let k = indices_kept before more doc a b orderly has_a has_b in
    let up = k.up in
    let same = k.same in
    let down = k.down in
    record {
      up = λ h. elim (cases_lt (index_of a (walk before doc)) (index_of b (walk before doc))) [
        | inl less ↦ let now = up less in omega arith
        | inr least ↦ let now = same (omega arith) in omega arith
      ];
      same = λ h. omega arith;
      down = λ h. omega arith;
    }
anchors_kept before more doc (After a) (Before b) orderly has_a has_b =
    let k = indices_kept before more doc a b orderly has_a has_b in
    let up = k.up in
    let same = k.same in
    let down = k.down in
    record {
      up = λ h. omega arith;
      same = λ h. omega arith;
      down = λ h. elim (cases_lt (index_of b (walk before doc)) (index_of a (walk before doc))) [
        | inl less ↦ let now = down less in omega arith
        | inr least ↦ let now = same (omega arith) in omega arith
      ];
    }
anchors_kept before more doc (After a) (After b) orderly has_a has_b =
    let k = indices_kept before more doc a b orderly has_a has_b in
    let up = k.up in
    let same = k.same in
    let down = k.down in
    record { up = λ h. omega arith; same = λ h. omega arith; down = λ h. omega arith }

-- an anchor stands between the start and the end of the text
anchor_within : (cs : List Character) (anchor : Anchor) → has_character cs anchor ≡ true → (0 < place cs anchor) × (place cs anchor < 2 * length cs + 1)
anchor_within cs (Before id) there = let within = index_within cs id there in (omega arith, omega arith)
anchor_within cs (After id) there = let within = index_within cs id there in (omega arith, omega arith)

-- so do the numbers of two places
numbers_kept : (before more : List Op) (doc : ℕ) (p q : Lasting) → IsOrderly (before ++ more) doc
    → is_there (walk before doc) p ≡ true → is_there (walk before doc) q ≡ true
    → Kept (number_of (walk before doc) p) (number_of (walk before doc) q)
    (number_of (walk (before ++ more) doc) p) (number_of (walk (before ++ more) doc) q)
numbers_kept before more doc StartOfText StartOfText orderly has_p has_q =
    record { up = λ h. omega arith; same = λ h. omega arith; down = λ h. omega arith }
numbers_kept before more doc StartOfText (Beside b) orderly has_p has_q =
    let old = anchor_within (walk before doc) b has_q in
    let new = anchor_within (walk (before ++ more) doc) b (anchor_stays before more doc b orderly has_q) in
    record { up = λ h. omega arith; same = λ h. omega arith; down = λ h. omega arith }
numbers_kept before more doc StartOfText EndOfText orderly has_p has_q =
    record { up = λ h. omega arith; same = λ h. omega arith; down = λ h. omega arith }
numbers_kept before more doc (Beside a) StartOfText orderly has_p has_q =
    let old = anchor_within (walk before doc) a has_p in
    let new = anchor_within (walk (before ++ more) doc) a (anchor_stays before more doc a orderly has_p) in
    record { up = λ h. omega arith; same = λ h. omega arith; down = λ h. omega arith }
numbers_kept before more doc (Beside a) (Beside b) orderly has_p has_q = anchors_kept before more doc a b orderly has_p has_q
numbers_kept before more doc (Beside a) EndOfText orderly has_p has_q =
    let old = anchor_within (walk before doc) a has_p in
    let new = anchor_within (walk (before ++ more) doc) a (anchor_stays before more doc a orderly has_p) in
    record { up = λ h. omega arith; same = λ h. omega arith; down = λ h. omega arith }
numbers_kept before more doc EndOfText StartOfText orderly has_p has_q =
    record { up = λ h. omega arith; same = λ h. omega arith; down = λ h. omega arith }
numbers_kept before more doc EndOfText (Beside b) orderly has_p has_q =
    let old = anchor_within (walk before doc) b has_q in
    let new = anchor_within (walk (before ++ more) doc) b (anchor_stays before more doc b orderly has_q) in
    record { up = λ h. omega arith; same = λ h. omega arith; down = λ h. omega arith }
numbers_kept before more doc EndOfText EndOfText orderly has_p has_q =
    record { up = λ h. omega arith; same = λ h. refl; down = λ h. omega arith }

-- two places that are there keep their order
pub order_stays : (before more : List Op) (doc : ℕ) (p q : Lasting) → IsOrderly (before ++ more) doc
    → is_there (walk before doc) p ≡ true → is_there (walk before doc) q ≡ true
    → (number_of (walk before doc) p ≤ number_of (walk before doc) q)
    ↔ (number_of (walk (before ++ more) doc) p ≤ number_of (walk (before ++ more) doc) q)
order_stays before more doc p q orderly has_p has_q =
    let k = numbers_kept before more doc p q orderly has_p has_q in
    both _ _ _ _ k.up k.same k.down
  where
    both : (m n new_m new_n : ℕ) → (m < n → new_m < new_n) → (m ≡ n → new_m ≡ new_n) → (n < m → new_n < new_m) → (m ≤ n) ↔ (new_m ≤ new_n)
    both m n new_m new_n up same down = (
      λ h. elim (cases_lt m n) [ inl less ↦ let l = up less in omega arith | inr least ↦ let e = same (omega arith) in omega arith ],
      λ h. elim (cases_lt n m) [ inl more ↦ let l = down more in absurd (omega arith) | inr most ↦ most ],
    )

-- a place's number tells how many characters stand before it
half : (cs : List Character) (p : Lasting) → (2 * reach cs p ≤ number_of cs p) × (number_of cs p ≤ 2 * reach cs p + 1)
half cs StartOfText = (omega arith, omega arith)
half cs (Beside (Before id)) = (omega arith, omega arith)
half cs (Beside (After id)) = (omega arith, omega arith)
half cs EndOfText = (omega arith, omega arith)

-- of more characters no fewer are seen
seen_more : (p : Character → Bool) (cs : List Character) (m n : ℕ) → m ≤ n → length (filter p (take m cs)) ≤ length (filter p (take n cs))
seen_more p cs zero n less = omega arith
seen_more p cs (suc m) zero less = absurd (omega arith)
seen_more p [] (suc m) (suc n) less = omega arith
seen_more p (c ∷ cs) (suc m) (suc n) less =
    let rest = seen_more p cs m n (omega arith) in
    elim (cases_Bool (p c)) [ inl shown ↦ rw shown (omega arith) | inr gone ↦ rw gone rest ]

-- what is found is there
is_found : (there : Bool) (n i : ℕ) → (if there then Some n else None) ≡ Some i → n ≡ i
is_found true n i is = cc
is_found false n i is = absurd (cc)

-- and so do the numbers of visible characters before them
pub places_rise : (ops : List Op) (doc i j : ℕ) (p q : Lasting) → number_of (walk ops doc) p ≤ number_of (walk ops doc) q
    → at_of ops doc p ≡ Some i → at_of ops doc q ≡ Some j → i ≤ j
places_rise ops doc i j p q less at_p at_q =
    let first = half (walk ops doc) p in
    let second = half (walk ops doc) q in
    let within : reach (walk ops doc) p ≤ reach (walk ops doc) q = omega arith in
    let more = seen_more (λ c. not (is_removed ops doc c)) (walk ops doc) (reach (walk ops doc) p) (reach (walk ops doc) q) within in
    let is_p = is_found (is_there (walk ops doc) p) (seen_of ops doc (reach (walk ops doc) p)) i at_p in
    let is_q = is_found (is_there (walk ops doc) q) (seen_of ops doc (reach (walk ops doc) q)) j at_q in
    omega arith
