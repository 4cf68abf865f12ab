-- Where places that last stand.
use Rattle.std.proofs.Common.{◌≡◌, inl, inr, ℕ, zero, suc, ◌+◌, ◌≤◌, ◌<◌, Bool, true, false, not, List, [], ◌∷◌, length, take, filter}
use Rattle.std.proofs.Common.{Some, None, refl, sym, ◌∙◌, ap, arith, add-one}
use Rattle.std.proofs.Math.Seq.{take-length}
use Rattle.std.proofs.lemmas.Bool.{cases_Bool, cases_lt, false≢true}
use Rattle.op_ids.specs.Id.{Id, is_same}
use Rattle.op_model.specs.declared.op.Op.{Op}
use Rattle.op_model.specs.declared.character.Character.{Character}
use Rattle.op_model.specs.declared.anchor.Anchor.TheVariants.{Before, After}
use Rattle.op_model.specs.declared.lasting.Lasting.TheVariants.{Beside, EndOfText}
use Rattle.op_model.specs.declared.lasting.Neighbour.{Neighbour}
use Rattle.op_model.specs.declared.lasting.Neighbour.TheVariants.{Previous, Next}
use Rattle.op_model.specs.Lasting.{at_of, beside_next, beside_previous, place_of}
use Rattle.op_model.specs.Made.{id_at}
use Rattle.op_model.specs.Places.{index_of}
use Rattle.op_model.specs.Placing.{has_id, IsOrderly}
use Rattle.op_model.specs.Text.{is_removed, visible}
use Rattle.op_model.specs.Walk.{times, walk}
use Rattle.model_laws.proofs.Family.{orderly_once}
use Rattle.model_laws.proofs.Ids.{equal_same}
use Rattle.model_laws.proofs.Member.{present_counted}

-- the i-th of some characters is there, and so many of them stand before it and up to it
record Stands (p : Character → Bool) (cs : List Character) (id : Id) (i : ℕ) : Type 0 where
  there : has_id cs id ≡ true
  ahead : length (filter p (take (index_of id cs) cs)) ≡ i
  up_to : length (filter p (take (index_of id cs + 1) cs)) ≡ i + 1

stands : (p : Character → Bool) (cs : List Character) (id : Id) (i : ℕ) → times id cs ≤ 1 → id_at (filter p cs) i ≡ Some id → Stands p cs id i
stands p [] id i once is = absurd (cc)
stands p (c ∷ cs) id i once is =
    let few : times id cs ≤ 1 = omega arith in
    let others : (j : ℕ) → id_at (filter p cs) j ≡ Some id → Stands p cs id j = λ j found. stands p cs id j few found in
    elim (cases_Bool (is_same c.id id)) [
      | inl same ↦ elim (cases_Bool (p c)) [
        | inl shown ↦ first others i same shown (rw shown at is)
        | inr gone ↦ absurd (twice others i same (rw gone at is))
      ]
      | inr other ↦ elim (cases_Bool (p c)) [
        | inl shown ↦ next others i other shown (rw shown at is)
        | inr gone ↦
            let rest = others i (rw gone at is) in
            record {
              there = rw other rest.there;
              ahead = rw (other, add-one (index_of id cs), gone) rest.ahead;
              up_to = rw (other, add-one (index_of id cs + 1), gone) rest.up_to;
            }
      ]
    ]
  where
    twice : ((k : ℕ) → id_at (filter p cs) k ≡ Some id → Stands p cs id k) → (j : ℕ) → is_same c.id id ≡ true → id_at (filter p cs) j ≡ Some id → ⊥
    twice others j same found =
        let one = present_counted cs id (others j found).there in
        omega (arith, rw same at once)

    first : ((k : ℕ) → id_at (filter p cs) k ≡ Some id → Stands p cs id k) → (j : ℕ) → is_same c.id id ≡ true → p c ≡ true
        → id_at (c ∷ filter p cs) j ≡ Some id → Stands p (c ∷ cs) id j
    first others zero same shown found = record {
      there = rw same refl;
      ahead = rw same refl;
      up_to = rw (same, shown) refl;
    }
    first others (suc j) same shown found = absurd (twice others j same found)

    next : ((k : ℕ) → id_at (filter p cs) k ≡ Some id → Stands p cs id k) → (j : ℕ) → is_same c.id id ≡ false → p c ≡ true
        → id_at (c ∷ filter p cs) j ≡ Some id → Stands p (c ∷ cs) id j
    next others zero other shown found =
        let here : c.id ≡ id = cc in
        absurd (false≢true (sym other ∙ equal_same c.id id here))
    next others (suc j) other shown found =
        let rest = others j found in
        let ahead = rest.ahead in
        let up_to = rest.up_to in
        record {
          there = rw other rest.there;
          ahead = rw (other, add-one (index_of id cs), shown) (omega arith);
          up_to = rw (other, add-one (index_of id cs + 1), shown) (omega arith);
        }

stands_visible : (ops : List Op) (doc i : ℕ) (id : Id) → IsOrderly ops doc → id_at (visible ops doc) i ≡ Some id
    → Stands (λ c. not (is_removed ops doc c)) (walk ops doc) id i
stands_visible ops doc i id orderly is = stands (λ c. not (is_removed ops doc c)) (walk ops doc) id i (orderly_once ops doc id orderly) is

-- just before a visible character
pub at_before : (ops : List Op) (doc i : ℕ) (id : Id) → IsOrderly ops doc → id_at (visible ops doc) i ≡ Some id
    → at_of ops doc (Beside (Before id)) ≡ Some i
at_before ops doc i id orderly is = let it = stands_visible ops doc i id orderly is in rw it.there (ap Some it.ahead)

-- just after it
pub at_after : (ops : List Op) (doc i : ℕ) (id : Id) → IsOrderly ops doc → id_at (visible ops doc) i ≡ Some id
    → at_of ops doc (Beside (After id)) ≡ Some (i + 1)
at_after ops doc i id orderly is = let it = stands_visible ops doc i id orderly is in rw it.there (ap Some it.up_to)

-- below the length there is an id, at the length there is none
pub id_there : (cs : List Character) (i : ℕ) → i < length cs → (id : Id) × (id_at cs i ≡ Some id)
id_there [] i less = absurd (omega arith)
id_there (c ∷ cs) zero less = (c.id, refl)
id_there (c ∷ cs) (suc i) less = id_there cs i (omega arith)

pub id_end : (cs : List Character) → id_at cs (length cs) ≡ None
id_end [] = refl
id_end (c ∷ cs) = id_end cs

-- the end of the text
pub at_end : (ops : List Op) (doc : ℕ) → at_of ops doc EndOfText ≡ Some (length (visible ops doc))
at_end ops doc = ap (λ cs. Some (length (filter (λ c. not (is_removed ops doc c)) cs))) (take-length (walk ops doc))

-- a place stands where it was made
pub at_made : (ops : List Op) (doc at : ℕ) (side : Neighbour) → IsOrderly ops doc → at ≤ length (visible ops doc)
    → at_of ops doc (place_of ops doc at side) ≡ Some at
at_made ops doc zero Previous orderly within = refl
at_made ops doc (suc i) Previous orderly within =
    let (id, is) = id_there (visible ops doc) i (omega arith) in
    let up : i + 1 ≡ suc i = omega arith in
    ap (λ o. at_of ops doc (beside_previous o)) is ∙ at_after ops doc i id orderly is ∙ ap Some up
at_made ops doc at Next orderly within = elim (cases_lt at (length (visible ops doc))) [
  | inl less ↦
      let (id, is) = id_there (visible ops doc) at less in
      ap (λ o. at_of ops doc (beside_next o)) is ∙ at_before ops doc at id orderly is
  | inr past ↦
      let end : at ≡ length (visible ops doc) = omega arith in
      ap (λ o. at_of ops doc (beside_next o)) (ap (id_at (visible ops doc)) end ∙ id_end (visible ops doc))
      ∙ at_end ops doc ∙ ap Some (sym end)
]
