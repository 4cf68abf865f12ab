-- How often an id stands in a list, and that the walk has each insert as often as the list of the inserts.
use Rattle.std.proofs.Common.{◌≡◌, ℕ, ◌+◌, ◌*◌, ◌≤◌, true, cond, inl, inr, List, [], ◌∷◌, ◌++◌, Option, Some, None, arith, refl, append-nil}
use Rattle.std.proofs.lemmas.Bool.{cases_Bool, false≢true}
use Rattle.op_ids.specs.Id.{Id, is_below, is_same}
use Rattle.op_model.specs.declared.character.Character.{Character}
use Rattle.op_model.specs.Walk.{below, is_parent, times}
use Rattle.op_model.specs.Placing.{has_id}
use Rattle.model_laws.proofs.Ids.{above_differs, same_equal}
use Rattle.model_laws.proofs.Put.{AllAbove, AllAbove-chain, IsRising}

pub times-append : (id : Id) (cs ds : List Character) → times id (cs ++ ds) ≡ times id cs + times id ds
times-append id [] ds = omega arith
times-append id (c ∷ cs) ds = omega (arith, times-append id cs ds)

-- an id below all of these isn't among them
pub times_none : (id : Id) (cs : List Character) → AllAbove id cs → times id cs ≡ 0
times_none id [] h = refl
times_none id (c ∷ cs) h = rw (above_differs id c.id h.0) (omega (arith, times_none id cs h.1))

pub times_of_head : (id : Id) (c : Character) (cs : List Character) → AllAbove c.id cs → is_same c.id id ≡ true
    → times id cs ≡ 0
times_of_head id c cs h e = rw (← (same_equal c.id id e)) (times_none c.id cs h)

-- where ids rise each stands at most once
pub rising_once : (id : Id) (cs : List Character) → IsRising cs → times id cs ≤ 1
rising_once id [] h = omega arith
rising_once id (c ∷ cs) h =
    elim (cases_Bool (is_same c.id id)) [
      | inl e ↦ rw e (omega (arith, times_of_head id c cs h.0 e))
      | inr e ↦ rw e (omega (arith, rising_once id cs h.1))
    ]

pub present_once : (id : Id) (cs : List Character) → IsRising cs → has_id cs id ≡ true → times id cs ≡ 1
present_once id [] h k = absurd (false≢true k)
present_once id (c ∷ cs) h k =
    elim (cases_Bool (is_same c.id id)) [
      | inl e ↦ rw e (omega (arith, times_of_head id c cs h.0 e))
      | inr e ↦ rw e (omega (arith, present_once id cs h.1 (rw e at k)))
    ]

-- how many of these parents are the origin
abbrev pub count : List (Option Id) → Option Id → ℕ
count [] origin = 0
count (p ∷ ps) origin = cond (is_parent p origin) 1 0 + count ps origin

-- how often an id stands among those that lie below these parents
abbrev pub total : Id → List (Option Id) → List Character → ℕ
total id [] cs = 0
total id (p ∷ ps) cs = times id (below p cs) + total id ps cs

-- each of these has its origin once among the parents and the characters before it
abbrev pub IsTree : List (Option Id) → List Character → Type 0
IsTree ps [] = Unit {0}
IsTree ps (c ∷ cs) = (count ps c.origin ≡ 1) × IsTree (Some c.id ∷ ps) cs

pub total_more : (id : Id) (ps : List (Option Id)) (c : Character) (cs : List Character)
    → total id ps (c ∷ cs) ≡ total id ps cs + count ps c.origin * times id (c ∷ below (Some c.id) cs)
total_more id [] c cs = omega arith
total_more id (p ∷ ps) c cs =
    elim (cases_Bool (is_parent p c.origin)) [
      | inl e ↦ rw (e, times-append, total_more id ps c cs) (one_more (times id (below p cs)) (total id ps cs) (count ps c.origin) (times id (c ∷ below (Some c.id) cs)))
      | inr e ↦ rw (e, append-nil, total_more id ps c cs) (omega arith)
    ]
  where
    one_more : (a b k t : ℕ) → (a + t) + (b + k * t) ≡ (a + b) + (1 + k) * t
    one_more a b k t = omega arith

pub total_none : (id : Id) (ps : List (Option Id)) → total id ps [] ≡ 0
total_none id [] = refl
total_none id (p ∷ ps) = omega (arith, total_none id ps)

pub total_all : (id : Id) (ps : List (Option Id)) (cs : List Character) → IsTree ps cs → total id ps cs ≡ times id cs
total_all id ps [] t = total_none id ps
total_all id ps (c ∷ cs) t = rw (total_more id ps c cs, t.0) (omega (arith, total_all id (Some c.id ∷ ps) cs t.1))

-- an origin, if there is one, is among these characters, and has a smaller id
abbrev pub IsAmong : List Character → Id → Option Id → Type 0
IsAmong all id None = Unit {0}
IsAmong all id (Some origin) = (has_id all origin ≡ true) × (is_below origin id ≡ true)

-- the origins of these are among all of them, with smaller ids
abbrev pub AreGrounded : List Character → List Character → Type 0
AreGrounded all [] = Unit {0}
AreGrounded all (c ∷ cs) = IsAmong all c.id c.origin × AreGrounded all cs

one_parent : (ps : List (Option Id)) (all : List Character) (c : Character) (cs : List Character) (origin : Option Id)
    → IsAmong all c.id origin → AllAbove c.id cs
    → ((id : Id) → has_id all id ≡ true → count ps (Some id) + times id (c ∷ cs) ≡ 1) → count ps None ≡ 1
    → count ps origin ≡ 1
one_parent ps all c cs None g h k e = e
one_parent ps all c cs (Some o) g h k e =
    let z : times o (c ∷ cs) ≡ 0 = times_none o (c ∷ cs) (g.1, AllAbove-chain o c.id cs g.1 h) in
    let s : count ps (Some o) + times o (c ∷ cs) ≡ 1 = k o g.0 in
    omega arith

IsTree-from : (ps : List (Option Id)) (all cs : List Character) → IsRising cs → AreGrounded all cs
    → ((id : Id) → has_id all id ≡ true → count ps (Some id) + times id cs ≡ 1) → count ps None ≡ 1 → IsTree ps cs
IsTree-from ps all [] h g k e = tt
IsTree-from ps all (c ∷ cs) h g k e = (
  one_parent ps all c cs c.origin g.0 h.0 k e,
  IsTree-from (Some c.id ∷ ps) all cs h.1 g.1 (λ id q. omega (arith, k id q)) (omega (arith, e)),
)

-- the walk has each insert as often as the list of the inserts
pub below_has_all : (id : Id) (cs : List Character) → IsRising cs → AreGrounded cs cs
    → times id (below None cs) ≡ times id cs
below_has_all id cs h g =
    let t : IsTree (None ∷ []) cs = IsTree-from (None ∷ []) cs cs h g (λ o q. omega (arith, present_once o cs h q)) refl in
    omega (arith, total_all id (None ∷ []) cs t)
