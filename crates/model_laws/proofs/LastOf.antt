-- The last operation of which something is so.
use Rattle.std.proofs.Common.{◌≡◌, ℕ, zero, suc, ◌+◌, ◌<◌, Bool, true, false, ◌&&◌, inl}
use Rattle.std.proofs.Common.{inr, List, [], ◌∷◌, ◌++◌, length, get_or, take, drop, Option, Some, None}
use Rattle.std.proofs.Common.{arith, ap, refl, sym, ◌∙◌, append_assoc}
use Rattle.std.specs.Prelude.{◌==◌}
use Rattle.std.proofs.lemmas.Bool.{cases_Bool}
use Rattle.op_ids.specs.Clock.{advanced}
use Rattle.op_model.specs.declared.op.Op.{Op}
use Rattle.op_model.specs.declared.op.Body.{Body}
use Rattle.op_model.specs.Made.{numbered}
use Rattle.op_model.specs.Tokens.{or_here, last_of, is_token, carries}

-- one behind the list of which it is so
pub last_of-here : (is : Op → Bool) (ops : List Op) (op : Op) → is op ≡ true → last_of is (ops ++ op ∷ []) ≡ Some (ops, op)
last_of-here is [] op h = rw h refl
last_of-here is (x ∷ xs) op h = ap (or_here (is x) x) (last_of-here is xs op h)

-- those behind the list of which it isn't so leave what was found
pub last_of-behind : (is : Op → Bool) (ops more : List Op) → last_of is more ≡ None → last_of is (ops ++ more) ≡ last_of is ops
last_of-behind is [] more none = none
last_of-behind is (x ∷ xs) more none = ap (or_here (is x) x) (last_of-behind is xs more none)

none_here : (here : Bool) (x : Op) (found : Option (List Op × Op)) → or_here here x found ≡ None → (here ≡ false) × (found ≡ None)
none_here true x None e = absurd (cc)
none_here false x None e = (refl, refl)
none_here here x (Some p) e = absurd (cc)

-- a front of a list has none where the list has none
pub last_of-none : (is : Op → Bool) (n : ℕ) (ops : List Op) → last_of is ops ≡ None → last_of is (take n ops) ≡ None
last_of-none is zero ops none = refl
last_of-none is (suc n) [] none = refl
last_of-none is (suc n) (x ∷ xs) none =
    let (not_here, rest) = none_here (is x) x (last_of is xs) none in rw not_here (rw (last_of-none is n xs rest) refl)

-- what is found lies in the list
within_among : (is : Op → Bool) (x : Op) (xs : List Op) (p : List Op × Op) (here : Bool) (rest : Option (List Op × Op)) → last_of is xs ≡ rest
    → ((q : List Op × Op) → last_of is xs ≡ Some q → length q.0 < length xs) → or_here here x rest ≡ Some p → length p.0 < suc (length xs)
within_among is x xs p here (Some q) e shorter f =
    let less = shorter q e in let same : (x ∷ q.0, q.1) ≡ p = cc in rw (← same) (omega arith)
within_among is x xs p true None e shorter f = let same : ([], x) ≡ p = cc in rw (← same) (omega arith)
within_among is x xs p false None e shorter f = absurd (cc)

pub last_of-within : (is : Op → Bool) (ops : List Op) (p : List Op × Op) → last_of is ops ≡ Some p → length p.0 < length ops
last_of-within is [] p found = absurd (cc)
last_of-within is (x ∷ xs) p found = within_among is x xs p (is x) (last_of is xs) refl (λ q e. last_of-within is xs q e) found

-- a front that has it finds it
take_among : (is : Op → Bool) (n : ℕ) (x : Op) (xs : List Op) (p : List Op × Op) (here : Bool) (rest : Option (List Op × Op)) → last_of is xs ≡ rest
    → ((q : List Op × Op) → last_of is xs ≡ Some q → length q.0 < n → last_of is (take n xs) ≡ Some q) → or_here here x rest ≡ Some p
    → length p.0 < suc n → or_here here x (last_of is (take n xs)) ≡ Some p
take_among is n x xs p here (Some q) e front f l =
    let same : (x ∷ q.0, q.1) ≡ p = cc in
    let shorter : suc (length q.0) ≡ length p.0 = ap (λ (found : List Op × Op). length found.0) same in
    rw (front q e (omega arith)) f
take_among is n x xs p here None e front f l = rw (last_of-none is n xs e) f

pub last_of-take : (is : Op → Bool) (n : ℕ) (ops : List Op) (p : List Op × Op) → last_of is ops ≡ Some p → length p.0 < n
    → last_of is (take n ops) ≡ Some p
last_of-take is zero ops p found l = absurd (omega arith)
last_of-take is (suc n) [] p found l = absurd (cc)
last_of-take is (suc n) (x ∷ xs) p found l = take_among is n x xs p (is x) (last_of is xs) refl (λ q e k. last_of-take is n xs q e k) found l

-- it is the one at an index of which it is so, where it isn't so of those behind
pub last_of-at : (is : Op → Bool) (i : ℕ) (ops : List Op) (d : Op) → i < length ops → is (get_or ops i d) ≡ true → last_of is (drop (suc i) ops) ≡ None
    → last_of is ops ≡ Some (take i ops, get_or ops i d)
last_of-at is i [] d l here none = absurd (omega arith)
last_of-at is zero (x ∷ xs) d l here none = rw (none, here) refl
last_of-at is (suc i) (x ∷ xs) d l here none = ap (or_here (is x) x) (last_of-at is i xs d (omega arith) here none)

-- an edit's operations carry its token and no other
no_token : (own : Bool) (is : Bool) → is ≡ false → (own && is) ≡ false
no_token own is e = elim (cases_Bool own) [ inl h ↦ rw h e | inr h ↦ rw h refl ]

pub numbered_other : (replica token maker doc : ℕ) (other : Option ℕ) (counter : ℕ) (clock : List (ℕ × ℕ)) (bs : List Body)
    → is_token token other ≡ false → last_of (carries replica token) (numbered maker doc other counter clock bs) ≡ None
numbered_other replica token maker doc other counter clock [] e = refl
numbered_other replica token maker doc other counter clock (b ∷ bs) e =
    rw (numbered_other replica token maker doc other (counter + 1) (advanced clock maker) bs e)
    (rw (no_token (maker == replica) (is_token token other) e) refl)
