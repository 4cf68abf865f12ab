-- Being among operations, in the bag and among the machines.
use Rattle.std.proofs.Common.{◌≡◌, ℕ, zero, suc, ◌≤◌, Bool, true, ◌⊎◌, inl, inr, List, [], ◌∷◌, ◌++◌, take, filter, arith, ap, refl, ◌∙◌, sym}
use Rattle.std.specs.List.{list_all}
use Rattle.std.proofs.lemmas.Bool.{cases_Bool, and_parts}
use Rattle.op_model.specs.declared.op.Op.{Op}
use Rattle.op_model.specs.Causality.{HasOp}
use Rattle.op_model.specs.Machine.{State}
use Rattle.world_law.specs.World.{Message, operations_told, clock_told, HasMachine, IsInBag, IsNoneOf, AreApart, numbers_of}

pub HasOp-cases : (a b : List Op) (op : Op) → HasOp (a ++ b) op → HasOp a op ⊎ HasOp b op
HasOp-cases [] b op h = inr h
HasOp-cases (x ∷ a) b op (inl e) = inl (inl e)
HasOp-cases (x ∷ a) b op (inr h) = elim (HasOp-cases a b op h) [ inl k ↦ inl (inr k) | inr k ↦ inr k ]

pub HasOp-left : (a b : List Op) (op : Op) → HasOp a op → HasOp (a ++ b) op
HasOp-left [] b op h = absurd h
HasOp-left (x ∷ a) b op (inl e) = inl e
HasOp-left (x ∷ a) b op (inr h) = inr (HasOp-left a b op h)

-- a front of a list has only what the list has
pub HasOp-take : (n : ℕ) (ops : List Op) (op : Op) → HasOp (take n ops) op → HasOp ops op
HasOp-take zero ops op h = absurd h
HasOp-take (suc n) [] op h = h
HasOp-take (suc n) (x ∷ ops) op (inl e) = inl e
HasOp-take (suc n) (x ∷ ops) op (inr h) = inr (HasOp-take n ops op h)

-- a longer front has all of a shorter one
pub HasOp-take_more : (m n : ℕ) (ops : List Op) (op : Op) → m ≤ n → HasOp (take m ops) op → HasOp (take n ops) op
HasOp-take_more zero n ops op l h = absurd h
HasOp-take_more (suc m) zero ops op l h = absurd (omega arith)
HasOp-take_more (suc m) (suc n) [] op l h = h
HasOp-take_more (suc m) (suc n) (x ∷ ops) op l (inl e) = inl e
HasOp-take_more (suc m) (suc n) (x ∷ ops) op l (inr h) = inr (HasOp-take_more m n ops op (omega arith) h)

pub HasOp-filter : (p : Op → Bool) (ops : List Op) (op : Op) → HasOp (filter p ops) op → HasOp ops op
HasOp-filter p [] op h = h
HasOp-filter p (x ∷ ops) op h =
    elim (cases_Bool (p x)) [
      | inl g ↦ elim (rw g at h) [ inl e ↦ inl e | inr k ↦ inr (HasOp-filter p ops op k) ]
      | inr g ↦ inr (HasOp-filter p ops op (rw g at h))
    ]

-- what passes for all passes for one of them
pub all_at : (p : Op → Bool) (ops : List Op) (op : Op) → list_all p ops ≡ true → HasOp ops op → p op ≡ true
all_at p [] op e h = absurd h
all_at p (x ∷ ops) op e (inl f) = ap p (sym f) ∙ (and_parts (p x) (list_all p ops) e).0
all_at p (x ∷ ops) op e (inr h) = all_at p ops op (and_parts (p x) (list_all p ops) e).1 h

pub IsInBag-cases : (new bag : List Message) (op : Op) → IsInBag (new ++ bag) op → IsInBag new op ⊎ IsInBag bag op
IsInBag-cases [] bag op h = inr h
IsInBag-cases (operations_told ops ∷ new) bag op (inl h) = inl (inl h)
IsInBag-cases (operations_told ops ∷ new) bag op (inr h) = elim (IsInBag-cases new bag op h) [ inl k ↦ inl (inr k) | inr k ↦ inr k ]
IsInBag-cases (clock_told c ∷ new) bag op h = IsInBag-cases new bag op h

-- what is told later takes nothing out of the bag
pub IsInBag-more : (new bag : List Message) (op : Op) → IsInBag bag op → IsInBag (new ++ bag) op
IsInBag-more [] bag op h = h
IsInBag-more (operations_told ops ∷ new) bag op h = inr (IsInBag-more new bag op h)
IsInBag-more (clock_told c ∷ new) bag op h = IsInBag-more new bag op h

-- among machines one of which changed
pub HasMachine-cases : (front rest : List State) (m x : State) → HasMachine (front ++ m ∷ rest) x
    → (m ≡ x) ⊎ ((n : State) → HasMachine (front ++ n ∷ rest) x)
HasMachine-cases [] rest m x (inl e) = inl e
HasMachine-cases [] rest m x (inr h) = inr (λ n. inr h)
HasMachine-cases (y ∷ front) rest m x (inl e) = inr (λ n. inl e)
HasMachine-cases (y ∷ front) rest m x (inr h) = elim (HasMachine-cases front rest m x h) [ inl e ↦ inl e | inr k ↦ inr (λ n. inr (k n)) ]

pub HasMachine-at : (front rest : List State) (m : State) → HasMachine (front ++ m ∷ rest) m
HasMachine-at [] rest m = inl refl
HasMachine-at (y ∷ front) rest m = inr (HasMachine-at front rest m)

-- a change of state that keeps the number changes no number
pub numbers_stay : (front rest : List State) (old next : State) → next.held.replica ≡ old.held.replica
    → numbers_of (front ++ next ∷ rest) ≡ numbers_of (front ++ old ∷ rest)
numbers_stay [] rest old next same = ap (λ n. n ∷ numbers_of rest) same
numbers_stay (y ∷ front) rest old next same = ap (λ ns. y.held.replica ∷ ns) (numbers_stay front rest old next same)

none_of : (machines : List State) (m : State) (number : ℕ) → IsNoneOf (numbers_of machines) number → HasMachine machines m
    → m.held.replica ≡ number → ⊥
none_of [] m number none h e = absurd h
none_of (x ∷ xs) m number none (inl f) e = none.0 (ap (λ y. y.held.replica) f ∙ e)
none_of (x ∷ xs) m number none (inr h) e = none_of xs m number none.1 h e

-- a number has one machine
pub one_machine : (machines : List State) (a b : State) → AreApart (numbers_of machines) → HasMachine machines a → HasMachine machines b
    → a.held.replica ≡ b.held.replica → a ≡ b
one_machine [] a b apart h k e = absurd h
one_machine (x ∷ xs) a b apart (inl f) (inl g) e = sym f ∙ g
one_machine (x ∷ xs) a b apart (inl f) (inr k) e = absurd (none_of xs b x.held.replica apart.0 k (sym e ∙ ap (λ y. y.held.replica) (sym f)))
one_machine (x ∷ xs) a b apart (inr h) (inl g) e = absurd (none_of xs a x.held.replica apart.0 h (e ∙ ap (λ y. y.held.replica) (sym g)))
one_machine (x ∷ xs) a b apart (inr h) (inr k) e = one_machine xs a b apart.1 h k e
