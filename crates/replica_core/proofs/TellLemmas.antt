-- What is told, one operation after another.
use Rattle.std.proofs.Common.{◌≡◌, ℕ, zero, suc, ◌+◌, ◌-◌, ◌<◌, ◌≤◌, true, false, not, List, [], ◌∷◌, ◌++◌, length, take, map}
use Rattle.std.proofs.Common.{drop, filter, get_or, refl, sym, ◌∙◌, ap, append_assoc, append-nil, length-append, arith}
use Rattle.std.specs.List.{enumerate_from}
use Rattle.std.proofs.lemmas.List.{drop_more, get_or-take, at_drop_all, map-append}
use Rattle.std.proofs.Math.Seq.{take-nil}
use Rattle.op_model.specs.declared.op.Op.{Op}
use Rattle.op_model.specs.Causality.{is_known}
use Rattle.op_model.specs.Telling.{due, last_number, reach, untold}
use Rattle.replica_core.specs.Telling.{IsNextUntold}

-- those of the operations from an index on that a clock doesn't count, each with its number
abbrev pub new_from : List (ℕ × ℕ) → List Op → ℕ → List (ℕ × Op)
new_from c ops i = filter (λ p. not (is_known c p.1)) (enumerate_from (i + 1) (drop i ops))

-- an operation that the clock counts isn't among them
from_known : (c : List (ℕ × ℕ)) (ops : List Op) (i : ℕ) (x : Op) → i < length ops → x ≡ get_or ops i x → is_known c x ≡ true
    → new_from c ops i ≡ new_from c ops (i + 1)
from_known c ops i x here is_it counted = rw (drop_more ops i x here, ← is_it, counted) refl

-- one that it doesn't is the first of them
from_new : (c : List (ℕ × ℕ)) (ops : List Op) (i : ℕ) (x : Op) → i < length ops → x ≡ get_or ops i x → is_known c x ≡ false
    → new_from c ops i ≡ (i + 1, x) ∷ new_from c ops (i + 1)
from_new c ops i x here is_it new = rw (drop_more ops i x here, ← is_it, new) refl

-- an operation at an index of a list
there_is : (ops : List Op) (i : ℕ) → i < length ops → (op : Op) × (op ≡ get_or ops i op)
there_is [] i there = absurd (omega arith)
there_is (x ∷ ops) zero there = (x, refl)
there_is (x ∷ ops) (suc i) there = there_is ops i (omega arith)

-- a clock counts each operation from an index to another
abbrev pub AreKnown : List (ℕ × ℕ) → List Op → ℕ → ℕ → Type 0
AreKnown c ops from to = (k : ℕ) (op : Op) → from ≤ k → k < to → op ≡ get_or ops k op → is_known c op ≡ true

from_over : (c : List (ℕ × ℕ)) (ops : List Op) (from many : ℕ) → from + many ≤ length ops → AreKnown c ops from (from + many)
    → new_from c ops from ≡ new_from c ops (from + many)
from_over c ops from zero within counted = let same : from + 0 ≡ from = omega arith in rw same refl
from_over c ops from (suc many) within counted =
    let x = there_is ops from (omega arith) in
    let next : from + 1 + many ≡ from + suc many = omega arith in
    from_known c ops from x.0 (omega arith) x.1 (counted from x.0 (omega arith) (omega arith) x.1)
    ∙ (rw next at (from_over c ops (from + 1) many (omega arith) (λ k op behind less is_it. counted k op (omega arith) (omega arith) is_it)))

apart : (from next : ℕ) → from ≤ next → (many : ℕ) × (next ≡ from + many)
apart from next behind = (next - from, omega arith)

-- what is counted in between isn't among them
from_between : (c : List (ℕ × ℕ)) (ops : List Op) (from next : ℕ) → from ≤ next → next ≤ length ops → AreKnown c ops from next
    → new_from c ops from ≡ new_from c ops next
from_between c ops from next behind within counted =
    let many = apart from next behind in
    rw (many.1) (from_over c ops from many.0 (rw (many.1) at within) (rw (many.1) at counted))

-- what is known of the front of a list, from what is next in the list
pub known_in_front : (c : List (ℕ × ℕ)) (ops : List Op) (from next to settled : ℕ) → IsNextUntold c (λ op. true) ops from next → to ≤ next → to ≤ settled
    → AreKnown c (take settled ops) from to
known_in_front c ops from next to settled is_next first second = λ k op behind less is_it.
    is_next.known k op behind (omega arith) (is_it ∙ get_or-take settled ops k op (omega arith)) refl

-- what was found of a list up to an index, and what the rest gives
pub record IsTold (c : List (ℕ × ℕ)) (ops found : List Op) (from : ℕ) : Type 0 where
  -- each with its number
  pub numbered : List (ℕ × Op)
  pub are : map (λ p. p.1) numbered ≡ found
  pub last : last_number 0 numbered ≡ from
  pub rest : due c ops ≡ numbered ++ take (64 - length found) (new_from c ops from)

pub told_none : (c : List (ℕ × ℕ)) (ops : List Op) → IsTold c ops [] 0
told_none c ops = record { numbered = []; are = refl; last = refl; rest = refl }

last-append : (n k : ℕ) (op : Op) (ps : List (ℕ × Op)) → last_number n (ps ++ (k, op) ∷ []) ≡ k
last-append n k op [] = refl
last-append n k op (p ∷ ps) = last-append p.0 k op ps

take-cons : (left : ℕ) (p : ℕ × Op) (ps : List (ℕ × Op)) → 0 < left → take left (p ∷ ps) ≡ p ∷ take (left - 1) ps
take-cons zero p ps some = absurd (omega arith)
take-cons (suc left) p ps some = let one : suc left - 1 ≡ left = omega arith in rw one refl

-- one more is found
pub told_more : (c : List (ℕ × ℕ)) (ops found after : List Op) (from next : ℕ) (op : Op) → IsTold c ops found from → length found < 64 → AreKnown c ops from next → from ≤ next
    → next < length ops → op ≡ get_or ops next op → is_known c op ≡ false → after ≡ found ++ op ∷ [] → IsTold c ops after (next + 1)
told_more c ops found after from next op told few counted behind there is_it new is_after =
    let left : ℕ = 64 - length found in
    let some : 0 < left = omega arith in
    let more : length after ≡ length found + 1 = rw is_after (length-append found (op ∷ [])) in
    let fewer : left - 1 ≡ 64 - length after = omega arith in
    let rest : List (ℕ × Op) = new_from c ops (next + 1) in
    record {
      numbered = told.numbered ++ (next + 1, op) ∷ [];
      are = map-append (λ p. p.1) told.numbered ((next + 1, op) ∷ []) ∙ (ap (λ front. front ++ op ∷ []) told.are ∙ sym is_after);
      last = last-append 0 (next + 1) op told.numbered;
      rest = told.rest
          ∙ (ap (λ ps. told.numbered ++ take left ps) (from_between c ops from next behind (omega arith) counted ∙ from_new c ops next op there is_it new)
          ∙ (ap (λ ps. told.numbered ++ ps) (take-cons left (next + 1, op) rest some)
          ∙ (sym (append_assoc told.numbered ((next + 1, op) ∷ []) (take (left - 1) rest))
          ∙ ap (λ n. (told.numbered ++ (next + 1, op) ∷ []) ++ take n rest) fewer)));
    }

-- no other one is to be found
due_found : (c : List (ℕ × ℕ)) (ops found : List Op) (from : ℕ) (told : IsTold c ops found from) → take (64 - length found) (new_from c ops from) ≡ []
    → (found ≡ untold c ops) × (from ≡ reach c ops)
due_found c ops found from told none =
    let all : due c ops ≡ told.numbered = told.rest ∙ (rw none (append-nil told.numbered)) in
    (sym (ap (map (λ p. p.1)) all ∙ told.are), sym (ap (last_number 0) all ∙ told.last))

-- since there are 64
pub told_full : (c : List (ℕ × ℕ)) (ops found : List Op) (from : ℕ) → IsTold c ops found from → 64 ≤ length found
    → (found ≡ untold c ops) × (from ≡ reach c ops)
told_full c ops found from told many =
    let none : 64 - length found ≡ 0 = omega arith in
    due_found c ops found from told (rw none refl)

-- or since the clock counts all behind them
pub told_all : (c : List (ℕ × ℕ)) (ops found : List Op) (from : ℕ) → IsTold c ops found from → from ≤ length ops → AreKnown c ops from (length ops)
    → (found ≡ untold c ops) × (from ≡ reach c ops)
told_all c ops found from told within counted =
    let end : new_from c ops from ≡ [] = from_between c ops from (length ops) within (omega arith) counted
    ∙ at_drop_all (λ rest. filter (λ p. not (is_known c p.1)) (enumerate_from (length ops + 1) rest)) ops (length ops) (omega arith) in
    due_found c ops found from told (ap (take (64 - length found)) end ∙ take-nil (64 - length found))
