-- What is put behind a list, one by one.
use Rattle.std.proofs.Common.{◌≡◌, ℕ, zero, suc, ◌+◌, ◌<◌, ◌≤◌, List, [], ◌∷◌, ◌++◌}
use Rattle.std.proofs.Common.{length, get_or, take, drop, refl, sym, ap, ◌∙◌, arith, append_assoc, drop-cons, add-one, length-append}
use Rattle.std.proofs.lemmas.List.{take-append-le, length-take, append-nil, take_at}
use Rattle.std.proofs.Math.Seq.{take-length}

-- of these the first ones were put, and the others are left
pub record Going {X : Type 0} (start ops left self : List X) : Type 0 where
  pub all : self ++ left ≡ start ++ ops
  pub front : take (length start) self ≡ start

pub going_begins : {X : Type 0} (start ops left : List X) → left ≡ ops → Going start ops left start
going_begins {X} start ops left is = record { all = ap (λ (r : List X). start ++ r) is; front = take-length start }

start_within : {X : Type 0} (start self : List X) → take (length start) self ≡ start → length start ≤ length self
start_within {X} start self front =
    let long = length-take (length start) self in
    let same = ap length front in
    omega arith

-- the next one is put
pub going_on : {X : Type 0} (start ops left rest self more : List X) (op : X) → Going start ops left self → left ≡ op ∷ rest → more ≡ self ++ op ∷ []
    → Going start ops rest more
going_on {X} start ops left rest self more op going next more_is =
    record {
      all =
          ap (λ (s : List X). s ++ rest) more_is ∙ append_assoc self (op ∷ []) rest
          ∙ ap (λ (r : List X). self ++ r) (sym next) ∙ going.all;
      front =
          ap (take (length start)) more_is
          ∙ take-append-le (length start) self (op ∷ []) (start_within start self going.front) ∙ going.front;
    }

-- none is left
pub all_put : {X : Type 0} (start ops left self : List X) → Going start ops left self → left ≡ [] → self ≡ start ++ ops
all_put {X} start ops left self going none = sym (append-nil self) ∙ ap (λ (r : List X). self ++ r) (sym none) ∙ going.all

-- the next one of a list, and those behind it
pub next_of_list : {X : Type 0} (ops : List X) (i : ℕ) (op : X) → op ≡ get_or ops i op → i < length ops → drop i ops ≡ op ∷ drop (i + 1) ops
next_of_list {X} ops i op is lt = rw add-one (drop-cons ops i op lt ∙ ap (λ (o : X). o ∷ drop (suc i) ops) (sym is))

pub none_left : {X : Type 0} (ops : List X) (i : ℕ) → length ops ≤ i → drop i ops ≡ []
none_left {X} [] zero le = refl
none_left {X} [] (suc i) le = refl
none_left {X} (op ∷ ops) zero le = absurd (omega arith)
none_left {X} (op ∷ ops) (suc i) le = none_left ops i (omega arith)

-- what was there before one more was put is there still
pub front_of_front : {X : Type 0} (start more grown self : List X) → grown ≡ start ++ more → take (length grown) self ≡ grown → take (length start) self ≡ start
front_of_front {X} start more grown self is front =
    let within : length start ≤ length (take (length grown) self) = (let l = ap length (front ∙ is) in let m = length-append start more in omega arith) in
    sym (take_within (length start) (length grown) self within)
    ∙ ap (take (length start)) (front ∙ is) ∙ take_at start more (length start) refl
  where
    take_within : (n m : ℕ) (xs : List X) → n ≤ length (take m xs) → take n (take m xs) ≡ take n xs
    take_within zero m xs within = refl
    take_within (suc n) zero xs within = absurd (omega arith)
    take_within (suc n) (suc m) [] within = absurd (omega arith)
    take_within (suc n) (suc m) (x ∷ xs) within = ap (λ (ys : List X). x ∷ ys) (take_within n m xs (omega arith))
