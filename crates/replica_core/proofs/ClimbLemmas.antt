-- Operations whose counters rise, and a search among them.
use Rattle.std.proofs.Common.{◌≡◌, ℕ, zero, suc, ◌+◌, ◌≤◌, ◌<◌, Bool, true, false, inl, inr, ◌&&◌, ◌||◌, List, [], ◌∷◌, ◌++◌, length, take, drop}
use Rattle.std.proofs.Common.{get_or, refl, sym, ◌∙◌, ap, append_assoc, append-nil, arith}
use Rattle.std.specs.Prelude.{◌==◌, nat_lt}
use Rattle.std.specs.List.{list_any, list_all}
use Rattle.std.proofs.lemmas.Bool.{cases_Bool, and_parts, and_from, and_left, or_from, eqb-true}
use Rattle.std.proofs.lemmas.Bool.Decides.{nat_tests}
use Rattle.std.proofs.lemmas.List.Folds.{list_all-append}
use Rattle.std.proofs.lemmas.List.Elements.{filter-append}
use Rattle.op_list.specs.declared.head.OpHead.{OpHead}
use Rattle.op_list.specs.Heads.{head_of, heads}
use Rattle.op_model.specs.declared.op.Op.{Op}
use Rattle.op_model.specs.Causality.{made_by, is_counted_up, MayFollow, FollowInTurn, IsCausallyClosed}
use Rattle.op_ids.specs.Id.{Id, is_same}
use Rattle.op_model.specs.Causality.{is_insert}
use Rattle.replica_core.specs.Makers.{at_places, AreBelow, Climb}
use Rattle.replica_core.proofs.PlaceLemmas.{at_take, at_drop, at_length, below_take, below_drop}
use Rattle.replica_core.proofs.HeadLemmas.{head_back}

all_take : (q : Op → Bool) (k : ℕ) (xs : List Op) → list_all q xs ≡ true → list_all q (take k xs) ≡ true
all_take q zero xs all = refl
all_take q (suc k) [] all = refl
all_take q (suc k) (x ∷ xs) all =
    let both = and_parts (q x) (list_all q xs) all in
    and_from (q x) (list_all q (take k xs)) both.0 (all_take q k xs both.1)

all_at : (q : Op → Bool) (xs : List Op) (k : ℕ) (x : Op) → list_all q xs ≡ true → k < length xs → x ≡ get_or xs k x → q x ≡ true
all_at q [] k x all there is_it = absurd (omega arith)
all_at q (y ∷ xs) zero x all there is_it = rw is_it (and_parts (q y) (list_all q xs) all).0
all_at q (y ∷ xs) (suc k) x all there is_it =
    all_at q xs k x (and_parts (q y) (list_all q xs) all).1 (omega arith) is_it

pub climb_take : (k : ℕ) (xs : List Op) → Climb xs → Climb (take k xs)
climb_take zero xs climb = tt
climb_take (suc k) [] climb = tt
climb_take (suc k) (x ∷ xs) climb =
    (all_take (λ later. nat_lt x.id.counter later.id.counter) k xs climb.0, climb_take k xs climb.1)

pub climb_drop : (k : ℕ) (xs : List Op) → Climb xs → Climb (drop k xs)
climb_drop zero xs climb = climb
climb_drop (suc k) [] climb = tt
climb_drop (suc k) (x ∷ xs) climb = climb_drop k xs climb.1

climb_push : (xs : List Op) (x : Op) → Climb xs → list_all (λ earlier. nat_lt earlier.id.counter x.id.counter) xs ≡ true
    → Climb (xs ++ x ∷ [])
climb_push [] x climb above = (refl, tt)
climb_push (y ∷ ys) x climb above =
    let both = and_parts (nat_lt y.id.counter x.id.counter) (list_all (λ earlier. nat_lt earlier.id.counter x.id.counter) ys) above in
    let q : Op → Bool = λ later. nat_lt y.id.counter later.id.counter in (
      list_all-append q ys (x ∷ []) ∙ and_from (list_all q ys) (list_all q (x ∷ [])) climb.0 (and_from (q x) true both.0 refl),
      climb_push ys x climb.1 both.1,
    )

climb_more : (before : List Op) (op : Op) (r : ℕ) → Climb (made_by r before) → MayFollow before op → Climb (made_by r (before ++ op ∷ []))
climb_more before op r climb follows =
    elim (cases_Bool (op.id.replica == r)) [
      | inl own ↦ let same : op.id.replica ≡ r = eqb-true op.id.replica r own in
          let above : list_all (λ earlier. nat_lt earlier.id.counter op.id.counter) (made_by r before) ≡ true = rw same at follows.counter in
          rw (filter-append (λ o. o.id.replica == r) before (op ∷ []), own) (climb_push (made_by r before) op climb above)
      | inr other ↦ rw (filter-append (λ o. o.id.replica == r) before (op ∷ []), other, append-nil) climb
    ]

follow_climb : (before ops : List Op) (r : ℕ) → Climb (made_by r before) → FollowInTurn before ops → Climb (made_by r (before ++ ops))
follow_climb before [] r climb follow = rw append-nil climb
follow_climb before (op ∷ ops) r climb follow =
    rw append_assoc at (follow_climb (before ++ op ∷ []) ops r (climb_more before op r climb follow.0) follow.1)

-- in a causally closed list the counters of each replica rise
pub closed_climb : (ops : List Op) (r : ℕ) → IsCausallyClosed ops → Climb (made_by r ops)
closed_climb ops r closed = follow_climb [] ops r tt closed

-- a test that only an operation with this counter passes
abbrev pub IsOnlyAt : ℕ → (Op → Bool) → Type 0
IsOnlyAt c p = (x : Op) → (x.id.counter == c) ≡ false → p x ≡ false

differs : (a b : ℕ) → a < b → (a == b) ≡ false
differs a b less = grind (arith, nat_tests)

differs_above : (a b : ℕ) → b < a → (a == b) ≡ false
differs_above a b less = grind (arith, nat_tests)

less_from : (a b : ℕ) → nat_lt a b ≡ true → a < b
less_from a b less = grind (arith, nat_tests)

none_above : (p : Op → Bool) (c y : ℕ) (xs : List Op) → IsOnlyAt c p → list_all (λ later. nat_lt y later.id.counter) xs ≡ true → c ≤ y
    → list_any p xs ≡ false
none_above p c y [] only all above = refl
none_above p c y (x ∷ xs) only all above =
    let both = and_parts (nat_lt y x.id.counter) (list_all (λ later. nat_lt y later.id.counter) xs) all in
    let less = less_from y x.id.counter both.0 in
    or_from (p x) (list_any p xs) (only x (differs_above x.id.counter c (omega arith))) (none_above p c y xs only both.1 above)

-- the operations from a greater counter on don't pass
pub any_left : (p : Op → Bool) (c : ℕ) (xs : List Op) (k : ℕ) (x : Op) → IsOnlyAt c p → Climb xs → k < length xs → x ≡ get_or xs k x
    → c < x.id.counter → list_any p xs ≡ list_any p (take k xs)
any_left p c [] k x only climb there is_it above = absurd (omega arith)
any_left p c (y ∷ ys) zero x only climb there is_it above =
    let greater : c < y.id.counter = rw is_it at above in
    or_from (p y) (list_any p ys) (only y (differs_above y.id.counter c greater)) (none_above p c y.id.counter ys only climb.0 (omega arith))
any_left p c (y ∷ ys) (suc k) x only climb there is_it above =
    ap (λ rest. p y || rest) (any_left p c ys k x only climb.1 (omega arith) is_it above)

any_right_of : (p : Op → Bool) (c : ℕ) (xs : List Op) (k : ℕ) (x : Op) → IsOnlyAt c p → Climb xs → k < length xs → x ≡ get_or xs k x
    → x.id.counter < c → list_any p xs ≡ list_any p (drop (suc k) xs)
any_right_of p c [] k x only climb there is_it below = absurd (omega arith)
any_right_of p c (y ∷ ys) zero x only climb there is_it below =
    let less : y.id.counter < c = rw is_it at below in
    rw (only y (differs y.id.counter c less)) refl
any_right_of p c (y ∷ ys) (suc k) x only climb there is_it below =
    let first = less_from y.id.counter x.id.counter (all_at (λ later. nat_lt y.id.counter later.id.counter) ys k x climb.0 (omega arith) is_it) in
    rw (only y (differs y.id.counter c (omega arith))) (any_right_of p c ys k x only climb.1 (omega arith) is_it below)

-- nor do those up to a smaller counter
pub any_right : (p : Op → Bool) (c : ℕ) (xs : List Op) (k : ℕ) (x : Op) → IsOnlyAt c p → Climb xs → k < length xs → x ≡ get_or xs k x
    → x.id.counter < c → list_any p xs ≡ list_any p (drop (k + 1) xs)
any_right p c xs k x only climb there is_it below =
    let up : k + 1 ≡ suc k = omega arith in
    rw up (any_right_of p c xs k x only climb there is_it below)

or_nothing : (b : Bool) → (b || false) ≡ b
or_nothing true = refl
or_nothing false = refl

-- the one with the counter decides
pub any_here : (p : Op → Bool) (c : ℕ) (xs : List Op) (k : ℕ) (x : Op) → IsOnlyAt c p → Climb xs → k < length xs → x ≡ get_or xs k x
    → x.id.counter ≡ c → list_any p xs ≡ p x
any_here p c [] k x only climb there is_it same = absurd (omega arith)
any_here p c (y ∷ ys) zero x only climb there is_it same =
    let equal : y.id.counter ≡ c = rw is_it at same in
    rw (is_it, none_above p c y.id.counter ys only climb.0 (omega arith)) (or_nothing (p y))
any_here p c (y ∷ ys) (suc k) x only climb there is_it same =
    let first = less_from y.id.counter x.id.counter (all_at (λ later. nat_lt y.id.counter later.id.counter) ys k x climb.0 (omega arith) is_it) in
    rw (only y (differs y.id.counter c (omega arith))) (any_here p c ys k x only climb.1 (omega arith) is_it same)

and_nothing : (b : Bool) → (b && true) ≡ b
and_nothing true = refl
and_nothing false = refl

and_later : (a b c : ℕ) → a < b → (nat_lt a c && nat_lt b c) ≡ nat_lt b c
and_later a b c less = grind (arith, nat_tests)

-- the last counter decides whether all are below a number
pub all_last : (xs : List Op) (k : ℕ) (x : Op) (c : ℕ) → Climb xs → suc k ≡ length xs → x ≡ get_or xs k x
    → list_all (λ earlier. nat_lt earlier.id.counter c) xs ≡ nat_lt x.id.counter c
all_last [] k x c climb long is_it = absurd (omega arith)
all_last (y ∷ []) zero x c climb long is_it = rw is_it (and_nothing (nat_lt y.id.counter c))
all_last (y ∷ []) (suc k) x c climb long is_it = absurd (omega arith)
all_last (y ∷ z ∷ ys) zero x c climb long is_it = absurd (omega arith)
all_last (y ∷ z ∷ ys) (suc k) x c climb long is_it =
    let first = less_from y.id.counter x.id.counter (all_at (λ later. nat_lt y.id.counter later.id.counter) (z ∷ ys) k x climb.0 (omega arith) is_it) in
    ap (λ rest. nat_lt y.id.counter c && rest) (all_last (z ∷ ys) k x c climb.1 (omega arith) is_it)
    ∙ and_later y.id.counter x.id.counter c first

-- an insert with an id has its counter
pub insert_only : (id : Id) (doc : ℕ) → IsOnlyAt id.counter (λ op. is_same op.id id && op.doc == doc && is_insert op.body)
unfolding is_same
insert_only id doc x other =
    and_left (is_same x.id id && x.doc == doc) (is_insert x.body)
    (and_left (is_same x.id id) (x.doc == doc) (and_left (x.id.counter == id.counter) (x.id.replica == id.replica) other))

-- what a search knows of the indexes that are left
pub record IsLeft (p : Op → Bool) (ops : List Op) (places rest : List ℕ) : Type 0 where
  pub decides : list_any p (at_places ops places) ≡ list_any p (at_places ops rest)
  pub below : AreBelow (length ops) rest
  pub climb : Climb (at_places ops rest)

counter_of : (h : OpHead) (x : Op) → h ≡ head_of x → h.id.counter ≡ x.id.counter
counter_of h x is_head = ap (λ (g : OpHead). g.id.counter) is_head

there_too : (ops : List Op) (rest : List ℕ) (k : ℕ) → AreBelow (length ops) rest → k < length rest → k < length (at_places ops rest)
there_too ops rest k below there = let long = at_length ops rest below in omega arith

-- the half behind a smaller counter is left
pub left_behind : (p : Op → Bool) (c : ℕ) (ops : List Op) (places rest back : List ℕ) (k : ℕ) (h : OpHead) → IsOnlyAt c p → IsLeft p ops places rest
    → k < length rest → h ≡ get_or (heads (at_places ops rest)) k h → h.id.counter < c → back ≡ drop (k + 1) rest → IsLeft p ops places back
left_behind p c ops places rest back k h only left there is_it below is_back =
    let same = at_drop ops (k + 1) rest left.below in
    let here = there_too ops rest k left.below there in
    let x = head_back (at_places ops rest) k h here is_it in
    let counter = counter_of h x.0 x.2 in
    record {
      decides = left.decides
          ∙ (any_right p c (at_places ops rest) k x.0 only left.climb here x.1 (omega arith)
          ∙ ap (list_any p) (sym same ∙ ap (at_places ops) (sym is_back)));
      below = rw is_back (below_drop (length ops) (k + 1) rest left.below);
      climb = rw (is_back, same) (climb_drop (k + 1) (at_places ops rest) left.climb);
    }

-- the half before a greater counter is left
pub left_before : (p : Op → Bool) (c : ℕ) (ops : List Op) (places rest front : List ℕ) (k : ℕ) (h : OpHead) → IsOnlyAt c p → IsLeft p ops places rest
    → k < length rest → h ≡ get_or (heads (at_places ops rest)) k h → c < h.id.counter → front ≡ take k rest → IsLeft p ops places front
left_before p c ops places rest front k h only left there is_it above is_front =
    let same = at_take ops k rest left.below in
    let here = there_too ops rest k left.below there in
    let x = head_back (at_places ops rest) k h here is_it in
    let counter = counter_of h x.0 x.2 in
    record {
      decides = left.decides
          ∙ (any_left p c (at_places ops rest) k x.0 only left.climb here x.1 (omega arith)
          ∙ ap (list_any p) (sym same ∙ ap (at_places ops) (sym is_front)));
      below = rw is_front (below_take (length ops) k rest left.below);
      climb = rw (is_front, same) (climb_take k (at_places ops rest) left.climb);
    }

-- the one with the counter decides
pub left_here : (q : OpHead → Bool) (c : ℕ) (ops : List Op) (places rest : List ℕ) (k : ℕ) (h : OpHead) → IsOnlyAt c (λ op. q (head_of op))
    → IsLeft (λ op. q (head_of op)) ops places rest → k < length rest → h ≡ get_or (heads (at_places ops rest)) k h → h.id.counter ≡ c
    → list_any (λ op. q (head_of op)) (at_places ops places) ≡ q h
left_here q c ops places rest k h only left there is_it same =
    let here = there_too ops rest k left.below there in
    let x = head_back (at_places ops rest) k h here is_it in
    let counter = counter_of h x.0 x.2 in
    left.decides
    ∙ (any_here (λ op. q (head_of op)) c (at_places ops rest) k x.0 only left.climb here x.1 (omega arith) ∙ ap q (sym x.2))

-- the last operation of a replica decides on the counter of its next one
pub last_decides : (ops : List Op) (places : List ℕ) (k : ℕ) (h : OpHead) (op : Op) → IsCausallyClosed ops → AreBelow (length ops) places
    → at_places ops places ≡ made_by op.id.replica ops → suc k ≡ length places → h ≡ get_or (heads (at_places ops places)) k h
    → is_counted_up ops op ≡ nat_lt h.id.counter op.id.counter
last_decides ops places k h op closed below made long is_it =
    let all = at_length ops places below in
    let x = head_back (at_places ops places) k h (omega arith) is_it in
    ap (list_all (λ earlier. nat_lt earlier.id.counter op.id.counter)) (sym made)
    ∙ (all_last (at_places ops places) k x.0 op.id.counter (rw made (closed_climb ops op.id.replica closed)) (long ∙ sym all) x.1
    ∙ ap (λ n. nat_lt n op.id.counter) (sym (counter_of h x.0 x.2)))

-- what is known of the first n indexes of a replica
pub record AreFirst (ops : List Op) (r n : ℕ) (is : List ℕ) : Type 0 where
  pub below : AreBelow (length ops) is
  pub climb : Climb (at_places ops is)
  pub made : at_places ops is ≡ take n (made_by r ops)

pub are_first : (ops : List Op) (r n : ℕ) (places is : List ℕ) → IsCausallyClosed ops → AreBelow (length ops) places
    → at_places ops places ≡ made_by r ops → is ≡ take n places → AreFirst ops r n is
are_first ops r n places is closed below made are =
    let same = at_take ops n places below in
    record {
      below = rw are (below_take (length ops) n places below);
      climb = rw (are, same, made) (climb_take n (made_by r ops) (closed_climb ops r closed));
      made = rw (are, same, made) refl;
    }
