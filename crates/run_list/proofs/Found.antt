-- What the run that a search finds says of the operation that was looked for.
use Rattle.std.proofs.Common.{◌≡◌, ◌≢◌, ℕ, zero, suc, ◌+◌, ◌-◌, ◌<◌, ◌≤◌, ◌^◌, true, List}
use Rattle.std.proofs.Common.{[], ◌∷◌, length, get_or, None, refl, sym, ap, subst, ◌∙◌, arith}
use Rattle.std.specs.Char.{IsScalar}
use Rattle.std.specs.List.Sorted.{IsNonDecreasing}
use Rattle.std.proofs.lemmas.List.{get_or_default, get_or-map}
use Rattle.op_model.specs.declared.op.Op.{Op}
use Rattle.change_codec.specs.Fits.{IsOperation}
use Rattle.change_codec.specs.Stream.{AreOperations}
use Rattle.op_list.specs.Heads.{head_of, heads}
use Rattle.op_list.specs.declared.head.OpHead.{OpHead}
use Rattle.run_list.specs.Runs.{HoldsRuns}
use Rattle.run_list.specs.Reading.{below, typed_at}
use Rattle.run_list.proofs.Holding.{Found, found, some_run}
use Rattle.run_list.proofs.Parts.{starts_rise}

-- a list is searched by what it holds

pub rising : (marks : List ℕ) (firsts : List Op) (starts : List ℕ) (ops : List Op) (seen : List ℕ) → HoldsRuns marks firsts starts ops
    → seen ≡ starts → IsNonDecreasing seen
rising marks firsts starts ops seen holds is =
    subst (λ (ss : List ℕ). IsNonDecreasing ss) (sym (is ∙ holds.starts_so)) (starts_rise None 0 ops)

pub some_begun : (marks : List ℕ) (firsts : List Op) (starts : List ℕ) (ops : List Op) (seen : List ℕ) (i : ℕ)
    → HoldsRuns marks firsts starts ops → seen ≡ starts → i < length ops → 0 < below (suc i) seen
some_begun marks firsts starts ops seen i holds is lt =
    let some = some_run marks firsts starts ops i holds lt in
    let same = ap (below (suc i)) is in
    omega arith

pub few : (marks : List ℕ) (firsts : List Op) (starts : List ℕ) (ops : List Op) → HoldsRuns marks firsts starts ops → length ops < 2 ^ 32
few marks firsts starts ops holds = holds.few

pub found_in : (marks : List ℕ) (firsts : List Op) (starts : List ℕ) (ops : List Op) (seen : List ℕ) (i run : ℕ)
    → HoldsRuns marks firsts starts ops → seen ≡ starts → i < length ops → suc run ≡ below (suc i) seen → Found marks firsts starts ops i run
found_in marks firsts starts ops seen i run holds is lt count =
    found marks firsts starts ops i run holds lt (sym (count ∙ ap (below (suc i)) is))

-- where the run begins

pub start_is : (starts : List ℕ) (run start : ℕ) → run < length starts → start ≡ get_or starts run start → start ≡ get_or starts run 0
start_is starts run start lt is = is ∙ get_or_default starts run start 0 lt

-- the operation begins its run
pub begins_it : (marks : List ℕ) (firsts : List Op) (starts : List ℕ) (ops : List Op) (i run start : ℕ) (first d : Op) → Found marks firsts starts ops i run
    → start ≡ get_or starts run 0 → start ≡ i → first ≡ get_or firsts run first → first ≡ get_or ops i d
begins_it marks firsts starts ops i run start first d it start_so here first_so =
    let none : i - get_or starts run 0 ≡ 0 = omega arith in
    first_so ∙ ap (λ (n : ℕ). typed_at (get_or firsts run first) n (get_or marks i 0)) (sym none) ∙ sym (it.is_it d first)

-- the operation stands behind the one that begins its run
pub stands_behind : (marks : List ℕ) (firsts : List Op) (starts : List ℕ) (ops : List Op) (i run start value : ℕ) (first d : Op)
    → Found marks firsts starts ops i run → start ≡ get_or starts run 0 → first ≡ get_or firsts run first → value ≡ get_or marks i 0
    → get_or ops i d ≡ typed_at first (i - start) value
stands_behind marks firsts starts ops i run start value first d it start_so first_so value_so =
    it.is_it d first
    ∙ ap (λ (f : Op). typed_at f (i - get_or starts run 0) (get_or marks i 0)) (sym first_so)
    ∙ ap (λ (s : ℕ). typed_at first (i - s) (get_or marks i 0)) (sym start_so)
    ∙ ap (λ (v : ℕ). typed_at first (i - start) v) (sym value_so)

-- what a run's operations keep

pub operation_at : (ops : List Op) (i : ℕ) (d : Op) → i < length ops → AreOperations ops → IsOperation (get_or ops i d)
operation_at [] i d lt fits = absurd (omega arith)
operation_at (op ∷ ops) zero d lt fits = fits.0
operation_at (op ∷ ops) (suc i) d lt fits = operation_at ops i d (omega arith) fits.1

pub fits_at : (ops : List Op) (i : ℕ) (op : Op) → i < length ops → AreOperations ops → get_or ops i op ≡ op → IsOperation op
fits_at ops i op lt fits is = subst (λ (o : Op). IsOperation o) is (operation_at ops i op lt fits)

pub fits_behind : (ops : List Op) (i n value : ℕ) (first d : Op) → i < length ops → AreOperations ops → get_or ops i d ≡ typed_at first n value
    → IsOperation (typed_at first n value)
fits_behind ops i n value first d lt fits is = subst (λ (o : Op). IsOperation o) is (operation_at ops i d lt fits)

pub scalar_behind : (first : Op) (n value : ℕ) → 0 < n → IsOperation (typed_at first n value) → IsScalar value
scalar_behind first zero value some fits = absurd (omega arith)
scalar_behind first (suc n) value some fits = fits.body.1

pub counter_behind : (first : Op) (n value : ℕ) → 0 < n → IsOperation (typed_at first n value) → first.id.counter + n ≤ 281474976710655
counter_behind first zero value some fits = absurd (omega arith)
counter_behind first (suc n) value some fits = fits.id.in_range

-- heads

pub head_behind : (first : Op) (n value : ℕ) → 0 < n
    → head_of (typed_at first n value) ≡ record { id = record { counter = first.id.counter + n; replica = first.id.replica }; doc = first.doc; is_insert = true }
head_behind first zero value some = absurd (omega arith)
head_behind first (suc n) value some = refl

pub head_is : (ops : List Op) (i : ℕ) (op : Op) (head d : OpHead) → i < length ops → get_or ops i op ≡ op → head ≡ head_of op → head ≡ get_or (heads ops) i d
head_is ops i op head d lt at is = is ∙ ap head_of (sym at) ∙ sym (get_or-map head_of ops i op d lt)

-- the head of an operation, by that of the first one of its run

pub some_op : (ops : List Op) (i : ℕ) → i < length ops → Op
some_op [] i lt = absurd (omega arith)
some_op (op ∷ ops) i lt = op

first_head : (firsts : List Op) (run : ℕ) (head : OpHead) (e : Op) → run < length firsts → head ≡ get_or (heads firsts) run head → head ≡ head_of (get_or firsts run e)
first_head firsts run head e lt is = is ∙ get_or-map head_of firsts run e head lt

pub head_begins : (marks : List ℕ) (firsts : List Op) (starts : List ℕ) (ops : List Op) (i run start : ℕ) (head d : OpHead) → Found marks firsts starts ops i run
    → i < length ops → start ≡ get_or starts run 0 → start ≡ i → head ≡ get_or (heads firsts) run head → head ≡ get_or (heads ops) i d
head_begins marks firsts starts ops i run start head d it lt start_so here head_so =
    let e = some_op ops i lt in
    let op = get_or firsts run e in
    let at : op ≡ get_or ops i op = begins_it marks firsts starts ops i run start op op it start_so here (get_or_default firsts run e op it.whole) in
    head_is ops i op head d lt (sym at) (first_head firsts run head e it.whole head_so)

pub head_counter : (marks : List ℕ) (firsts : List Op) (starts : List ℕ) (ops : List Op) (i run start : ℕ) (head : OpHead) → Found marks firsts starts ops i run
    → i < length ops → AreOperations ops → start ≡ get_or starts run 0 → start ≢ i → head ≡ get_or (heads firsts) run head
    → head.id.counter + (i - start) ≤ 281474976710655
head_counter marks firsts starts ops i run start head it lt fits start_so other head_so =
    let e = some_op ops i lt in
    let op = get_or firsts run e in
    let value = get_or marks i 0 in
    let at : get_or ops i op ≡ typed_at op (i - start) value =
    stands_behind marks firsts starts ops i run start value op op it start_so (get_or_default firsts run e op it.whole) refl in
    let begun = it.begun in
    let far : 0 < i - start = omega arith in
    let most = counter_behind op (i - start) value far (fits_behind ops i (i - start) value op op lt fits at) in
    let same : head.id.counter ≡ op.id.counter = ap (λ (h : OpHead). h.id.counter) (first_head firsts run head e it.whole head_so) in
    omega arith

pub head_stands : (marks : List ℕ) (firsts : List Op) (starts : List ℕ) (ops : List Op) (i run start : ℕ) (head d : OpHead) → Found marks firsts starts ops i run
    → i < length ops → start ≡ get_or starts run 0 → start ≢ i → head ≡ get_or (heads firsts) run head
    → record { id = record { counter = head.id.counter + (i - start); replica = head.id.replica }; doc = head.doc; is_insert = true } ≡ get_or (heads ops) i d
head_stands marks firsts starts ops i run start head d it lt start_so other head_so =
    let e = some_op ops i lt in
    let op = get_or firsts run e in
    let value = get_or marks i 0 in
    let at : get_or ops i (typed_at op (i - start) value) ≡ typed_at op (i - start) value =
    stands_behind marks firsts starts ops i run start value op (typed_at op (i - start) value) it start_so (get_or_default firsts run e op it.whole) refl in
    let begun = it.begun in
    let far : 0 < i - start = omega arith in
    let first = first_head firsts run head e it.whole head_so in
    ap (λ (h : OpHead). record { id = record { counter = h.id.counter + (i - start); replica = h.id.replica }; doc = h.doc; is_insert = true }) first
    ∙ sym (head_behind op (i - start) value far)
    ∙ head_is ops i (typed_at op (i - start) value) (head_of (typed_at op (i - start) value)) d lt at refl
