-- How long the records are that an edit makes.
use Rattle.std.proofs.Common.{◌≡◌, ℕ, zero, suc, ◌+◌, ◌-◌, ◌*◌, ◌<◌, ◌≤◌, Bool, true, false, List, [], ◌∷◌, length, map, filter, take, drop, refl, sym, ◌∙◌, ap}
use Rattle.std.proofs.Common.{Option, Some, None, arith}
use Rattle.std.specs.Prelude.{◌==◌, ◌&&◌, nat_lt, nat_le, if◌then◌else◌}
use Rattle.std.proofs.lemmas.List.{length-map}
use Rattle.std.proofs.lemmas.Bool.Decides.{nat_tests}
use Rattle.op_ids.specs.Id.{Id}
use Rattle.op_ids.specs.Clock.{advanced, count_of, is_clock}
use Rattle.op_ids.proofs.ClockLemmas.{advanced_as_set, length-with_count, is_clock_parts}
use Rattle.op_model.specs.declared.op.Op.{Op}
use Rattle.op_model.specs.declared.op.Body.{Body}
use Rattle.op_model.specs.declared.op.Body.TheVariants as body
use Rattle.op_model.specs.declared.edit.Edit.{Edit}
use Rattle.op_model.specs.declared.edit.Change.{Change}
use Rattle.op_model.specs.declared.edit.Change.TheVariants as change
use Rattle.op_model.specs.declared.mark.Mark.{Mark}
use Rattle.op_model.specs.declared.mark.MarkKey.{MarkKey}
use Rattle.op_model.specs.Marks.{key_of}
use Rattle.op_model.specs.declared.character.Character.{Character}
use Rattle.op_model.specs.Causality.{clock_of}
use Rattle.op_model.specs.Made.{tombstones_at, is_inside, end_of, ends_after, last_or, id_at, id_before, origin_of, start_before, end_before}
use Rattle.op_model.specs.Made.{end_after, greatest_counter, numbered, insert_bodies, bodies_of, made, size_of}
use Rattle.op_model.specs.Records.{origin_length, head_length, start_length, end_length, mark_length, key_length, token_length, stream_length}
use Rattle.op_model.specs.Text.{visible}
use Rattle.model_laws.specs.Asking.{IsAskedRight}
use Rattle.model_laws.proofs.EditLimits.{length-bodies_of}
use Rattle.replica_core.specs.Deciding.{lengths}

id_at_there : (cs : List Character) (i : ℕ) → i < length cs → (id : Id) × (id_at cs i ≡ Some id)
id_at_there [] i here = absurd (omega arith)
id_at_there (c ∷ cs) zero here = (c.id, refl)
id_at_there (c ∷ cs) (suc i) here = id_at_there cs i (omega arith)

id_before_there : (cs : List Character) (i : ℕ) → 0 < i → i ≤ length cs → (id : Id) × (id_before cs i ≡ Some id)
id_before_there cs zero some here = absurd (omega arith)
id_before_there cs (suc i) some here = id_at_there cs i (omega arith)

-- a start at a character takes 25 bytes
pub start_there : (cs : List Character) (i : ℕ) → i < length cs → start_length (start_before (id_at cs i)) ≡ 25
start_there cs i here = let there = id_at_there cs i here in rw there.1 refl

-- so does an origin behind a character
last_or-some : (id : Id) (cs : List Character) → origin_length (last_or (Some id) cs) ≡ 25
last_or-some id [] = refl
last_or-some id (c ∷ cs) = last_or-some c.id cs

pub origin_behind : (ops : List Op) (doc i : ℕ) → 0 < i → i ≤ length (visible ops doc) → origin_length (origin_of ops doc i) ≡ 25
origin_behind ops doc i some here =
    let there = id_before_there (visible ops doc) i some here in
    rw there.1 (last_or-some there.0 (filter (λ c. ends_after ops doc c.id) (tombstones_at ops doc i)))

-- no character is before the beginning
pub none_before : (cs : List Character) (i : ℕ) → i ≤ 0 → None ≡ id_before cs i
none_before cs zero first = refl
none_before cs (suc i) first = absurd (omega arith)

-- an end before a character takes 25 bytes, the end of the text one
pub end_before_there : (cs : List Character) (i : ℕ) → i < length cs → end_length (end_before (id_at cs i)) ≡ 25
end_before_there cs i here = let there = id_at_there cs i here in rw there.1 refl

id_at_past : (cs : List Character) (i : ℕ) → length cs ≤ i → id_at cs i ≡ None
id_at_past [] i past = refl
id_at_past (c ∷ cs) zero past = absurd (omega arith)
id_at_past (c ∷ cs) (suc i) past = id_at_past cs i (omega arith)

pub end_before_past : (cs : List Character) (i : ℕ) → length cs ≤ i → end_length (end_before (id_at cs i)) ≡ 1
end_before_past cs i past = rw (id_at_past cs i past) refl

-- so does an end after a character
pub end_after_there : (cs : List Character) (i : ℕ) → 0 < i → i ≤ length cs → end_length (end_after (id_before cs i)) ≡ 25
end_after_there cs i some here = let there = id_before_there cs i some here in rw there.1 refl

some_last : (n from to : ℕ) → (nat_lt from to && nat_le to n) ≡ true → 0 < to
some_last n from to inside = grind (arith, nat_tests)

last_within : (n from to : ℕ) → (nat_lt from to && nat_le to n) ≡ true → to ≤ n
last_within n from to inside = grind (arith, nat_tests)

between : (n from to : ℕ) → (nat_lt from to && nat_le to n) ≡ true → (0 < to) × (to ≤ n)
between n from to inside = (some_last n from to inside, last_within n from to inside)

-- what lies inside a text
pub insert_inside : (n at : ℕ) (text : List ℕ) (it : Change) → it ≡ change.Insert at text → is_inside n it ≡ true → at ≤ n
insert_inside n at text it is_it inside = at_most at n (rw is_it at inside)
  where
    at_most : (a b : ℕ) → nat_le a b ≡ true → a ≤ b
    at_most a b small = grind (arith, nat_tests)

pub mark_inside : (n from to : ℕ) (mark : Mark) (it : Change) → it ≡ change.Mark from to mark → is_inside n it ≡ true → (0 < to) × (to ≤ n)
mark_inside n from to mark it is_it inside = between n from to (rw is_it at inside)

pub unmark_inside : (n from to : ℕ) (key : MarkKey) (it : Change) → it ≡ change.Unmark from to key → is_inside n it ≡ true → (0 < to) × (to ≤ n)
unmark_inside n from to key it is_it inside = between n from to (rw is_it at inside)

-- the contents of inserts
lengths-inserts : (replica counter : ℕ) (origin : Option Id) (x : ℕ) (xs : List ℕ)
    → lengths (insert_bodies replica counter origin (x ∷ xs)) ≡ origin_length origin + 4 + 29 * length xs
lengths-inserts replica counter origin x [] = omega arith
lengths-inserts replica counter origin x (y ∷ ys) =
    let rest = lengths-inserts replica (counter + 1) (Some (record { counter = counter; replica = replica })) y ys in omega arith

pub lengths-insert_bodies : (replica counter : ℕ) (origin : Option Id) (xs : List ℕ) → 0 < length xs
    → lengths (insert_bodies replica counter origin xs) ≡ origin_length origin + 4 + 29 * (length xs - 1)
lengths-insert_bodies replica counter origin [] some = absurd (omega arith)
lengths-insert_bodies replica counter origin (x ∷ xs) some = let all = lengths-inserts replica counter origin x xs in omega arith

-- the contents of removes
pub lengths-removes : (cs : List Character) → lengths (map (λ c. body.Remove c.id) cs) ≡ 24 * length cs
lengths-removes [] = refl
lengths-removes (c ∷ cs) = let rest = lengths-removes cs in omega arith

-- a replica that is counted once more leaves the clock as long as it is
pub length-advanced_twice : (es : List (ℕ × ℕ)) (r : ℕ) → length (advanced (advanced es r) r) ≡ length (advanced es r)
length-advanced_twice [] r = grind (arith, nat_tests)
length-advanced_twice (e ∷ es) r = let rest = length-advanced_twice es r in grind (arith, nat_tests)

-- how long a clock is with one more operation of a replica
pub length-advanced : (es : List (ℕ × ℕ)) (r : ℕ) → is_clock es ≡ true → length (advanced es r) ≡ (if count_of es r == 0 then length es + 1 else length es)
length-advanced es r is_it =
    let more = length-with_count es 0 r (count_of es r + 1) (is_clock_parts es is_it).0 in
    rw (advanced_as_set es r is_it) (more ∙ grind (arith, nat_tests))

pub length-advanced_new : (es : List (ℕ × ℕ)) (r : ℕ) → is_clock es ≡ true → count_of es r ≡ 0 → length (advanced es r) ≡ length es + 1
length-advanced_new es r is_it none = rw (length-advanced es r is_it, none) refl

pub length-advanced_old : (es : List (ℕ × ℕ)) (r : ℕ) → is_clock es ≡ true → 0 < count_of es r → length (advanced es r) ≡ length es
length-advanced_old es r is_it some = let more = length-advanced es r is_it in grind (arith, nat_tests)

-- the records of operations of a replica that their clock counts
stream_length-later : (replica doc : ℕ) (token : Option ℕ) (counter : ℕ) (clock : List (ℕ × ℕ)) (bs : List Body) → length (advanced clock replica) ≡ length clock
    → stream_length (numbered replica doc token counter clock bs) ≡ head_length (length clock) * length bs + token_length token * length bs + lengths bs
stream_length-later replica doc token counter clock [] same = omega arith
stream_length-later replica doc token counter clock (b ∷ bs) same =
    let rest = stream_length-later replica doc token (counter + 1) (advanced clock replica) bs (length-advanced_twice clock replica) in
    rw (rest, same) (omega arith)

stream_length-numbered : (replica doc : ℕ) (token : Option ℕ) (counter : ℕ) (clock : List (ℕ × ℕ)) (bs : List Body) (later : ℕ) → 0 < length bs → later ≡ length (advanced clock replica)
    → stream_length (numbered replica doc token counter clock bs)
    ≡ (head_length (length clock) + head_length later * (length bs - 1)) + token_length token * length bs + lengths bs
stream_length-numbered replica doc token counter clock [] later some is_it = absurd (omega arith)
stream_length-numbered replica doc token counter clock (b ∷ bs) later some is_it =
    let rest = stream_length-later replica doc token (counter + 1) (advanced clock replica) bs (length-advanced_twice clock replica) in
    let one : suc (length bs) - 1 ≡ length bs = omega arith in
    rw (rest, ← is_it, one) (omega arith)

-- the records that an edit makes
pub stream_length-made : (ops : List Op) (replica : ℕ) (e : Edit) (later : ℕ) → IsAskedRight ops e → 0 < size_of e.change
    → later ≡ length (advanced (clock_of ops) replica)
    → stream_length (made ops replica e)
    ≡ (head_length (length (clock_of ops)) + head_length later * (size_of e.change - 1)) + token_length e.token * size_of e.change + lengths (bodies_of ops replica e.doc e.change)
stream_length-made ops replica e later right some is_it =
    let many = length-bodies_of ops replica e.doc e.change right.inside in
    let all = stream_length-numbered replica e.doc e.token (greatest_counter ops + 1) (clock_of ops) (bodies_of ops replica e.doc e.change) later (omega arith) is_it in
    all ∙ (rw many refl)

-- the contents of an insert's records
pub lengths-insert : (ops : List Op) (replica doc at : ℕ) (text : List ℕ) (it : Change) → it ≡ change.Insert at text → 0 < length text
    → lengths (bodies_of ops replica doc it) ≡ origin_length (origin_of ops doc at) + 4 + 29 * (length text - 1)
lengths-insert ops replica doc at text it is_it some =
    rw is_it (lengths-insert_bodies replica (greatest_counter ops + 1) (origin_of ops doc at) text some)

-- an origin, and four bytes for the character
pub insert_content : (named : Bool) → (if named then 29 else 5) ≡ (if named then 25 else 1) + 4
insert_content true = refl
insert_content false = refl

-- removes n characters
abbrev pub IsDelete : Change → ℕ → Type 0
IsDelete (change.Insert at text) n = ⊥
IsDelete (change.Delete at count) n = n ≡ count.value
IsDelete (change.Mark from to mark) n = ⊥
IsDelete (change.Unmark from to key) n = ⊥

-- the contents of a delete's records
pub lengths-delete : (ops : List Op) (replica doc n : ℕ) (it : Change) → IsDelete it n → is_inside (length (visible ops doc)) it ≡ true
    → lengths (bodies_of ops replica doc it) ≡ 24 * n
lengths-delete ops replica doc n (change.Insert at text) is_it inside = absurd is_it
lengths-delete ops replica doc n (change.Delete at count) is_it inside =
    let many = length-bodies_of ops replica doc (change.Delete at count) inside in
    lengths-removes (take count.value (drop at (visible ops doc))) ∙ ap (λ k. 24 * k) (simp length-map at many ∙ sym is_it)
lengths-delete ops replica doc n (change.Mark from to mark) is_it inside = absurd is_it
lengths-delete ops replica doc n (change.Unmark from to key) is_it inside = absurd is_it

is_from_inside : (n from to : ℕ) → (nat_lt from to && nat_le to n) ≡ true → from < n
is_from_inside n from to inside = grind (arith, nat_tests)

-- the contents of a mark's record
pub lengths-mark : (ops : List Op) (replica doc from to : ℕ) (mark : Mark) (it : Change) → it ≡ change.Mark from to mark
    → is_inside (length (visible ops doc)) it ≡ true
    → lengths (bodies_of ops replica doc it) ≡ mark_length mark + 25 + end_length (end_of (visible ops doc) (key_of mark) to)
lengths-mark ops replica doc from to mark it is_it inside =
    let within : from < length (visible ops doc) = is_from_inside (length (visible ops doc)) from to (rw is_it at inside) in
    rw (is_it, start_there (visible ops doc) from within) (omega arith)

-- the contents of an unmark's record
pub lengths-unmark : (ops : List Op) (replica doc from to : ℕ) (key : MarkKey) (it : Change) → it ≡ change.Unmark from to key
    → is_inside (length (visible ops doc)) it ≡ true
    → lengths (bodies_of ops replica doc it) ≡ key_length key + 25 + end_length (end_of (visible ops doc) key to)
lengths-unmark ops replica doc from to key it is_it inside =
    let within : from < length (visible ops doc) = is_from_inside (length (visible ops doc)) from to (rw is_it at inside) in
    rw (is_it, start_there (visible ops doc) from within) (omega arith)
