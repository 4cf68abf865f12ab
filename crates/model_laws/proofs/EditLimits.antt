-- What an edit's operations do to the limits of a store.
use Rattle.std.proofs.Common.{◌≡◌, ◌⊎◌, ℕ, suc, ◌+◌, ◌<◌, Bool, true, false, ◌&&◌, nat_le}
use Rattle.std.proofs.Common.{List, [], ◌∷◌, ◌++◌, length, Option, Some, arith, refl, sym, ◌∙◌, ap}
use Rattle.std.proofs.Common.{⊎_elim, length-take, length-drop, append_assoc, append-nil}
use Rattle.std.proofs.lemmas.List.{length-map}
use Rattle.std.specs.List.{list_all}
use Rattle.std.proofs.lemmas.List.Folds.{list_all-append}
use Rattle.std.proofs.lemmas.Bool.Decides.{nat_tests}
use Rattle.op_ids.specs.Id.{Id}
use Rattle.op_ids.specs.Clock.{advanced, advanced_by, total_of, IsOverfull}
use Rattle.op_ids.proofs.FullLemmas.{total_of-advanced}
use Rattle.op_model.specs.declared.op.Op.{Op}
use Rattle.op_model.specs.declared.op.Body.{Body}
use Rattle.op_model.specs.declared.edit.Edit.{Edit}
use Rattle.op_model.specs.declared.edit.Change.{Change}
use Rattle.op_model.specs.declared.edit.Change.TheVariants as change
use Rattle.op_model.specs.Text.{visible}
use Rattle.op_model.specs.Causality.{clock_of, is_in_range, documents, has_room, is_within_limits}
use Rattle.op_model.specs.Records.{stream_length}
use Rattle.op_model.specs.Made.{numbered, insert_bodies, bodies_of, made, greatest_counter}
use Rattle.op_model.specs.Made.{origin_of, is_inside, size_of}
use Rattle.model_laws.specs.Asking.{IsAskedRight}
use Rattle.model_laws.proofs.Overfull.{IsOverfull-advanced_by}
use Rattle.model_laws.proofs.Ready.{clock-push}

-- the clock behind an edit's operations
pub clock_of-numbered : (ops : List Op) (replica doc : ℕ) (token : Option ℕ) (counter : ℕ) (clock : List (ℕ × ℕ)) (bodies : List Body)
    → clock_of (ops ++ numbered replica doc token counter clock bodies) ≡ advanced_by (clock_of ops) replica (length bodies)
clock_of-numbered ops replica doc token counter clock [] = ap clock_of (append-nil ops)
clock_of-numbered ops replica doc token counter clock (b ∷ bs) =
    let op : Op = record { id = record { counter = counter; replica = replica }; doc = doc; token = token; deps = clock; body = b } in
    let rest = numbered replica doc token (counter + 1) (advanced clock replica) bs in
    ap clock_of (sym (append_assoc ops (op ∷ []) rest))
    ∙ (clock_of-numbered (ops ++ op ∷ []) replica doc token (counter + 1) (advanced clock replica) bs
    ∙ ap (λ from. advanced_by from replica (length bs)) (clock-push ops op))

-- a clock counts each operation once
pub total_of-clock_of : (ops : List Op) → total_of (clock_of ops) ≡ length ops
total_of-clock_of [] = refl
total_of-clock_of (x ∷ xs) = let rest = total_of-clock_of xs in let more = total_of-advanced (clock_of xs) x.id.replica in omega arith

-- too many replicas or operations are beyond the limits
no_room : (ranges : Bool) (replicas documents operations bytes : ℕ) → (16 < replicas) ⊎ (16777216 < operations)
    → (ranges && (nat_le replicas 16 && nat_le documents 1024 && nat_le operations 16777216 && nat_le bytes 1073741824)) ≡ false
no_room ranges replicas documents operations bytes =
    ⊎_elim (λ (many : 16 < replicas). grind (arith, nat_tests)) (λ (many : 16777216 < operations). grind (arith, nat_tests))

-- a list whose clock counts too much has no room in a store
pub is_within_limits-full : (ops : List Op) → IsOverfull (clock_of ops) → is_within_limits ops ≡ false
is_within_limits-full ops full =
    no_room (list_all is_in_range ops) (length (clock_of ops)) (length (documents ops)) (length ops) (stream_length ops)
    (rw (total_of-clock_of ops) at full.over)

-- an operation for each body
pub length-numbered : (replica doc : ℕ) (token : Option ℕ) (counter : ℕ) (clock : List (ℕ × ℕ)) (bodies : List Body)
    → length (numbered replica doc token counter clock bodies) ≡ length bodies
length-numbered replica doc token counter clock [] = refl
length-numbered replica doc token counter clock (b ∷ bs) =
    let rest = length-numbered replica doc token (counter + 1) (advanced clock replica) bs in omega arith

-- counters that pass the last one are out of range
pub in_range-numbered : (replica doc : ℕ) (token : Option ℕ) (counter : ℕ) (clock : List (ℕ × ℕ)) (bodies : List Body) → 0 < length bodies
    → 281474976710656 < counter + length bodies → list_all is_in_range (numbered replica doc token counter clock bodies) ≡ false
in_range-numbered replica doc token counter clock [] some over = elim some [ ]
in_range-numbered replica doc token counter clock (b ∷ []) some over = grind (arith, nat_tests)
in_range-numbered replica doc token counter clock (b ∷ d ∷ bs) some over =
    let rest = in_range-numbered replica doc token (counter + 1) (advanced clock replica) (d ∷ bs) (omega arith) (omega arith) in
    rw rest (grind (arith, nat_tests))

-- a body for each character
pub length-insert_bodies : (replica counter : ℕ) (origin : Option Id) (text : List ℕ) → length (insert_bodies replica counter origin text) ≡ length text
length-insert_bodies replica counter origin [] = refl
length-insert_bodies replica counter origin (c ∷ cs) =
    ap suc (length-insert_bodies replica (counter + 1) (Some (record { counter = counter; replica = replica })) cs)

-- as many bodies as a change makes operations
pub length-bodies_of : (ops : List Op) (replica doc : ℕ) (it : Change) → is_inside (length (visible ops doc)) it ≡ true
    → length (bodies_of ops replica doc it) ≡ size_of it
length-bodies_of ops replica doc (change.Insert at text) inside =
    length-insert_bodies replica (greatest_counter ops + 1) (origin_of ops doc at) text
length-bodies_of ops replica doc (change.Delete at count) inside =
    simp (length-map, length-take, length-drop) (grind (arith, nat_tests))
length-bodies_of ops replica doc (change.Mark from to mark) inside = refl
length-bodies_of ops replica doc (change.Unmark from to key) inside = refl

-- an edit whose operations a clock can't count is beyond the limits
pub is_within_limits-uncounted : (ops : List Op) (replica : ℕ) (edit : Edit)
    → IsOverfull (advanced_by (clock_of ops) replica (length (bodies_of ops replica edit.doc edit.change)))
    → is_within_limits (ops ++ made ops replica edit) ≡ false
is_within_limits-uncounted ops replica edit full =
    is_within_limits-full (ops ++ made ops replica edit)
    (rw (clock_of-numbered ops replica edit.doc edit.token (greatest_counter ops + 1) (clock_of ops) (bodies_of ops replica edit.doc edit.change)) full)

-- so is one after a list that a clock can't count
pub is_within_limits-uncounted_before : (ops : List Op) (replica : ℕ) (edit : Edit) → IsOverfull (clock_of ops)
    → is_within_limits (ops ++ made ops replica edit) ≡ false
is_within_limits-uncounted_before ops replica edit full =
    is_within_limits-uncounted ops replica edit
    (IsOverfull-advanced_by (clock_of ops) replica (length (bodies_of ops replica edit.doc edit.change)) full)

-- a list with a counter out of range is beyond the limits
out_of_range : (first second room : Bool) → second ≡ false → ((first && second) && room) ≡ false
out_of_range first second room none = grind (arith, nat_tests)

-- so is one whose counters pass the last one
pub is_within_limits-over : (ops : List Op) (replica : ℕ) (edit : Edit) → IsAskedRight ops edit → 0 < size_of edit.change
    → 281474976710656 < greatest_counter ops + 1 + size_of edit.change → is_within_limits (ops ++ made ops replica edit) ≡ false
is_within_limits-over ops replica edit right some over =
    let bodies = bodies_of ops replica edit.doc edit.change in
    let many = length-bodies_of ops replica edit.doc edit.change right.inside in
    let none = in_range-numbered replica edit.doc edit.token (greatest_counter ops + 1) (clock_of ops) bodies (omega arith) (omega arith) in
    rw (list_all-append is_in_range ops (made ops replica edit))
    (out_of_range (list_all is_in_range ops) (list_all is_in_range (made ops replica edit)) (has_room (ops ++ made ops replica edit)) none)
