-- What a replica keeps through its steps.
use Rattle.std.proofs.Common.{◌≡◌, ℕ, ◌+◌, ◌≤◌, Bool, true, false, not, ◌&&◌, nat_le, List, [], ◌∷◌, ◌++◌, length, take, max, cond}
use Rattle.std.proofs.Common.{sum_by, refl, sym, ◌∙◌, ap, Option, Some, None, arith, length-append}
use Rattle.std.specs.Prelude.{◌==◌, ◌≢◌, if◌then◌else◌}
use Rattle.std.specs.List.{list_all}
use Rattle.std.proofs.Math.Seq.{take-append_seam}
use Rattle.std.proofs.lemmas.List.{take-append-le}
use Rattle.std.proofs.lemmas.List.Sums.{count_by-le-length, sum_by-append, sum_by-cons}
use Rattle.std.proofs.lemmas.Bool.{le-leb, eq-eqb}
use Rattle.std.proofs.lemmas.Bool.Decides.{nat_tests}
use Rattle.op_ids.specs.Clock.{advanced, is_ready}
use Rattle.op_model.specs.declared.op.Op.{Op}
use Rattle.op_model.specs.declared.op.Body.{Body}
use Rattle.op_model.specs.declared.edit.Edit.{Edit}
use Rattle.op_model.specs.Causality.{clock_of, documents, made_by, first_failed, is_in_range, is_known, is_within_limits}
use Rattle.op_model.specs.Made.{is_at_rev, is_inside, is_small, made, numbered, bodies_of, greatest_counter, edit_refusal, size_of}
use Rattle.op_model.specs.Records.{stream_length}
use Rattle.op_model.specs.Machine.{merge_alone, applied}
use Rattle.op_model.specs.Replay.{Kept, merged, Joins, Replays}
use Rattle.op_model.specs.Spans.{with_number}
use Rattle.op_model.specs.Text.{rev, visible}
use Rattle.model_laws.proofs.Growth.{closed_push}
use Rattle.model_laws.proofs.Ready.{clock-push}
use Rattle.model_laws.specs.Asking.{IsAskedRight}
use Rattle.doc_core.specs.declared.doc.Doc.{Doc}
use Rattle.edit_tokens.specs.declared.place.Place.{Place}
use Rattle.edit_tokens.proofs.PlaceLemmas.{tokens_foreign}
use Rattle.model_laws.proofs.Closed.{follows_fits}
use Rattle.replica_core.specs.declared.index.Index.{Index}
use Rattle.replica_core.specs.declared.repeats.Repeats.{Repeats}
use Rattle.replica_core.specs.Repeats.{AreRepeats}
use Rattle.replica_core.specs.declared.log.Log.{Log}
use Rattle.replica_core.specs.Log.{IsAppended}
use Rattle.replica_core.specs.Fields.{AreFields, held_of}
use Rattle.op_model.specs.Held.{ReplicaHeld, with_merge}
use Rattle.replica_core.specs.Held.{IsSound}
use Rattle.replica_core.specs.Merging.{CanMerge}
use Rattle.model_laws.proofs.Ready.{documents-push}
use Rattle.replica_core.proofs.LimitLemmas.{length-made}
use Rattle.model_laws.proofs.Passing.{passed_follows}

-- the causes of an edit, where none holds
abbrev causes : Bool → Bool → Bool → Option ℕ
causes current inside kept = if not current then Some 6 else if not inside then Some 5 else if not kept then Some 7 else None

none_refused : (a b c d : Bool) → causes a b (c && d) ≡ None → (a ≡ true) × (b ≡ true) × (c ≡ true) × (d ≡ true)
none_refused true true true true e = (refl, refl, refl, refl)
none_refused true true true false e = absurd (cc)
none_refused true true false d e = absurd (cc)
none_refused true false c d e = absurd (cc)
none_refused false b c d e = absurd (cc)

-- an edit that nothing refuses asks right
pub due_asks_right : (ops : List Op) (replica : ℕ) (e : Edit) → edit_refusal ops replica e ≡ None → IsAskedRight ops e
due_asks_right ops replica e due =
    let all = none_refused (is_at_rev (rev ops e.doc) e.rev) (is_inside (length (visible ops e.doc)) e.change) (is_small e.change) (is_within_limits (ops ++ made ops replica e)) due in
    record { current = all.0; inside = all.1; small = all.2 }

-- and keeps the limits
pub due_within : (ops : List Op) (replica : ℕ) (e : Edit) → edit_refusal ops replica e ≡ None → is_within_limits (ops ++ made ops replica e) ≡ true
due_within ops replica e due =
    (none_refused (is_at_rev (rev ops e.doc) e.rev) (is_inside (length (visible ops e.doc)) e.change) (is_small e.change) (is_within_limits (ops ++ made ops replica e)) due).3

room_of_operations : (a b c d e : Bool) → (a && (b && c && d && e)) ≡ true → d ≡ true
room_of_operations a b c d e all = grind (arith, nat_tests)

at_most_from : (n last : ℕ) → nat_le n last ≡ true → n ≤ last
at_most_from n last small = grind (arith, nat_tests)

-- a list has room for what comes behind it within the limits
pub list_fits : (ops more : List Op) → is_within_limits (ops ++ more) ≡ true → length ops + length more ≤ 16777216
list_fits ops more limits =
    let all = ops ++ more in
    let small = room_of_operations (list_all is_in_range all) (nat_le (length (clock_of all)) 16) (nat_le (length (documents all)) 1024) (nat_le (length all) 16777216) (nat_le (stream_length all) 1073741824) limits in
    rw length-append at (at_most_from (length all) 16777216 small)

-- so it has room for an edit's operations
pub due_fits : (ops : List Op) (replica : ℕ) (e : Edit) → edit_refusal ops replica e ≡ None → length ops + length (made ops replica e) ≤ 16777216
due_fits ops replica e due = list_fits ops (made ops replica e) (due_within ops replica e due)

numbered_own : (replica doc : ℕ) (token : Option ℕ) (counter : ℕ) (clock : List (ℕ × ℕ)) (bs : List Body)
    → made_by replica (numbered replica doc token counter clock bs) ≡ numbered replica doc token counter clock bs
numbered_own replica doc token counter clock [] = refl
numbered_own replica doc token counter clock (b ∷ bs) =
    let op : Op = record { id = record { counter = counter; replica = replica }; doc = doc; token = token; deps = clock; body = b } in
    rw (eq-eqb replica replica refl) (ap (λ rest. op ∷ rest) (numbered_own replica doc token (counter + 1) (advanced clock replica) bs))

-- what an edit makes is its replica's
pub made_own : (ops : List Op) (replica : ℕ) (e : Edit) → made_by replica (made ops replica e) ≡ made ops replica e
made_own ops replica e = numbered_own replica e.doc e.token (greatest_counter ops + 1) (clock_of ops) (bodies_of ops replica e.doc e.change)

rev-numbered : (replica doc : ℕ) (token : Option ℕ) (counter : ℕ) (clock : List (ℕ × ℕ)) (bs : List Body)
    → rev (numbered replica doc token counter clock bs) doc ≡ length (numbered replica doc token counter clock bs)
rev-numbered replica doc token counter clock [] = refl
rev-numbered replica doc token counter clock (b ∷ bs) =
    let op : Op = record { id = record { counter = counter; replica = replica }; doc = doc; token = token; deps = clock; body = b } in
    let more : List Op = numbered replica doc token (counter + 1) (advanced clock replica) bs in
    let first : (doc == doc) ≡ true = eq-eqb doc doc refl in
    let rest : sum_by (λ (o : Op). cond (o.doc == doc) 1 0) more ≡ length more = rev-numbered replica doc token (counter + 1) (advanced clock replica) bs in
    sum_by-cons (λ (o : Op). cond (o.doc == doc) 1 0) op more ∙ (rw (first, rest) (omega arith))

-- the number of its document's operations rises by the size of the change
pub rev-made : (ops : List Op) (replica : ℕ) (e : Edit) → edit_refusal ops replica e ≡ None
    → rev (ops ++ made ops replica e) e.doc ≡ rev ops e.doc + size_of e.change
rev-made ops replica e due =
    let more = rev-numbered replica e.doc e.token (greatest_counter ops + 1) (clock_of ops) (bodies_of ops replica e.doc e.change) in
    let many = length-made ops replica e (due_asks_right ops replica e due) in
    sum_by-append (λ (o : Op). cond (o.doc == e.doc) 1 0) ops (made ops replica e) ∙ ap (λ n. rev ops e.doc + n) (more ∙ many)

-- neither list nor document gets too many operations
pub due_counts : (ops : List Op) (replica : ℕ) (e : Edit) → edit_refusal ops replica e ≡ None
    → (length ops + size_of e.change ≤ 16777216) × (rev ops e.doc + size_of e.change ≤ 16777216)
due_counts ops replica e due =
    let few = due_fits ops replica e due in
    let many = length-made ops replica e (due_asks_right ops replica e due) in
    let within = count_by-le-length (λ (op : Op). op.doc == e.doc) ops in
    (omega arith, omega arith)

-- what a replica keeps is kept by a merge
pub IsSound-with_merge : (h : ReplicaHeld) (peer : ℕ) (op : Op) → IsSound h → CanMerge h op → IsSound (with_merge h peer op)
IsSound-with_merge h peer op sound can =
    let long = length-append h.list (op ∷ []) in
    let seam = take-append_seam h.list (op ∷ []) in
    let front = take-append-le h.opened h.list (op ∷ []) sound.opened in
    let first : h.list ++ op ∷ [] ≡ take (length h.list) (h.list ++ op ∷ []) ++ op ∷ [] = rw seam refl in
    let joins : Joins h.replica (take (length h.list) (h.list ++ op ∷ [])) op = rw seam can.joins in
    let rest : Replays h.replica (take h.opened (h.list ++ op ∷ [])) h.steps (take (length h.list) (h.list ++ op ∷ [])) = rw (front, seam) sound.replays in
    record {
      closed = closed_push h.list op sound.closed can.joins.follows;
      opened = let within = sound.opened in omega arith;
      replays = (op, first, omega arith, joins, rest);
      number = sound.number;
      settled = let within = sound.settled in omega arith;
      acked = sound.acked;
      told = sound.told;
      places = let places = can.places in omega arith;
    }

-- what a replica holds behind a merge
pub held_of-merge : (id opened settled acked told peer index : ℕ) (steps : List Kept) (old new : Log) (added : List Op) (op : Op)
    → IsAppended old new added op.doc → added ≡ op ∷ [] → index ≡ length old.list
    → held_of id new.list opened settled acked told (merged peer index ∷ steps)
    ≡ with_merge (held_of id old.list opened settled acked told steps) peer op
held_of-merge id opened settled acked told peer index steps old new added op is are at =
    rw (is.list, are, at) refl

-- and that its fields are those
pub AreFields-merge : (id opened settled acked told peer index : ℕ) (steps : List Kept) (old new : Log) (added : List Op) (op : Op)
    → (counts_before counts : List (ℕ × ℕ)) (places : List (ℕ × Place)) (repeats_before repeats : Repeats)
    → AreFields (held_of id old.list opened settled acked told steps) counts_before old.docs.items old.index places repeats_before
    → CanMerge (held_of id old.list opened settled acked told steps) op → counts ≡ advanced counts_before op.id.replica
    → IsAppended old new added op.doc → added ≡ op ∷ [] → index ≡ length old.list → AreRepeats repeats (old.list ++ op ∷ [])
    → repeats.from ≡ repeats_before.from
    → AreFields (held_of id new.list opened settled acked told (merged peer index ∷ steps)) counts new.docs.items new.index places repeats
AreFields-merge id opened settled acked told peer index steps old new added op counts_before counts places repeats_before repeats fields can is_clock is are at noted from =
    let h : ReplicaHeld = held_of id old.list opened settled acked told steps in
    let held = held_of-merge id opened settled acked told peer index steps old new added op is are at in
    rw held (record {
      sound = IsSound-with_merge h peer op fields.sound can;
      clock = is_clock ∙ (ap (λ es. advanced es op.id.replica) fields.clock ∙ sym (clock-push old.list op));
      docs = record {
        numbers = is.numbers ∙ (ap (with_number op.doc) fields.docs.numbers ∙ sym (documents-push old.list op));
        stand = rw are at (is.stand fields.docs (rw are (follows_fits old.list op.doc op can.joins.follows refl, tt)));
      };
      index = rw (← are, ← is.list) (is.index fields.index);
      tokens = tokens_foreign places id old.list op can.joins.foreign fields.tokens;
      repeats = noted;
      noted_from = from ∙ fields.noted_from;
    })

differs : (a b : ℕ) → (a == b) ≡ false → a ≢ b
differs a b other = grind (arith, nat_tests)

-- where a merge may apply an operation
pub may_merge : (h : ReplicaHeld) (op : Op) → is_ready (clock_of h.list) op.id.replica op.deps ≡ true → (op.id.replica == h.replica) ≡ false
    → first_failed h.list op ≡ None → length h.steps + 3 ≤ 1048576 → CanMerge h op
may_merge h op ready other passed places = record {
  joins = record { follows = passed_follows h.list op ready passed; foreign = differs op.id.replica h.replica other };
  places = places;
}

-- there it answers so
pub merge_alone-applied : (h : ReplicaHeld) (op : Op) → is_known (clock_of h.list) op ≡ false → is_ready (clock_of h.list) op.id.replica op.deps ≡ true
    → (op.id.replica == h.replica) ≡ false → first_failed h.list op ≡ None → length h.steps + 3 ≤ 1048576
    → merge_alone h op ≡ applied
merge_alone-applied h op new ready other passed places =
    let fits : nat_le (length h.steps + 3) 1048576 ≡ true = le-leb (length h.steps + 3) 1048576 places in
    rw (new, other, ready, passed, fits) refl

-- what a replica keeps is kept where it told of settled operations
pub AreFields-told : (h : ReplicaHeld) (n now : ℕ) (counts : List (ℕ × ℕ)) (docs : List Doc) (known : Index) (places : List (ℕ × Place)) (repeats : Repeats)
    → AreFields h counts docs known places repeats → n ≤ h.settled
    → now ≡ max h.told n → AreFields (record h { told = now }) counts docs known places repeats
AreFields-told h n now counts docs known places repeats fields within is_it = record {
  sound = record {
    closed = fields.sound.closed;
    opened = fields.sound.opened;
    replays = fields.sound.replays;
    number = fields.sound.number;
    settled = fields.sound.settled;
    acked = fields.sound.acked;
    told = let told = fields.sound.told in omega arith;
    places = fields.sound.places;
  };
  clock = fields.clock;
  docs = fields.docs;
  index = fields.index;
  tokens = fields.tokens;
  repeats = fields.repeats;
  noted_from = fields.noted_from;
}
