-- What a replica keeps through an action.
use Rattle.std.proofs.Common.{◌≡◌, ℕ, ◌+◌, ◌<◌, true, false, nat_le, List, ◌++◌, length, take, refl, sym, ◌∙◌, ap, arith, length-append, ◌∷◌}
use Rattle.std.proofs.Math.Seq.{take-append_seam}
use Rattle.std.proofs.lemmas.List.{take-append-le}
use Rattle.std.proofs.lemmas.Bool.{le-leb}
use Rattle.char_sequence.specs.Content.{FitAfter}
use Rattle.doc_core.specs.declared.doc.Doc.{Doc}
use Rattle.edit_tokens.specs.declared.place.Place.{Place}
use Rattle.edit_tokens.specs.Places.{AreTokens}
use Rattle.op_model.specs.Actions.{made_by_action, Asked}
use Rattle.op_model.specs.Causality.{clock_of}
use Rattle.op_model.specs.declared.op.Op.{Op}
use Rattle.op_model.specs.Held.{ReplicaHeld, with_edit}
use Rattle.op_model.specs.Machine.{new_edit_alone, ticket}
use Rattle.op_model.specs.Replay.{Kept, edited, Replays}
use Rattle.op_model.specs.Spans.{with_number}
use Rattle.op_model.specs.Text.{rev}
use Rattle.replica_core.specs.declared.index.Index.{Index}
use Rattle.replica_core.specs.declared.log.Log.{Log}
use Rattle.replica_core.specs.declared.repeats.Repeats.{Repeats}
use Rattle.replica_core.specs.Docs.{numbers, AllStand, AreDocs}
use Rattle.replica_core.specs.Fields.{AreFields, held_of}
use Rattle.replica_core.specs.Held.{CanEdit, IsSound}
use Rattle.replica_core.specs.Indexes.{IsIndexOf}
use Rattle.replica_core.specs.Log.{IsAppended}
use Rattle.replica_core.proofs.ActionLemmas.{action_documents, closed_with, fit, removes_nothing_again}
use Rattle.replica_core.proofs.RepeatLemmas.{put_others}

-- what is answered to a new action that nothing refuses
pub new_edit_alone-due : (h : ReplicaHeld) (e : Asked) (end revs : ℕ) → CanEdit h e
    → end ≡ length (h.list ++ made_by_action h.list h.replica e) → revs ≡ rev (h.list ++ made_by_action h.list h.replica e) e.doc
    → new_edit_alone h e ≡ ticket (record { end = end; rev = revs; known = false })
new_edit_alone-due h e end revs can ends counts =
    let fits : nat_le (length h.steps + 3) 1048576 ≡ true = le-leb (length h.steps + 3) 1048576 can.places in
    rw (can.due, fits, ends, counts) refl

-- what a replica keeps is kept by an action
pub IsSound-with_edit : (h : ReplicaHeld) (session : ℕ) (e : Asked) → IsSound h → CanEdit h e → IsSound (with_edit h session e)
IsSound-with_edit h session e sound can =
    let more = made_by_action h.list h.replica e in
    let long = length-append h.list more in
    let seam = take-append_seam h.list more in
    let front = take-append-le h.opened h.list more sound.opened in
    let first : h.list ++ more ≡ take (length h.list) (h.list ++ more) ++ made_by_action (take (length h.list) (h.list ++ more)) h.replica e = rw seam refl in
    let rest : Replays h.replica (take h.opened (h.list ++ more)) h.steps (take (length h.list) (h.list ++ more)) = rw (front, seam) sound.replays in
    record {
      closed = closed_with h.list h.replica e sound.closed can.due;
      opened = let within = sound.opened in omega arith;
      replays = (first, long, rest);
      number = sound.number;
      settled = let within = sound.settled in omega arith;
      acked = sound.acked;
      told = sound.told;
      places = let places = can.places in omega arith;
    }

-- so are its fields
pub AreFields-with_edit : (h : ReplicaHeld) (session : ℕ) (e : Asked) (counts_before counts : List (ℕ × ℕ)) (docs_before docs : List Doc) (before after : Index)
    → (places_before places : List (ℕ × Place)) (repeats : Repeats)
    → AreFields h counts_before docs_before before places_before repeats → CanEdit h e → 0 < length (made_by_action h.list h.replica e)
    → counts ≡ clock_of (h.list ++ made_by_action h.list h.replica e) → numbers docs ≡ with_number e.doc (numbers docs_before)
    → (AreDocs docs_before h.list → FitAfter h.list e.doc (made_by_action h.list h.replica e) → AllStand docs (h.list ++ made_by_action h.list h.replica e))
    → (IsIndexOf before h.list → IsIndexOf after (h.list ++ made_by_action h.list h.replica e))
    → AreTokens places h.replica (h.list ++ made_by_action h.list h.replica e) → AreFields (with_edit h session e) counts docs after places repeats
AreFields-with_edit h session e counts_before counts docs_before docs before after places_before places repeats fields can some is_clock are_numbers stand indexed are_tokens =
    let closed = fields.sound.closed in
    record {
      sound = IsSound-with_edit h session e fields.sound can;
      clock = is_clock;
      docs = record {
        numbers = are_numbers ∙ (ap (with_number e.doc) fields.docs.numbers ∙ sym (action_documents h.list h.replica e some));
        stand = stand fields.docs (fit h.list h.replica e closed can.due);
      };
      index = indexed fields.index;
      tokens = are_tokens;
      repeats = put_others repeats h.list (made_by_action h.list h.replica e) fields.repeats (removes_nothing_again h.list h.replica e closed can.due);
      noted_from = fields.noted_from;
    }

-- what a replica holds after an action's operations and its step
pub held_of-edit : (id opened settled acked told session first count : ℕ) (steps : List Kept) (old new : Log) (added : List Op) (e : Asked)
    → IsAppended old new added e.doc → added ≡ made_by_action old.list id e
    → first ≡ length old.list → count ≡ length added
    → held_of id new.list opened settled acked told (edited session e first count ∷ steps)
    ≡ with_edit (held_of id old.list opened settled acked told steps) session e
held_of-edit id opened settled acked told session first count steps old new added e is are at many =
    let number : count ≡ length (made_by_action old.list id e) = many ∙ ap length are in
    rw (is.list, are, at, number) refl

-- and that its fields are those
pub AreFields-edit : (id opened settled acked told session first count : ℕ) (steps : List Kept) (old new : Log) (added : List Op) (e : Asked)
    → (counts_before counts : List (ℕ × ℕ)) (places_before places : List (ℕ × Place)) (repeats : Repeats)
    → AreFields (held_of id old.list opened settled acked told steps) counts_before old.docs.items old.index places_before repeats
    → CanEdit (held_of id old.list opened settled acked told steps) e → 0 < length (made_by_action old.list id e)
    → counts ≡ clock_of (old.list ++ made_by_action old.list id e)
    → IsAppended old new added e.doc → added ≡ made_by_action old.list id e
    → first ≡ length old.list → count ≡ length added → AreTokens places id (old.list ++ made_by_action old.list id e)
    → AreFields (held_of id new.list opened settled acked told (edited session e first count ∷ steps)) counts new.docs.items new.index places repeats
AreFields-edit id opened settled acked told session first count steps old new added e counts_before counts places_before places repeats fields can some is_clock is are at many are_tokens =
    let h : ReplicaHeld = held_of id old.list opened settled acked told steps in
    let held = held_of-edit id opened settled acked told session first count steps old new added e is are at many in
    rw held
    (AreFields-with_edit h session e counts_before counts old.docs.items new.docs.items old.index new.index places_before places repeats
    fields can some is_clock is.numbers (λ docs come. rw are at (is.stand docs (rw are come))) (λ was. rw (← are, ← is.list) (is.index was)) are_tokens)
