-- An index with one operation more.
use Rattle.std.proofs.Common.{◌≡◌, ℕ, zero, suc, ◌+◌, ◌<◌, ◌≤◌, max, false, inl, inr, List, [], ◌∷◌, ◌++◌, length, take, drop, get_or, refl}
use Rattle.std.proofs.Common.{sym, ◌∙◌, ap, append_assoc, arith}
use Rattle.std.specs.Prelude.{◌==◌, ◌≢◌}
use Rattle.std.proofs.lemmas.Bool.{cases_Bool, eqb-true, eq-eqb, both_ways}
use Rattle.std.proofs.lemmas.List.{drop_more, take_more}
use Rattle.op_model.specs.declared.op.Op.{Op}
use Rattle.op_model.specs.Causality.{made_by}
use Rattle.op_model.specs.Records.{record_length, stream_length}
use Rattle.model_laws.proofs.Ready.{greatest-push}
use Rattle.model_laws.proofs.Limits.{stream_length-append}
use Rattle.replica_core.specs.declared.index.Index.{Index}
use Rattle.replica_core.specs.Indexes.{IsIndexOf}
use Rattle.replica_core.specs.Makers.{places_of, at_places, AreBelow}
use Rattle.replica_core.proofs.OwnLemmas.{places_push, places_push_other, places_below, places_made}

-- an index with the same numbers, whatever its room
pub index_same : (old new : Index) → ((r : ℕ) → places_of new.makers.items r ≡ places_of old.makers.items r)
    → new.greatest ≡ old.greatest → new.stream ≡ old.stream → (ops : List Op) → IsIndexOf old ops → IsIndexOf new ops
index_same old new same greatest stream ops is = record {
  places = λ r. same r ∙ is.places r;
  greatest = greatest ∙ is.greatest;
  stream = stream ∙ is.stream;
}

apart : (a b : ℕ) → (a == b) ≡ false → b ≢ a
apart a b differs same = both_ways (a == b) differs (eq-eqb a b (sym same))

-- with one operation more
pub index_push : (old new : Index) (op : Op) (ops : List Op)
    → places_of new.makers.items op.id.replica ≡ places_of old.makers.items op.id.replica ++ length ops ∷ []
    → ((r : ℕ) → r ≢ op.id.replica → places_of new.makers.items r ≡ places_of old.makers.items r)
    → new.greatest ≡ max op.id.counter old.greatest → new.stream ≡ old.stream + record_length op
    → IsIndexOf old ops → IsIndexOf new (ops ++ op ∷ [])
index_push old new op ops own others greatest stream is = record {
  places = λ r. elim (cases_Bool (op.id.replica == r)) [
    | inl same ↦ let is_r : op.id.replica ≡ r = eqb-true op.id.replica r same in
        rw (places_push ops op r is_r, ← is_r, own, is.places op.id.replica) refl
    | inr other ↦ rw (others r (apart op.id.replica r other), places_push_other ops op r other) (is.places r)
  ];
  greatest = greatest ∙ (rw (is.greatest) (let more = greatest-push ops op in omega arith));
  stream = stream ∙ (rw (is.stream) (let more = stream_length-append ops (op ∷ []) in omega arith));
}

-- one more of a list of operations is counted
pub index_more : (new : Index) (earlier ops : List Op) (i : ℕ) (op : Op) → i < length ops → op ≡ get_or ops i op
    → IsIndexOf new ((earlier ++ take i ops) ++ op ∷ []) → IsIndexOf new (earlier ++ take (i + 1) ops)
index_more new earlier ops i op here is_it is =
    let grown : earlier ++ take (i + 1) ops ≡ (earlier ++ take i ops) ++ op ∷ [] =
    rw (take_more ops i op here, ← is_it) (sym (append_assoc earlier (take i ops) (op ∷ []))) in
    rw grown is

-- the records of what is left
pub stream_rest : (ops : List Op) (i : ℕ) (op : Op) → i < length ops → op ≡ get_or ops i op
    → stream_length (drop i ops) ≡ record_length op + stream_length (drop (i + 1) ops)
stream_rest ops i op here is_it = rw (drop_more ops i op here, ← is_it) refl

-- its indexes are those of the list, and the operations there are the replica's
pub index_below : (index : Index) (ops : List Op) (r : ℕ) → IsIndexOf index ops → AreBelow (length ops) (places_of index.makers.items r)
index_below index ops r is = rw (is.places r) (places_below ops r)

pub index_made : (index : Index) (ops : List Op) (r : ℕ) → IsIndexOf index ops → at_places ops (places_of index.makers.items r) ≡ made_by r ops
index_made index ops r is = rw (is.places r) (places_made ops r)

-- where none are kept, the replica has none
pub index_nothing : (index : Index) (ops : List Op) (r : ℕ) → IsIndexOf index ops → places_of index.makers.items r ≡ [] → made_by r ops ≡ []
index_nothing index ops r is none = sym (index_made index ops r is) ∙ ap (at_places ops) none

pub made_shorter : (r : ℕ) (xs : List Op) → length (made_by r xs) ≤ length xs
made_shorter r [] = omega arith
made_shorter r (x ∷ xs) =
    elim (cases_Bool (x.id.replica == r)) [
      | inl same ↦ rw same (let rest = made_shorter r xs in omega arith)
      | inr differs ↦ rw differs (let rest = made_shorter r xs in omega arith)
    ]

all_own : (r : ℕ) (x : Op) (xs : List Op) → made_by r (x ∷ xs) ≡ x ∷ xs → (x.id.replica ≡ r) × (made_by r xs ≡ xs)
all_own r x xs own =
    elim (cases_Bool (x.id.replica == r)) [
      | inl first ↦ let rest : x ∷ made_by r xs ≡ x ∷ xs = rw first at own in
          let tail : made_by r xs ≡ xs = cc in
          (eqb-true x.id.replica r first, tail)
      | inr other ↦ let dropped : made_by r xs ≡ x ∷ xs = rw other at own in
          let shorter = made_shorter r xs in
          let long = ap length dropped in
          absurd (omega arith)
    ]

-- each of one replica's operations is its own
pub own_at : (r : ℕ) (ops : List Op) (i : ℕ) (op : Op) → made_by r ops ≡ ops → i < length ops → op ≡ get_or ops i op → op.id.replica ≡ r
own_at r [] i op own here is_it = absurd (omega arith)
own_at r (x ∷ ops) zero op own here is_it = rw is_it (all_own r x ops own).0
own_at r (x ∷ ops) (suc i) op own here is_it = own_at r ops i op (all_own r x ops own).1 (omega arith) is_it
