-- Where deps count all operations of a replica, they cover its characters that are there.
use Rattle.std.proofs.Common.{◌≡◌, ◌∙◌, ℕ, ◌≤◌, true, List, take, ap, take_all, arith}
use Rattle.std.specs.Prelude.{◌==◌, ◌&&◌}
use Rattle.std.specs.Cmp.{both_ways}
use Rattle.std.specs.List.{list_any}
use Rattle.std.proofs.lemmas.Bool.{and_parts, eq-eqb}
use Rattle.std.proofs.lemmas.Map.Views.{any-filter_same}
use Rattle.op_ids.specs.Clock.{count_of}
use Rattle.op_ids.specs.Id.{Id, is_same}
use Rattle.op_model.specs.declared.op.Op.{Op}
use Rattle.op_model.specs.Causality.{clock_of, is_covered_insert, is_insert, made_by}
use Rattle.op_model.specs.Characters.{characters}
use Rattle.op_model.specs.Placing.{has_id}
use Rattle.model_laws.proofs.Closed.{insert_found, is_insert_at}
use Rattle.model_laws.proofs.Ids.{same_equal}
use Rattle.model_laws.proofs.Ready.{count_made, found_insert}

-- the insert of a character is one of its replica
own_insert : (doc : ℕ) (id : Id) (op : Op) → is_insert_at doc id op ≡ true → (op.id.replica == id.replica) ≡ true
own_insert doc id op it =
    let same = (and_parts (is_same op.id id) (op.doc == doc) (and_parts (is_same op.id id && op.doc == doc) (is_insert op.body) it).0).0 in
    eq-eqb op.id.replica id.replica (ap (λ (i : Id). i.replica) (same_equal op.id id same))

-- so deps that count all operations of its replica cover it if it is there
pub covered_there : (ops : List Op) (deps : List (ℕ × ℕ)) (doc : ℕ) (id : Id) → count_of (clock_of ops) id.replica ≤ count_of deps id.replica
    → is_covered_insert ops deps doc id ≡ has_id (characters ops doc) id
covered_there ops deps doc id all =
    let made = count_made ops id.replica in
    let whole : take (count_of deps id.replica) (made_by id.replica ops) ≡ made_by id.replica ops =
    take_all (count_of deps id.replica) (made_by id.replica ops) (omega arith) in
    ap (list_any (is_insert_at doc id)) whole
    ∙ (any-filter_same (is_insert_at doc id) (λ op. op.id.replica == id.replica) true (own_insert doc id) ops
    ∙ both_ways (list_any (is_insert_at doc id) ops) (has_id (characters ops doc) id) (insert_found ops doc id) (found_insert ops doc id))
