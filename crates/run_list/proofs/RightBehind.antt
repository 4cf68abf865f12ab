-- What a record says of the operation before it.
use Rattle.std.proofs.Common.{◌≡◌, ◌+◌, true, false, Some, None, sym, ◌∙◌, inl, inr}
use Rattle.std.specs.Prelude.{◌&&◌, ◌==◌}
use Rattle.std.proofs.lemmas.Bool.{cases_Bool, and_from, and_parts}
use Rattle.op_ids.specs.Id.{Id}
use Rattle.op_model.specs.declared.op.Op.{Op}
use Rattle.op_model.specs.declared.op.Body.{Body}
use Rattle.op_model.specs.declared.op.Body.TheVariants.{Insert, Remove, AddMark, RemoveMark}
use Rattle.op_list.specs.Heads.{head_of}
use Rattle.op_ids.specs.Clock.{advanced, is_same_clock}
use Rattle.op_model.specs.Causality.{is_insert}
use Rattle.op_pieces.specs.Cutting.{is_behind, is_next, is_same_token}
use Rattle.change_codec.specs.Heads.{origin_of}
use Rattle.run_list.specs.Writer.{is_id, is_numbered_behind, is_right_behind}

-- what inserts behind a character has it as its origin
has_origin : (id : Id) (body : Body) → is_behind id body ≡ true → is_id (origin_of body) id ≡ true
has_origin id (Insert (Some origin) value) is = is
has_origin id (Insert None value) is = absurd cc
has_origin id (Remove target) is = absurd cc
has_origin id (AddMark mark start end) is = absurd cc
has_origin id (RemoveMark key start end) is = absurd cc

-- what goes on with a run is right behind its last operation
next_is_behind : (last op : Op) → is_next last op ≡ true → is_right_behind (head_of last) op ≡ true
next_is_behind last op is =
    let same_clocks = is_same_clock op.deps (advanced last.deps last.id.replica) in
    let same_tokens = is_same_token op.token last.token && same_clocks in
    let same_doc = op.doc == last.doc in
    let same_replica = op.id.replica == last.id.replica in
    let next_counter = op.id.counter == last.id.counter + 1 in
    let inserts = and_parts (is_insert last.body) (is_behind last.id op.body && (next_counter && (same_replica && (same_doc && same_tokens)))) is in
    let behind = and_parts (is_behind last.id op.body) (next_counter && (same_replica && (same_doc && same_tokens))) inserts.1 in
    let counter = and_parts next_counter (same_replica && (same_doc && same_tokens)) behind.1 in
    let replica = and_parts same_replica (same_doc && same_tokens) counter.1 in
    let doc = and_parts same_doc same_tokens replica.1 in
    let numbered = and_from next_counter (same_replica && same_doc) counter.0 (and_from same_replica same_doc replica.0 doc.0) in
    and_from (is_numbered_behind (head_of last) op.id op.doc) (is_id (origin_of op.body) last.id) numbered (has_origin last.id op.body behind.0)

-- so what isn't doesn't
pub others_begin : (last op : Op) → is_right_behind (head_of last) op ≡ false → is_next last op ≡ false
others_begin last op off =
    elim (cases_Bool (is_next last op)) [
      | inl on ↦ absurd (let both = sym (next_is_behind last op on) ∙ off in let broken : ⊥ = cc in broken)
      | inr not_next ↦ not_next
    ]
