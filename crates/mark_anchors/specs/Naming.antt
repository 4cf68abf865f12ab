-- The characters that a mark operation names.
use Rattle.std.specs.Prelude.{◌≡◌, ℕ, false, List, [], ◌++◌}
use Rattle.std.specs.List.{list_all}
use Rattle.op_ids.specs.Id.{Id}
use Rattle.op_model.specs.declared.op.Body.{Body}
use Rattle.op_model.specs.declared.op.Body.TheVariants.{Insert, Remove, AddMark, RemoveMark}
use Rattle.op_model.specs.declared.op.Op.{Op}
use Rattle.op_model.specs.Causality.{named_by_start, named_by_end}
use Rattle.op_model.specs.Characters.{characters}
use Rattle.op_model.specs.Placing.{has_id}

-- those of its start and of its end; another operation is no mark operation
abbrev pub named_by_marking : Body → List Id
named_by_marking (AddMark mark start end) = named_by_start start ++ named_by_end end
named_by_marking (RemoveMark key start end) = named_by_start start ++ named_by_end end
named_by_marking (Insert origin value) = []
named_by_marking (Remove target) = []

-- one of them isn't a character of the document
abbrev pub NamesUnknown : List Op → ℕ → Body → Type 0
NamesUnknown ops doc body = list_all (λ id. has_id (characters ops doc) id) (named_by_marking body) ≡ false
