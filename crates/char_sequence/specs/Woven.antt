-- What a weave holds, as contracts see it.
use Rattle.std.specs.Prelude.{ℕ, List}
use Rattle.op_model.specs.declared.op.Op.{Op}
use Rattle.char_sequence.specs.declared.cell.Cell.{Cell}
use Rattle.char_sequence.specs.Content.{AreContent}

-- the characters of a weave, in the order of the text
abbrev pub Woven : Type 0
Woven = List Cell

-- a weave holds the content of these operations, which can be applied one after another
abbrev pub IsWovenOf : Woven → List Op → ℕ → Type 0
IsWovenOf woven ops doc = AreContent woven ops doc
