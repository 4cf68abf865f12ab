-- What is known of operations without their deps and their contents.
use Rattle.std.specs.Prelude.{Bool, true, false, List, map}
use Rattle.op_model.specs.declared.op.Op.{Op}
use Rattle.op_model.specs.Causality.{is_insert}
use Rattle.change_codec.specs.declared.head.Head.{Head}
use Rattle.change_codec.specs.declared.content.Kind.{Kind}
use Rattle.change_codec.specs.declared.content.Kind.TheVariants.{Insert, Remove, AddMark, RemoveMark}
use Rattle.op_list.specs.declared.head.OpHead.{OpHead}

-- the id of an operation, its document, and whether it inserts a character
abbrev pub head_of : Op → OpHead
head_of op = record { id = op.id; doc = op.doc; is_insert = is_insert op.body }

-- the same of each operation of a list
abbrev pub heads : List Op → List OpHead
heads ops = map head_of ops

-- whether records of this kind insert a character
abbrev pub is_insert_kind : Kind → Bool
is_insert_kind Insert = true
is_insert_kind Remove = false
is_insert_kind AddMark = false
is_insert_kind RemoveMark = false

-- the same as an operation's record begins with it
abbrev pub recorded : Head → OpHead
recorded head = record { id = head.id; doc = head.doc; is_insert = is_insert_kind head.kind }
