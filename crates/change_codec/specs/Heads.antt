-- What each record begins with.
use Rattle.std.specs.Prelude.{Option, None, is_some}
use Rattle.op_ids.specs.Id.{Id}
use Rattle.op_model.specs.declared.op.Op.{Op}
use Rattle.op_model.specs.declared.op.Body.{Body}
use Rattle.op_model.specs.declared.op.Body.TheVariants.{Insert, Remove, AddMark, RemoveMark}
use Rattle.change_codec.specs.declared.head.Head.{Head}
use Rattle.change_codec.specs.declared.content.Kind.{Kind}
use Rattle.change_codec.specs.declared.content.Kind.TheVariants as kind

-- the kind of an operation's record
abbrev pub kind_of : Body → Kind
kind_of (Insert origin value) = kind.Insert
kind_of (Remove target) = kind.Remove
kind_of (AddMark mark from to) = kind.AddMark
kind_of (RemoveMark mark from to) = kind.RemoveMark

-- the kind of an operation, whether it has a token, its document and its id
abbrev pub head_of : Op → Head
head_of op = record { kind = kind_of op.body; has_token = is_some op.token; doc = op.doc; id = op.id }

-- the character behind which an operation inserts, if it inserts behind one
abbrev pub origin_of : Body → Option Id
origin_of (Insert origin value) = origin
origin_of (Remove target) = None
origin_of (AddMark mark from to) = None
origin_of (RemoveMark mark from to) = None
