-- What is told of all documents of a file, and of the room in it.
use Rattle.std.specs.Prelude.{◌≡◌, ℕ, List, ◌++◌, codes, decimal, flat_map, Result, OnOk}
use Rattle.std.specs.Global.{Vec}
use Rattle.list_counts.specs.Documents.{all_counted, Counted, room_of}
use Rattle.op_model.specs.declared.op.Op.{Op}
use Rattle.session_lines.specs.Counting.{said_file_room}

-- these bytes are put after what was there, unless memory is refused
abbrev pub Puts : {T E : Type 0} → Result T E → Vec ℕ → Vec ℕ → List ℕ → Type 0
Puts r old new bytes = OnOk r (new.items ≡ old.items ++ bytes)

-- a number in decimal digits, after what stands before it
abbrev pub member : List ℕ → ℕ → List ℕ
member before number = before ++ decimal number

-- the line of a document: how many characters it shows, its number, and how many operations it has
abbrev pub document_line : Counted → List ℕ
document_line d =
    member (codes "{\"chars\":") d.chars
    ++ (member (codes ",\"doc\":") d.doc ++ (member (codes ",\"ok\":true,\"ops\":") d.ops ++ codes "}\n"))

-- the listing of these operations: a line for each document that has some, in rising order, and then the room
abbrev pub said_listing : List Op → List ℕ
said_listing ops = flat_map document_line (all_counted ops) ++ said_file_room (room_of ops)
