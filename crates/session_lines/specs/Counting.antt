-- What is counted of a list of operations, as text.
use Rattle.std.specs.Prelude.{ℕ, List, ◌++◌, false, codes, decimal}
use Rattle.fixed_numbers.specs.declared.limits.TheConstants.{MAX_DOCUMENTS, MAX_OPERATIONS, MAX_REPLICAS, MAX_STEPS, MAX_STREAM_LENGTH}
use Rattle.list_counts.specs.Documents.{Counted}
use Rattle.list_counts.specs.declared.room.FileRoom.{FileRoom}
use Rattle.list_counts.specs.declared.room.Room.{Room}
use Rattle.list_counts.specs.declared.version.Version.{Version}
use Rattle.session_lines.specs.Words.{said_list, said_replica}

-- what is counted of a document
abbrev pub said_document : Counted → List ℕ
said_document d =
    codes "{\"chars\":" ++ (decimal d.chars
    ++ (codes ",\"doc\":" ++ (decimal d.doc
    ++ (codes ",\"ops\":" ++ (decimal d.ops
    ++ (codes ",\"writers\":[" ++ (said_list said_replica false d.writers ++ codes "}")))))))

-- the answer that lists documents
abbrev pub said_counted : List Counted → List ℕ
said_counted documents = codes "{\"documents\":[" ++ (said_list said_document false documents ++ codes ",\"ok\":true}\n")

-- a version: how many operations it has, whose they are, and how many the document has after it
abbrev pub said_version : Version → List ℕ
said_version v =
    codes "{\"ops\":" ++ (decimal v.ops
    ++ (codes ",\"replica\":" ++ (said_replica v.replica
    ++ (codes ",\"rev\":" ++ (decimal v.rev ++ codes "}")))))

-- the answer that lists versions
abbrev pub said_versions : ℕ → List Version → List ℕ
said_versions rev versions =
    codes "{\"ok\":true,\"rev\":" ++ (decimal rev ++ (codes ",\"versions\":[" ++ (said_list said_version false versions ++ codes "}\n")))

-- a number and its limit
abbrev pub part : List ℕ → ℕ → List ℕ → ℕ → List ℕ
part before number between limit = before ++ (decimal number ++ (between ++ decimal limit))

-- how much a file has of what there is a limit to
abbrev pub said_taken : FileRoom → List ℕ
said_taken room =
    part (codes "{\"bytes\":") room.bytes (codes ",\"bytes_limit\":") MAX_STREAM_LENGTH
    ++ (part (codes ",\"documents\":") room.documents (codes ",\"documents_limit\":") MAX_DOCUMENTS
    ++ (part (codes ",\"ok\":true,\"operations\":") room.operations (codes ",\"operations_limit\":") MAX_OPERATIONS
    ++ part (codes ",\"replicas\":") room.replicas (codes ",\"replicas_limit\":") MAX_REPLICAS))

-- the line of a file's room
abbrev pub said_file_room : FileRoom → List ℕ
said_file_room room = said_taken room ++ codes "}\n"

-- the answer that says how much room there is
abbrev pub said_room : Room → List ℕ
said_room room =
    said_taken room.file ++ (part (codes ",\"steps\":") room.steps (codes ",\"steps_limit\":") MAX_STEPS ++ codes "}\n")
