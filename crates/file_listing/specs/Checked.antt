-- What is told of a file that was checked.
use Rattle.std.specs.Prelude.{ℕ, List, ◌++◌, codes}
use Rattle.std.specs.Int.{w128, to_be_bytes}
use Rattle.uuid.specs.Text.{lower, hyphenated_text}
use Rattle.change_codec.specs.declared.format.Format.{Format}
use Rattle.change_codec.specs.declared.format.Format.TheVariants.{First, Second, Third}
use Rattle.root_reports.specs.declared.slot_report.SlotReport.{SlotReport}
use Rattle.root_reports.specs.declared.stale.Stale.{Stale}
use Rattle.root_reports.specs.declared.stale.Stale.TheVariants.{Older, Unfinished, Empty, Broken}
use Rattle.file_listing.specs.Listing.{member}
use Rattle.list_counts.specs.declared.room.FileRoom.{FileRoom}

-- each format has its number
abbrev pub number_of : Format → ℕ
number_of First = 1
number_of Second = 2
number_of Third = 3

-- the word for what is in the slot that isn't live
abbrev pub word_of : Stale → List ℕ
word_of Older = codes "older"
word_of Unfinished = codes "unfinished"
word_of Empty = codes "empty"
word_of Broken = codes "broken"

-- the name of a replica, a UUID
abbrev pub name_of : ℕ → List ℕ
name_of replica = hyphenated_text lower (to_be_bytes w128 replica)

-- the format of the stream, and where the live root is and how many were made
abbrev pub said_live : SlotReport → List ℕ
said_live report =
    member (codes ",\"format\":") (number_of report.format)
    ++ (member (codes ",\"live\":{\"page\":") report.page ++ member (codes ",\"version\":") report.version)

-- the replica that the file belongs to
abbrev pub said_owner : ℕ → List ℕ
said_owner replica = codes ",\"replica\":\"" ++ (name_of replica ++ codes "\"")

-- what is in the other slot, and the end of the line
abbrev pub said_stale : Stale → List ℕ
said_stale stale = codes ",\"stale\":\"" ++ (word_of stale ++ codes "\"}\n")

-- the line of a file that was checked: how much is in it, and what its root slots say
abbrev pub said_check : FileRoom → SlotReport → List ℕ
said_check room report =
    member (codes "{\"bytes\":") room.bytes
    ++ (member (codes ",\"documents\":") room.documents
    ++ (said_live report
    ++ (member (codes "},\"ok\":true,\"operations\":") room.operations
    ++ (said_owner report.replica
    ++ (member (codes ",\"replicas\":") room.replicas ++ said_stale report.stale)))))
