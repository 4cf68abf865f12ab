-- A stream that is read some pages at a time.
use Rattle.std.specs.Prelude.{◌≡◌, ◌⊎◌, ℕ, ◌+◌, ◌-◌, ◌≤◌, true, false, List, [], ◌++◌, length, take, drop, Result, Ok, ⊤}
use Rattle.fixed_numbers.specs.declared.limits.TheConstants.{MAX_STREAM_LENGTH}
use Rattle.page_file.specs.Pages.{is_zero}
use Rattle.change_codec.specs.declared.format.Format.{Format}
use Rattle.stream_list.specs.Streams.{NeverHas}
use Rattle.group_commit.specs.Loading.{IsStreamFault, NamesLoadFault}
use Rattle.group_commit.specs.declared.load_parts.PartlyRead.{PartlyRead}
use Rattle.group_commit.specs.declared.open_fault.OpenError.{OpenError}
use Rattle.group_commit.specs.declared.open_fault.OpenError.TheVariants.{Memory, BadStream, ReadFailed}

-- the operations of a stream's first bytes are listed, and with the others it isn't too long
pub record IsPartly (it : PartlyRead) : Type 0 where
  pub same : it.reader.bytes ≡ it.tail
  pub short : length it.tail + it.left ≤ MAX_STREAM_LENGTH

-- none of its bytes are read, and so many bytes of pages have room for it
pub record IsUnread (it : PartlyRead) (size : ℕ) : Type 0 where
  pub partly : IsPartly it
  pub none : it.tail ≡ []
  pub room : it.left ≤ size

-- a stream was read on in so many bytes of pages, and is of the same format, length and number of operations
pub record IsReadOn (it : PartlyRead) (size : ℕ) (new : PartlyRead) : Type 0 where
  pub partly : IsPartly new
  pub format : new.reader.format ≡ it.reader.format
  pub count : new.reader.count ≡ it.reader.count
  pub long : length new.tail + new.left ≡ length it.tail + it.left
  pub left : new.left ≡ it.left - size

-- these bytes of pages begin with the next ones of the stream, and the rest of them is zero
pub record TakesPart (it : PartlyRead) (part : List ℕ) (new : PartlyRead) : Type 0 where
  pub bytes : new.tail ≡ it.tail ++ take it.left part
  pub zeros : is_zero (drop it.left part) ≡ true

-- why more bytes of a stream aren't taken
abbrev pub IsFeedFault : OpenError → Format → List ℕ → ℕ → Type 0
IsFeedFault Memory format bytes count = ⊤
IsFeedFault BadStream format bytes count = NeverHas format bytes count
IsFeedFault error format bytes count = ⊥

-- why these bytes of pages aren't taken
abbrev pub IsPartFault : OpenError → PartlyRead → List ℕ → Type 0
IsPartFault Memory it part = ⊤
IsPartFault ReadFailed it part = ⊤
IsPartFault BadStream it part =
    (is_zero (drop it.left part) ≡ false) ⊎ NeverHas it.reader.format (it.tail ++ take it.left part) it.reader.count
IsPartFault error it part = ⊥

-- this refusal names the first fault of what was sought, or says why the stream that was found isn't so many operations
abbrev pub NamesReadFault : OpenError → Format → ℕ → Result (List ℕ) ℕ → Type 0
NamesReadFault error format count found =
    NamesLoadFault error found ⊎ ((bytes : List ℕ) × (found ≡ Ok bytes) × IsStreamFault error format bytes count)
