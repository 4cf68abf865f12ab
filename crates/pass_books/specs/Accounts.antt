-- What a book and a share of it hold.
use Rattle.std.specs.Prelude.{ℕ, List, [], ◌∷◌, map, reverse}
use Rattle.std.specs.Global.{Global}
use Rattle.rtrb.specs.Ring.{sent, received}
use Rattle.rtrb.specs.Shared.{Names}
use Rattle.rtrb.specs.declared.producer.Producer.{Producer}
use Rattle.rtrb.specs.declared.consumer.Consumer.{Consumer}
use Rattle.rtrb.specs.declared.end.End.{End}
use Rattle.ghost_lists.specs.declared.seen.Seen.{Seen}
use denote.RawPtr.{Ptr}

-- the ring through which a column of a book and its other end know each other
pub record RingName : Type 0 where
  pub words : Ptr
  pub slots : Ptr
  pub names : Names
  pub heap : Global

-- the rings of both columns of a book
pub record Name : Type 0 where
  pub numbers : RingName
  pub moments : RingName

-- a column of a book, or its other end: the ring, and what was entered, newest first
pub record ColumnHeld (T : Type 0) : Type 0 where
  pub name : RingName
  pub items : List T

-- a book's name, and its entries and moments, newest first
pub record Account (M : Type 0) : Type 0 where
  pub name : Name
  pub entries : List ℕ
  pub moments : List M

abbrev pub name_of : {T P : Type 0} → End T Global P → RingName
name_of end = record { words = end.words; slots = end.slots; names = end.names; heap = end.heap }

abbrev pub share_of : {T P : Type 0} → Producer T Global P → ColumnHeld T
share_of ring = record { name = name_of ring.end; items = reverse (sent ring) }

abbrev pub column_of : {T P : Type 0} → Consumer T Global P → ColumnHeld T
column_of ring = record { name = name_of ring.end; items = reverse (received ring) }

-- the values that were seen, in their order
abbrev pub values_of : {M : Type 0} → List (Seen M) → List M
values_of = map (λ s. s.value)

-- what a book or its share holds that has these two columns
abbrev pub account_of : {M : Type 0} → ColumnHeld ℕ → ColumnHeld (Seen M) → Account M
account_of numbers moments = record {
  name = record { numbers = numbers.name; moments = moments.name };
  entries = numbers.items;
  moments = values_of moments.items;
}

-- a column with one item more
abbrev pub with_item : {T : Type 0} → ColumnHeld T → T → ColumnHeld T
with_item c x = record c { items = x ∷ c.items }

-- the newest entry, or 0
abbrev pub newest_of : List ℕ → ℕ
newest_of [] = 0
newest_of (n ∷ ns) = n

-- an account with one entry more
abbrev pub with_entry : {M : Type 0} → Account M → ℕ → Account M
with_entry a n = record a { entries = n ∷ a.entries }

-- and with one moment more
abbrev pub with_moment : {M : Type 0} → Account M → M → Account M
with_moment a m = record a { moments = m ∷ a.moments }

-- the names of books, in their order
abbrev pub names_of : {M : Type 0} → List (Account M) → List Name
names_of = map (λ a. a.name)

-- the entries and the moments of all books, by number
pub record BooksHeld (M : Type 0) : Type 0 where
  pub entries : List (List ℕ)
  pub moments : List (List M)

-- those of these books, in their order
abbrev pub books_of : {M : Type 0} → List (Account M) → BooksHeld M
books_of accounts = record { entries = map (λ a. a.entries) accounts; moments = map (λ a. a.moments) accounts }

-- what a pass holds: its number, and the entries and the moments of the book with that number
pub record PassHeld (M : Type 0) : Type 0 where
  pub number : ℕ
  pub entries : List ℕ
  pub moments : List M
