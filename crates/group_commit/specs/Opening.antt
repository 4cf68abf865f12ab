-- What the opening of a file gives.
use Rattle.std.specs.Prelude.{◌≡◌, ◌<◌, ℕ, ◌+◌, Bool, true, false, List, [], ◌++◌, length, Ok}
use Rattle.disk_trait.specs.declared.facts.DiskFacts.{Ghosts}
use Rattle.op_model.specs.declared.op.Op.{Op}
pub use Rattle.page_file.specs.DiskCalls.{IsLookedAt}
use Rattle.page_file.specs.Index.{Index}
use Rattle.root_slots.specs.Body.{Root}
use Rattle.root_slots.specs.Root.{replica_of, stream_length_of}
use Rattle.root_slots.specs.Slots.{live}
use Rattle.stream_list.specs.Streams.{SpellsShort}
use Rattle.group_commit.specs.Commit.{IsRootOf, IsLeft}
use Rattle.group_commit.specs.Standing.{Stands}
use Rattle.group_commit.specs.Held.{StoreHeld}
use Rattle.group_commit.specs.Loading.{IsHistory, reached_of, stream_at}
use Rattle.group_commit.specs.Paging.{IsIndexOf}
use Rattle.group_commit.specs.Moving.{CanMove}
use Rattle.group_commit.specs.Saved.{IsInMemory, with_stream}
use Rattle.group_commit.specs.declared.load_image.Image.{Image}
use Rattle.group_commit.specs.declared.load_stream.Stream.{Stream}
use Rattle.group_commit.specs.declared.phase.Phase.TheVariants.{Idle}

-- What an opened file is: its store between two commits, the replica that it belongs to, and its operations.
pub record IsLoaded {D : Type 0} (facts : Ghosts D) (disk : D) (store : StoreHeld D) (replica : ℕ) (ops : List Op) : Type 0 where
  -- the store's root is the live one of the file
  pub root : facts.tells disk → IsRootOf store.current (facts.content disk)
  -- and stands in its live slot
  pub slot : facts.tells disk → live (facts.content disk) ≡ Ok store.slot
  -- its stream is the records of the operations
  pub history : IsHistory store.current replica ops
  -- no commit is under way
  pub idle : store.phase ≡ Idle
  -- no device call has failed
  pub works : store.failed ≡ false
  -- a crash leaves what reads give
  pub settled : facts.tells disk → (c : List ℕ) → facts.survives store.disk c → c ≡ facts.content disk
  -- which has that root
  pub left : facts.tells disk → (c : List ℕ) → facts.survives store.disk c → IsLeft store.phase store.current store.next c

-- What a refused opening leaves: it made a sync, and then reads alone.
pub record HandsBack {D : Type 0} (facts : Ghosts D) (failures : ℕ) (in_sync : Bool) (old new : D) : Type 0 where
  -- the disk was only looked at
  pub looked : IsLookedAt facts failures 1 old new
  -- a sync that failed was the only call
  pub alone : facts.tells old → in_sync ≡ true → facts.time new ≡ facts.time old + 1
  -- behind one that didn't fail, a crash leaves what reads give
  pub settled : facts.tells old → in_sync ≡ false → (c : List ℕ) → facts.survives new c → c ≡ facts.content new

-- the pages of a root are in memory
pub record IsIndexed (head : Root) (index : Index) : Type 0 where
  -- the tables are those that it names
  pub tables : index.tables ≡ head.tables
  -- there are as many data pages as its stream takes, and no page twice
  pub parts : IsInMemory head index.data_pages
  -- none is taken for a commit
  pub none_taken : index.taken ≡ []

-- these bytes are as many as a root says of its stream, and spell these operations in its format, as many as it says
pub record HasOperations (head : Root) (bytes : List ℕ) (ops : List Op) : Type 0 where
  pub long : length bytes ≡ head.stream_length
  pub spelled : SpellsShort head.format ops head.operations bytes

-- what a root names was read from the file of a disk: its pages, its stream, and its operations
pub record IsStreamOf {D : Type 0} (facts : Ghosts D) (head : Root) (disk : D) (it : Stream) : Type 0 where
  -- its pages are in memory
  pub index : IsIndexed head it.pages
  -- the bytes of its stream spell its operations
  pub has : HasOperations head it.tail it.ops
  -- the pages are those that its table pages name
  pub pages : facts.tells disk → reached_of head (facts.content disk) ≡ Ok (head.tables ++ it.pages.data_pages)
  -- the bytes are those of its data pages
  pub stream : facts.tells disk → stream_at head (facts.content disk) ≡ Ok it.tail

-- what the file of a disk stands for was read, with an empty root in the place of a commit's
pub record IsImageOf {D : Type 0} (facts : Ghosts D) (disk : D) (it : Image) : Type 0 where
  -- one of the two slots is live
  pub slot : it.roots.slot < 2
  -- the file is one between two commits, with this root and stream
  pub stands : facts.tells disk → Stands Idle it.roots.slot it.roots.stale_open (with_stream it.current it.stream)
      (with_stream it.next []) (facts.content disk)
  -- the stream is as long as the root says
  pub long : length it.stream ≡ stream_length_of it.current.body
  -- where the root moves, its operations are spelled anew
  pub moving : CanMove (with_stream it.current it.stream) it.anew.items
  -- the other root has no stream
  pub other : stream_length_of it.next.body ≡ 0
  -- the stream is the records of the operations
  pub history : IsHistory (with_stream it.current it.stream) (replica_of it.current.body) it.ops
  -- the pages are those of the root
  pub index : IsIndexOf it.current it.pages
  -- none is taken for a commit
  pub none_taken : it.pages.taken ≡ []
