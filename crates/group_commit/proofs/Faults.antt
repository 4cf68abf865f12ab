-- Which refusal names which fault.
use Rattle.std.proofs.Common.{◌≡◌, ◌⊎◌, ℕ, false, List, refl, inl, inr, Result, Ok, Err}
use Rattle.group_commit.specs.Loading.{NamesLoadFault, IsReadFault, IsFirstFault, IsStreamFault, failures_of, is_of_sync, of_roots, of_pages, of_stream}
use Rattle.group_commit.specs.Parts.{IsFeedFault}
use Rattle.stream_list.specs.ReadError.{of_stream as of_feed}
use Rattle.stream_list.specs.Streams.{NeverHas}
use Rattle.change_codec.specs.declared.stream_error.StreamError.{StreamError}
use Rattle.change_codec.specs.declared.stream_error.StreamError.TheVariants.{Memory as StreamMemory, Stream as StreamBad}
use Rattle.page_file.specs.PageError.{failures_of as failures_of_pages}
use Rattle.page_file.specs.declared.error.PageError.{PageError}
use Rattle.page_file.specs.declared.error.PageError.TheVariants.{Memory as PagesMemory, BadTable as PagesBad, ReadFailed as PagesReadFailed}
use Rattle.group_commit.specs.Image.{stored}
use Rattle.change_codec.specs.declared.format.Format.{Format}
use Rattle.root_slots.specs.Root.{format_of, count_of}
use Rattle.root_slots.specs.Live.{live_root}
use Rattle.root_slots.specs.Faults.{NamesRootFault as NamesRoot, failures_of as failures_of_roots}
use Rattle.root_slots.specs.declared.error.RootsError.{RootsError}
use Rattle.root_slots.specs.declared.error.RootsError.TheVariants.{Memory as RootsMemory}
use Rattle.root_slots.specs.declared.error.RootsError.TheVariants.{NoRoot as RootsNone}
use Rattle.root_slots.specs.declared.error.RootsError.TheVariants.{BadRoot as RootsBad}
use Rattle.root_slots.specs.declared.error.RootsError.TheVariants.{ReadFailed as RootsReadFailed}
use Rattle.group_commit.proofs.SlotReads.{no_root_stored}
use Rattle.group_commit.specs.declared.open_fault.OpenError.{OpenError}
use Rattle.group_commit.specs.declared.open_fault.OpenError.TheVariants.{Memory, NoRoot, BadRoot, BadTable, BadStream, TooLong, ReadFailed, SyncFailed}

-- what the search behind another one meets first
pub names_on : {A B : Type 0} (e : OpenError) (r : Result A ℕ) (s : Result B ℕ) → ((n : ℕ) → r ≡ Err n → s ≡ Err n) → NamesLoadFault e r → NamesLoadFault e s
names_on Memory r s on named = tt
names_on NoRoot r s on named = on 42 named
names_on BadRoot r s on named = on 43 named
names_on BadTable r s on named = on 45 named
names_on BadStream r s on named = on 46 named
names_on TooLong r s on named = absurd named
names_on ReadFailed r s on named = tt
names_on SyncFailed r s on named = absurd named

-- out of memory and the device say nothing of the file
pub names_nothing : {A : Type 0} (e : OpenError) (r : Result A ℕ) → (e ≡ Memory) ⊎ (e ≡ ReadFailed) → NamesLoadFault e r
names_nothing e r (inl is) = rw is tt
names_nothing e r (inr is) = rw is tt

-- a refusal of the root slots names the file's first fault, and meets as many failures
pub names_stored : (e : RootsError) (file : List ℕ) → NamesRoot e (live_root file) → NamesLoadFault (of_roots e) (stored file)
names_stored RootsMemory file named = tt
names_stored RootsNone file named = no_root_stored file 42 named
names_stored RootsBad file named = no_root_stored file 43 named
names_stored RootsReadFailed file named = tt

pub failures_same : (e : RootsError) → failures_of (of_roots e) ≡ failures_of_roots e
failures_same RootsMemory = refl
failures_same RootsNone = refl
failures_same RootsBad = refl
failures_same RootsReadFailed = refl

-- a fault of the stream is the file's
pub fault_of_ops : (file body bytes : List ℕ) (e : OpenError) → stored file ≡ Ok (body, bytes)
    → IsStreamFault e (format_of body) bytes (count_of body) → IsReadFault e file
fault_of_ops file body bytes Memory holds fault = inl tt
fault_of_ops file body bytes NoRoot holds fault = absurd fault
fault_of_ops file body bytes BadRoot holds fault = absurd fault
fault_of_ops file body bytes BadTable holds fault = absurd fault
fault_of_ops file body bytes BadStream holds fault = inr (record { body = body; bytes = bytes; holds = holds; none = fault })
fault_of_ops file body bytes TooLong holds fault = inr (record { body = body; bytes = bytes; holds = holds; long = fault })
fault_of_ops file body bytes ReadFailed holds fault = absurd fault
fault_of_ops file body bytes SyncFailed holds fault = absurd fault

-- a refusal of the pages names the file's fault, and meets as many failures
pub names_pages : {A : Type 0} (e : PageError) (r : Result A ℕ) → (e ≡ PagesMemory) ⊎ ((e ≡ PagesBad) ⊎ (e ≡ PagesReadFailed)) → (e ≡ PagesBad → r ≡ Err 45)
    → NamesLoadFault (of_pages e) r
names_pages e r (inl is) bad = rw is tt
names_pages e r (inr (inl is)) bad = rw is (bad is)
names_pages e r (inr (inr is)) bad = rw is tt

pub failures_pages : (e : PageError) → (e ≡ PagesMemory) ⊎ ((e ≡ PagesBad) ⊎ (e ≡ PagesReadFailed)) → failures_of_pages e ≡ failures_of (of_pages e)
failures_pages e (inl is) = rw is refl
failures_pages e (inr (inl is)) = rw is refl
failures_pages e (inr (inr is)) = rw is refl

-- a refusal of a read isn't one of the sync
pub read_failed : (e : OpenError) (file : List ℕ) → IsReadFault e file → is_of_sync e ≡ false
read_failed Memory file fault = refl
read_failed NoRoot file fault = refl
read_failed BadRoot file fault = refl
read_failed BadTable file fault = refl
read_failed BadStream file fault = refl
read_failed TooLong file fault = refl
read_failed ReadFailed file fault = refl
read_failed SyncFailed file (inl named) = absurd named
read_failed SyncFailed file (inr never) = absurd never

-- so it is the file's
pub first_fault : (e : OpenError) (file : List ℕ) → IsReadFault e file → IsFirstFault e file
first_fault Memory file fault = fault
first_fault NoRoot file fault = fault
first_fault BadRoot file fault = fault
first_fault BadTable file fault = fault
first_fault BadStream file fault = fault
first_fault TooLong file fault = fault
first_fault ReadFailed file fault = fault
first_fault SyncFailed file fault = tt

-- the bytes so far are at fault, where more aren't taken
pub feed_fault : (e : StreamError) (format : Format) (bytes : List ℕ) (count : ℕ) → (e ≡ StreamBad → NeverHas format bytes count)
    → IsFeedFault (of_stream (of_feed e)) format bytes count
feed_fault StreamMemory format bytes count never = tt
feed_fault StreamBad format bytes count never = never refl
