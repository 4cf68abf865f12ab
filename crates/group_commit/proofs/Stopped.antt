-- Where the making of a file stopped, and what is left.
use Rattle.std.proofs.Common.{◌≡◌, ◌≢◌, ◌⊎◌, ℕ, ◌+◌, true, false, List, [], ◌∷◌, ◌++◌, length, take, drop, refl, sym, ap, ◌∙◌, inl, inr, arith, Result, Ok, Err}
use Rattle.std.specs.Prelude.{replicate, OnOk, OnErr}
use Rattle.std.proofs.lemmas.List.{take_all}
use Rattle.disk_trait.specs.Calls.{IsOneCall, Keeps, IsLawful}
use Rattle.disk_trait.proofs.Moments.{moments_of_none, moments_of_call, moments_then}
use Rattle.disk_trait.specs.File.{overwritten}
use Rattle.disk_trait.specs.Writing.{Writes, failures_in}
use Rattle.disk_trait.specs.declared.facts.DiskFacts.{Ghosts}
use Rattle.root_slots.specs.Body.{root_of}
use Rattle.root_slots.specs.Slots.{gate}
use Rattle.group_commit.specs.NewFile.{slot_page, first_root, failures_of, is_unwritten, Raises, IsUntouched, IsUpTo, HasSlots, Stops, RefusesInit}
use Rattle.group_commit.specs.NewFile.{PutsPartly, OpensPartly}
use Rattle.group_commit.specs.declared.init_fault.InitError.{InitError}
use Rattle.group_commit.specs.declared.init_fault.InitError.TheVariants.{Memory, NotEmpty, ReadFailed, WriteFailed, SyncFailed}
use Rattle.group_commit.proofs.NewFileLemmas.{put_at_end}

module _ {D : Type 0} (facts : Ghosts D) where
  -- calls one after another
  pub counts_then : (f w s f' w' s' : ℕ) (old mid new : D) → Raises facts f w s old mid → Raises facts f' w' s' mid new
      → Raises facts (f + f') (w + w') (s + s') old new
  counts_then f w s f' w' s' old mid new first rest = record {
    failures = omega (arith, first.failures, rest.failures);
    writes = omega (arith, first.writes, rest.writes);
    syncs = omega (arith, first.syncs, rest.syncs);
  }

  pub counts_of : (f w s : ℕ) (old new : D) → IsOneCall facts f w s old new → Raises facts f w s old new
  counts_of f w s old new call = record { failures = call.failures; writes = call.writes; syncs = call.syncs }

  pub keeps_then : (old mid new : D) → Keeps facts old mid → Keeps facts mid new → Keeps facts old new
  keeps_then old mid new first rest = record {
    same = rest.same ∙ first.same;
    no_more = λ c left. first.no_more c (rest.no_more c left);
    no_fewer = λ c left. rest.no_fewer c (first.no_fewer c left);
  }

  keeps_same : (disk : D) → Keeps facts disk disk
  keeps_same disk = record { same = refl; no_more = λ c left. left; no_fewer = λ c left. left }

  -- no call leaves the disk as it was
  pub untouched_by_none : (disk : D) → IsLawful facts disk → IsUntouched facts disk disk
  untouched_by_none disk lawful = record { keeps = keeps_same disk; moments = moments_of_none facts (facts.survives disk) disk lawful (λ c left. left) }

  -- nor does one that keeps all
  pub untouched_by_call : (failures : ℕ) (old new : D) → IsLawful facts old → IsOneCall facts failures 0 0 old new → Keeps facts old new
      → IsUntouched facts old new
  untouched_by_call failures old new lawful call keeps = record {
    keeps = keeps;
    moments = moments_of_call facts (facts.survives old) old new lawful call (λ c left. left) (λ c left. keeps.no_more c left);
  }

  -- nor do two such ones
  untouched_then : (old mid new : D) → IsUntouched facts old mid → IsUntouched facts mid new → IsUntouched facts old new
  untouched_then old mid new first rest = record {
    keeps = keeps_then old mid new first.keeps rest.keeps;
    moments = moments_then facts (facts.survives old) old mid new first.moments (record {
      later = rest.moments.later;
      each = λ c left. first.keeps.no_more c (rest.moments.each c left);
      before = λ t c le left.
          elim (rest.moments.before t c le left) [ inl earlier ↦ inl earlier | inr has ↦ inr (first.keeps.no_more c has) ];
    });
  }

  -- nothing was written
  untouched : (replica : ℕ) (cause : InitError) (old new : D) → IsUpTo cause 0 0 → Raises facts (failures_of cause) 0 0 old new
      → Stops facts replica cause old new
  untouched replica cause old new up_to counts = record {
    writes = 0;
    syncs = 0;
    up_to = up_to;
    counts = counts;
    closed = λ is. omega (arith, is);
    slots = λ is. absurd (omega (arith, is));
  }

  pub refuses_memory : (replica : ℕ) (disk : D) → IsLawful facts disk → facts.content disk ≡ [] → RefusesInit facts replica Memory disk disk
  refuses_memory replica disk lawful empty = record {
    not_empty = λ is. absurd cc;
    occupied = λ some. absurd (some empty);
    kept = λ is. untouched_by_none disk lawful;
    stops = untouched replica Memory disk disk (refl, refl) (record { failures = omega arith; writes = omega arith; syncs = omega arith });
  }

  -- the file has bytes, or its size wasn't told
  pub refuses_at_once : (replica : ℕ) (cause : InitError) (old new : D) → (cause ≡ NotEmpty) ⊎ (cause ≡ ReadFailed)
      → (cause ≡ NotEmpty → facts.content old ≢ []) → Raises facts (failures_of cause) 0 0 old new → IsUntouched facts old new
      → RefusesInit facts replica cause old new
  refuses_at_once replica cause old new is some counts kept = record {
    not_empty = some;
    occupied = λ other. is;
    kept = λ none. kept;
    stops = untouched replica cause old new (up_to is) counts;
  }
    where
      up_to : (cause ≡ NotEmpty) ⊎ (cause ≡ ReadFailed) → IsUpTo cause 0 0
      up_to (inl is) = rw is (refl, refl)
      up_to (inr is) = rw is (refl, refl)

  -- the file was looked at before
  pub refuses_then : (replica : ℕ) (cause : InitError) (old mid new : D) → facts.content old ≡ [] → Raises facts 0 0 0 old mid → IsUntouched facts old mid
      → RefusesInit facts replica cause mid new → RefusesInit facts replica cause old new
  refuses_then replica cause old mid new empty looked keeps refused = record {
    not_empty = λ is. absurd (refused.not_empty is (keeps.keeps.same ∙ empty));
    occupied = λ some. absurd (some empty);
    kept = λ is. untouched_then old mid new keeps (refused.kept is);
    stops = record {
      writes = refused.stops.writes;
      syncs = refused.stops.syncs;
      up_to = refused.stops.up_to;
      counts = record {
        failures = omega (arith, looked.failures, refused.stops.counts.failures);
        writes = omega (arith, looked.writes, refused.stops.counts.writes);
        syncs = omega (arith, looked.syncs, refused.stops.counts.syncs);
      };
      closed = refused.stops.closed;
      slots = refused.stops.slots;
    };
  }

  -- the second slot's write failed, or it is there
  pub second_put : {E : Type 0} (result : Result Unit E) (first second : List ℕ) (old mid new : D) → facts.content old ≡ [] → length first ≡ 4096
      → IsOneCall facts 0 1 0 old mid → facts.content mid ≡ overwritten (facts.content old) 0 first → Writes facts result 4096 second mid new
      → OnErr result (PutsPartly facts first old new)
  second_put (Ok x) first second old mid new empty size one is_one put = tt
  second_put (Err e) first second old mid new empty size one is_one put = inr (
    counts_then 0 1 0 1 1 0 old mid new (counts_of 0 1 0 old mid one) (counts_of 1 1 0 mid new put.call),
    put.torn.reads.before ∙ ap (take 4096) (is_one ∙ ap (λ f. overwritten f 0 first) empty ∙ put_at_end [] 0 first refl)
        ∙ take_all 4096 first (omega (arith, size)),
  )

  -- two writes, if the second one went well too
  pub second_counts : {E : Type 0} (result : Result Unit E) (old mid new : D) → IsOneCall facts 0 1 0 old mid → IsOneCall facts (failures_in result) 1 0 mid new
      → OnOk result (Raises facts 0 2 0 old new)
  second_counts (Ok x) old mid new one two = counts_then 0 1 0 0 1 0 old mid new (counts_of 0 1 0 old mid one) (counts_of 0 1 0 mid new two)
  second_counts (Err e) old mid new one two = tt

  -- of a file without bytes, a refusal that the device gave in a write or a sync
  refuses_failed : (replica : ℕ) (cause : InitError) (old new : D) → facts.content old ≡ [] → (cause ≡ WriteFailed) ⊎ (cause ≡ SyncFailed)
      → Stops facts replica cause old new → RefusesInit facts replica cause old new
  refuses_failed replica cause old new empty (inl is) stops = record {
    not_empty = λ other. absurd (unlike (sym is ∙ other));
    occupied = λ some. absurd (some empty);
    kept = λ none. absurd (written (sym (ap is_unwritten is) ∙ none));
    stops = stops;
  }
    where
      unlike : WriteFailed ≡ NotEmpty → ⊥
      unlike is = absurd cc

      written : false ≡ true → ⊥
      written is = absurd cc
  refuses_failed replica cause old new empty (inr is) stops = record {
    not_empty = λ other. absurd (unlike (sym is ∙ other));
    occupied = λ some. absurd (some empty);
    kept = λ none. absurd (written (sym (ap is_unwritten is) ∙ none));
    stops = stops;
  }
    where
      unlike : SyncFailed ≡ NotEmpty → ⊥
      unlike is = absurd cc

      written : false ≡ true → ⊥
      written is = absurd cc

  stops_in_slots : (replica : ℕ) (body first : List ℕ) (old new : D) → first ≡ slot_page 0 body → PutsPartly facts first old new
      → Stops facts replica WriteFailed old new
  stops_in_slots replica body first old new is_first (inl counts) = record {
    writes = 1;
    syncs = 0;
    up_to = inl (omega arith, omega arith, refl);
    counts = counts;
    closed = λ is. omega (arith, is);
    slots = λ is. absurd (omega (arith, is));
  }
  stops_in_slots replica body first old new is_first (inr second) = record {
    writes = 2;
    syncs = 0;
    up_to = inl (omega arith, omega arith, refl);
    counts = second.0;
    closed = λ is. front_gate (facts.content new) ∙ ap (gate 0) (second.1 ∙ is_first);
    slots = λ is. absurd (omega (arith, is));
  }
    where
      front_gate : (file : List ℕ) → gate 0 file ≡ gate 0 (take 4096 file)
      front_gate [] = refl
      front_gate (byte ∷ bytes) = refl

  -- the write of a slot failed
  pub refuses_slots : (replica : ℕ) (body first : List ℕ) (cause : InitError) (old new : D) → facts.content old ≡ [] → first ≡ slot_page 0 body
      → cause ≡ WriteFailed → PutsPartly facts first old new → RefusesInit facts replica cause old new
  refuses_slots replica body first cause old new empty is_first is partly =
      rw is (refuses_failed replica WriteFailed old new empty (inl refl) (stops_in_slots replica body first old new is_first partly))

  -- a sync or the write of the gate failed
  pub refuses_opening : (replica : ℕ) (body first : List ℕ) (cause : InitError) (old mid new : D) → facts.content old ≡ []
      → root_of body ≡ first_root replica → first ≡ slot_page 0 body → facts.content mid ≡ first ++ replicate 4096 0 → Raises facts 0 2 0 old mid
      → OpensPartly facts cause mid new → RefusesInit facts replica cause old new
  refuses_opening replica body first cause old mid new empty root is_first slots before partly = by_call partly
    where
      file : facts.content mid ≡ slot_page 0 body ++ replicate 4096 0
      file = slots ∙ ap (λ p. p ++ replicate 4096 0) is_first

      has_slots : (c : List ℕ) → drop 1 c ≡ drop 1 (facts.content mid) → HasSlots replica c
      has_slots c same = record { body = body; root = root; rest = same ∙ ap (drop 1) file }

      by_call : OpensPartly facts cause mid new → RefusesInit facts replica cause old new
      by_call (inl first_sync) = rw first_sync.0 (refuses_failed replica SyncFailed old new empty (inr refl) (record {
        writes = 2;
        syncs = 1;
        up_to = inl (refl, refl);
        counts = counts_then 0 2 0 1 0 1 old mid new before first_sync.1;
        closed = λ is. ap (gate 0) (first_sync.2 ∙ file);
        slots = λ is. absurd (omega (arith, is));
      }))
      by_call (inr (inl write)) = rw write.0 (refuses_failed replica WriteFailed old new empty (inl refl) (record {
        writes = 3;
        syncs = 1;
        up_to = inr (refl, refl);
        counts = counts_then 0 2 0 1 1 1 old mid new before write.1;
        closed = λ is. omega (arith, is);
        slots = λ is c left. has_slots c (write.2 c left);
      }))
      by_call (inr (inr last_sync)) = rw last_sync.0 (refuses_failed replica SyncFailed old new empty (inr refl) (record {
        writes = 3;
        syncs = 2;
        up_to = inr (refl, refl);
        counts = counts_then 0 2 0 1 1 2 old mid new before last_sync.1;
        closed = λ is. omega (arith, is);
        slots = λ is c left. has_slots c (last_sync.2 c left);
      }))
