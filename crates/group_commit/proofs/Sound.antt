-- Each device call of a commit keeps what a store keeps.
use Rattle.std.proofs.Common.{◌≡◌, ◌≢◌, ℕ, ◌+◌, ◌-◌, ◌*◌, ◌<◌, ◌≤◌, Bool, true, false, nat_lt, List}
use Rattle.std.proofs.Common.{[], ◌∷◌, length, get_or, drop, refl, sym, ap, ◌∙◌, arith, length-take}
use Rattle.std.proofs.Common.{length-drop, if◌then◌else◌}
use Rattle.std.proofs.lemmas.Bool.{ltb-true, ltb-false}
use Rattle.disk_trait.specs.File.{part, Torn, overwritten}
use Rattle.disk_trait.specs.Calls.{Tears, Settles, Keeps, IsLawful}
use Rattle.disk_trait.specs.declared.facts.DiskFacts.{Ghosts}
use Rattle.page_file.specs.Pages.{page, has, are_pages}
use Rattle.page_file.proofs.Apart.{apart_first, apart_each, each_behind}
use Rattle.page_file.proofs.Parts.{part_written}
use Rattle.root_slots.specs.Slots.{gate, body}
use Rattle.group_commit.specs.Saved.{Saved}
use Rattle.group_commit.specs.Standing.{Stands, ReadAs, HasWritten}
use Rattle.group_commit.specs.Held.{StoreHeld, behind_pages, gone_on}
use Rattle.group_commit.specs.Standing.{IsPlan, IsSoundStore}
use Rattle.group_commit.specs.declared.phase.Phase.{Phase}
use Rattle.group_commit.specs.declared.phase.Phase.TheVariants.{Idle, Pages, Close, Sync1, Body, Sync2, Gate, Sync3}
use Rattle.root_slots.proofs.SlotWrites.{gate_written}
use Rattle.group_commit.proofs.Steps.{stands_page, stands_to_close, stands_to_sync, stands_close}
use Rattle.group_commit.proofs.Steps.{stands_sync1, stands_body, stands_sync2, stands_gate}
use Rattle.group_commit.proofs.Steps.{stands_sync3, reads_page, reads_behind}

module _ {D : Type 0} (facts : Ghosts D) where
  -- what survives a write is an earlier survivor, torn
  after_write : (P Q : List ℕ → Type 0) (at n : ℕ) (old new : D) → Tears facts at n old new
      → ((c : List ℕ) → facts.survives old c → P c) → ((d c : List ℕ) → Torn at n d c → P d → Q c)
      → (c : List ℕ) → facts.survives new c → Q c
  after_write P Q at n old new tears had torn c left =
      let from = tears.no_more c left in torn from.0 c from.2 (had from.0 from.1)

  -- what survives a sync that succeeds is what reads give
  after_sync : (P Q : List ℕ → Type 0) (old new : D) → IsLawful facts old → Settles facts old new
      → ((c : List ℕ) → facts.survives old c → P c) → (P (facts.content old) → Q (facts.content old))
      → (c : List ℕ) → facts.survives new c → Q c
  after_sync P Q old new lawful settles had settled c left =
      rw (settles.only c left, settles.same) (settled (had (facts.content old) lawful.reads_survive))

  -- the plan goes on
  plan_at : (phase phase' : Phase) (current next : Saved) (numbers fresh : List ℕ) → IsPlan phase current next numbers fresh
      → ((k : ℕ) → phase' ≡ Pages k → k < length numbers) → IsPlan phase' current next numbers fresh
  plan_at phase phase' current next numbers fresh plan under_way = record {
    newer = plan.newer;
    format = plan.format;
    size = plan.size;
    free = plan.free;
    lowest = plan.lowest;
    under_way = under_way;
    makes = plan.makes;
  }

  with_phase : (held : StoreHeld D) (slot : ℕ) (numbers fresh : List ℕ) (p : Phase) → held.phase ≡ p → IsSoundStore facts held slot numbers fresh
      → IsSoundStore facts (record held { phase = p }) slot numbers fresh
  with_phase held slot numbers fresh p is sound = rw (sym is) sound

  -- the page that is written next is a new one, and none of the live root's
  fresh_page : (held : StoreHeld D) (slot : ℕ) (numbers fresh : List ℕ) (k : ℕ) → IsSoundStore facts held slot numbers fresh → held.phase ≡ Pages k
      → (k < length numbers) × (are_pages numbers ≡ true) × (has (get_or numbers k 0) held.current.pages ≡ false) × (2 ≤ get_or numbers k 0)
  fresh_page held slot numbers fresh k sound at_page =
      let plan = (with_phase held slot numbers fresh (Pages k) at_page sound).plan (λ is. absurd cc) in
      let within : k < length numbers = plan.under_way k refl in
      let apart : are_pages numbers ≡ true = apart_first numbers held.current.pages plan.free in
      (within, apart, apart_each numbers held.current.pages k plan.free within, each_behind numbers k apart within)

  -- a page is written
  pub sound_page : (held : StoreHeld D) (slot : ℕ) (numbers fresh : List ℕ) (k : ℕ) (new : D) → IsSoundStore facts held slot numbers fresh → held.phase ≡ Pages k
      → (facts.tells held.disk → IsLawful facts held.disk) → (facts.tells new → facts.tells held.disk)
      → (facts.tells held.disk → Tears facts (4096 * get_or numbers k 0) 4096 held.disk new)
      → (facts.tells held.disk → facts.content new ≡ overwritten (facts.content held.disk) (4096 * get_or numbers k 0) (part fresh (4096 * k) 4096))
      → (facts.tells held.disk → 4096 * get_or numbers k 0 ≤ length (facts.content held.disk))
      → length held.numbers ≡ length numbers → held.failed ≡ false
      → IsSoundStore facts (gone_on (Pages k) held new) slot numbers fresh
  sound_page held slot numbers fresh k new sound at_page lawful told tears written inside count works =
      let s = with_phase held slot numbers fresh (Pages k) at_page sound in
      let plan = s.plan (λ is. absurd cc) in
      let (within, apart, lacks, above) = fresh_page held slot numbers fresh k sound at_page in
      record {
        slots = sound.slots;
        room = sound.room;
        plan = λ not_idle. plan_at (Pages k) (behind_pages (k + 1) (length held.numbers) held.stale_open) held.current held.next numbers fresh plan
            (still_pages (k + 1) (length held.numbers) held.stale_open (length numbers) count);
        stands = λ tells. after_write _ _ (4096 * get_or numbers k 0) 4096 held.disk new (tears (told tells)) (s.stands (told tells)) (λ d c torn stood.
            stands_behind (k + 1) (length held.numbers) slot held.stale_open held.current held.next c
            (stands_page k (k + 1) slot held.stale_open held.current held.next d c (get_or numbers k 0) sound.slots above lacks torn stood));
        reads = λ tells _.
            let old = told tells in
            let size : length (part fresh (4096 * k) 4096) ≡ 4096 = part_size fresh k (length numbers) sound.room within in
            let there : page (get_or numbers k 0) (facts.content new) ≡ part fresh (4096 * k) 4096 =
            ap (page (get_or numbers k 0)) (written old)
            ∙ part_written (facts.content held.disk) (4096 * get_or numbers k 0) 4096 (part fresh (4096 * k) 4096) (inside old) size in
            let torn = (tears old).reads in
            let now = reads_page k numbers fresh (facts.content held.disk) (facts.content new) apart within torn there (s.reads old works) in
            let stood = stands_page k (k + 1) slot held.stale_open held.current held.next (facts.content held.disk) (facts.content new) (get_or numbers k 0) sound.slots above lacks torn
            (s.stands old (facts.content held.disk) (lawful old).reads_survive) in
            reads_at (k + 1) (length held.numbers) slot held.stale_open held.next numbers fresh (facts.content new) count (omega (arith, within)) now stood.stale_slot.1.closed;
      }
    where
      still_pages : (k n : ℕ) (stale_open : Bool) (m : ℕ) → n ≡ m → (j : ℕ) → behind_pages k n stale_open ≡ Pages j → j < m
      still_pages k n stale_open m count j is = by_test (nat_lt k n) stale_open (ltb-true k n) is
        where
          place_of : Phase → ℕ
          place_of (Pages k) = k
          place_of other = 0

          by_test : (t stale_open : Bool) → (t ≡ true → k < n) → (if t then Pages k else if stale_open then Close else Sync1) ≡ Pages j → j < m
          by_test true stale_open below is = let same : k ≡ j = ap place_of is in omega (arith, same, count, below refl)
          by_test false true below is = absurd cc
          by_test false false below is = absurd cc

      stands_behind : (k n slot : ℕ) (stale_open : Bool) (current next : Saved) (c : List ℕ) → Stands (Pages k) slot stale_open current next c
          → Stands (behind_pages k n stale_open) slot stale_open current next c
      stands_behind k n slot stale_open current next c stood = by_test (nat_lt k n) stale_open stood
        where
          by_test : (t stale_open : Bool) → Stands (Pages k) slot stale_open current next c
              → Stands (if t then Pages k else if stale_open then Close else Sync1) slot stale_open current next c
          by_test true stale_open stood = stood
          by_test false true stood = stands_to_close k slot current next c stood
          by_test false false stood = stands_to_sync k slot false current next c stood

      part_size : (fresh : List ℕ) (k n : ℕ) → length fresh ≡ 4096 * n → k < n → length (part fresh (4096 * k) 4096) ≡ 4096
      part_size fresh k n room within = omega (arith, length-take 4096 (drop (4096 * k) fresh), length-drop (4096 * k) fresh, room, within)

      reads_at : (k n slot : ℕ) (stale_open : Bool) (next : Saved) (numbers fresh file : List ℕ) → n ≡ length numbers → k ≤ length numbers → ReadAs k numbers fresh file
          → (stale_open ≡ false → gate (1 - slot) file ≢ 1) → HasWritten (behind_pages k n stale_open) slot next numbers fresh file
      reads_at k n slot stale_open next numbers fresh file count within reads shut = by_test (nat_lt k n) stale_open (ltb-false k n) shut
        where
          by_test : (t stale_open : Bool) → (t ≡ false → n ≤ k) → (stale_open ≡ false → gate (1 - slot) file ≢ 1)
              → HasWritten (if t then Pages k else if stale_open then Close else Sync1) slot next numbers fresh file
          by_test true stale_open above shut = reads
          by_test false true above shut = λ i below. reads i (omega (arith, below, above refl, count))
          by_test false false above shut = ((λ i below. reads i (omega (arith, below, above refl, count))), shut refl)

  pub sound_page_failed : (held : StoreHeld D) (slot : ℕ) (numbers fresh : List ℕ) (k : ℕ) (new : D) → IsSoundStore facts held slot numbers fresh → held.phase ≡ Pages k
      → (facts.tells new → facts.tells held.disk)
      → (facts.tells held.disk → Tears facts (4096 * get_or numbers k 0) 4096 held.disk new)
      → IsSoundStore facts (record held { disk = new; failed = true }) slot numbers fresh
  sound_page_failed held slot numbers fresh k new sound at_page told tears =
      let s = with_phase held slot numbers fresh (Pages k) at_page sound in
      let (within, apart, lacks, above) = fresh_page held slot numbers fresh k sound at_page in
      record {
        slots = sound.slots;
        room = sound.room;
        plan = sound.plan;
        stands = λ tells. after_write _ _ (4096 * get_or numbers k 0) 4096 held.disk new (tears (told tells)) (s.stands (told tells)) (λ d c torn stood.
            rw (at_page) (stands_page k k slot held.stale_open held.current held.next d c (get_or numbers k 0) sound.slots above lacks torn stood));
        reads = λ tells works. absurd cc;
      }

  -- the stale gate is written, as 0 or in part
  pub sound_close : (held : StoreHeld D) (slot : ℕ) (numbers fresh : List ℕ) (failed : Bool) (new : D) → IsSoundStore facts held slot numbers fresh → held.phase ≡ Close
      → (facts.tells new → facts.tells held.disk)
      → (facts.tells held.disk → Tears facts (4096 * (1 - slot)) 1 held.disk new)
      → (facts.tells held.disk → failed ≡ false → facts.content new ≡ overwritten (facts.content held.disk) (4096 * (1 - slot)) (0 ∷ []))
      → (facts.tells held.disk → IsLawful facts held.disk) → held.failed ≡ false
      → IsSoundStore facts (record held { disk = new; phase = Sync1; failed = failed }) slot numbers fresh
  sound_close held slot numbers fresh failed new sound at_close told tears written lawful works =
      let s = with_phase held slot numbers fresh Close at_close sound in
      let plan = s.plan (λ is. absurd cc) in
      let apart : are_pages numbers ≡ true = apart_first numbers held.current.pages plan.free in
      record {
        slots = sound.slots;
        room = sound.room;
        plan = λ not_idle. plan_at Close Sync1 held.current held.next numbers fresh plan (λ k is. absurd cc);
        stands = λ tells. after_write _ _ (4096 * (1 - slot)) 1 held.disk new (tears (told tells)) (s.stands (told tells)) (λ d c torn stood.
            stands_close slot held.stale_open held.current held.next d c sound.slots torn stood);
        reads = λ tells ok.
            let old = told tells in
            let stood = s.stands old (facts.content held.disk) (lawful old).reads_survive in
            let is : gate (1 - slot) (facts.content new) ≡ 0 = ap (gate (1 - slot)) (written old ok)
            ∙ gate_written (facts.content held.disk) (1 - slot) 0 (omega (arith, stood.whole)) in (
              reads_behind (4096 * (1 - slot)) 1 numbers fresh (facts.content held.disk) (facts.content new) apart (tears old).reads (omega arith) (s.reads old works),
              λ same. absurd (omega (arith, is, same)),
            );
      }

  -- the new pages and the closed gate are settled
  pub sound_sync1 : (held : StoreHeld D) (slot : ℕ) (numbers fresh : List ℕ) (new : D) → IsSoundStore facts held slot numbers fresh → held.phase ≡ Sync1
      → (facts.tells new → facts.tells held.disk) → (facts.tells held.disk → Settles facts held.disk new)
      → (facts.tells held.disk → IsLawful facts held.disk) → held.failed ≡ false
      → IsSoundStore facts (record held { disk = new; phase = Body }) slot numbers fresh
  sound_sync1 held slot numbers fresh new sound at_sync told settles lawful works =
      let s = with_phase held slot numbers fresh Sync1 at_sync sound in
      let plan = s.plan (λ is. absurd cc) in
      record {
        slots = sound.slots;
        room = sound.room;
        plan = λ not_idle. plan_at Sync1 Body held.current held.next numbers fresh plan (λ k is. absurd cc);
        stands = λ tells. after_sync _ (Stands Body slot held.stale_open held.current held.next) held.disk new (lawful (told tells)) (settles (told tells)) (s.stands (told tells)) (λ stood.
            stands_sync1 slot held.stale_open held.current held.next numbers fresh (facts.content held.disk) plan.makes (s.reads (told tells) works) stood);
        reads = λ tells ok. tt;
      }

  -- the body of the stale slot is written, whole or in part
  pub sound_body : (held : StoreHeld D) (slot : ℕ) (numbers fresh : List ℕ) (failed : Bool) (new : D) → IsSoundStore facts held slot numbers fresh → held.phase ≡ Body
      → (facts.tells new → facts.tells held.disk)
      → (facts.tells held.disk → Tears facts (4096 * (1 - slot) + 8) 4088 held.disk new)
      → (facts.tells held.disk → failed ≡ false → facts.content new ≡ overwritten (facts.content held.disk) (4096 * (1 - slot) + 8) held.next.body)
      → (facts.tells held.disk → IsLawful facts held.disk)
      → IsSoundStore facts (record held { disk = new; phase = Sync2; failed = failed }) slot numbers fresh
  sound_body held slot numbers fresh failed new sound at_body told tears written lawful =
      let s = with_phase held slot numbers fresh Body at_body sound in
      let plan = s.plan (λ is. absurd cc) in
      record {
        slots = sound.slots;
        room = sound.room;
        plan = λ not_idle. plan_at Body Sync2 held.current held.next numbers fresh plan (λ k is. absurd cc);
        stands = λ tells. after_write _ _ (4096 * (1 - slot) + 8) 4088 held.disk new (tears (told tells)) (s.stands (told tells)) (λ d c torn stood.
            stands_body slot held.stale_open held.current held.next d c sound.slots torn stood);
        reads = λ tells ok.
            let old = told tells in
            let stood = s.stands old (facts.content held.disk) (lawful old).reads_survive in
            ap (body (1 - slot)) (written old ok)
            ∙ part_written (facts.content held.disk) (4096 * (1 - slot) + 8) 4088 held.next.body (omega (arith, stood.whole)) plan.size;
      }

  -- that body is settled
  pub sound_sync2 : (held : StoreHeld D) (slot : ℕ) (numbers fresh : List ℕ) (new : D) → IsSoundStore facts held slot numbers fresh → held.phase ≡ Sync2
      → (facts.tells new → facts.tells held.disk) → (facts.tells held.disk → Settles facts held.disk new)
      → (facts.tells held.disk → IsLawful facts held.disk) → held.failed ≡ false
      → IsSoundStore facts (record held { disk = new; phase = Gate }) slot numbers fresh
  sound_sync2 held slot numbers fresh new sound at_sync told settles lawful works =
      let s = with_phase held slot numbers fresh Sync2 at_sync sound in
      let plan = s.plan (λ is. absurd cc) in
      record {
        slots = sound.slots;
        room = sound.room;
        plan = λ not_idle. plan_at Sync2 Gate held.current held.next numbers fresh plan (λ k is. absurd cc);
        stands = λ tells. after_sync _ (Stands Gate slot held.stale_open held.current held.next) held.disk new (lawful (told tells)) (settles (told tells)) (s.stands (told tells)) (λ stood.
            stands_sync2 slot held.stale_open held.current held.next (facts.content held.disk) (s.reads (told tells) works) stood);
        reads = λ tells ok. tt;
      }

  -- the gate of the new root is written, as 1 or in part
  pub sound_gate : (held : StoreHeld D) (slot : ℕ) (numbers fresh : List ℕ) (failed : Bool) (new : D) → IsSoundStore facts held slot numbers fresh → held.phase ≡ Gate
      → (facts.tells new → facts.tells held.disk)
      → (facts.tells held.disk → Tears facts (4096 * (1 - slot)) 1 held.disk new)
      → (facts.tells held.disk → failed ≡ false → facts.content new ≡ overwritten (facts.content held.disk) (4096 * (1 - slot)) (1 ∷ []))
      → (facts.tells held.disk → IsLawful facts held.disk)
      → IsSoundStore facts (record held { disk = new; phase = Sync3; failed = failed }) slot numbers fresh
  sound_gate held slot numbers fresh failed new sound at_gate told tears written lawful =
      let s = with_phase held slot numbers fresh Gate at_gate sound in
      let plan = s.plan (λ is. absurd cc) in
      record {
        slots = sound.slots;
        room = sound.room;
        plan = λ not_idle. plan_at Gate Sync3 held.current held.next numbers fresh plan (λ k is. absurd cc);
        stands = λ tells. after_write _ _ (4096 * (1 - slot)) 1 held.disk new (tears (told tells)) (s.stands (told tells)) (λ d c torn stood.
            stands_gate slot held.stale_open held.current held.next d c sound.slots torn stood);
        reads = λ tells ok.
            let old = told tells in
            let stood = s.stands old (facts.content held.disk) (lawful old).reads_survive in
            ap (gate (1 - slot)) (written old ok) ∙ gate_written (facts.content held.disk) (1 - slot) 1 (omega (arith, stood.whole));
      }

  -- the gate is settled: the new root is live
  pub sound_sync3 : (held : StoreHeld D) (slot : ℕ) (numbers fresh : List ℕ) (new : D) → IsSoundStore facts held slot numbers fresh → held.phase ≡ Sync3
      → (facts.tells new → facts.tells held.disk) → (facts.tells held.disk → Settles facts held.disk new)
      → (facts.tells held.disk → IsLawful facts held.disk) → held.failed ≡ false
      → IsSoundStore facts (gone_on Sync3 held new) (1 - slot) numbers fresh
  sound_sync3 held slot numbers fresh new sound at_sync told settles lawful works =
      let s = with_phase held slot numbers fresh Sync3 at_sync sound in
      let plan = s.plan (λ is. absurd cc) in
      record {
        slots = omega arith;
        room = sound.room;
        plan = λ not_idle. absurd (not_idle refl);
        stands = λ tells. after_sync _ (Stands Idle (1 - slot) true held.next held.current) held.disk new (lawful (told tells)) (settles (told tells)) (s.stands (told tells)) (λ stood.
            stands_sync3 slot held.stale_open held.current held.next held.current (facts.content held.disk) sound.slots plan.newer (s.reads (told tells) works) stood);
        reads = λ tells ok. tt;
      }

  -- a sync that fails settles nothing
  pub sound_sync_failed : (held : StoreHeld D) (slot : ℕ) (numbers fresh : List ℕ) (new : D) → IsSoundStore facts held slot numbers fresh
      → (facts.tells new → facts.tells held.disk) → (facts.tells held.disk → Keeps facts held.disk new)
      → IsSoundStore facts (record held { disk = new; failed = true }) slot numbers fresh
  sound_sync_failed held slot numbers fresh new sound told keeps = record {
    slots = sound.slots;
    room = sound.room;
    plan = sound.plan;
    stands = λ tells c left. sound.stands (told tells) c ((keeps (told tells)).no_more c left);
    reads = λ tells works. absurd cc;
  }

  -- a commit begins: no device call is made
  pub sound_begin : (held : StoreHeld D) (slot : ℕ) (old_numbers old_fresh : List ℕ) (next : Saved) (numbers fresh : List ℕ)
      → IsSoundStore facts held slot old_numbers old_fresh → held.phase ≡ Idle
      → length fresh ≡ 4096 * length numbers → IsPlan (Pages 0) held.current next numbers fresh
      → IsSoundStore facts (record held { phase = Pages 0; next = next; numbers = numbers }) slot numbers fresh
  sound_begin held slot old_numbers old_fresh next numbers fresh sound idle room plan =
      let s = with_phase held slot old_numbers old_fresh Idle idle sound in
      record {
        slots = sound.slots;
        room = room;
        plan = λ not_idle. plan;
        stands = λ tells c left. begun (s.stands tells c left);
        reads = λ tells works i below. absurd (omega (arith, below));
      }
    where
      begun : {slot : ℕ} {stale_open : Bool} {current other next : Saved} {c : List ℕ} → Stands Idle slot stale_open current other c → Stands (Pages 0) slot stale_open current next c
      begun s = record { whole = s.whole; is_open = s.is_open; holds = s.holds; keeps = s.keeps; stale_slot = s.stale_slot }
