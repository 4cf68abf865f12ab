-- No write of a commit begins past the end of the file.
use Rattle.std.proofs.Common.{◌≡◌, ℕ, ◌+◌, ◌-◌, ◌*◌, ◌<◌, ◌≤◌, true, false, ◌==◌, List, [], ◌∷◌}
use Rattle.std.proofs.Common.{◌++◌, length, get_or, take, drop, sym, ◌∙◌, inl, inr, arith}
use Rattle.std.proofs.Common.{length-take, length-drop}
use Rattle.std.proofs.lemmas.Bool.Decides.{nat_tests}
use Rattle.std.proofs.lemmas.Bool.{or_cases, cases_lt}
use Rattle.std.proofs.lemmas.List.{get_or-take}
use Rattle.disk_trait.specs.File.{part}
use Rattle.disk_trait.specs.Calls.{IsLawful}
use Rattle.disk_trait.specs.declared.facts.DiskFacts.{Ghosts}
use Rattle.page_file.specs.Pages.{page, pages, has, are_whole}
use Rattle.page_file.proofs.Apart.{apart_first, each_behind, place_of, has-append}
use Rattle.root_slots.specs.Root.{tables_of}
use Rattle.group_commit.specs.Saved.{Saved}
use Rattle.group_commit.specs.Image.{tables_in, data_pages_in}
use Rattle.group_commit.specs.Standing.{HasPages, ReadAs, HasWritten}
use Rattle.group_commit.specs.Held.{StoreHeld}
use Rattle.group_commit.specs.Standing.{IsSoundStore}
use Rattle.group_commit.specs.declared.phase.Phase.{Phase}
use Rattle.group_commit.specs.declared.phase.Phase.TheVariants.{Idle, Pages}
use Rattle.group_commit.proofs.Frame.{reading_of}

-- a whole page lies in the file
whole_inside : (n : ℕ) (file : List ℕ) → length (page n file) ≡ 4096 → 4096 * n + 4096 ≤ length file
whole_inside n file whole = omega (arith, whole, length-take 4096 (drop (4096 * n) file), length-drop (4096 * n) file)

pub whole-append : (a b : List ℕ) (file : List ℕ) → are_whole (pages a file) ≡ true → are_whole (pages b file) ≡ true → are_whole (pages (a ++ b) file) ≡ true
whole-append [] b file first second = second
whole-append (n ∷ ns) b file first second =
    let rest = whole-append ns b file (rest_whole (page n file) (pages ns file) first) second in
    both (page n file) (pages (ns ++ b) file) (pages ns file) first rest
  where
    rest_whole : (p : List ℕ) (ps : List (List ℕ)) → are_whole (p ∷ ps) ≡ true → are_whole ps ≡ true
    rest_whole p ps whole = grind (arith, nat_tests)

    both : (p : List ℕ) (qs ps : List (List ℕ)) → are_whole (p ∷ ps) ≡ true → are_whole qs ≡ true → are_whole (p ∷ qs) ≡ true
    both p qs ps whole rest = grind (arith, nat_tests)

whole_each : (m : ℕ) (ns file : List ℕ) → are_whole (pages ns file) ≡ true → has m ns ≡ true → length (page m file) ≡ 4096
whole_each m [] file whole is_there = absurd cc
whole_each m (n ∷ ns) file whole is_there = elim (or_cases (m == n) (has m ns) is_there) [
  | inl is ↦ rw (same m n is) (first_whole (page n file) (pages ns file) whole)
  | inr later ↦ whole_each m ns file (rest_whole (page n file) (pages ns file) whole) later
]
  where
    same : (m n : ℕ) → (m == n) ≡ true → m ≡ n
    same m n is = grind (arith, nat_tests)

    first_whole : (p : List ℕ) (ps : List (List ℕ)) → are_whole (p ∷ ps) ≡ true → length p ≡ 4096
    first_whole p ps whole = grind (arith, nat_tests)

    rest_whole : (p : List ℕ) (ps : List (List ℕ)) → are_whole (p ∷ ps) ≡ true → are_whole ps ≡ true
    rest_whole p ps whole = grind (arith, nat_tests)

-- the pages of a stored root lie whole in the file
pub stored_whole : (root : Saved) (file : List ℕ) → HasPages root file → are_whole (pages root.pages file) ≡ true
stored_whole root file has_pages =
    let reading = reading_of root.body (tables_in file root.body) (pages (data_pages_in root.body (tables_in file root.body)) file) root.stream has_pages.spells in
    rw (sym has_pages.reaches) (whole-append (tables_of root.body) (data_pages_in root.body (tables_in file root.body)) file reading.whole_tables reading.whole_pages)

module _ {D : Type 0} (facts : Ghosts D) where
  -- the next page begins in the file, or at its end
  pub inside_page : (held : StoreHeld D) (slot : ℕ) (numbers fresh : List ℕ) (k : ℕ) → IsSoundStore facts held slot numbers fresh → held.phase ≡ Pages k
      → facts.tells held.disk → (facts.tells held.disk → IsLawful facts held.disk) → held.failed ≡ false
      → 4096 * get_or numbers k 0 ≤ length (facts.content held.disk)
  inside_page held slot numbers fresh k sound at_page tells lawful works =
      let plan = sound.plan (λ is. absurd (not_idle held.phase k at_page is)) in
      let within = plan.under_way k at_page in
      let stood = sound.stands tells (facts.content held.disk) (lawful tells).reads_survive in
      let above = each_behind numbers k (apart_first numbers held.current.pages plan.free) within in
      let reads : ReadAs k numbers fresh (facts.content held.disk) = read_so held.phase at_page (sound.reads tells works) in
      elim (cases_lt 2 (get_or numbers k 0)) [
        | inr first ↦ omega (arith, first, stood.whole)
        | inl later ↦
            let is_there = plan.lowest k (get_or numbers k 0 - 1) within (omega (arith, later)) (omega (arith, later)) in
            let page_inside = whole_inside (get_or numbers k 0 - 1) (facts.content held.disk)
            (before (get_or numbers k 0 - 1) (facts.content held.disk) held.current within sound.room stood.keeps reads is_there) in
            omega (arith, page_inside, above)
      ]
    where
      not_idle : (p : Phase) (k : ℕ) → p ≡ Pages k → p ≡ Idle → ⊥
      not_idle p k is idle = cc

      read_so : (p : Phase) → p ≡ Pages k → HasWritten p slot held.next numbers fresh (facts.content held.disk) → ReadAs k numbers fresh (facts.content held.disk)
      read_so p is reads = rw (is) at reads

      part_size : (i : ℕ) → i < length numbers → length fresh ≡ 4096 * length numbers → length (part fresh (4096 * i) 4096) ≡ 4096
      part_size i within room = omega (arith, length-take 4096 (drop (4096 * i) fresh), length-drop (4096 * i) fresh, room, within)

      before : (m : ℕ) (file : List ℕ) (current : Saved) → k < length numbers → length fresh ≡ 4096 * length numbers → HasPages current file → ReadAs k numbers fresh file
          → has m (take k numbers ++ current.pages) ≡ true → length (page m file) ≡ 4096
      before m file current within room has_pages reads is_there = elim (or_cases (has m (take k numbers)) (has m current.pages) (sym (has-append m (take k numbers) current.pages) ∙ is_there)) [
        | inl taken ↦
            let place = place_of m (take k numbers) taken in
            let below : place.0 < k = omega (arith, place.1, length-take k numbers) in
            let is : get_or numbers place.0 0 ≡ m = sym (get_or-take k numbers place.0 0 below) ∙ place.2 in
            rw (sym is, reads place.0 below) (part_size place.0 (omega (arith, below, within)) room)
        | inr live ↦ whole_each m current.pages file (stored_whole current file has_pages) live
      ]
