use Rattle.std.proofs.Common.{◌≡◌, ℕ, ◌*◌, ap, sym, ◌∙◌, true, arith, refl, List, [], length, Result, Ok, Err}
use Rattle.std.specs.Prelude.{IfOk}
use Rattle.disk_trait.specs.declared.facts.DiskFacts.{Ghosts}
use Rattle.page_file.specs.Index.{Index, IsAtRest, live_pages}
use Rattle.page_file.specs.Pages.{pages, are_whole, numbers, joined}
use Rattle.page_file.specs.Tables.{entries, reached_by, reached_in, AreNamed}
use Rattle.page_file.proofs.PageReads.{entries_joined, length-pages}
use Rattle.page_file.proofs.TableLemmas.{length-numbers}
use Rattle.page_file.proofs.pages.Pages.load.Goals as goal

by_tables : (tables : List ℕ) (count : ℕ) (file : List ℕ) → are_whole (pages tables file) ≡ true
    → reached_in tables count file ≡ reached_by tables count (entries (pages tables file))
by_tables tables count file whole = rw (whole) refl

reached_same : (tables file bytes found : List ℕ) (count k : ℕ) → are_whole (pages tables file) ≡ true → bytes ≡ joined (pages tables file)
    → k ≡ length tables → found ≡ numbers (1024 * k) bytes → reached_in tables count file ≡ reached_by tables count found
reached_same tables file bytes found count k whole read size is =
    by_tables tables count file whole
    ∙ ap (reached_by tables count) (entries_joined (pages tables file) whole ∙ ap (λ m. numbers (1024 * m) (joined (pages tables file))) (length-pages tables file ∙ sym size) ∙ ap (numbers (1024 * k)) (sym read) ∙ sym is)

size_of : (tables file bytes found : List ℕ) (k : ℕ) → k ≡ length tables → found ≡ numbers (1024 * k) bytes → length found ≡ 1024 * length tables
size_of tables file bytes found k size is = ap length is ∙ length-numbers (1024 * k) bytes ∙ ap (λ n. 1024 * n) size

pub pages_of-requires : goal.pages_of-requires
pages_of-requires g c =
    let size = size_of c.args.tables.now [] c.deref.result.now c.deref-2.result.now (length c.args.tables.now) refl (c.deref-2.ensures.value ∙ c.in_ok-found.ensures) in
    record { few = omega (arith, size, c.requires.few) }

named : {D E : Type 0} (facts : Ghosts D) (disk : D) (tables : List ℕ) (count : ℕ) (r : Result Index E) → IfOk r (λ it. IsAtRest tables count it)
    → (facts.tells disk → IfOk r (λ it. reached_in tables count (facts.content disk) ≡ Ok (live_pages it))) → IfOk r (λ it. AreNamed facts disk tables count it)
named facts disk tables count (Ok it) at_rest value = record { value = value; at_rest = at_rest }
named facts disk tables count (Err e) at_rest value = tt

pub returns-clause-read : goal.returns-clause-read
returns-clause-read g c =
    named g.D.DiskFacts c.args.disk.now c.args.tables.now c.args.data_pages c.pages_of.result c.pages_of.ensures.parts (λ told.
    let file = g.D.DiskFacts.content c.args.disk.now in
    rw (reached_same c.args.tables.now file c.deref.result.now c.deref-2.result.now c.args.data_pages (length c.args.tables.now) (c.requires.whole told)
    (c.deref.ensures.value ∙ c.in_ok-bytes.ensures.read told) refl (c.deref-2.ensures.value ∙ c.in_ok-found.ensures))
    c.pages_of.ensures.value)

pub returns-clause-fault : goal.returns-clause-fault
returns-clause-fault g c = λ told.
    let file = g.D.DiskFacts.content c.args.disk.now in
    let size = size_of c.args.tables.now [] c.deref.result.now c.deref-2.result.now (length c.args.tables.now) refl (c.deref-2.ensures.value ∙ c.in_ok-found.ensures) in
    rw (
      reached_same c.args.tables.now file c.deref.result.now c.deref-2.result.now c.args.data_pages (length c.args.tables.now) (c.requires.whole told)
          (c.deref.ensures.value ∙ c.in_ok-bytes.ensures.read told) refl (c.deref-2.ensures.value ∙ c.in_ok-found.ensures),
      sym size,
    )
    c.pages_of.ensures.fault
