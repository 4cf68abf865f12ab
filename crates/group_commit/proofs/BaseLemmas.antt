-- A commit over a base: the live root, or one without pages.
use Rattle.std.proofs.Common.{◌≡◌, ◌⊎◌, ℕ, ◌+◌, ◌/◌, ◌≤◌, true, List, [], ◌++◌, length, drop, take}
use Rattle.std.proofs.Common.{refl, sym, ap, ◌∙◌, inl, inr, arith, append-nil, length-append}
use Rattle.std.proofs.lemmas.List.{drop_all}
use Rattle.page_file.specs.Index.{Index}
use Rattle.page_file.specs.Pages.{are_pages}
use Rattle.page_file.proofs.Apart.{apart_first}
use Rattle.root_slots.specs.Root.{version_of, tables_of, table_count}
use Rattle.group_commit.specs.Changes.{data_of, changed, parts, changed_data, changed_tables, changed_pages}
use Rattle.group_commit.specs.Paging.{IsIndexOf, IsRenewed}
use Rattle.group_commit.specs.Plan.{KeepsPages}
use Rattle.group_commit.specs.Planning.{Prepares, Plans}
use Rattle.group_commit.specs.Saved.{Saved, Paged, HasDataPages, IsEmptied, with_stream, emptied}
use Rattle.group_commit.specs.Standing.{HasPages}
use Rattle.group_commit.specs.declared.phase.Phase.TheVariants.{Pages}
use Rattle.group_commit.proofs.PagingLemmas.{index_data}
use Rattle.group_commit.proofs.PlanLemmas.{data_is}
use Rattle.group_commit.proofs.Roots.{stored_by}

-- new pages are apart from the base's
pub apart_of_base : (current base : Paged) (numbers : List ℕ) → (base ≡ current) ⊎ (base.pages ≡ []) → are_pages (numbers ++ current.pages) ≡ true
    → are_pages (numbers ++ base.pages) ≡ true
apart_of_base current base numbers is free = elim is [
  | inl same ↦ ap (λ root. are_pages (numbers ++ root.pages)) same ∙ free
  | inr none ↦ ap (λ ns. are_pages (numbers ++ ns)) none ∙ ap are_pages (append-nil numbers) ∙ apart_first numbers current.pages free
]

-- the base's pages that stay are the first of the live ones
record Stay (kept : ℕ) (tables olds : List ℕ) (index : Index) : Type 0 where
  same_tables : take (kept / 1024) tables ≡ take (kept / 1024) index.tables
  same_data : take kept olds ≡ take kept index.data_pages
  tables_within : kept / 1024 ≤ length index.tables
  within : kept ≤ length index.data_pages

stay_of : (current base : Paged) (index : Index) (olds : List ℕ) (kept : ℕ) → IsIndexOf current index → (base ≡ current) ⊎ (base.pages ≡ [])
    → base.pages ≡ tables_of base.body ++ olds → kept / 1024 ≤ length (tables_of base.body) → kept ≤ length olds → Stay kept (tables_of base.body) olds index
stay_of current base index olds kept is is_base reaches tables_within within = elim is_base [
  | inl same ↦
      let its : IsIndexOf base index = rw same is in
      let old_data = index_data base index olds its reaches in
      record {
        same_tables = ap (take (kept / 1024)) (sym its.tables);
        same_data = ap (take kept) (sym old_data);
        tables_within = rw (its.tables) tables_within;
        within = rw (old_data) within;
      }
  | inr none ↦
      let size = ap length (sym reaches ∙ none) in
      nothing kept (tables_of base.body) olds index (omega (arith, within, size, length-append (tables_of base.body) olds))
]
  where
    nothing : (kept : ℕ) (tables olds : List ℕ) (index : Index) → kept ≡ 0 → Stay kept tables olds index
    nothing kept tables olds index zero_kept = record {
      same_tables = ap (λ k. take (k / 1024) tables) zero_kept ∙ sym (ap (λ k. take (k / 1024) index.tables) zero_kept);
      same_data = ap (λ k. take k olds) zero_kept ∙ sym (ap (λ k. take k index.data_pages) zero_kept);
      tables_within = omega (arith, zero_kept);
      within = omega (arith, zero_kept);
    }

-- what a plan's pages are
pub renews_by : (kept new_data : ℕ) (numbers front back tables named olds : List ℕ) (index : Index) (current base next : Paged) → IsIndexOf current index
    → (base ≡ current) ⊎ (base.pages ≡ []) → base.pages ≡ tables_of base.body ++ olds → front ≡ take new_data numbers → back ≡ drop new_data numbers
    → tables ≡ take (kept / 1024) (tables_of base.body) ++ back → named ≡ take kept olds ++ front → tables_of next.body ≡ tables → next.pages ≡ tables_of next.body ++ named
    → kept / 1024 ≤ length (tables_of base.body) → kept ≤ length olds → new_data ≤ length numbers → IsRenewed kept new_data numbers index next
renews_by kept new_data numbers front back tables named olds index current base next is is_base reaches is_front is_back made_tables made_named its_tables its_pages tables_within within new_within =
    let stay = stay_of current base index olds kept is is_base reaches tables_within within in
    let new_tables : tables_of next.body ≡ take (kept / 1024) index.tables ++ drop new_data numbers =
    its_tables ∙ made_tables ∙ ap (λ t. t ++ back) stay.same_tables ∙ ap (λ b. take (kept / 1024) index.tables ++ b) is_back in
    record {
      tables = new_tables;
      pages = its_pages ∙ ap (λ t. t ++ named) new_tables
          ∙ ap (λ n. (take (kept / 1024) index.tables ++ drop new_data numbers) ++ n)
          (made_named ∙ ap (λ o. o ++ front) stay.same_data ∙ ap (λ f. take kept index.data_pages ++ f) is_front);
      tables_within = stay.tables_within;
      within = stay.within;
      new_within = new_within;
    }

-- what is prepared over a base is a plan for the live root, where each file that has the live root has the base
pub planned : (current base : Saved) (records : List ℕ) (more : ℕ) (next : Saved) (numbers fresh : List ℕ)
    → HasDataPages current (data_of current) → version_of base.body ≡ version_of current.body → ((file : List ℕ) → HasPages current file → HasPages base file)
    → Prepares current.pages base records more next numbers fresh → Plans current base records more next numbers fresh
planned current base records more next numbers fresh had same keeps p = record {
  follows = p.follows;
  plan = record {
    newer = omega (arith, p.follows.version, same);
    format = p.follows.format;
    size = p.size;
    free = p.free;
    lowest = p.lowest;
    under_way = λ k is. omega (arith, first_phase k is, p.some);
    makes = λ file has. p.makes file (keeps file has);
  };
  room = p.room;
  changes = p.changes;
  had = had;
  pages = p.pages;
}
  where
    first_phase : (k : ℕ) → Pages 0 ≡ Pages k → k ≡ 0
    first_phase k is = cc

module _ (current empty : Paged) (e : IsEmptied current empty) where
  no_pages : empty.pages ≡ []
  no_pages = e.has.reaches ∙ ap (λ t. t ++ []) e.no_tables

  pub is_base : (empty ≡ current) ⊎ (empty.pages ≡ [])
  is_base = inr no_pages

  -- each file has an empty root's pages
  pub has_none : (file : List ℕ) → HasPages (with_stream empty []) file
  has_none file = rw (no_pages) (stored_by empty.body [] [] [] 0 0 file e.has.valid (sym e.has.long) e.no_tables e.has.count refl
      (record { whole_tables = refl; whole_pages = refl; names = refl; holds = refl }))

  none_left : (root : Saved) → data_of (with_stream empty []) ≡ data_of (emptied root)
  none_left root = data_is (with_stream empty []) [] e.has ∙ sym (drop_all (table_count root.body) [] (omega arith))

  same_data : (root next : Saved) → changed_data (with_stream empty []) next ≡ changed_data (emptied root) next
  unfolding changed_data
  same_data root next = refl

  same_tables : (root next : Saved) → changed_tables (with_stream empty []) next ≡ changed_tables (emptied root) next
  unfolding changed_tables
  same_tables root next = ap (λ ns. changed (parts 1024 ns) (parts 1024 (data_of next)) (tables_of next.body)) (none_left root)

  -- a plan over the empty root is one over the live root without its stream
  pub moved_plan : (stream records : List ℕ) (more : ℕ) (next : Saved) (numbers fresh : List ℕ)
      → Plans (with_stream current stream) (with_stream empty []) records more next numbers fresh
      → Plans (with_stream current stream) (emptied (with_stream current stream)) records more next numbers fresh
  moved_plan stream records more next numbers fresh p = record {
    follows = record {
      format = p.follows.format;
      stream = p.follows.stream;
      version = p.follows.version ∙ ap (λ v. v + 1) e.version;
      replica = p.follows.replica ∙ e.replica;
      count = p.follows.count ∙ ap (λ n. n + more) e.count;
    };
    plan = p.plan;
    room = p.room;
    changes = p.changes ∙ ap (λ ns. ns ++ changed_tables (with_stream empty []) next) (same_data (with_stream current stream) next)
        ∙ ap (λ ns. changed_data (emptied (with_stream current stream)) next ++ ns) (same_tables (with_stream current stream) next);
    had = p.had;
    pages = record {
      has = p.pages.has;
      data_pages = p.pages.data_pages ∙ same_data (with_stream current stream) next;
      tables = p.pages.tables ∙ same_tables (with_stream current stream) next;
    };
  }

-- over an empty root all pages are new
pub all_new : (root : Saved) (records : List ℕ) (next : Saved) (numbers : List ℕ) → numbers ≡ changed_pages (emptied root) next
    → KeepsPages (emptied root) records next → numbers ≡ data_of next ++ tables_of next.body
all_new root records next numbers changes keeps =
    changes ∙ ap (λ ns. ns ++ changed_tables (emptied root) next) (sym keeps.data_pages) ∙ ap (λ ns. data_of next ++ ns) (sym keeps.tables)
