-- The pages of a store's file, through the phases of a commit.
use Rattle.std.proofs.Common.{◌≡◌, ◌≢◌, ℕ, ◌+◌, ◌-◌, ◌/◌, ◌<◌, ◌≤◌, Bool, true, false, not, ◌&&◌}
use Rattle.std.proofs.Common.{◌||◌, nat_le, nat_lt, List, [], ◌∷◌, ◌++◌, length, get_or, take, drop}
use Rattle.std.proofs.Common.{refl, sym, ap, ◌∙◌, arith, if◌then◌else◌}
use Rattle.std.proofs.lemmas.Bool.Decides.{nat_tests}
use Rattle.std.proofs.lemmas.List.{take_more, take_all, drop_at}
use Rattle.page_file.specs.Index.{Index, is_free, used, with_taken, with_room, adopted}
use Rattle.page_file.specs.Pages.{has, are_pages}
use Rattle.page_file.proofs.AdoptLemmas.{not_before}
use Rattle.page_file.proofs.Apart.{has-append, apart_first, apart_each, each_behind}
use Rattle.root_slots.specs.Root.{tables_of}
use Rattle.group_commit.specs.Saved.{Paged}
use Rattle.group_commit.specs.Held.{behind_pages}
use Rattle.group_commit.specs.Paging.{IsIndexOf, IsPaging, IsRenewed, taken_in}
use Rattle.group_commit.specs.declared.phase.Phase.{Phase}
use Rattle.group_commit.specs.declared.phase.Phase.TheVariants.{Idle, Pages, Close, Sync1, Sync3}

-- a call has failed: nothing is said any more of what is taken
pub paging_failed : (p q p' : Phase) (f : Bool) (numbers : List ℕ) (kept new_data : ℕ) (current next : Paged) (index index' : Index)
    → IsPaging p f numbers kept new_data current next index → p ≡ q → q ≢ Idle → index'.tables ≡ index.tables → index'.data_pages ≡ index.data_pages
    → IsPaging p' true numbers kept new_data current next index'
paging_failed p q p' f numbers kept new_data current next index index' paging at busy same_tables same_data = record {
  is_index = record {
    tables = same_tables ∙ paging.is_index.tables;
    live = rw (same_tables, same_data) paging.is_index.live;
  };
  taken = λ works. absurd cc;
  room = λ works. absurd cc;
  renews = λ busy'. let renews = paging.renews (λ idle. busy (sym at ∙ idle)) in record {
    tables = rw (same_tables) renews.tables;
    pages = rw (same_tables, same_data) renews.pages;
    tables_within = rw (same_tables) renews.tables_within;
    within = rw (same_data) renews.within;
    new_within = renews.new_within;
  };
}

-- the commit goes on behind the pages
pub paging_on : (p q p' : Phase) (f : Bool) (numbers : List ℕ) (kept new_data : ℕ) (current next : Paged) (index : Index)
    → IsPaging p f numbers kept new_data current next index → p ≡ q → q ≢ Idle → taken_in q numbers ≡ taken_in p' numbers → ((k : ℕ) → p' ≢ Pages k)
    → IsPaging p' f numbers kept new_data current next index
paging_on p q p' f numbers kept new_data current next index paging at busy same other = record {
  is_index = paging.is_index;
  taken = λ works. paging.taken works ∙ ap (λ r. taken_in r numbers) at ∙ same;
  room = λ works k is. absurd (other k is);
  renews = λ busy'. paging.renews (λ idle. busy (sym at ∙ idle));
}

-- a page was written
pub paging_put : (p : Phase) (k : ℕ) (stale_open f : Bool) (numbers : List ℕ) (kept new_data n : ℕ) (current next : Paged) (index index' : Index)
    → IsPaging p f numbers kept new_data current next index → p ≡ Pages k → f ≡ false → k < length numbers → n ≡ get_or numbers k 0 → index' ≡ with_taken n index
    → IsPaging (behind_pages (k + 1) (length numbers) stale_open) f numbers kept new_data current next index'
paging_put p k stale_open f numbers kept new_data n current next index index' paging at_page works below is made = rw (made) (record {
  is_index = record { tables = paging.is_index.tables; live = paging.is_index.live };
  taken = λ _. ap (λ ns. ns ++ n ∷ []) (paging.taken works ∙ ap (λ q. taken_in q numbers) at_page) ∙ ap (λ m. take k numbers ++ m ∷ []) is ∙ sym (take_more numbers k 0 below) ∙ by_tests (nat_lt (k + 1) (length numbers)) stale_open refl;
  room = λ _ j at. in_room (nat_lt (k + 1) (length numbers)) stale_open j refl at;
  renews = λ busy'. let renews = paging.renews (λ idle. not_idle (sym at_page ∙ idle)) in record {
    tables = renews.tables;
    pages = renews.pages;
    tables_within = renews.tables_within;
    within = renews.within;
    new_within = renews.new_within;
  };
})
  where
    not_idle : Pages k ≡ Idle → ⊥
    not_idle is = absurd cc

    by_tests : (t s : Bool) → nat_lt (k + 1) (length numbers) ≡ t → take (k + 1) numbers ≡ taken_in (if t then Pages (k + 1) else if s then Close else Sync1) numbers
    by_tests true s is = refl
    by_tests false true is = let long : length numbers ≤ k + 1 = grind (arith, nat_tests) in take_all (k + 1) numbers long
    by_tests false false is = let long : length numbers ≤ k + 1 = grind (arith, nat_tests) in take_all (k + 1) numbers long

    in_room : (t s : Bool) (j : ℕ) → nat_lt (k + 1) (length numbers) ≡ t → (if t then Pages (k + 1) else if s then Close else Sync1) ≡ Pages j
        → length numbers ≤ j + (index.room - 1)
    in_room true s j is at =
        let same : k + 1 ≡ j = cc in
        let had : length numbers ≤ k + index.room = paging.room works k at_page in
        let more : k + 1 < length numbers = grind (arith, nat_tests) in
        omega (arith, had, same, more)
    in_room false true j is at = absurd cc
    in_room false false j is at = absurd cc

-- the page that is written next is free, and has its room
pub next_free : (p : Phase) (k : ℕ) (f : Bool) (numbers : List ℕ) (kept new_data n : ℕ) (current next : Paged) (index : Index)
    → IsPaging p f numbers kept new_data current next index → p ≡ Pages k → f ≡ false → k < length numbers → n ≡ get_or numbers k 0
    → are_pages (numbers ++ current.pages) ≡ true → is_free n index ≡ true
next_free p k f numbers kept new_data n current next index paging at works below is free =
    let taken : index.taken ≡ take k numbers = paging.taken works ∙ ap (λ q. taken_in q numbers) at in
    let apart = apart_first numbers current.pages free in
    let lacks_taken = not_before numbers k apart below in
    let lacks_live = apart_each numbers current.pages k free below in
    free_by n (has n (used index)) (rw (is) (each_behind numbers k apart below))
    (rw (is, taken, paging.is_index.live) (has-append (get_or numbers k 0) (take k numbers) current.pages ∙ rw (lacks_taken, lacks_live) none))
  where
    free_by : (n : ℕ) (h : Bool) → 2 ≤ n → h ≡ false → (nat_le 2 n && not h) ≡ true
    free_by n h behind lacks = grind (arith, nat_tests)

    none : (false || false) ≡ false
    none = refl

pub next_room : (p : Phase) (k : ℕ) (f : Bool) (numbers : List ℕ) (kept new_data : ℕ) (current next : Paged) (index : Index)
    → IsPaging p f numbers kept new_data current next index → p ≡ Pages k → f ≡ false → k < length numbers → 0 < index.room
next_room p k f numbers kept new_data current next index paging at works below = omega (arith, paging.room works k at, below)

-- a commit begins
pub paging_begun : (f : Bool) (numbers other_numbers : List ℕ) (kept new_data other_kept other_new : ℕ) (p : Phase) (current next other : Paged) (index index' : Index)
    → IsPaging p f other_numbers other_kept other_new current other index → p ≡ Idle → f ≡ false → IsRenewed kept new_data numbers index next
    → index' ≡ with_room index'.room index → length numbers ≤ index'.room → IsPaging (Pages 0) f numbers kept new_data current next index'
paging_begun f numbers other_numbers kept new_data other_kept other_new p current next other index index' paging idle works renews same room = record {
  is_index = record { tables = ap (λ i. i.tables) same ∙ paging.is_index.tables; live = ap (λ i. i.tables ++ i.data_pages) same ∙ paging.is_index.live };
  taken = λ _. ap (λ i. i.taken) same ∙ paging.taken works ∙ ap (λ q. taken_in q other_numbers) idle;
  room = λ _ k at. let zero_is : 0 ≡ k = cc in omega (arith, room);
  renews = λ _. record {
    tables = rw (ap (λ i. i.tables) same) renews.tables;
    pages = rw (ap (λ i. i.tables) same, ap (λ i. i.data_pages) same) renews.pages;
    tables_within = rw (ap (λ i. i.tables) same) renews.tables_within;
    within = rw (ap (λ i. i.data_pages) same) renews.within;
    new_within = renews.new_within;
  };
}

-- room alone changes nothing, between two commits
pub paging_roomy : (f : Bool) (numbers : List ℕ) (kept new_data : ℕ) (p : Phase) (current next : Paged) (index index' : Index)
    → IsPaging p f numbers kept new_data current next index → p ≡ Idle → index' ≡ with_room index'.room index → IsPaging p f numbers kept new_data current next index'
paging_roomy f numbers kept new_data p current next index index' paging idle same = record {
  is_index = record { tables = ap (λ i. i.tables) same ∙ paging.is_index.tables; live = ap (λ i. i.tables ++ i.data_pages) same ∙ paging.is_index.live };
  taken = λ works. ap (λ i. i.taken) same ∙ paging.taken works;
  room = λ works k at. absurd (not_both (sym idle ∙ at));
  renews = λ busy. absurd (busy idle);
}
  where
    not_both : {k : ℕ} → Idle ≡ Pages k → ⊥
    not_both is = absurd cc

-- the commit is through: the new root's pages are the live ones
pub paging_through : (p : Phase) (f : Bool) (numbers : List ℕ) (kept new_data : ℕ) (current next : Paged) (index index' : Index)
    → IsPaging p f numbers kept new_data current next index → p ≡ Sync3 → f ≡ false → index' ≡ adopted (kept / 1024) kept new_data index
    → IsPaging Idle f numbers kept new_data next current index'
paging_through p f numbers kept new_data current next index index' paging at works made =
    let renews = paging.renews (λ idle. not_idle (sym at ∙ idle)) in
    let taken : index.taken ≡ numbers = paging.taken works ∙ ap (λ q. taken_in q numbers) at in
    rw (made) (record {
      is_index = record { tables = rw (taken) (sym renews.tables); live = rw (taken) (sym renews.pages) };
      taken = λ _. refl;
      room = λ _ k is. absurd cc;
      renews = λ busy. absurd (busy refl);
    })
  where
    not_idle : Sync3 ≡ Idle → ⊥
    not_idle is = absurd cc

-- between two commits
pub paging_alone : (f : Bool) (numbers : List ℕ) (kept new_data : ℕ) (current next : Paged) (index : Index) → IsIndexOf current index → index.taken ≡ []
    → IsPaging Idle f numbers kept new_data current next index
paging_alone f numbers kept new_data current next index is_index none = record {
  is_index = is_index;
  taken = λ _. none;
  room = λ _ k is. absurd cc;
  renews = λ busy. absurd (busy refl);
}

-- the data pages of the index are the root's
pub index_data : (root : Paged) (index : Index) (olds : List ℕ) → IsIndexOf root index → root.pages ≡ tables_of root.body ++ olds → index.data_pages ≡ olds
index_data root index olds is reaches =
    sym (drop_at index.tables index.data_pages (length index.tables) refl)
    ∙ ap (drop (length index.tables)) (is.live ∙ reaches ∙ ap (λ t. t ++ olds) (sym is.tables))
    ∙ drop_at index.tables olds (length index.tables) refl
