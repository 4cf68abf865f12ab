use Rattle.std.proofs.Common.{rules, ◌≡◌, ℕ, ◌≤◌, ◌++◌, ◌&&◌, Bool, vec_len, vec_capacity, not, nat_le, ap, sym, ◌∙◌, true, arith, List, [], length}
use Rattle.std.specs.List.Sorted.{IsPermutation}
use Rattle.page_file.specs.declared.gaps.Gap.{Gap}
use Rattle.page_file.specs.Index.{AreOthers}
use Rattle.page_file.specs.Pages.{are_pages}
use Rattle.page_file.proofs.Permuted.{permuted, has_permuted}
use Rattle.page_file.proofs.loading.index_of.Goals as goal

-- what has all other pages than some has all others than these in another order
others_permuted : (xs ys : List ℕ) (gaps : List Gap) → IsPermutation xs ys → AreOthers ys gaps → AreOthers xs gaps
others_permuted xs ys gaps permutes others = record {
  apart = sym (permuted xs ys permutes) ∙ others.apart;
  falling = others.falling;
  free = λ m below. others.free m below ∙ ap (λ h. nat_le 2 m && not h) (has_permuted m xs ys permutes);
}

-- and they are pages or not, as the sorted ones are
sorted_are : (xs ys seen : List ℕ) (r : Bool) → IsPermutation xs ys → seen ≡ ys → r ≡ are_pages seen → are_pages xs ≡ r
sorted_are xs ys seen r permutes same is = sym (permuted xs ys permutes) ∙ ap are_pages (sym same) ∙ sym is

pub returns-then-not-take_pages-clause-fault : goal.returns-then-not-take_pages-clause-fault
returns-then-not-take_pages-clause-fault c = λ bad.
    sorted_are (c.args.tables.now ++ c.args.named.now) c.in_ok-sorted.sorted.items c.deref.result.now c.take_pages.result c.in_ok-sorted.ensures.same c.deref.ensures.value c.take_pages.ensures.value
    ∙ c.if-not-take_pages.true

all_others : (xs ys seen ts ns taken tables named : List ℕ) (gaps : List Gap) (r : Bool) → IsPermutation (ts ++ ns) ys → seen ≡ ys → (r ≡ true → AreOthers seen gaps) → r ≡ true
    → taken ≡ [] → tables ≡ ts → named ≡ ns → AreOthers (taken ++ (tables ++ named)) gaps
all_others xs ys seen ts ns taken tables named gaps r permutes same others holds none one two =
    rw (none, one, two) (others_permuted (ts ++ ns) ys gaps permutes (rw (same) at (others holds)))

pub invariant_of-result : goal.invariant_of-result
invariant_of-result c =
    let tables = c.in_ok-from_slice.ensures in
    let named = c.in_ok-from_slice-2.ensures in
    let seen : length c.deref.result.now ≡ vec_len c.in_ok-sorted.sorted = c.deref.ensures.len in
    let fits_tables : vec_len c.in_ok-from_slice.field-0 ≤ vec_capacity c.in_ok-from_slice.field-0 = search rules in
    let fits_named : vec_len c.in_ok-from_slice-2.field-0 ≤ vec_capacity c.in_ok-from_slice-2.field-0 = search rules in (
      all_others [] c.in_ok-sorted.sorted.items c.deref.result.now c.args.tables.now c.args.named.now c.new.result.items c.in_ok-from_slice.field-0.items c.in_ok-from_slice-2.field-0.items
          c.take_pages.new.gaps.items c.take_pages.result c.in_ok-sorted.ensures.same c.deref.ensures.value c.take_pages.ensures.others c.if-not-take_pages.false
          c.new.ensures.items tables.items named.items,
      record {
        for_tables = omega (arith, fits_tables, c.new.ensures.len);
        for_data = omega (arith, fits_named, c.new.ensures.len);
        for_taken = omega (arith, c.new.ensures.len);
        for_gaps = omega (
          arith,
          c.take_pages.ensures.grows.size,
          c.take_pages.ensures.grows.capacity,
          c.in_ok-gaps.ensures.one,
          c.in_ok-gaps.ensures.room,
          c.in_ok-sorted.ensures.size,
          seen,
          c.len.ensures,
          tables.len,
          named.len,
          c.new.ensures.len,
        );
      },
    )

pub returns-clause-apart : goal.returns-clause-apart
returns-clause-apart c =
    sorted_are (c.args.tables.now ++ c.args.named.now) c.in_ok-sorted.sorted.items c.deref.result.now c.take_pages.result c.in_ok-sorted.ensures.same c.deref.ensures.value c.take_pages.ensures.value
    ∙ c.if-not-take_pages.false
