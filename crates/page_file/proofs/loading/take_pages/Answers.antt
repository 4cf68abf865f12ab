use Rattle.std.proofs.Common.{◌≡◌, ℕ, ◌+◌, ◌-◌, ◌<◌, ◌≤◌, ◌∷◌, ◌&&◌, Bool, not, nat_le, true, false}
use Rattle.std.proofs.Common.{List, take, drop, length, get_or, sym, ap, ◌∙◌, refl, arith}
use Rattle.std.proofs.lemmas.List.{drop_more, take-append-drop}
use Rattle.std.proofs.lemmas.Bool.Decides.{nat_tests}
use Rattle.page_file.specs.declared.gaps.Gap.{Gap}
use Rattle.page_file.specs.Gaps.{in_gaps}
use Rattle.page_file.specs.Index.{AreOthers}
use Rattle.page_file.specs.Pages.{has, are_pages}
use Rattle.page_file.proofs.Apart.{apart_second, first_behind, first_once}
use Rattle.page_file.proofs.loading.take_pages.Goals as goal

-- where one isn't apart from those behind it, they aren't pages
not_pages : (ns : List ℕ) (i : ℕ) → i < length ns → (nat_le 2 (get_or ns i 0) && not (has (get_or ns i 0) (drop (i + 1) ns))) ≡ false → false ≡ are_pages ns
not_pages ns i within fails = by_test (are_pages ns) refl
  where
    both : (n : ℕ) (h : Bool) → 2 ≤ n → h ≡ false → (nat_le 2 n && not h) ≡ true
    both n h behind lacks = grind (arith, nat_tests)

    by_test : (t : Bool) → are_pages ns ≡ t → false ≡ are_pages ns
    by_test false is = sym is
    by_test true is =
        let rest : are_pages (get_or ns i 0 ∷ drop (i + 1) ns) ≡ true =
        ap are_pages (sym (drop_more ns i 0 within)) ∙ apart_second (take i ns) (drop i ns) (ap are_pages (take-append-drop i ns) ∙ is) in
        let holds = both (get_or ns i 0) (has (get_or ns i 0) (drop (i + 1) ns)) (first_behind (get_or ns i 0) (drop (i + 1) ns) rest) (first_once (get_or ns i 0) (drop (i + 1) ns) rest) in
        absurd cc

missing : (ns : List ℕ) (passed n : ℕ) (gaps : List Gap) (r : Bool) → passed < length ns → n ≡ get_or ns (length ns - passed - 1) 0 → n < 4294967296
    → AreOthers (drop (length ns - passed) ns) gaps → r ≡ in_gaps n gaps → r ≡ false → false ≡ are_pages ns
missing ns passed n gaps r more is below others found fails =
    let place : length ns - passed - 1 + 1 ≡ length ns - passed = omega (arith, more) in
    not_pages ns (length ns - passed - 1) (omega (arith, more))
    (ap (λ k. nat_le 2 (get_or ns (length ns - passed - 1) 0) && not (has (get_or ns (length ns - passed - 1) 0) (drop k ns))) place
    ∙ ap (λ k. nat_le 2 k && not (has k (drop (length ns - passed) ns))) (sym is) ∙ sym (others.free n below) ∙ sym found ∙ fails)

pub returns-then-not-take_page-clause-value : goal.returns-then-not-take_page-clause-value
returns-then-not-take_page-clause-value c =
    let page : c.from.result < 4294967296 =
    rw (c.from.ensures) (c.type_inv.pages (length c.args.pages.now - c.loop-passed.passed - 1)).fits in
    missing c.args.pages.now c.loop-passed.passed c.from.result c.loop-passed.gaps.items c.take_page.result c.loop-passed-test.true c.from.ensures
    page c.loop-passed.invariant.others c.take_page.ensures.found c.if-not-take_page.true
