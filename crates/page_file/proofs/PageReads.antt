-- Pages read one after another.
use Rattle.std.proofs.Common.{◌≡◌, ℕ, zero, suc, ◌+◌, ◌*◌, ◌<◌, ◌≤◌, true, List, [], ◌∷◌, ◌++◌}
use Rattle.std.proofs.Common.{length, get_or, drop, refl, sym, ap, ◌∙◌, arith, length-take}
use Rattle.std.proofs.Common.{length-drop, append_assoc}
use Rattle.std.proofs.lemmas.Bool.Decides.{nat_tests}
use Rattle.std.proofs.lemmas.List.{drop_more}
use Rattle.page_file.specs.Pages.{page, pages, is_whole, are_whole, joined, numbers, is_zero, are_pages}
use Rattle.page_file.specs.Pages as P
use Rattle.page_file.specs.Tables.{entries}

page_size : (n : ℕ) (file : List ℕ) → length (page n file) ≤ 4096
page_size n file = omega (arith, length-take 4096 (drop (4096 * n) file))

pub page_inside : (n : ℕ) (file : List ℕ) → length (page n file) ≡ 4096 → 4096 * n + 4096 ≤ length file
page_inside n file whole = omega (arith, whole, length-take 4096 (drop (4096 * n) file), length-drop (4096 * n) file)

-- a page is whole exactly where it lies in the file
pub page_whole : (n : ℕ) (file : List ℕ) → 4096 * n + 4096 ≤ length file → length (page n file) ≡ 4096
page_whole n file inside = omega (arith, inside, length-take 4096 (drop (4096 * n) file), length-drop (4096 * n) file)

pub first_whole : (p : List ℕ) (ps : List (List ℕ)) → are_whole (p ∷ ps) ≡ true → length p ≡ 4096
first_whole p ps whole = grind (arith, nat_tests)

pub rest_whole : (p : List ℕ) (ps : List (List ℕ)) → are_whole (p ∷ ps) ≡ true → are_whole ps ≡ true
rest_whole p ps whole = grind (arith, nat_tests)

-- the next page lies in the file
pub next_inside : (ns file : List ℕ) (i : ℕ) → are_whole (pages (drop i ns) file) ≡ true → i < length ns → 4096 * get_or ns i 0 + 4096 ≤ length file
next_inside ns file i whole below =
    page_inside (get_or ns i 0) file (first_whole (page (get_or ns i 0) file) (pages (drop (i + 1) ns) file) (rw (drop_more ns i 0 below) at whole))

pub next_whole : (ns file : List ℕ) (i : ℕ) → are_whole (pages (drop i ns) file) ≡ true → i < length ns → are_whole (pages (drop (i + 1) ns) file) ≡ true
next_whole ns file i whole below = rest_whole (page (get_or ns i 0) file) (pages (drop (i + 1) ns) file) (rw (drop_more ns i 0 below) at whole)

-- and is read behind the others
pub next_read : (ns file out all : List ℕ) (i : ℕ) → i < length ns → out ++ joined (pages (drop i ns) file) ≡ all
    → (out ++ page (get_or ns i 0) file) ++ joined (pages (drop (i + 1) ns) file) ≡ all
next_read ns file out all i below read =
    append_assoc out (page (get_or ns i 0) file) (joined (pages (drop (i + 1) ns) file)) ∙ (rw (drop_more ns i 0 below) at read)

-- the numbers in table pages are those in their bytes
numbers-append : (n m : ℕ) (a b : List ℕ) → length a ≡ 4 * n → numbers (n + m) (a ++ b) ≡ numbers n a ++ numbers m b
numbers-append zero m [] b size = let same : 0 + m ≡ m = omega arith in ap (λ k. numbers k b) same
numbers-append zero m (x ∷ a) b size = absurd cc
numbers-append (suc n) m (w ∷ x ∷ y ∷ z ∷ a) b size =
    let more : suc n + m ≡ suc (n + m) = omega arith in
    ap (λ k. numbers k (w ∷ x ∷ y ∷ z ∷ (a ++ b))) more ∙ ap (λ ns. P.numbers 1 (w ∷ x ∷ y ∷ z ∷ []) ++ ns) (numbers-append n m a b (omega (arith, size)))
numbers-append (suc n) m [] b size = absurd (omega (arith, size))
numbers-append (suc n) m (w ∷ []) b size = absurd (omega (arith, size))
numbers-append (suc n) m (w ∷ x ∷ []) b size = absurd (omega (arith, size))
numbers-append (suc n) m (w ∷ x ∷ y ∷ []) b size = absurd (omega (arith, size))

-- the first k numbers of each page
abbrev some : ℕ → List (List ℕ) → List ℕ
some k [] = []
some k (p ∷ ps) = numbers k p ++ some k ps

some_joined : (k : ℕ) (ps : List (List ℕ)) → 4096 ≡ 4 * k → are_whole ps ≡ true → some k ps ≡ numbers (k * length ps) (joined ps)
some_joined k [] size whole = let none : k * 0 ≡ 0 = omega arith in ap (λ n. numbers n []) (sym none)
some_joined k (p ∷ ps) size whole =
    let more : k * length (p ∷ ps) ≡ k + k * length ps = grind arith in
    ap (λ ns. numbers k p ++ ns) (some_joined k ps size (rest_whole p ps whole))
    ∙ sym (numbers-append k (k * length ps) p (joined ps) (first_whole p ps whole ∙ size))
    ∙ ap (λ n. numbers n (p ++ joined ps)) (sym more)

some_entries : (ps : List (List ℕ)) → entries ps ≡ some 1024 ps
some_entries [] = refl
some_entries (p ∷ ps) = ap (λ ns. numbers 1024 p ++ ns) (some_entries ps)

pub entries_joined : (ps : List (List ℕ)) → are_whole ps ≡ true → entries ps ≡ numbers (1024 * length ps) (joined ps)
entries_joined ps whole = some_entries ps ∙ some_joined 1024 ps refl whole

pub length-pages : (ns file : List ℕ) → length (pages ns file) ≡ length ns
length-pages [] file = refl
length-pages (n ∷ ns) file = omega (arith, length-pages ns file)
