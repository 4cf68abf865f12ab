-- Ranges of pages, the highest first: which pages they have, and what is left of them without one page.
use Rattle.std.proofs.Common.{◌≡◌, ◌≢◌, ℕ, zero, suc, ◌+◌, ◌<◌, ◌≤◌, Bool, true, false, not, ◌&&◌}
use Rattle.std.proofs.Common.{◌||◌, ◌==◌, nat_le, nat_lt, List, [], ◌∷◌, ◌++◌, length, get_or, take}
use Rattle.std.proofs.Common.{drop, refl, sym, ap, ◌∙◌, arith}
use Rattle.std.proofs.lemmas.Bool.Decides.{nat_tests}
use Rattle.std.proofs.lemmas.List.{drop_more, take_more, take-append-drop, take_at, drop_at, length-take-le}
use Rattle.page_file.specs.declared.gaps.Gap.{Gap}
use Rattle.page_file.specs.Gaps.{in_gap, in_gaps, are_falling, bottom, begins_by, between}

pub in-append : (m : ℕ) (a b : List Gap) → in_gaps m (a ++ b) ≡ (in_gaps m a || in_gaps m b)
in-append m [] b = refl
in-append m (g ∷ a) b = ap (λ t. in_gap m g || t) (in-append m a b) ∙ shifted (in_gap m g) (in_gaps m a) (in_gaps m b)
  where
    shifted : (x y z : Bool) → (x || (y || z)) ≡ ((x || y) || z)
    shifted true y z = refl
    shifted false y z = refl

pub falling-append : (top : ℕ) (a b : List Gap) → are_falling top (a ++ b) ≡ (are_falling top a && are_falling (bottom top a) b)
falling-append top [] b = refl
falling-append top (g ∷ a) b =
    ap (λ t. nat_lt g.start g.end && nat_le g.end top && t) (falling-append g.start a b)
    ∙ shifted (nat_lt g.start g.end) (nat_le g.end top) (are_falling g.start a) (are_falling (bottom g.start a) b)
  where
    shifted : (x y z w : Bool) → (x && y && (z && w)) ≡ ((x && y && z) && w)
    shifted true true z w = refl
    shifted true false z w = refl
    shifted false y z w = refl

pub bottom-append : (top : ℕ) (a b : List Gap) → bottom top (a ++ b) ≡ bottom (bottom top a) b
bottom-append top [] b = refl
bottom-append top (g ∷ a) b = bottom-append g.start a b

-- parts of the test on the first range
pub first_some : (top : ℕ) (g : Gap) (c : List Gap) → are_falling top (g ∷ c) ≡ true → g.start < g.end
first_some top g c falls = grind (arith, nat_tests)

pub first_top : (top : ℕ) (g : Gap) (c : List Gap) → are_falling top (g ∷ c) ≡ true → g.end ≤ top
first_top top g c falls = grind (arith, nat_tests)

pub rest_falls : (top : ℕ) (g : Gap) (c : List Gap) → are_falling top (g ∷ c) ≡ true → are_falling g.start c ≡ true
rest_falls top g c falls = grind (arith, nat_tests)

put_first : (top : ℕ) (g : Gap) (c : List Gap) → g.start < g.end → g.end ≤ top → are_falling g.start c ≡ true → are_falling top (g ∷ c) ≡ true
put_first top g c some below rest = grind (arith, nat_tests)

-- ranges fall from a higher number too
pub falls_higher : (t u : ℕ) (c : List Gap) → are_falling t c ≡ true → t ≤ u → are_falling u c ≡ true
falls_higher t u [] falls higher = refl
falls_higher t u (g ∷ c) falls higher =
    put_first u g c (first_some t g c falls) (omega (arith, first_top t g c falls, higher)) (rest_falls t g c falls)

in_first : (m : ℕ) (g : Gap) → g.start ≤ m → m < g.end → in_gap m g ≡ true
in_first m g behind before = grind (arith, nat_tests)

not_before : (m : ℕ) (g : Gap) → m < g.start → in_gap m g ≡ false
not_before m g before = grind (arith, nat_tests)

not_behind : (m : ℕ) (g : Gap) → g.end ≤ m → in_gap m g ≡ false
not_behind m g behind = grind (arith, nat_tests)

-- no range has a page at their top or above it
pub none_above : (top m : ℕ) (c : List Gap) → are_falling top c ≡ true → top ≤ m → in_gaps m c ≡ false
none_above top m [] falls above = refl
none_above top m (g ∷ c) falls above =
    rw (not_behind m g (omega (arith, first_top top g c falls, above)))
    (none_above g.start m c (rest_falls top g c falls) (omega (arith, first_some top g c falls, first_top top g c falls, above)))

pub bottom_below : (top : ℕ) (a : List Gap) → are_falling top a ≡ true → bottom top a ≤ top
bottom_below top [] falls = omega arith
bottom_below top (g ∷ a) falls =
    omega (arith, bottom_below g.start a (rest_falls top g a falls), first_some top g a falls, first_top top g a falls)

-- nor below their bottom
pub none_below : (top m : ℕ) (a : List Gap) → are_falling top a ≡ true → m < bottom top a → in_gaps m a ≡ false
none_below top m [] falls below = refl
none_below top m (g ∷ a) falls below =
    rw (not_before m g (omega (arith, below, bottom_below g.start a (rest_falls top g a falls))))
    (none_below g.start m a (rest_falls top g a falls) below)

both : (a b : Bool) → (a && b) ≡ true → (a ≡ true) × (b ≡ true)
both true true is = (refl, refl)
both true false is = absurd cc
both false b is = absurd cc

joined : (a b : Bool) → a ≡ true → b ≡ true → (a && b) ≡ true
joined a b one two = rw (one, two) refl

-- the ranges before a place, and those behind it
pub front_falls : (top : ℕ) (a c : List Gap) → are_falling top (a ++ c) ≡ true → are_falling top a ≡ true
front_falls top a c falls = (both (are_falling top a) (are_falling (bottom top a) c) (sym (falling-append top a c) ∙ falls)).0

pub back_falls : (top : ℕ) (a c : List Gap) → are_falling top (a ++ c) ≡ true → are_falling (bottom top a) c ≡ true
back_falls top a c falls = (both (are_falling top a) (are_falling (bottom top a) c) (sym (falling-append top a c) ∙ falls)).1

pub falls_on : (top : ℕ) (a c : List Gap) → are_falling top a ≡ true → are_falling (bottom top a) c ≡ true → are_falling top (a ++ c) ≡ true
falls_on top a c front back = falling-append top a c ∙ joined (are_falling top a) (are_falling (bottom top a) c) front back

-- pages between two numbers, before other ranges
between_falls : (top start end : ℕ) (c : List Gap) → are_falling start c ≡ true → start ≤ end → end ≤ top → are_falling top (between start end ++ c) ≡ true
between_falls top start end c falls up below = by_test (nat_lt start end) refl
  where
    by_test : (t : Bool) → nat_lt start end ≡ t → are_falling top (between start end ++ c) ≡ true
    by_test true is = rw (is) (let some : start < end = grind (arith, nat_tests) in put_first top (record { start = start; end = end }) c some below falls)
    by_test false is = rw (is) (falls_higher start top c falls (omega (arith, up, below)))

in_between : (m start end : ℕ) → in_gaps m (between start end) ≡ (nat_le start m && nat_lt m end)
in_between m start end = by_test (nat_lt start end) refl
  where
    by_test : (t : Bool) → nat_lt start end ≡ t → in_gaps m (between start end) ≡ (nat_le start m && nat_lt m end)
    by_test true is = rw (is) (alone (nat_le start m && nat_lt m end))
      where
        alone : (b : Bool) → (b || false) ≡ b
        alone true = refl
        alone false = refl
    by_test false is = rw (is) (grind (arith, nat_tests))

-- what is left of a range without one page
pub split_falls : (top n : ℕ) (a c : List Gap) (g : Gap) → are_falling top (a ++ g ∷ c) ≡ true → g.start ≤ n → n < g.end
    → are_falling top (a ++ (between (n + 1) g.end ++ (between g.start n ++ c))) ≡ true
split_falls top n a c g falls behind before =
    let back = back_falls top a (g ∷ c) falls in
    let low = between_falls n g.start n c (rest_falls (bottom top a) g c back) behind (omega arith) in
    falls_on top a (between (n + 1) g.end ++ (between g.start n ++ c)) (front_falls top a (g ∷ c) falls)
    (between_falls (bottom top a) (n + 1) g.end (between g.start n ++ c) (falls_higher n (n + 1) (between g.start n ++ c) low (omega arith)) (omega (arith, before)) (first_top (bottom top a) g c back))

pub split_has : (top n : ℕ) (a c : List Gap) (g : Gap) → are_falling top (a ++ g ∷ c) ≡ true → g.start ≤ n → n < g.end → in_gaps n (a ++ g ∷ c) ≡ true
split_has top n a c g falls behind before = in-append n a (g ∷ c) ∙ right (in_gaps n a) (in_gap n g) (in_gaps n c) (in_first n g behind before)
  where
    right : (x y z : Bool) → y ≡ true → (x || (y || z)) ≡ true
    right true y z is = refl
    right false y z is = rw (is) refl

pub split_leaves : (top n : ℕ) (a c : List Gap) (g : Gap) → are_falling top (a ++ g ∷ c) ≡ true → g.start ≤ n → n < g.end
    → (m : ℕ) → in_gaps m (a ++ (between (n + 1) g.end ++ (between g.start n ++ c))) ≡ (in_gaps m (a ++ g ∷ c) && not (m == n))
split_leaves top n a c g falls behind before m =
    let back = back_falls top a (g ∷ c) falls in
    let over : in_gaps n a ≡ false = none_below top n a (front_falls top a (g ∷ c) falls) (omega (arith, before, first_top (bottom top a) g c back)) in
    let under : in_gaps n c ≡ false = none_above g.start n c (rest_falls (bottom top a) g c back) behind in
    in-append m a (between (n + 1) g.end ++ (between g.start n ++ c))
    ∙ ap (λ t. in_gaps m a || t) (in-append m (between (n + 1) g.end) (between g.start n ++ c)
    ∙ ap (λ t. in_gaps m (between (n + 1) g.end) || t) (in-append m (between g.start n) c ∙ ap (λ t. t || in_gaps m c) (in_between m g.start n))
    ∙ ap (λ t. t || ((nat_le g.start m && nat_lt m n) || in_gaps m c)) (in_between m (n + 1) g.end))
    ∙ by_test (m == n) refl over under
    ∙ sym (ap (λ t. t && not (m == n)) (in-append m a (g ∷ c)))
  where
    same_number : (m n : ℕ) → (m == n) ≡ true → m ≡ n
    same_number m n is = grind (arith, nat_tests)

    here : (x y : Bool) (m n s e : ℕ) → m ≡ n → x ≡ false → y ≡ false → (x || ((nat_le (n + 1) m && nat_lt m e) || ((nat_le s m && nat_lt m n) || y))) ≡ false
    here x y m n s e same one two = grind (arith, nat_tests)

    none : (b : Bool) → (b && not true) ≡ false
    none true = refl
    none false = refl

    all : (b : Bool) → (b && not false) ≡ b
    all true = refl
    all false = refl

    other : (m n s e : ℕ) → m ≢ n → s ≤ n → n < e → (y : Bool) → ((nat_le (n + 1) m && nat_lt m e) || ((nat_le s m && nat_lt m n) || y)) ≡ ((nat_le s m && nat_lt m e) || y)
    other m n s e differs behind before y = grind (arith, nat_tests)

    differs_by : (m n : ℕ) → (m == n) ≡ false → m ≢ n
    differs_by m n is = grind (arith, nat_tests)

    by_test : (t : Bool) → (m == n) ≡ t → in_gaps n a ≡ false → in_gaps n c ≡ false
        → (in_gaps m a || ((nat_le (n + 1) m && nat_lt m g.end) || ((nat_le g.start m && nat_lt m n) || in_gaps m c))) ≡ ((in_gaps m a || (in_gap m g || in_gaps m c)) && not (m == n))
    by_test true is over under =
        let same = same_number m n is in
        here (in_gaps m a) (in_gaps m c) m n g.start g.end same (ap (λ k. in_gaps k a) same ∙ over) (ap (λ k. in_gaps k c) same ∙ under)
        ∙ sym (ap (λ t. (in_gaps m a || (in_gap m g || in_gaps m c)) && not t) is ∙ none (in_gaps m a || (in_gap m g || in_gaps m c)))
    by_test false is over under =
        ap (λ t. in_gaps m a || t) (other m n g.start g.end (differs_by m n is) behind before (in_gaps m c))
        ∙ sym (ap (λ t. (in_gaps m a || (in_gap m g || in_gaps m c)) && not t) is ∙ all (in_gaps m a || (in_gap m g || in_gaps m c)))

-- one page more, at its place
pub given_falls : (top n : ℕ) (a c : List Gap) → are_falling top (a ++ c) ≡ true → n < bottom top a → begins_by n c ≡ true → in_gaps n c ≡ false
    → are_falling top (a ++ (between n (n + 1) ++ c)) ≡ true
given_falls top n a c falls above below lacks =
    falls_on top a (between n (n + 1) ++ c) (front_falls top a c falls)
    (between_falls (bottom top a) n (n + 1) c (lower c (back_falls top a c falls) below lacks) (omega arith) (omega (arith, above)))
  where
    ends_by : (m : ℕ) (g : Gap) (t : Bool) → g.start ≤ m → (in_gap m g || t) ≡ false → g.end ≤ m
    ends_by m g t behind lacks = grind (arith, nat_tests)

    starts_by : (m : ℕ) (g : Gap) (c : List Gap) → begins_by m (g ∷ c) ≡ true → g.start ≤ m
    starts_by m g c below = grind (arith, nat_tests)

    lower : (c : List Gap) → are_falling (bottom top a) c ≡ true → begins_by n c ≡ true → in_gaps n c ≡ false → are_falling n c ≡ true
    lower [] falls below lacks = refl
    lower (g ∷ c) falls below lacks =
        put_first n g c (first_some (bottom top a) g c falls) (ends_by n g (in_gaps n c) (starts_by n g c below) lacks) (rest_falls (bottom top a) g c falls)

pub given_more : (n : ℕ) (a c : List Gap) (m : ℕ) → in_gaps m (a ++ (between n (n + 1) ++ c)) ≡ (in_gaps m (a ++ c) || m == n)
given_more n a c m =
    in-append m a (between n (n + 1) ++ c)
    ∙ ap (λ t. in_gaps m a || t) (in-append m (between n (n + 1)) c ∙ ap (λ t. t || in_gaps m c) (in_between m n (n + 1) ∙ alone m n))
    ∙ turned (in_gaps m a) (m == n) (in_gaps m c)
    ∙ ap (λ t. t || m == n) (sym (in-append m a c))
  where
    alone : (m n : ℕ) → (nat_le n m && nat_lt m (n + 1)) ≡ (m == n)
    alone m n = grind (arith, nat_tests)

    turned : (x y z : Bool) → (x || (y || z)) ≡ ((x || z) || y)
    turned true y z = refl
    turned false true true = refl
    turned false true false = refl
    turned false false true = refl
    turned false false false = refl

-- a range that has a page stands at its place
pub range_at : (n at : ℕ) (gs : List Gap) (d : Gap) → in_gaps n (take 1 (drop at gs)) ≡ true
    → (at < length gs) × ((get_or gs at d).start ≤ n) × (n < (get_or gs at d).end)
range_at n at [] d has = absurd (none at has)
  where
    none : (at : ℕ) → in_gaps n (take 1 (drop at [])) ≡ true → ⊥
    none zero has = cc
    none (suc k) has = cc
range_at n zero (g ∷ gs) d has = let is = one (in_gap n g) has in (omega arith, grind (arith, nat_tests), grind (arith, nat_tests))
  where
    one : (b : Bool) → (b || false) ≡ true → b ≡ true
    one true is = refl
    one false is = absurd cc
range_at n (suc at) (g ∷ gs) d has = let rest = range_at n at gs d has in (omega (arith, rest.0), rest.1, rest.2)

-- the ranges before a place, the one there, and those behind it
pub parted : (at : ℕ) (gs : List Gap) (d : Gap) → at < length gs → gs ≡ take at gs ++ get_or gs at d ∷ drop (at + 1) gs
parted at gs d within = sym (take-append-drop at gs) ∙ ap (λ c. take at gs ++ c) (drop_more gs at d within)

-- the range there is the last of those up to it
pub bottom_at : (top at : ℕ) (gs : List Gap) (d : Gap) → at < length gs → bottom top (take (at + 1) gs) ≡ (get_or gs at d).start
bottom_at top at gs d within = ap (bottom top) (take_more gs at d within) ∙ bottom-append top (take at gs) (get_or gs at d ∷ [])

-- of a page before that range: none of those up to it has it
pub none_up_to : (top n at : ℕ) (gs : List Gap) (d : Gap) → at < length gs → are_falling top gs ≡ true → n < (get_or gs at d).start → in_gaps n (take (at + 1) gs) ≡ false
none_up_to top n at gs d within falls before =
    none_below top n (take (at + 1) gs) (front_falls top (take (at + 1) gs) (drop (at + 1) gs) (rw (take-append-drop (at + 1) gs) falls))
    (rw (bottom_at top at gs d within) before)

-- of a range that is the last
last_parted : (at : ℕ) (gs : List Gap) (g : Gap) → at + 1 ≡ length gs → g ≡ get_or gs at g → gs ≡ take at gs ++ g ∷ []
last_parted at gs g last value =
    parted at gs g (omega (arith, last)) ∙ ap (λ x. take at gs ++ x ∷ drop (at + 1) gs) (sym value)
    ∙ ap (λ r. take at gs ++ g ∷ r) (ap (λ k. drop k gs) last ∙ drop_all gs)
  where
    drop_all : (gs : List Gap) → drop (length gs) gs ≡ []
    drop_all [] = refl
    drop_all (g ∷ gs) = drop_all gs

-- what the lowest range's first page is, and what is left without it
pub record TakesLowest (gs new : List Gap) (n : ℕ) : Type 0 where
  pub lowest : n ≡ bottom 4294967296 gs
  pub below : n < 4294967296
  pub falling : are_falling 4294967296 new ≡ true
  pub left : (m : ℕ) → in_gaps m new ≡ (in_gaps m gs && not (m == n))

pub takes_lowest : (at : ℕ) (gs gone new : List Gap) (g : Gap) → are_falling 4294967296 gs ≡ true → at + 1 ≡ length gs → g ≡ get_or gs at g
    → gone ≡ take at gs ++ drop (at + 1) gs → new ≡ take at gone ++ (between (g.start + 1) g.end ++ drop at gone) → TakesLowest gs new g.start
takes_lowest at gs gone new g falls last value removed put =
    let part = last_parted at gs g last value in
    let falls_in : are_falling 4294967296 (take at gs ++ g ∷ []) ≡ true = ap (are_falling 4294967296) (sym part) ∙ falls in
    let back = back_falls 4294967296 (take at gs) (g ∷ []) falls_in in
    let some : g.start < g.end = first_some (bottom 4294967296 (take at gs)) g [] back in
    let top : g.end ≤ bottom 4294967296 (take at gs) = first_top (bottom 4294967296 (take at gs)) g [] back in
    let front : length (take at gs) ≡ at = length-take-le at gs (omega (arith, last)) in
    let behind : drop (at + 1) gs ≡ [] = ap (λ k. drop k gs) last ∙ drop_all gs in
    let gone_front : take at gone ≡ take at gs = ap (take at) removed ∙ take_at (take at gs) (drop (at + 1) gs) at front in
    let gone_back : drop at gone ≡ [] = ap (drop at) removed ∙ drop_at (take at gs) (drop (at + 1) gs) at front ∙ behind in
    let made : new ≡ take at gs ++ (between (g.start + 1) g.end ++ (between g.start g.start ++ [])) =
    put ∙ ap (λ a. a ++ (between (g.start + 1) g.end ++ drop at gone)) gone_front
    ∙ ap (λ b. take at gs ++ (between (g.start + 1) g.end ++ b)) (gone_back ∙ sym (ap (λ r. r ++ []) (none_between g.start)))
    in
    record {
      lowest = sym (ap (bottom 4294967296) part ∙ bottom-append 4294967296 (take at gs) (g ∷ []));
      below = omega (arith, some, top, bottom_below 4294967296 (take at gs) (front_falls 4294967296 (take at gs) (g ∷ []) falls_in));
      falling = ap (are_falling 4294967296) made ∙ split_falls 4294967296 g.start (take at gs) [] g falls_in (omega arith) some;
      left = λ m. ap (in_gaps m) made ∙ split_leaves 4294967296 g.start (take at gs) [] g falls_in (omega arith) some m
          ∙ ap (λ xs. in_gaps m xs && not (m == g.start)) (sym part);
    }
  where
    drop_all : (gs : List Gap) → drop (length gs) gs ≡ []
    drop_all [] = refl
    drop_all (g ∷ gs) = drop_all gs

    none_between : (n : ℕ) → between n n ≡ []
    none_between n = let no : nat_lt n n ≡ false = grind (arith, nat_tests) in rw (no) refl

-- the lowest page of some ranges is one of theirs
pub has_bottom : (top : ℕ) (gs : List Gap) → are_falling top gs ≡ true → 0 < length gs → in_gaps (bottom top gs) gs ≡ true
has_bottom top [] falls some = absurd (omega (arith, some))
has_bottom top (g ∷ []) falls some = alone (in_gap g.start g) (in_first g.start g (omega arith) (first_some top g [] falls))
  where
    alone : (b : Bool) → b ≡ true → (b || false) ≡ true
    alone b is = rw (is) refl
has_bottom top (g ∷ h ∷ gs) falls some =
    later (in_gap (bottom h.start gs) g) (has_bottom g.start (h ∷ gs) (rest_falls top g (h ∷ gs) falls) (omega arith))
  where
    later : (b : Bool) {x : Bool} → x ≡ true → (b || x) ≡ true
    later true is = refl
    later false is = is

-- a range that is the last starts below the numbers' end
pub starts_below : (at : ℕ) (gs : List Gap) (g : Gap) → are_falling 4294967296 gs ≡ true → at + 1 ≡ length gs → g ≡ get_or gs at g → g.start < 4294967296
starts_below at gs g falls last value =
    let falls_in : are_falling 4294967296 (take at gs ++ g ∷ []) ≡ true = ap (are_falling 4294967296) (sym (last_parted at gs g last value)) ∙ falls in
    let back = back_falls 4294967296 (take at gs) (g ∷ []) falls_in in
    omega (arith, first_some (bottom 4294967296 (take at gs)) g [] back, first_top (bottom 4294967296 (take at gs)) g [] back, bottom_below 4294967296 (take at gs) (front_falls 4294967296 (take at gs) (g ∷ []) falls_in))

-- what the range at a place has, all of them have
pub in_part : (n at : ℕ) (gs : List Gap) → in_gaps n (take 1 (drop at gs)) ≡ true → in_gaps n gs ≡ true
in_part n zero [] has = has
in_part n (suc at) [] has = has
in_part n zero (g ∷ gs) has = alone (in_gap n g) (in_gaps n gs) has
  where
    alone : (a b : Bool) → (a || false) ≡ true → (a || b) ≡ true
    alone true b is = refl
    alone false b is = absurd cc
in_part n (suc at) (g ∷ gs) has = later (in_gap n g) (in_gaps n gs) (in_part n at gs has)
  where
    later : (a b : Bool) → b ≡ true → (a || b) ≡ true
    later true b is = refl
    later false b is = is
