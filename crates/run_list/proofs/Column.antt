-- What starts and changes stand for.
use Rattle.std.proofs.Common.{◌≡◌, ℕ, zero, suc, ◌+◌, ◌<◌, ◌≤◌, ◌^◌, true, false, nat_lt, List, [], ◌∷◌, ◌++◌}
use Rattle.std.proofs.Common.{length, get_or, take, refl, sym, ap, subst, ◌∙◌, inl, inr, arith, length-append}
use Rattle.std.specs.Prelude.{◌==◌}
use Rattle.std.proofs.lemmas.Bool.{cases_Bool, eqb-true}
use Rattle.std.proofs.lemmas.Bool.Decides.{nat_tests}
use Rattle.std.proofs.lemmas.List.{length-take}
use Rattle.std.specs.List.Sorted.{IsNonDecreasing}
use Rattle.run_list.specs.Reading.{below}
use Rattle.run_list.proofs.Reading.{found_below}
use Rattle.run_list.specs.Column.{change_starts, changes_behind, number_behind, number_at, numbers_from, numbers_of, changes_in, HoldsColumn, IsColumn}
use Rattle.run_list.proofs.Changes.{length-changes, below-starts, starts-take, changes-take}
use Rattle.run_list.proofs.Changes.{changes-same, changes-more, starts-same, starts-more, starts_rise, one_more_below, no_more_below}

-- changes that stand later aren't looked at
stays : (place last before at : ℕ) (ns : List ℕ) → place < at → number_at place last (change_starts before at ns) (changes_behind before ns) ≡ last
stays place last before at [] lt = refl
stays place last before at (n ∷ ns) lt =
    elim (cases_Bool (n == before)) [
      | inl same ↦ rw same (stays place last n (suc at) ns (omega arith))
      | inr other ↦ let upper : nat_lt at (suc place) ≡ false = grind (arith, nat_tests) in rw (other, upper) refl
    ]

-- each number is what the last change up to it made
reads : (ns : List ℕ) (i at place last d : ℕ) → i < length ns → place ≡ at + i
    → number_at place last (change_starts last at ns) (changes_behind last ns) ≡ get_or ns i d
reads [] i at place last d lt is = absurd (omega arith)
reads (n ∷ ns) zero at place last d lt is =
    elim (cases_Bool (n == last)) [
      | inl same ↦ rw same (stays place last n (suc at) ns (omega arith) ∙ sym (eqb-true n last same))
      | inr other ↦
          let lower : nat_lt at (suc place) ≡ true = grind (arith, nat_tests) in
          rw (other, lower) (stays place n n (suc at) ns (omega arith))
    ]
reads (n ∷ ns) (suc i) at place last d lt is =
    let rest = reads ns i (suc at) place n d (omega arith) (omega arith) in
    elim (cases_Bool (n == last)) [
      | inl same ↦
          rw same (ap (λ (l : ℕ). number_at place l (change_starts n (suc at) ns) (changes_behind n ns)) (sym (eqb-true n last same)) ∙ rest)
      | inr other ↦ let lower : nat_lt at (suc place) ≡ true = grind (arith, nat_tests) in rw (other, lower) rest
    ]

-- numbers that stand at their places are those from there on
are_from : (ns : List ℕ) (at : ℕ) (starts changes : List ℕ) → ((i : ℕ) → i < length ns → number_at (at + i) 0 starts changes ≡ get_or ns i 0)
    → numbers_from (length ns) at starts changes ≡ ns
unfolding numbers_from
are_from [] at starts changes are = refl
are_from (n ∷ ns) at starts changes are =
    let here : at ≡ at + 0 = omega arith in
    ap (λ (p : ℕ). number_at p 0 starts changes ∷ numbers_from (length ns) (suc at) starts changes) here
    ∙ ap (λ (x : ℕ). x ∷ numbers_from (length ns) (suc at) starts changes) (are 0 (omega arith))
    ∙ ap (λ (xs : List ℕ). n ∷ xs) (are_from ns (suc at) starts changes (λ i lt. later i lt))
  where
    later : (i : ℕ) → i < length ns → number_at (suc at + i) 0 starts changes ≡ get_or ns i 0
    later i lt =
        let there : suc at + i ≡ at + suc i = omega arith in
        ap (λ (p : ℕ). number_at p 0 starts changes) there ∙ are (suc i) (omega arith)

-- what is held are the numbers
pub column_is : (starts changes : List ℕ) (len : ℕ) (numbers : List ℕ) → HoldsColumn starts changes len numbers → numbers_of starts changes len ≡ numbers
column_is starts changes len numbers holds =
    ap (numbers_of starts changes) holds.len_so
    ∙ ap (λ (ss : List ℕ). numbers_of ss changes (length numbers)) holds.starts_so
    ∙ ap (λ (cs : List ℕ). numbers_of (change_starts 0 0 numbers) cs (length numbers)) holds.changes_so
    ∙ are_from numbers 0 (change_starts 0 0 numbers) (changes_behind 0 numbers) (λ i lt. reads numbers i 0 (0 + i) 0 0 lt refl)

pub is_column : (starts changes : List ℕ) (len : ℕ) (numbers : List ℕ) → HoldsColumn starts changes len numbers → IsColumn starts changes len
is_column starts changes len numbers holds =
    subst (λ (read : List ℕ). HoldsColumn starts changes len read) (sym (column_is starts changes len numbers holds)) holds

-- the numbers that a value shows are held
pub shows : (starts changes : List ℕ) (len : ℕ) (numbers : List ℕ) → IsColumn starts changes len → numbers_of starts changes len ≡ numbers
    → HoldsColumn starts changes len numbers
shows starts changes len numbers are is = subst (λ (read : List ℕ). HoldsColumn starts changes len read) is are

-- what holds the numbers after each call

pub no_numbers : (starts changes : List ℕ) (len : ℕ) → starts ≡ [] → changes ≡ [] → len ≡ 0 → HoldsColumn starts changes len []
no_numbers starts changes len starts_are changes_are len_is =
    record { starts_so = starts_are; changes_so = changes_are; len_so = len_is; few = omega arith }

pub same_more : (starts changes : List ℕ) (len more : ℕ) (numbers : List ℕ) (n : ℕ) → HoldsColumn starts changes len numbers
    → (n == number_behind 0 numbers) ≡ true → more ≡ len + 1 → more < 2 ^ 32 → HoldsColumn starts changes more (numbers ++ n ∷ [])
same_more starts changes len more numbers n holds same more_is small = record {
  starts_so = holds.starts_so ∙ sym (starts-same 0 0 numbers n same);
  changes_so = holds.changes_so ∙ sym (changes-same 0 numbers n same);
  len_so = omega (arith, holds.len_so, length-append numbers (n ∷ []));
  few = omega (arith, holds.len_so, length-append numbers (n ∷ []));
}

pub other_more : (starts changes : List ℕ) (len more : ℕ) (numbers : List ℕ) (n : ℕ) (more_starts more_changes : List ℕ)
    → HoldsColumn starts changes len numbers → (n == number_behind 0 numbers) ≡ false → more_starts ≡ starts ++ len ∷ []
    → more_changes ≡ changes ++ n ∷ [] → more ≡ len + 1 → more < 2 ^ 32 → HoldsColumn more_starts more_changes more (numbers ++ n ∷ [])
other_more starts changes len more numbers n more_starts more_changes holds other starts_are changes_are more_is small = record {
  starts_so =
      starts_are ∙ ap (λ (ss : List ℕ). ss ++ len ∷ []) holds.starts_so
      ∙ sym (starts-more 0 0 len numbers n (omega (arith, holds.len_so)) other);
  changes_so = changes_are ∙ ap (λ (cs : List ℕ). cs ++ n ∷ []) holds.changes_so ∙ sym (changes-more 0 numbers n other);
  len_so = omega (arith, holds.len_so, length-append numbers (n ∷ []));
  few = omega (arith, holds.len_so, length-append numbers (n ∷ []));
}

pub front_holds : (starts changes : List ℕ) (len : ℕ) (numbers : List ℕ) (n k : ℕ) (front_starts front_changes : List ℕ)
    → HoldsColumn starts changes len numbers → n ≤ length numbers → k ≡ below n starts → front_starts ≡ take k starts
    → front_changes ≡ take k changes → HoldsColumn front_starts front_changes n (take n numbers)
front_holds starts changes len numbers n k front_starts front_changes holds within k_is starts_are changes_are =
    let count : k ≡ length (change_starts 0 0 (take n numbers)) =
    k_is ∙ ap (below n) holds.starts_so ∙ below-starts n 0 n 0 numbers (omega arith) in
    record {
      starts_so =
          starts_are ∙ ap (λ (j : ℕ). take j starts) count ∙ ap (take (length (change_starts 0 0 (take n numbers)))) holds.starts_so
          ∙ starts-take n 0 0 numbers;
      changes_so =
          changes_are ∙ ap (λ (j : ℕ). take j changes) count ∙ ap (take (length (change_starts 0 0 (take n numbers)))) holds.changes_so
          ∙ changes-take n 0 0 numbers;
      len_so = omega (arith, length-take n numbers);
      few = omega (arith, length-take n numbers, holds.few);
    }

-- each column is held in one way, and what is held is one column
pub same_column : (starts other_starts changes other_changes : List ℕ) (len other_len : ℕ) (numbers others : List ℕ)
    → HoldsColumn starts changes len numbers → HoldsColumn other_starts other_changes other_len others → starts ≡ other_starts
    → changes ≡ other_changes → len ≡ other_len → numbers ≡ others
same_column starts other_starts changes other_changes len other_len numbers others a b starts_are changes_are len_is =
    sym (column_is starts changes len numbers a)
    ∙ ap (λ (ss : List ℕ). numbers_of ss changes len) starts_are ∙ ap (λ (cs : List ℕ). numbers_of other_starts cs len) changes_are
    ∙ ap (numbers_of other_starts other_changes) len_is
    ∙ column_is other_starts other_changes other_len others b

-- a number, by how many changes stand up to it

none_is_one : {n : ℕ} → 0 ≡ suc n → ⊥
none_is_one {n} is = omega arith

unchanged : (place last : ℕ) (starts changes : List ℕ) → below (suc place) starts ≡ 0 → number_at place last starts changes ≡ last
unchanged place last [] changes none = refl
unchanged place last (s ∷ ss) [] none = refl
unchanged place last (s ∷ ss) (n ∷ ns) none =
    elim (cases_Bool (nat_lt s (suc place))) [
      | inl lower ↦ let never : suc (below (suc place) ss) ≡ 0 = rw lower at none in absurd (omega arith)
      | inr upper ↦ rw upper refl
    ]

changed : (place last : ℕ) (starts changes : List ℕ) (j d : ℕ) → below (suc place) starts ≡ suc j → length changes ≡ length starts
    → number_at place last starts changes ≡ get_or changes j d
changed place last [] changes j d count long = absurd (omega arith)
changed place last (s ∷ ss) [] j d count long = absurd (omega arith)
changed place last (s ∷ ss) (n ∷ ns) zero d count long =
    elim (cases_Bool (nat_lt s (suc place))) [
      | inl lower ↦ let one : suc (below (suc place) ss) ≡ 1 = rw lower at count in rw lower (unchanged place n ss ns (omega arith))
      | inr upper ↦ absurd (none_is_one (rw upper at count))
    ]
changed place last (s ∷ ss) (n ∷ ns) (suc j) d count long =
    elim (cases_Bool (nat_lt s (suc place))) [
      | inl lower ↦
          let more : suc (below (suc place) ss) ≡ suc (suc j) = rw lower at count in
          rw lower (changed place n ss ns j d (omega arith) (omega arith))
      | inr upper ↦ absurd (none_is_one (rw upper at count))
    ]

-- so many changes stand up to a place
pub up_to : (starts changes : List ℕ) (len : ℕ) (numbers : List ℕ) (i : ℕ) → HoldsColumn starts changes len numbers
    → below (suc i) starts ≡ changes_in (take (suc i) numbers)
up_to starts changes len numbers i holds = ap (below (suc i)) holds.starts_so ∙ below-starts (suc i) 0 (suc i) 0 numbers (omega arith)

pub as_long : (starts changes : List ℕ) (len : ℕ) (numbers : List ℕ) → HoldsColumn starts changes len numbers → length changes ≡ length starts
as_long starts changes len numbers holds =
    ap length holds.changes_so ∙ length-changes 0 0 numbers ∙ sym (ap length holds.starts_so)

stands : (starts changes : List ℕ) (len : ℕ) (numbers : List ℕ) (i d : ℕ) → HoldsColumn starts changes len numbers → i < length numbers
    → number_at i 0 starts changes ≡ get_or numbers i d
stands starts changes len numbers i d holds lt =
    ap (λ (ss : List ℕ). number_at i 0 ss changes) holds.starts_so ∙ ap (number_at i 0 (change_starts 0 0 numbers)) holds.changes_so
    ∙ reads numbers i 0 i 0 d lt (omega arith)

pub is_zero : (numbers : List ℕ) (i d : ℕ) → i < length numbers → changes_in (take (suc i) numbers) ≡ 0 → 0 ≡ get_or numbers i d
is_zero numbers i d lt none =
    sym (unchanged i 0 (change_starts 0 0 numbers) (changes_behind 0 numbers) (below-starts (suc i) 0 (suc i) 0 numbers (omega arith) ∙ none))
    ∙ reads numbers i 0 i 0 d lt (omega arith)

-- the last change up to it made it
pub record Made (changes numbers : List ℕ) (i j : ℕ) : Type 0 where
  pub within : j < length changes
  pub is_it : (d e : ℕ) → get_or changes j e ≡ get_or numbers i d

pub made_by : (starts changes : List ℕ) (len : ℕ) (numbers : List ℕ) (i j : ℕ) → HoldsColumn starts changes len numbers → i < length numbers
    → changes_in (take (suc i) numbers) ≡ suc j → Made changes numbers i j
made_by starts changes len numbers i j holds lt some =
    let count = up_to starts changes len numbers i holds ∙ some in
    let long = as_long starts changes len numbers holds in
    record {
      within = omega (arith, (found_below (suc i) starts j 0 count).0);
      is_it = λ d e. sym (changed i 0 starts changes j e count long) ∙ stands starts changes len numbers i d holds lt;
    }

-- the places of the changes rise
pub rising : (starts changes : List ℕ) (len : ℕ) (numbers seen : List ℕ) → HoldsColumn starts changes len numbers → seen ≡ starts → IsNonDecreasing seen
rising starts changes len numbers seen holds is = rw (is ∙ holds.starts_so) (starts_rise 0 0 numbers)

-- where all changes stand up to a place, no more are made behind it
pub no_more : (starts changes : List ℕ) (len : ℕ) (numbers : List ℕ) (i : ℕ) → HoldsColumn starts changes len numbers
    → below (suc i) starts ≡ length starts → changes_in (take (suc i) numbers) ≡ changes_in numbers
no_more starts changes len numbers i holds all = sym (up_to starts changes len numbers i holds) ∙ all ∙ ap length holds.starts_so

-- the first numbers of a column, by what it holds
pub front_of : (starts changes : List ℕ) (len : ℕ) (numbers seen : List ℕ) (n k : ℕ) → HoldsColumn starts changes len numbers → n ≤ length numbers
    → seen ≡ starts → k ≡ below n seen → HoldsColumn (take k starts) (take k changes) n (take n numbers)
front_of starts changes len numbers seen n k holds within seen_is k_is =
    front_holds starts changes len numbers n k (take k starts) (take k changes) holds within (k_is ∙ ap (below n) seen_is) refl refl

-- how many changes stand up to a number, where so many stand before it

pub before : (starts changes : List ℕ) (len : ℕ) (numbers : List ℕ) (i : ℕ) → HoldsColumn starts changes len numbers
    → below i starts ≡ changes_in (take i numbers)
before starts changes len numbers i holds = ap (below i) holds.starts_so ∙ below-starts i 0 i 0 numbers (omega arith)

pub changes_here : (starts changes : List ℕ) (len : ℕ) (numbers : List ℕ) (i k d : ℕ) → HoldsColumn starts changes len numbers
    → k ≡ changes_in (take i numbers) → k < length starts → get_or starts k d ≡ i → suc k ≡ changes_in (take (suc i) numbers)
changes_here starts changes len numbers i k d holds k_is lt is =
    let count : below i (change_starts 0 0 numbers) ≡ k = below-starts i 0 i 0 numbers (omega arith) ∙ sym k_is in
    let lt_there : below i (change_starts 0 0 numbers) < length (change_starts 0 0 numbers) = omega (arith, count, lt, ap length holds.starts_so) in
    let is_there : get_or (change_starts 0 0 numbers) (below i (change_starts 0 0 numbers)) d ≡ i =
    ap (λ (j : ℕ). get_or (change_starts 0 0 numbers) j d) count ∙ ap (λ (ss : List ℕ). get_or ss k d) (sym holds.starts_so) ∙ is in
    ap suc (sym count) ∙ sym (one_more_below i 0 0 d numbers lt_there is_there) ∙ below-starts (suc i) 0 (suc i) 0 numbers (omega arith)

pub no_change_here : (starts changes : List ℕ) (len : ℕ) (numbers : List ℕ) (i k d : ℕ) → HoldsColumn starts changes len numbers
    → k ≡ changes_in (take i numbers) → (k < length starts → get_or starts k d ≡ i → ⊥) → k ≡ changes_in (take (suc i) numbers)
no_change_here starts changes len numbers i k d holds k_is never =
    let count : below i (change_starts 0 0 numbers) ≡ k = below-starts i 0 i 0 numbers (omega arith) ∙ sym k_is in
    let nowhere : below i (change_starts 0 0 numbers) < length (change_starts 0 0 numbers)
    → get_or (change_starts 0 0 numbers) (below i (change_starts 0 0 numbers)) d ≡ i → ⊥ =
    λ lt is. never (omega (arith, count, lt, ap length holds.starts_so))
    (ap (λ (ss : List ℕ). get_or ss k d) holds.starts_so ∙ ap (λ (j : ℕ). get_or (change_starts 0 0 numbers) j d) (sym count) ∙ is) in
    sym count ∙ sym (no_more_below i 0 0 d numbers nowhere) ∙ below-starts (suc i) 0 (suc i) 0 numbers (omega arith)
