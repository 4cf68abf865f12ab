-- Where links lead, and how far an insert goes along them.
use Rattle.std.proofs.Common.{◌≡◌, ℕ, zero, suc, ◌+◌, ◌≤◌, ◌<◌, true, false, List, [], ◌∷◌, ◌++◌, length, take, drop, Some, None, refl, sym, ◌∙◌, ap}
use Rattle.std.proofs.Common.{append_assoc, arith}
use Rattle.op_ids.specs.Id.{is_below}
use Rattle.char_sequence.specs.declared.cell.Cell.{Cell}
use Rattle.char_sequence.specs.Cells.{past_greater}
use Rattle.char_sequence.specs.Links.{cell_at_place, next_of, spot, Leads, Passes}

-- what begins behind the first i: one of them is one more
pub take_next : {A : Type 0} (xs ys : List A) (x : A) (i : ℕ) → drop i xs ≡ x ∷ ys → take (suc i) xs ≡ take i xs ++ x ∷ []
take_next [] ys x zero begins = absurd (cc)
take_next [] ys x (suc i) begins = absurd (cc)
take_next (z ∷ xs) ys x zero begins = let same : z ≡ x = cc in rw same refl
take_next (z ∷ xs) ys x (suc i) begins = ap (λ front. z ∷ front) (take_next xs ys x i begins)

pub drop_next : {A : Type 0} (xs ys : List A) (x : A) (i : ℕ) → drop i xs ≡ x ∷ ys → drop (suc i) xs ≡ ys
drop_next [] ys x zero begins = absurd (cc)
drop_next [] ys x (suc i) begins = absurd (cc)
drop_next (z ∷ xs) ys x zero begins = let same : xs ≡ ys = cc in same
drop_next (z ∷ xs) ys x (suc i) begins = drop_next xs ys x i begins

pub within_next : {A : Type 0} (xs ys : List A) (x : A) (i : ℕ) → drop i xs ≡ x ∷ ys → i < length xs
within_next [] ys x zero begins = absurd (cc)
within_next [] ys x (suc i) begins = absurd (cc)
within_next (z ∷ xs) ys x zero begins = omega arith
within_next (z ∷ xs) ys x (suc i) begins = let rest = within_next xs ys x i begins in omega arith

pub drop_all : {A : Type 0} (xs : List A) (i : ℕ) → length xs ≤ i → drop i xs ≡ []
drop_all [] zero past = refl
drop_all [] (suc i) past = refl
drop_all (x ∷ xs) zero past = absurd (omega arith)
drop_all (x ∷ xs) (suc i) past = drop_all xs i (omega arith)

-- the first place of what is left is one step on
pub spot_next : (at : ℕ) (ps qs : List ℕ) (p i : ℕ) → drop i ps ≡ p ∷ qs → spot at ps (suc i) ≡ p
spot_next at [] qs p zero begins = absurd (cc)
spot_next at [] qs p (suc i) begins = absurd (cc)
spot_next at (q ∷ ps) qs p zero begins = let same : q ≡ p = cc in same
spot_next at (q ∷ ps) qs p (suc i) begins = spot_next q ps qs p i begins

pub spot_add : (at : ℕ) (ps : List ℕ) (i j : ℕ) → i ≤ length ps → spot (spot at ps i) (drop i ps) j ≡ spot at ps (i + j)
spot_add at ps zero j within = let shift : 0 + j ≡ j = omega arith in rw shift refl
spot_add at [] (suc i) j within = absurd (omega arith)
spot_add at (p ∷ ps) (suc i) j within = let shift : suc i + j ≡ suc (i + j) = omega arith in rw shift (spot_add p ps i j (omega arith))

-- they lead on from each place
pub leads_at : (cells : List Cell) (next : List ℕ) (at : ℕ) (ps : List ℕ) (cs : List Cell) (i : ℕ) → Leads cells next at ps cs → i ≤ length ps
    → Leads cells next (spot at ps i) (drop i ps) (drop i cs)
leads_at cells next at ps cs zero leads within = leads
leads_at cells next at [] cs (suc i) leads within = absurd (omega arith)
leads_at cells next at (p ∷ ps) [] (suc i) leads within = absurd leads
leads_at cells next at (p ∷ ps) (c ∷ cs) (suc i) leads within = leads_at cells next p ps cs i leads.2 (omega arith)

-- there are as many places as cells
pub leads_many : (cells : List Cell) (next : List ℕ) (at : ℕ) (ps : List ℕ) (cs : List Cell) → Leads cells next at ps cs → length cs ≡ length ps
leads_many cells next at [] [] leads = refl
leads_many cells next at [] (c ∷ cs) leads = absurd leads
leads_many cells next at (p ∷ ps) [] leads = absurd leads
leads_many cells next at (p ∷ ps) (c ∷ cs) leads = ap suc (leads_many cells next p ps cs leads.2)

-- no character behind a place is the end
pub leads_none : (cells : List Cell) (next : List ℕ) (at : ℕ) (ps : List ℕ) (cs : List Cell) → Leads cells next at ps cs
    → cell_at_place cells (next_of next at) ≡ None → (ps ≡ []) × (cs ≡ [])
leads_none cells next at [] [] leads none = (refl, refl)
leads_none cells next at [] (c ∷ cs) leads none = absurd leads
leads_none cells next at (p ∷ ps) [] leads none = absurd leads
leads_none cells next at (p ∷ ps) (c ∷ cs) leads none =
    let some : Some c ≡ None = sym leads.1 ∙ (ap (cell_at_place cells) (sym leads.0) ∙ none) in
    absurd (cc)

-- a character behind a place is the first of the rest
pub leads_some : (cells : List Cell) (next : List ℕ) (at : ℕ) (ps : List ℕ) (cs : List Cell) (d : Cell) → Leads cells next at ps cs
    → cell_at_place cells (next_of next at) ≡ Some d → (qs : List ℕ) × (ds : List Cell) × (ps ≡ next_of next at ∷ qs) × (cs ≡ d ∷ ds)
leads_some cells next at [] [] d leads some =
    let none : None ≡ Some d = ap (cell_at_place cells) (sym leads) ∙ some in
    absurd (cc)
leads_some cells next at [] (c ∷ cs) d leads some = absurd leads
leads_some cells next at (p ∷ ps) [] d leads some = absurd leads
leads_some cells next at (p ∷ ps) (c ∷ cs) d leads some =
    let both : Some c ≡ Some d = sym leads.1 ∙ (ap (cell_at_place cells) (sym leads.0) ∙ some) in
    let same : c ≡ d = cc in
    (ps, cs, rw leads.0 refl, rw same refl)

-- i greater ids were passed
pub record Passed (c : Cell) (from : ℕ) (order : List ℕ) (cs : List Cell) (i at : ℕ) : Type 0 where
  pub within : i ≤ length order
  pub here : at ≡ spot from order i
  pub past : past_greater c cs ≡ take i cs ++ past_greater c (drop i cs)

pub passed_none : (c : Cell) (from : ℕ) (order : List ℕ) (cs : List Cell) → Passed c from order cs 0 from
passed_none c from order cs = record { within = omega arith; here = refl; past = refl }

left : (cells : List Cell) (next : List ℕ) (c : Cell) (from : ℕ) (order : List ℕ) (cs : List Cell) (i at : ℕ) → Leads cells next from order cs
    → Passed c from order cs i at → Leads cells next at (drop i order) (drop i cs)
left cells next c from order cs i at leads passed = rw passed.here (leads_at cells next from order cs i leads passed.within)

-- nothing is left
pub passed_all : (c : Cell) (from : ℕ) (order : List ℕ) (cs : List Cell) (i at : ℕ) → Passed c from order cs i at → drop i cs ≡ []
    → Passes c from order cs at
passed_all c from order cs i at passed none = record {
  by = i;
  within = passed.within;
  here = passed.here;
  past = passed.past ∙ rw none refl;
}

pub passed_to_none : (cells : List Cell) (next : List ℕ) (c : Cell) (from : ℕ) (order : List ℕ) (cs : List Cell) (i at : ℕ)
    → Leads cells next from order cs → Passed c from order cs i at → cell_at_place cells (next_of next at) ≡ None → Passes c from order cs at
passed_to_none cells next c from order cs i at leads passed none =
    passed_all c from order cs i at passed
    (leads_none cells next at (drop i order) (drop i cs) (left cells next c from order cs i at leads passed) none).1

pub passed_to_end : (cells : List Cell) (next : List ℕ) (c : Cell) (from : ℕ) (order : List ℕ) (cs : List Cell) (i at : ℕ)
    → Leads cells next from order cs → Passed c from order cs i at → length order ≤ i → Passes c from order cs at
passed_to_end cells next c from order cs i at leads passed end =
    let many = leads_many cells next from order cs leads in
    passed_all c from order cs i at passed (drop_all cs i (omega arith))

-- the next id isn't greater
pub passed_to_less : (cells : List Cell) (next : List ℕ) (c d : Cell) (from : ℕ) (order : List ℕ) (cs : List Cell) (i at : ℕ)
    → Leads cells next from order cs → Passed c from order cs i at → cell_at_place cells (next_of next at) ≡ Some d → is_below c.id d.id ≡ false
    → Passes c from order cs at
passed_to_less cells next c d from order cs i at leads passed some less =
    let rest = leads_some cells next at (drop i order) (drop i cs) d (left cells next c from order cs i at leads passed) some in
    let begins : drop i cs ≡ d ∷ rest.1 = rest.3 in
    record {
      by = i;
      within = passed.within;
      here = passed.here;
      past = passed.past ∙ rw (begins, less) refl;
    }

-- the next id is greater
pub passed_more : (cells : List Cell) (next : List ℕ) (c d : Cell) (from : ℕ) (order : List ℕ) (cs : List Cell) (i at : ℕ)
    → Leads cells next from order cs → Passed c from order cs i at → cell_at_place cells (next_of next at) ≡ Some d → is_below c.id d.id ≡ true
    → Passed c from order cs (i + 1) (next_of next at)
passed_more cells next c d from order cs i at leads passed some more =
    let rest = leads_some cells next at (drop i order) (drop i cs) d (left cells next c from order cs i at leads passed) some in
    let begins : drop i cs ≡ d ∷ rest.1 = rest.3 in
    let up : i + 1 ≡ suc i = omega arith in
    let first : past_greater c (d ∷ rest.1) ≡ d ∷ past_greater c rest.1 = rw more refl in
    rw up (record {
      within = within_next order rest.0 (next_of next at) i rest.2;
      here = sym (spot_next from order rest.0 (next_of next at) i rest.2);
      past = passed.past
          ∙ (ap (λ ds. take i cs ++ past_greater c ds) begins
          ∙ (ap (λ ds. take i cs ++ ds) first
          ∙ (sym (append_assoc (take i cs) (d ∷ []) (past_greater c rest.1))
          ∙ rw (take_next cs rest.1 d i begins, drop_next cs rest.1 d i begins) refl)));
    })
