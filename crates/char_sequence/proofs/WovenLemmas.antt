-- What a weave shows, with one character more, or with one removed.
use Rattle.std.proofs.Common.{◌≡◌, ℕ, zero, suc, ◌+◌, ◌-◌, ◌≤◌, ◌<◌, true, false, List, [], ◌∷◌, ◌++◌, length, length-drop, take}
use Rattle.std.proofs.Common.{drop}
use Rattle.std.proofs.Common.{Option, Some, None, refl, sym, ◌∙◌, ap, subst, append_assoc, append-nil, arith}
use Rattle.std.specs.List.{cons_option}
use Rattle.std.specs.Prelude.{slice_get, slice_set}
use Rattle.op_ids.specs.Id.{Id, is_same}
use Rattle.op_model.specs.declared.op.Body.TheVariants.{Insert, Remove}
use Rattle.char_sequence.specs.declared.cell.Cell.{Cell}
use Rattle.char_sequence.specs.Cells.{inserted, past_greater}
use Rattle.char_sequence.specs.Content.{TakesCell}
use Rattle.char_sequence.specs.Links.{cell_at_place, followed, next_of, Leads, Passes}
use Rattle.char_sequence.specs.Weave.{IsWoven, Starts, Weaves, woven}
use Rattle.char_sequence.proofs.HoldsLemmas.{takes_insert, takes_remove}
use Rattle.char_sequence.proofs.LinkLemmas.{leads_at}
use Rattle.char_sequence.proofs.OnceLemmas.{once_content}
use Rattle.char_sequence.proofs.WeaveLemmas.{woven_insert, removed_there, IsFound}

-- the links lead to what is woven
followed_led : (cells : List Cell) (next : List ℕ) (at : ℕ) (ps : List ℕ) (cs : List Cell) → Leads cells next at ps cs
    → followed cells next at (length ps) ≡ cs
unfolding followed
followed_led cells next at [] [] leads = refl
followed_led cells next at [] (c ∷ cs) leads = absurd leads
followed_led cells next at (p ∷ ps) [] leads = absurd leads
followed_led cells next at (p ∷ ps) (c ∷ cs) leads =
    rw (leads.0, leads.1) (ap (λ rest. c ∷ rest) (followed_led cells next p ps cs leads.2))

pub woven_is : (cells : List Cell) (next : List ℕ) (cs : List Cell) → Weaves cells next cs → woven cells next ≡ cs
woven_is cells next cs w = ap (followed cells next 0) (sym w.many) ∙ followed_led cells next 0 w.order cs w.leads

pub is_woven : (cells : List Cell) (next : List ℕ) (cs : List Cell) → Weaves cells next cs → IsWoven cells next
is_woven cells next cs w = subst (λ (ds : List Cell). Weaves cells next ds) (sym (woven_is cells next cs w)) w

-- what a weave shows is woven
pub shown : (cells : List Cell) (next : List ℕ) (held : List Cell) → IsWoven cells next → woven cells next ≡ held → Weaves cells next held
shown cells next held w same = subst (λ (ds : List Cell). Weaves cells next ds) same w

-- the weave of no characters
pub woven_none : Weaves [] (0 ∷ []) []
woven_none = record {
  order = [];
  leads = refl;
  apart = (omega arith, refl, tt);
  all = λ i inside. absurd (omega arith);
  many = refl;
  links = refl;
}

-- with one character more, behind the place where an origin starts and the greater ids that follow
pub woven_with : (cells : List Cell) (next after : List ℕ) (cs : List Cell) (origin : Option Id) (from at : ℕ) (c : Cell)
    → (w : Weaves cells next cs) → (start : Starts w.order cs origin from)
    → ((order : List ℕ) (ds : List Cell) → Leads cells next from order ds → length order ≤ length cells → Passes c from order ds at)
    → (at < length (next ++ next_of next at ∷ []) → after ≡ slice_set (next ++ next_of next at ∷ []) at (length next))
    → Weaves (cells ++ c ∷ []) after (take start.steps cs ++ past_greater c (drop start.steps cs))
woven_with cells next after cs origin from at c w start passes is_set =
    let left = leads_at cells next 0 w.order cs start.steps w.leads start.within in
    let few : length (drop start.steps w.order) ≤ length cells =
    (let cut = length-drop start.steps w.order in let many = w.many in omega arith) in
    let past = rw start.here at passes in
    woven_insert cells next after cs c at start.steps w start.within (past (drop start.steps w.order) (drop start.steps cs) left few) is_set

-- what a call that weaves a character in owes
pub takes_insert_in : (id : Id) (origin : Option Id) (value : ℕ) (old new : List Cell) (order : List ℕ) (from : ℕ)
    (start : Starts order old origin from) (c : Cell)
    → c ≡ record { id = id; value = value; is_removed = false } → new ≡ take start.steps old ++ past_greater c (drop start.steps old)
    → TakesCell id (Insert origin value) old new
takes_insert_in id origin value old new order from start c is_cell is_new ops doc op fits same_id same_body holds =
    let once = once_content old ops doc holds in
    takes_insert id origin value old new (is_new
    ∙ (sym (start.placed once c) ∙ ap (λ d. inserted origin d old) is_cell)) ops doc op fits same_id same_body holds

-- what a call that makes a woven character a tombstone owes
pub takes_remove_in : (target : Id) (old new : List Cell) (order : List ℕ) (at : ℕ) (c : Cell) (it : IsFound order old c at) → is_same c.id target ≡ true
    → new ≡ take it.step old ++ record c { is_removed = true } ∷ drop (suc it.step) old → (id : Id) → TakesCell id (Remove target) old new
takes_remove_in target old new order at c it same is_new id ops doc op fits same_id same_body holds =
    let once = once_content old ops doc holds in
    takes_remove target old new (is_new ∙ sym (removed_there order old c at target it same once)) id ops doc op fits same_id same_body holds

-- the cell at a place, counted from 1, stands before it
pub read_found : (cells : List Cell) (at : ℕ) (c : Cell) → cell_at_place cells at ≡ Some c → slice_get cells (at - 1) ≡ Some c
read_found cells zero c there = absurd (cc)
read_found cells (suc i) c there = let back : suc i - 1 ≡ i = omega arith in rw back there

-- one link more is followed
followed_more : (cells : List Cell) (next : List ℕ) (at n i : ℕ) → i < n
    → followed cells next at (n - i) ≡ cons_option (cell_at_place cells (next_of next at)) (followed cells next (next_of next at) (n - (i + 1)))
unfolding followed
followed_more cells next at n i inside =
    let one : n - i ≡ suc (n - (i + 1)) = omega arith in
    rw one refl

-- it leads to a character, which comes behind those that were read
pub reads_one : (cells : List Cell) (next : List ℕ) (at n i to : ℕ) (c : Cell) (front now all : List Cell) → i < n → to ≡ next_of next at
    → cell_at_place cells to ≡ Some c → now ≡ front ++ c ∷ [] → front ++ followed cells next at (n - i) ≡ all
    → now ++ followed cells next to (n - (i + 1)) ≡ all
reads_one cells next at n i to c front now all inside is_next there is_now so =
    let more = rw (← is_next, there) at (followed_more cells next at n i inside) in
    rw is_now (append_assoc front (c ∷ []) (followed cells next to (n - (i + 1))) ∙ (ap (λ rest. front ++ rest) (sym more) ∙ so))

-- or to none
pub reads_none : (cells : List Cell) (next : List ℕ) (at n i to : ℕ) (front now all : List Cell) → i < n → to ≡ next_of next at
    → cell_at_place cells to ≡ None → now ≡ front → front ++ followed cells next at (n - i) ≡ all → now ++ followed cells next to (n - (i + 1)) ≡ all
reads_none cells next at n i to front now all inside is_next none is_now so =
    let more = rw (← is_next, none) at (followed_more cells next at n i inside) in
    rw is_now (ap (λ rest. front ++ rest) (sym more) ∙ so)

-- all links were followed
pub reads_all : (cells : List Cell) (next : List ℕ) (at n i : ℕ) (front all : List Cell) → n ≤ i
    → front ++ followed cells next at (n - i) ≡ all → front ≡ all
unfolding followed
reads_all cells next at n i front all past so =
    let none : n - i ≡ 0 = omega arith in
    sym (append-nil front) ∙ (rw none at so)
