-- A weave with one more character, or with one removed.
use Rattle.std.proofs.Common.{◌≡◌, ℕ, zero, suc, ◌+◌, ◌≤◌, ◌<◌, ◌==◌, Bool, true, false, inl, inr, ◌||◌, List, [], ◌∷◌, ◌++◌, length, take, drop}
use Rattle.std.proofs.Common.{Some, refl, sym, ◌∙◌, ap, length-append, length-drop, arith}
use Rattle.std.specs.Prelude.{◌≢◌, slice_get, slice_index_or, slice_set}
use Rattle.std.proofs.lemmas.Bool.{cases_Bool, eq-eqb, ne_eqb, eqb-true, both_ways, or_parts, or_from}
use Rattle.std.proofs.lemmas.Bool.Decides.{nat_tests}
use Rattle.op_ids.specs.Id.{Id, is_same}
use Rattle.op_ids.proofs.IdLemmas.{same_from_test}
use Rattle.char_sequence.specs.declared.cell.Cell.{Cell}
use Rattle.char_sequence.specs.Cells.{past_greater, behind, has_cell, removed}
use Rattle.char_sequence.specs.Links.{cell_at_place, next_of, spot, has, Apart, Leads, Passes}
use Rattle.char_sequence.specs.Weave.{AreOnce, Starts, Weaves}
use Rattle.char_sequence.proofs.CutLemmas.{cut_twice}
use Rattle.char_sequence.proofs.LinkLemmas.{leads_many, spot_add}

-- what is read from lists with one more, or with one changed

get_front : (cells : List Cell) (c d : Cell) (i : ℕ) → slice_get cells i ≡ Some d → slice_get (cells ++ c ∷ []) i ≡ Some d
get_front [] c d i there = absurd (cc)
get_front (x ∷ cells) c d zero there = there
get_front (x ∷ cells) c d (suc i) there = get_front cells c d i there

get_last : (cells : List Cell) (c : Cell) → slice_get (cells ++ c ∷ []) (length cells) ≡ Some c
get_last [] c = refl
get_last (x ∷ cells) c = get_last cells c

cell_front : (cells : List Cell) (c d : Cell) (p : ℕ) → cell_at_place cells p ≡ Some d → cell_at_place (cells ++ c ∷ []) p ≡ Some d
cell_front cells c d zero there = absurd (cc)
cell_front cells c d (suc i) there = get_front cells c d i there

next_front : (next : List ℕ) (n i : ℕ) → i < length next → slice_index_or (next ++ n ∷ []) i 0 ≡ slice_index_or next i 0
next_front [] n i there = absurd (omega arith)
next_front (m ∷ next) n zero there = refl
next_front (m ∷ next) n (suc i) there = next_front next n i (omega arith)

next_last : (next : List ℕ) (n : ℕ) → slice_index_or (next ++ n ∷ []) (length next) 0 ≡ n
next_last [] n = refl
next_last (m ∷ next) n = next_last next n

set_here : (next : List ℕ) (at n : ℕ) → at < length next → slice_index_or (slice_set next at n) at 0 ≡ n
set_here [] at n there = absurd (omega arith)
set_here (m ∷ next) zero n there = refl
set_here (m ∷ next) (suc at) n there = set_here next at n (omega arith)

set_apart : (next : List ℕ) (at n i : ℕ) → i ≢ at → slice_index_or (slice_set next at n) i 0 ≡ slice_index_or next i 0
set_apart [] at n i other = refl
set_apart (m ∷ next) zero n zero other = absurd (other refl)
set_apart (m ∷ next) zero n (suc i) other = refl
set_apart (m ∷ next) (suc at) n zero other = refl
set_apart (m ∷ next) (suc at) n (suc i) other = set_apart next at n i (λ same. other (ap suc same))

length_set : (next : List ℕ) (at n : ℕ) → length (slice_set next at n) ≡ length next
length_set [] at n = refl
length_set (m ∷ next) zero n = refl
length_set (m ∷ next) (suc at) n = ap suc (length_set next at n)

-- the links, where a place that is new is put in behind another one
pub record IsTied (next after : List ℕ) (at slot : ℕ) : Type 0 where
  pub here : next_of after at ≡ slot
  pub new : next_of after slot ≡ next_of next at
  pub others : (p : ℕ) → p < slot → p ≢ at → next_of after p ≡ next_of next p

pub tied : (next after : List ℕ) (at : ℕ) → at < length next
    → (at < length (next ++ next_of next at ∷ []) → after ≡ slice_set (next ++ next_of next at ∷ []) at (length next))
    → IsTied next after at (length next)
tied next after at there is_set =
    let long = length-append next (next_of next at ∷ []) in
    let longer = next ++ next_of next at ∷ [] in
    let set = is_set (omega arith) in
    record {
      here = rw set (set_here longer at (length next) (omega arith));
      new = rw set (set_apart longer at (length next) (length next) (λ same. absurd (omega arith)) ∙ next_last next (next_of next at));
      others = λ p below other. rw set (set_apart longer at (length next) p other ∙ next_front next (next_of next at) p below);
    }

-- places that are apart

has_not : (p q : ℕ) (ps : List ℕ) → has p ps ≡ false → has q ps ≡ true → q ≢ p
has_not p q ps lacks there same = both_ways (has p ps) lacks (rw same at there)

has_spot : (at : ℕ) (ps : List ℕ) (i : ℕ) → i < length ps → has (spot at ps (suc i)) ps ≡ true
has_spot at [] i within = absurd (omega arith)
has_spot at (p ∷ ps) zero within = let same = eq-eqb p p refl in grind (arith, nat_tests)
has_spot at (p ∷ ps) (suc i) within = let rest = has_spot p ps i (omega arith) in grind (arith, nat_tests)

-- where a place is among others
pub spot_of : (at : ℕ) (ps : List ℕ) (p : ℕ) → has p ps ≡ true → (i : ℕ) × (i < length ps) × (spot at ps (suc i) ≡ p)
spot_of at [] p there = absurd (cc)
spot_of at (q ∷ ps) p there =
    elim (cases_Bool (q == p)) [
      | inl same ↦ (0, omega arith, eqb-true q p same)
      | inr other ↦
          let rest = spot_of q ps p (rw other at there) in
          let within = rest.1 in
          (suc rest.0, omega arith, rest.2)
    ]

pub spot_below : (n at : ℕ) (ps : List ℕ) (i : ℕ) → Apart n (at ∷ ps) → spot at ps i < n
spot_below n at ps zero apart = apart.0
spot_below n at [] (suc i) apart = apart.0
spot_below n at (p ∷ ps) (suc i) apart = spot_below n p ps i apart.2

has-put : (q slot : ℕ) (ps : List ℕ) (i : ℕ) → has q (take i ps ++ slot ∷ drop i ps) ≡ (slot == q || has q ps)
has-put q slot ps zero = refl
has-put q slot [] (suc i) = refl
has-put q slot (p ∷ ps) (suc i) = let rest = has-put q slot ps i in grind (arith, nat_tests)

lacks_beyond : (n : ℕ) (ps : List ℕ) → Apart n ps → has n ps ≡ false
lacks_beyond n [] apart = refl
lacks_beyond n (p ∷ ps) apart =
    or_from (p == n) (has n ps) (ne_eqb p n (λ same. let below = apart.0 in absurd (omega arith))) (lacks_beyond n ps apart.2)

apart_more : (n : ℕ) (ps : List ℕ) → Apart n ps → Apart (suc n) ps
apart_more n [] apart = tt
apart_more n (p ∷ ps) apart = (let below = apart.0 in omega arith, apart.1, apart_more n ps apart.2)

apart-put : (n : ℕ) (ps : List ℕ) (i : ℕ) → Apart n ps → Apart (suc n) (take i ps ++ n ∷ drop i ps)
apart-put n ps zero apart = (omega arith, lacks_beyond n ps apart, apart_more n ps apart)
apart-put n [] (suc i) apart = (omega arith, refl, tt)
apart-put n (p ∷ ps) (suc i) apart = (
  let below = apart.0 in omega arith,
  has-put p n ps i ∙ or_from (n == p) (has p ps) (ne_eqb n p (λ same. let below = apart.0 in absurd (omega arith))) apart.1,
  apart-put n ps i apart.2,
)

apart_same : (n m : ℕ) (ps : List ℕ) → n ≡ m → Apart n ps → Apart m ps
apart_same n m ps same apart = rw (sym same) apart

length-put : (ps : List ℕ) (n i : ℕ) → length (take i ps ++ n ∷ drop i ps) ≡ suc (length ps)
length-put ps n zero = refl
length-put [] n (suc i) = refl
length-put (p ∷ ps) n (suc i) = ap suc (length-put ps n i)

-- links that lead past a place that isn't among theirs
leads_past : (cells : List Cell) (next after : List ℕ) (c : Cell) (slot at p : ℕ) (ps : List ℕ) (cs : List Cell) → Leads cells next p ps cs
    → IsTied next after at slot → Apart slot (p ∷ ps) → has at (p ∷ ps) ≡ false → Leads (cells ++ c ∷ []) after p ps cs
leads_past cells next after c slot at p [] [] leads links apart lacks =
    links.others p apart.0 (λ same. both_ways (p == at) (or_parts (p == at) false lacks).0 (eq-eqb p at same)) ∙ leads
leads_past cells next after c slot at p [] (d ∷ cs) leads links apart lacks = absurd leads
leads_past cells next after c slot at p (q ∷ ps) [] leads links apart lacks = absurd leads
leads_past cells next after c slot at p (q ∷ ps) (d ∷ cs) leads links apart lacks =
    let both = or_parts (p == at) (has at (q ∷ ps)) lacks in (
      links.others p apart.0 (λ same. both_ways (p == at) both.0 (eq-eqb p at same)) ∙ leads.0,
      cell_front cells c d q leads.1,
      leads_past cells next after c slot at q ps cs leads.2 links apart.2 both.1,
    )

-- what stood behind the place stands behind the new one
leads_new : (cells : List Cell) (next after : List ℕ) (c : Cell) (slot at : ℕ) (ps : List ℕ) (cs : List Cell) → Leads cells next at ps cs
    → IsTied next after at slot → Apart slot (at ∷ ps) → Leads (cells ++ c ∷ []) after slot ps cs
leads_new cells next after c slot at [] [] leads links apart = links.new ∙ leads
leads_new cells next after c slot at [] (d ∷ cs) leads links apart = absurd leads
leads_new cells next after c slot at (q ∷ ps) [] leads links apart = absurd leads
leads_new cells next after c slot at (q ∷ ps) (d ∷ cs) leads links apart = (
  links.new ∙ leads.0,
  cell_front cells c d q leads.1,
  leads_past cells next after c slot at q ps cs leads.2 links apart.2 apart.1,
)

-- links with a character more, i steps on
leads_put : (cells : List Cell) (next after : List ℕ) (c : Cell) (at p : ℕ) (ps : List ℕ) (cs : List Cell) (i : ℕ) → Leads cells next p ps cs
    → i ≤ length ps → at ≡ spot p ps i → IsTied next after at (suc (length cells)) → Apart (suc (length cells)) (p ∷ ps)
    → Leads (cells ++ c ∷ []) after p (take i ps ++ suc (length cells) ∷ drop i ps) (take i cs ++ c ∷ drop i cs)
leads_put cells next after c at p ps cs zero leads within here links apart = (
  rw (sym here) (links.here),
  get_last cells c,
  leads_new cells next after c (suc (length cells)) at ps cs (rw here leads) links (rw here apart),
)
leads_put cells next after c at p [] cs (suc i) leads within here links apart = absurd (omega arith)
leads_put cells next after c at p (q ∷ ps) [] (suc i) leads within here links apart = absurd leads
leads_put cells next after c at p (q ∷ ps) (d ∷ cs) (suc i) leads within here links apart = (
  links.others p apart.0
      (λ same. has_not p at (q ∷ ps) apart.1 (ap (λ a. has a (q ∷ ps)) here ∙ has_spot p (q ∷ ps) i (omega arith)) (sym same)) ∙ leads.0,
  cell_front cells c d q leads.1,
  leads_put cells next after c at q ps cs i leads.2 (omega arith) here links apart.2,
)

all_more : (n i : ℕ) (ps : List ℕ) → i < suc n → ((k : ℕ) → k < n → has (suc k) ps ≡ true) → (suc n == suc i || has (suc i) ps) ≡ true
all_more n i ps within all =
    elim (cases_Bool (suc n == suc i)) [
      | inl last ↦ rw last refl
      | inr other ↦ rw other (all i (let same = no_last n i other in omega arith))
    ]
  where
    no_last : (m k : ℕ) → (suc m == suc k) ≡ false → m ≢ k
    no_last m k differs same = both_ways (suc m == suc k) differs (eq-eqb (suc m) (suc k) (ap suc same))

-- a weave with one more character
pub woven_insert : (cells : List Cell) (next after : List ℕ) (cs : List Cell) (c : Cell) (at steps : ℕ) (w : Weaves cells next cs)
    → steps ≤ length w.order
    → Passes c (spot 0 w.order steps) (drop steps w.order) (drop steps cs) at
    → (at < length (next ++ next_of next at ∷ []) → after ≡ slice_set (next ++ next_of next at ∷ []) at (length next))
    → Weaves (cells ++ c ∷ []) after (take steps cs ++ past_greater c (drop steps cs))
woven_insert cells next after cs c at steps w within passes is_set =
    let far : steps + passes.by ≤ length w.order = (let by = passes.within in let cut = length-drop steps w.order in omega arith) in
    let here : at ≡ spot 0 w.order (steps + passes.by) = passes.here ∙ spot_add 0 w.order steps passes.by within in
    let below : at < length next = rw (here, w.links) (spot_below (suc (length cells)) 0 w.order (steps + passes.by) w.apart) in
    let links : IsTied next after at (suc (length cells)) = rw w.links at (tied next after at below is_set) in
    let many = leads_many cells next 0 w.order cs w.leads in
    let long = length-append cells (c ∷ []) in
    let one : length (cells ++ c ∷ []) ≡ suc (length cells) = omega arith in
    let set = is_set (let longer = length-append next (next_of next at ∷ []) in omega arith) in
    record {
      order = take (steps + passes.by) w.order ++ suc (length cells) ∷ drop (steps + passes.by) w.order;
      leads = rw (passes.past, cut_twice cs steps passes.by c (omega arith))
          (leads_put cells next after c at 0 w.order cs (steps + passes.by) w.leads far here links w.apart);
      apart = apart_same _ _ (0 ∷ (take (steps + passes.by) w.order ++ suc (length cells) ∷ drop (steps + passes.by) w.order))
          (sym (ap suc one)) (apart-put (suc (length cells)) (0 ∷ w.order) (suc (steps + passes.by)) w.apart);
      all = λ i inside. has-put (suc i) (suc (length cells)) w.order (steps + passes.by) ∙ all_more (length cells) i w.order (omega arith) w.all;
      many = length-put w.order (suc (length cells)) (steps + passes.by) ∙ (ap suc w.many ∙ sym one);
      links = rw set (length_set _ at (length next) ∙ (let longer = length-append next (next_of next at ∷ []) in let was = w.links in omega arith));
    }

-- a character that is found

leads_cell : (cells : List Cell) (next : List ℕ) (at : ℕ) (ps : List ℕ) (cs : List Cell) (i : ℕ) → Leads cells next at ps cs → i < length ps
    → (d : Cell) × (cell_at_place cells (spot at ps (suc i)) ≡ Some d) × (drop i cs ≡ d ∷ drop (suc i) cs)
leads_cell cells next at [] cs i leads within = absurd (omega arith)
leads_cell cells next at (p ∷ ps) [] i leads within = absurd leads
leads_cell cells next at (p ∷ ps) (c ∷ cs) zero leads within = (c, leads.1, refl)
leads_cell cells next at (p ∷ ps) (c ∷ cs) (suc i) leads within = leads_cell cells next p ps cs i leads.2 (omega arith)

get_within : (cells : List Cell) (i : ℕ) (c : Cell) → slice_get cells i ≡ Some c → i < length cells
get_within [] i c there = absurd (cc)
get_within (x ∷ cells) zero c there = omega arith
get_within (x ∷ cells) (suc i) c there = let rest = get_within cells i c there in omega arith

-- a place at which there is a character is within the characters
pub cell_within : (cells : List Cell) (at : ℕ) (c : Cell) → cell_at_place cells at ≡ Some c
    → (k : ℕ) × (at ≡ suc k) × (slice_get cells k ≡ Some c) × (k < length cells)
cell_within cells zero c there = absurd (cc)
cell_within cells (suc k) c there = (k, refl, there, get_within cells k c there)

-- a place of a weave at which there is a character
pub record IsFound (order : List ℕ) (cs : List Cell) (c : Cell) (at : ℕ) : Type 0 where
  pub step : ℕ
  pub within : step < length order
  pub here : spot 0 order (suc step) ≡ at
  pub begins : drop step cs ≡ c ∷ drop (suc step) cs

pub found : (cells : List Cell) (next : List ℕ) (cs : List Cell) (w : Weaves cells next cs) (at : ℕ) (c : Cell) → cell_at_place cells at ≡ Some c
    → IsFound w.order cs c at
found cells next cs w zero c there = absurd (cc)
found cells next cs w (suc k) c there =
    let place = spot_of 0 w.order (suc k) (w.all k (get_within cells k c there)) in
    let one = leads_cell cells next 0 w.order cs place.0 w.leads place.1 in
    let both : Some one.0 ≡ Some c = sym one.1 ∙ (ap (cell_at_place cells) place.2 ∙ there) in
    let same : one.0 ≡ c = cc in
    record { step = place.0; within = place.1; here = place.2; begins = rw same at one.2 }

has_begun : (cs ds : List Cell) (d : Cell) (id : Id) (i : ℕ) → drop i cs ≡ d ∷ ds → is_same d.id id ≡ true → has_cell cs id ≡ true
has_begun [] ds d id zero begins same = absurd (cc)
has_begun [] ds d id (suc i) begins same = absurd (cc)
has_begun (c ∷ cs) ds d id zero begins same = let first : c ≡ d = cc in rw (first, same) refl
has_begun (c ∷ cs) ds d id (suc i) begins same = let rest = has_begun cs ds d id i begins same in grind (arith, nat_tests)

-- before the only character of an id there is none
once_before : (cs ds : List Cell) (d : Cell) (id : Id) (i : ℕ) → AreOnce cs → drop i cs ≡ d ∷ ds → is_same d.id id ≡ true
    → has_cell (take i cs) id ≡ false
once_before cs ds d id zero once begins same = refl
once_before [] ds d id (suc i) once begins same = absurd (cc)
once_before (c ∷ cs) ds d id (suc i) once begins same =
    let rest = once_before cs ds d id i once.1 begins same in
    let there = has_begun cs ds d id i begins same in
    let none : has_cell cs c.id ≡ false = once.0 in
    or_from (is_same c.id id) (has_cell (take i cs) id) (other (has_cell cs) c.id id none there) rest
  where
    other : (p : Id → Bool) (a b : Id) → p a ≡ false → p b ≡ true → is_same a b ≡ false
    other p a b lacks has_it =
        elim (cases_Bool (is_same a b)) [
          | inl it ↦ absurd (both_ways (p a) lacks (ap p (same_from_test a b it) ∙ has_it))
          | inr it ↦ it
        ]

behind_cut : (id : Id) (c d : Cell) (cs ds : List Cell) (i : ℕ) → drop i cs ≡ d ∷ ds → is_same d.id id ≡ true → has_cell (take i cs) id ≡ false
    → behind id c cs ≡ take (suc i) cs ++ past_greater c (drop (suc i) cs)
behind_cut id c d [] ds zero begins same none = absurd (cc)
behind_cut id c d [] ds (suc i) begins same none = absurd (cc)
behind_cut id c d (e ∷ cs) ds zero begins same none = let first : e ≡ d = cc in rw (first, same) refl
behind_cut id c d (e ∷ cs) ds (suc i) begins same none =
    let both = or_parts (is_same e.id id) (has_cell (take i cs) id) none in
    rw (both.0) (ap (λ rest. e ∷ rest) (behind_cut id c d cs ds i begins same both.1))

removed_cut : (id : Id) (d : Cell) (cs ds : List Cell) (i : ℕ) → drop i cs ≡ d ∷ ds → is_same d.id id ≡ true → has_cell (take i cs) id ≡ false
    → removed id cs ≡ take i cs ++ record d { is_removed = true } ∷ drop (suc i) cs
removed_cut id d [] ds zero begins same none = absurd (cc)
removed_cut id d [] ds (suc i) begins same none = absurd (cc)
removed_cut id d (e ∷ cs) ds zero begins same none = let first : e ≡ d = cc in rw (first, same) refl
removed_cut id d (e ∷ cs) ds (suc i) begins same none =
    let both = or_parts (is_same e.id id) (has_cell (take i cs) id) none in
    rw (both.0) (ap (λ rest. e ∷ rest) (removed_cut id d cs ds i begins same both.1))

-- what hangs from a character that is found begins at its place
pub starts_found : (cells : List Cell) (next : List ℕ) (cs : List Cell) (w : Weaves cells next cs) (at : ℕ) (c : Cell) (id : Id)
    → cell_at_place cells at ≡ Some c → is_same c.id id ≡ true → (has_cell cs id ≡ true) × Starts w.order cs (Some id) at
starts_found cells next cs w at c id there same =
    let it = found cells next cs w at c there in (
      has_begun cs (drop (suc it.step) cs) c id it.step it.begins same,
      record {
        steps = suc it.step;
        within = let inside = it.within in omega arith;
        here = sym it.here;
        placed = λ once d. behind_cut id d c cs (drop (suc it.step) cs) it.step it.begins same
            (once_before cs (drop (suc it.step) cs) c id it.step once it.begins same);
      },
    )

-- what isn't among the characters as they came isn't among them in the order of the text
lacks_one : (cells : List Cell) (id : Id) (i : ℕ) (c : Cell) → has_cell cells id ≡ false → slice_get cells i ≡ Some c → is_same c.id id ≡ false
lacks_one [] id i c none there = absurd (cc)
lacks_one (x ∷ cells) id zero c none there =
    let first : x ≡ c = cc in
    rw first at (or_parts (is_same x.id id) (has_cell cells id) none).0
lacks_one (x ∷ cells) id (suc i) c none there = lacks_one cells id i c (or_parts (is_same x.id id) (has_cell cells id) none).1 there

lacks_at : (cells : List Cell) (id : Id) (p : ℕ) (c : Cell) → has_cell cells id ≡ false → cell_at_place cells p ≡ Some c → is_same c.id id ≡ false
lacks_at cells id zero c none there = absurd (cc)
lacks_at cells id (suc i) c none there = lacks_one cells id i c none there

lacks_led : (cells : List Cell) (next : List ℕ) (at : ℕ) (ps : List ℕ) (cs : List Cell) (id : Id) → Leads cells next at ps cs
    → has_cell cells id ≡ false → has_cell cs id ≡ false
lacks_led cells next at [] [] id leads none = refl
lacks_led cells next at [] (c ∷ cs) id leads none = absurd leads
lacks_led cells next at (p ∷ ps) [] id leads none = absurd leads
lacks_led cells next at (p ∷ ps) (c ∷ cs) id leads none =
    or_from (is_same c.id id) (has_cell cs id) (lacks_at cells id p c none leads.1) (lacks_led cells next p ps cs id leads.2 none)

pub lacks_woven : (cells : List Cell) (next : List ℕ) (cs : List Cell) (id : Id) → Weaves cells next cs → has_cell cells id ≡ false
    → has_cell cs id ≡ false
lacks_woven cells next cs id w none = lacks_led cells next 0 w.order cs id w.leads none

-- a character that is changed at its place

set_there : (cells : List Cell) (i : ℕ) (c d : Cell) → slice_get cells i ≡ Some c → slice_get (slice_set cells i d) i ≡ Some d
set_there [] i c d there = absurd (cc)
set_there (x ∷ cells) zero c d there = refl
set_there (x ∷ cells) (suc i) c d there = set_there cells i c d there

set_other : (cells : List Cell) (i k : ℕ) (d : Cell) → k ≢ i → slice_get (slice_set cells i d) k ≡ slice_get cells k
set_other [] i k d other = refl
set_other (x ∷ cells) zero zero d other = absurd (other refl)
set_other (x ∷ cells) zero (suc k) d other = refl
set_other (x ∷ cells) (suc i) zero d other = refl
set_other (x ∷ cells) (suc i) (suc k) d other = set_other cells i k d (λ same. other (ap suc same))

cell_other : (cells : List Cell) (i p : ℕ) (d : Cell) → (p == suc i) ≡ false → cell_at_place (slice_set cells i d) p ≡ cell_at_place cells p
cell_other cells i zero d other = refl
cell_other cells i (suc k) d other =
    set_other cells i k d (λ same. both_ways (suc k == suc i) other (eq-eqb (suc k) (suc i) (ap suc same)))

cells_long : (cells : List Cell) (i : ℕ) (d : Cell) → length (slice_set cells i d) ≡ length cells
cells_long [] i d = refl
cells_long (x ∷ cells) zero d = refl
cells_long (x ∷ cells) (suc i) d = ap suc (cells_long cells i d)

leads_other : (cells : List Cell) (next : List ℕ) (i at : ℕ) (ps : List ℕ) (cs : List Cell) (d : Cell) → Leads cells next at ps cs
    → has (suc i) ps ≡ false → Leads (slice_set cells i d) next at ps cs
leads_other cells next i at [] [] d leads lacks = leads
leads_other cells next i at [] (c ∷ cs) d leads lacks = absurd leads
leads_other cells next i at (p ∷ ps) [] d leads lacks = absurd leads
leads_other cells next i at (p ∷ ps) (c ∷ cs) d leads lacks =
    let both = or_parts (p == suc i) (has (suc i) ps) lacks in
    (leads.0, cell_other cells i p d both.0 ∙ leads.1, leads_other cells next i p ps cs d leads.2 both.1)

leads_set : (cells : List Cell) (next : List ℕ) (n k at : ℕ) (ps : List ℕ) (cs : List Cell) (d : Cell) (i : ℕ) → Leads cells next at ps cs
    → i < length ps → spot at ps (suc i) ≡ suc k → Apart n ps → Leads (slice_set cells k d) next at ps (take i cs ++ d ∷ drop (suc i) cs)
leads_set cells next n k at [] cs d i leads within here apart = absurd (omega arith)
leads_set cells next n k at (p ∷ ps) [] d i leads within here apart = absurd leads
leads_set cells next n k at (p ∷ ps) (c ∷ cs) d zero leads within here apart = (
  leads.0,
  rw here (set_there cells k c d (rw here at leads.1)),
  leads_other cells next k p ps cs d leads.2 (rw here at apart.1),
)
leads_set cells next n k at (p ∷ ps) (c ∷ cs) d (suc i) leads within here apart =
    let there : has (suc k) ps ≡ true = ap (λ q. has q ps) (sym here) ∙ has_spot p ps i (omega arith) in
    let other : (p == suc k) ≡ false = ne_eqb p (suc k) (λ same. has_not p (suc k) ps apart.1 there (sym same)) in
    (leads.0, cell_other cells k p d other ∙ leads.1, leads_set cells next n k p ps cs d i leads.2 (omega arith) here apart.2)

-- a weave with a character that is found changed
pub woven_set : (cells : List Cell) (next : List ℕ) (cs : List Cell) (w : Weaves cells next cs) (k : ℕ) (c d : Cell)
    (it : IsFound w.order cs c (suc k))
    → Weaves (slice_set cells k d) next (take it.step cs ++ d ∷ drop (suc it.step) cs)
woven_set cells next cs w k c d it =
    let long = cells_long cells k d in
    record {
      order = w.order;
      leads = leads_set cells next (suc (length cells)) k 0 w.order cs d it.step w.leads it.within it.here w.apart.2;
      apart = apart_same _ _ (0 ∷ w.order) (sym (ap suc long)) w.apart;
      all = λ i inside. w.all i (omega arith);
      many = w.many ∙ sym long;
      links = w.links ∙ ap suc (sym long);
    }

-- a tombstone there is that of the id, where no two characters have one
pub removed_there : (order : List ℕ) (cs : List Cell) (c : Cell) (at : ℕ) (id : Id) (it : IsFound order cs c at) → is_same c.id id ≡ true → AreOnce cs
    → removed id cs ≡ take it.step cs ++ record c { is_removed = true } ∷ drop (suc it.step) cs
removed_there order cs c at id it same once =
    removed_cut id c cs (drop (suc it.step) cs) it.step it.begins same
    (once_before cs (drop (suc it.step) cs) c id it.step once it.begins same)
