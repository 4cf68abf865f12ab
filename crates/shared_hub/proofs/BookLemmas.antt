-- Books that fit the kept steps, behind one step more.
use Rattle.std.proofs.Common.{◌≡◌, ◌≢◌, ℕ, ◌+◌, ◌<◌, ◌≤◌, ◌==◌, Bool, true, false, List, [], ◌∷◌, Some}
use Rattle.std.proofs.Common.{length, refl, sym, ap, ◌∙◌, arith, length-append, slice_get, slice_set}
use Rattle.std.specs.Prelude.{if◌then◌else◌}
use Rattle.std.proofs.lemmas.Bool.Decides.{nat_tests}
use Rattle.std.proofs.lemmas.List.{get_or-set_same, get_or-set_other, length-set}
use Rattle.std.proofs.lemmas.Option.{slice_get_within, slice_get-get_or, get_or_from_slice_get}
use Rattle.op_model.specs.Actions.{made_by_action, Asked}
use Rattle.op_model.specs.Replay.{Kept, edited, merged, settlement}
use Rattle.op_model.specs.declared.op.Op.{Op}
use Rattle.op_model.specs.Held.{with_edit, with_merge}
use Rattle.hub_parts.specs.Locked.{LockedHeld}
use Rattle.shared_hub.specs.Books.{PassHeld, ends_of, BooksFit}

-- what was put at a place stands there
pub put_there : {A : Type 0} (xs : List (List A)) (n : ℕ) (x y : List A) → slice_get (slice_set xs n x) n ≡ Some y → y ≡ x
put_there xs n x y found =
    let within : n < length xs = omega (arith, slice_get_within (slice_set xs n x) n y found, length-set xs n x) in
    sym (get_or_from_slice_get (slice_set xs n x) n y [] found) ∙ get_or-set_same xs n x [] within

-- and other places are as before
pub put_elsewhere : {A : Type 0} (xs : List (List A)) (n m : ℕ) (x y : List A) → m ≢ n → slice_get (slice_set xs n x) m ≡ Some y → slice_get xs m ≡ Some y
put_elsewhere xs n m x y other found =
    let within : m < length xs = omega (arith, slice_get_within (slice_set xs n x) m y found, length-set xs n x) in
    slice_get-get_or xs m [] within
    ∙ ap Some (sym (get_or-set_other xs n m x [] other) ∙ get_or_from_slice_get (slice_set xs n x) m y [] found)

-- a place that holds something holds what is put there
pub set_there : {A : Type 0} (xs : List (List A)) (n : ℕ) (x y : List A) → slice_get xs n ≡ Some y → slice_get (slice_set xs n x) n ≡ Some x
set_there xs n x y found =
    let within : n < length xs = slice_get_within xs n y found in
    let inside : n < length (slice_set xs n x) = omega (arith, within, length-set xs n x) in
    slice_get-get_or (slice_set xs n x) n [] inside ∙ ap Some (get_or-set_same xs n x [] within)

-- and the others hold what they held
pub set_elsewhere : {A : Type 0} (xs : List (List A)) (n m : ℕ) (x y : List A) → m ≢ n → slice_get xs m ≡ Some y → slice_get (slice_set xs n x) m ≡ Some y
set_elsewhere xs n m x y other found =
    let within : m < length xs = slice_get_within xs m y found in
    let inside : m < length (slice_set xs n x) = omega (arith, within, length-set xs n x) in
    slice_get-get_or (slice_set xs n x) m [] inside
    ∙ ap Some (get_or-set_other xs n m x [] other ∙ get_or_from_slice_get xs m y [] found)

-- a book behind one entry more in the book of a number: that one has it, all others are as before
behind_entry : (steps : List Kept) (books : List (List ℕ)) (n m end : ℕ) (entries es : List ℕ) → BooksFit steps books → entries ≡ ends_of n steps
    → slice_get (slice_set books n (end ∷ entries)) m ≡ Some es → (b : Bool) → (n == m) ≡ b
    → es ≡ (if b then end ∷ ends_of m steps else ends_of m steps)
behind_entry steps books n m end entries es fit mine found true is =
    let same : n ≡ m = grind (arith, nat_tests, is) in
    let there : slice_get (slice_set books m (end ∷ entries)) m ≡ Some es = rw same at found in
    put_there books m (end ∷ entries) es there ∙ ap (λ x. end ∷ x) (mine ∙ ap (λ k. ends_of k steps) same)
behind_entry steps books n m end entries es fit mine found false is =
    let other : m ≢ n = λ same. absurd (grind (arith, nat_tests, is, same)) in
    fit m es (put_elsewhere books n m (end ∷ entries) es other found)

-- books that fit do so behind an edit whose end is entered
pub fit_edited : (steps : List Kept) (books : List (List ℕ)) (n end first count : ℕ) (e : Asked) (entries : List ℕ) → BooksFit steps books
    → entries ≡ ends_of n steps → end ≡ first + count
    → BooksFit (edited n e first count ∷ steps) (slice_set books n (end ∷ entries))
fit_edited steps books n end first count e entries fit mine is m es found =
    behind_entry steps books n m end entries es fit mine found (n == m) refl
    ∙ ap (λ k. if n == m then k ∷ ends_of m steps else ends_of m steps) is

-- and behind a merge whose end is entered
pub fit_merged : (steps : List Kept) (books : List (List ℕ)) (n end index : ℕ) (entries : List ℕ) → BooksFit steps books
    → entries ≡ ends_of n steps → end ≡ index + 1 → BooksFit (merged n index ∷ steps) (slice_set books n (end ∷ entries))
fit_merged steps books n end index entries fit mine is m es found =
    behind_entry steps books n m end entries es fit mine found (n == m) refl
    ∙ ap (λ k. if n == m then k ∷ ends_of m steps else ends_of m steps) is

-- one entry more at most for one step more
few_more : (b : Bool) (end : ℕ) (ends : List ℕ) (steps : List Kept) → length ends ≤ length steps
    → length (if b then end ∷ ends else ends) ≤ length steps + 1
few_more true end ends steps less = omega (arith, less)
few_more false end ends steps less = omega (arith, less)

-- there are no more entries of a number than kept steps
pub few_ends : (n : ℕ) (steps : List Kept) → length (ends_of n steps) ≤ length steps
few_ends n [] = omega arith
few_ends n (edited session e first count ∷ steps) =
    let more = few_more (session == n) (first + count) (ends_of n steps) steps (few_ends n steps) in omega (arith, more)
few_ends n (merged peer index ∷ steps) =
    let more = few_more (peer == n) (index + 1) (ends_of n steps) steps (few_ends n steps) in omega (arith, more)
few_ends n (settlement m ∷ steps) = let less = few_ends n steps in omega (arith, less)

-- behind an edit of the locked part, books fit where the ticket's end is entered
pub entered_edit : (l l' : LockedHeld) (books : List (List ℕ)) (p : PassHeld) (e : Asked) (end : ℕ) → BooksFit l.replica.steps books
    → p.entries ≡ ends_of p.number l.replica.steps → l' ≡ record l { replica = with_edit l.replica p.number e } → end ≡ length l'.replica.list
    → BooksFit l'.replica.steps (slice_set books p.number (end ∷ p.entries))
entered_edit l l' books p e end fit mine made_is ends =
    let all = made_by_action l.replica.list l.replica.replica e in
    let is : end ≡ length l.replica.list + length all =
    ends ∙ ap (λ k. length k.replica.list) made_is ∙ length-append l.replica.list all in
    rw made_is (fit_edited l.replica.steps books p.number end (length l.replica.list) (length all) e p.entries fit mine is)

-- and behind a merge where the new length is entered
pub entered_merge : (l l' : LockedHeld) (books : List (List ℕ)) (p : PassHeld) (op : Op) (end : ℕ) → BooksFit l.replica.steps books
    → p.entries ≡ ends_of p.number l.replica.steps → l' ≡ record l { replica = with_merge l.replica p.number op } → end ≡ length l'.replica.list
    → BooksFit l'.replica.steps (slice_set books p.number (end ∷ p.entries))
entered_merge l l' books p op end fit mine made_is ends =
    let is : end ≡ length l.replica.list + 1 =
    ends ∙ ap (λ k. length k.replica.list) made_is ∙ length-append l.replica.list (op ∷ []) in
    rw made_is (fit_merged l.replica.steps books p.number end (length l.replica.list) p.entries fit mine is)
