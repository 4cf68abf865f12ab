-- What fits names characters that are there.
use Rattle.std.proofs.Common.{◌≡◌, ℕ, Bool, true, false, inl, inr, ◌||◌, ◌&&◌, List, [], ◌∷◌, ◌++◌, refl, sym, ◌∙◌, append_assoc, append-nil}
use Rattle.std.specs.Prelude.{not, filter, ◌==◌}
use Rattle.std.specs.List.{list_any}
use Rattle.std.proofs.lemmas.Bool.{and_from, and_parts, cases_Bool, false≢true, or_cases, or_left, or_right}
use Rattle.std.proofs.lemmas.List.Folds.{list_all-append, list_any-append}
use Rattle.std.proofs.lemmas.List.Sums.{list_all-from_AllPass}
use Rattle.op_ids.specs.Id.{Id, is_same}
use Rattle.op_model.specs.declared.op.Op.{Op}
use Rattle.op_model.specs.declared.op.Body.{Body}
use Rattle.op_model.specs.declared.op.Body.TheVariants.{Insert, Remove, AddMark, RemoveMark}
use Rattle.op_model.specs.Causality.{is_insert, named_by}
use Rattle.op_model.specs.Characters.{characters}
use Rattle.op_model.specs.Placing.{has_id, Fits}
use Rattle.model_laws.proofs.Closed.{insert_found, is_insert_at}
use Rattle.model_laws.proofs.Ready.{found_insert}
use Rattle.char_sequence.specs.Content.{FitAfter}
use Rattle.doc_core.specs.Standing.{are_there, named_outside, with_inserted}

-- what an operation names that fits
pub fits_there : (ops : List Op) (doc : ℕ) (op : Op) → Fits ops doc op → are_there ops doc (named_by op.body) ≡ true
fits_there ops doc op fits =
    list_all-from_AllPass (λ id. has_id (characters ops doc) id) (named_by op.body) (λ i d here. (fits.names i d here).0)

-- one of these is this id
abbrev has : List Id → Id → Bool
has own id = list_any (λ o. is_same o id) own

-- what was inserted behind others is among these
abbrev AreOwn : ℕ → List Id → List Op → Type 0
AreOwn doc own seen = (id : Id) → list_any (is_insert_at doc id) seen ≡ true → has own id ≡ true

-- a character that isn't among these was there before
there_before : (ops seen : List Op) (doc : ℕ) (own : List Id) (id : Id) → AreOwn doc own seen → has_id (characters (ops ++ seen) doc) id ≡ true
    → has own id ≡ false → has_id (characters ops doc) id ≡ true
there_before ops seen doc own id are there lacks =
    let found = found_insert (ops ++ seen) doc id there in
    let either : (list_any (is_insert_at doc id) ops || list_any (is_insert_at doc id) seen) ≡ true = rw (list_any-append) at found in
    elim (or_cases (list_any (is_insert_at doc id) ops) (list_any (is_insert_at doc id) seen) either) [
      | inl before ↦ insert_found ops doc id before
      | inr later ↦ absurd (false≢true (sym lacks ∙ are id later))
    ]

outside_there : (ops seen : List Op) (doc : ℕ) (own ids : List Id) → AreOwn doc own seen → are_there (ops ++ seen) doc ids ≡ true
    → are_there ops doc (filter (λ id. not (has own id)) ids) ≡ true
outside_there ops seen doc own [] are there = refl
outside_there ops seen doc own (id ∷ ids) are there =
    let parts = and_parts (has_id (characters (ops ++ seen) doc) id) (are_there (ops ++ seen) doc ids) there in
    let rest = outside_there ops seen doc own ids are parts.1 in
    elim (cases_Bool (has own id)) [
      | inl own_one ↦ rw own_one rest
      | inr lacks ↦ rw lacks (and_from (has_id (characters ops doc) id) (are_there ops doc (filter (λ i. not (has own i)) ids))
          (there_before ops seen doc own id are parts.0 lacks) rest)
    ]

-- an insert is among them with it
inserted_own : (doc : ℕ) (by id : Id) (b : Body) (own : List Id) → is_same by id ≡ true → is_insert b ≡ true → has (with_inserted by b own) id ≡ true
inserted_own doc by id (Insert origin value) own same insert = or_left (is_same by id) (has own id) same
inserted_own doc by id (Remove target) own same insert = absurd (false≢true insert)
inserted_own doc by id (AddMark mark start end) own same insert = absurd (false≢true insert)
inserted_own doc by id (RemoveMark key start end) own same insert = absurd (false≢true insert)

still_own : (by id : Id) (b : Body) (own : List Id) → has own id ≡ true → has (with_inserted by b own) id ≡ true
still_own by id (Insert origin value) own it = or_right (is_same by id) (has own id) it
still_own by id (Remove target) own it = it
still_own by id (AddMark mark start end) own it = it
still_own by id (RemoveMark key start end) own it = it

own_more : (doc : ℕ) (own : List Id) (seen : List Op) (op : Op) → AreOwn doc own seen → AreOwn doc (with_inserted op.id op.body own) (seen ++ op ∷ [])
own_more doc own seen op are id found =
    let either : (list_any (is_insert_at doc id) seen || list_any (is_insert_at doc id) (op ∷ [])) ≡ true = rw (list_any-append) at found in
    elim (or_cases (list_any (is_insert_at doc id) seen) (list_any (is_insert_at doc id) (op ∷ [])) either) [
      | inl before ↦ still_own op.id id op.body own (are id before)
      | inr now ↦ elim (or_cases (is_insert_at doc id op) false now) [
        | inl it ↦ let parts = and_parts (is_same op.id id && op.doc == doc) (is_insert op.body) it in
            inserted_own doc op.id id op.body own (and_parts (is_same op.id id) (op.doc == doc) parts.0).0 parts.1
        | inr never ↦ absurd (false≢true never)
      ]
    ]

-- what operations name from outside that fit one after another
outside_all : (ops seen : List Op) (doc : ℕ) (own : List Id) (edit : List Op) → AreOwn doc own seen → FitAfter (ops ++ seen) doc edit
    → are_there ops doc (named_outside own edit) ≡ true
outside_all ops seen doc own [] are fit = refl
outside_all ops seen doc own (op ∷ edit) are fit =
    let first = outside_there ops seen doc own (named_by op.body) are (fits_there (ops ++ seen) doc op fit.0) in
    let rest = outside_all ops (seen ++ op ∷ []) doc (with_inserted op.id op.body own) edit (own_more doc own seen op are) (rw (← append_assoc ops seen (op ∷ [])) fit.1) in
    rw (list_all-append) (and_from (are_there ops doc (filter (λ id. not (has own id)) (named_by op.body)))
    (are_there ops doc (named_outside (with_inserted op.id op.body own) edit)) first rest)

pub edit_there : (ops : List Op) (doc : ℕ) (edit : List Op) → FitAfter ops doc edit → are_there ops doc (named_outside [] edit) ≡ true
edit_there ops doc edit fit = outside_all ops [] doc [] edit (λ id found. absurd (false≢true found)) (rw append-nil fit)
