-- An edit removes nothing again: it removes characters that a reader sees, each once.
use Rattle.std.proofs.Common.{◌≡◌, ℕ, zero, suc, ◌+◌, ◌≤◌, Bool, true, false, not, ◌&&◌, inl, inr, List, [], ◌∷◌, ◌++◌, take, drop, map, filter}
use Rattle.std.proofs.Common.{Option, Some, arith, ap, refl, ◌∙◌, sym}
use Rattle.std.specs.Prelude.{◌==◌}
use Rattle.std.specs.List.{list_any}
use Rattle.std.proofs.lemmas.Bool.{cases_Bool, false≢true}
use Rattle.std.proofs.lemmas.List.{take-append-drop}
use Rattle.op_ids.specs.Id.{Id, is_same}
use Rattle.op_ids.specs.Clock.{advanced}
use Rattle.op_model.specs.declared.op.Op.{Op}
use Rattle.op_model.specs.declared.op.Body.TheVariants as body
use Rattle.op_model.specs.declared.character.Character.{Character}
use Rattle.op_model.specs.declared.edit.Change.{Change}
use Rattle.op_model.specs.declared.edit.Change.TheVariants as change
use Rattle.op_model.specs.declared.edit.Edit.{Edit}
use Rattle.op_model.specs.Causality.{clock_of, IsCausallyClosed}
use Rattle.op_model.specs.Made.{bodies_of, greatest_counter, insert_bodies, made, numbered, origin_of}
use Rattle.op_model.specs.Text.{is_removal_of, is_removed, visible}
use Rattle.op_model.specs.Walk.{times, walk}
use Rattle.model_laws.specs.Since.{RemoveNothingAgain}
use Rattle.model_laws.proofs.Count.{times-append}
use Rattle.model_laws.proofs.Erased.{visible_once}
use Rattle.model_laws.proofs.Growth.{removed-push}
use Rattle.model_laws.proofs.Ids.{same_equal, same_itself, same_swapped}

-- none of these characters was removed
abbrev AreLeft : List Op → ℕ → List Character → Type 0
AreLeft ops doc [] = Unit {0}
AreLeft ops doc (c ∷ cs) = (is_removed ops doc c ≡ false) × AreLeft ops doc cs

left_shown : (ops : List Op) (doc : ℕ) (cs : List Character) → AreLeft ops doc (filter (λ c. not (is_removed ops doc c)) cs)
left_shown ops doc [] = tt
left_shown ops doc (c ∷ cs) =
    elim (cases_Bool (is_removed ops doc c)) [ inl e ↦ rw e (left_shown ops doc cs) | inr e ↦ rw e (e, left_shown ops doc cs) ]

left_first : (ops : List Op) (doc n : ℕ) (cs : List Character) → AreLeft ops doc cs → AreLeft ops doc (take n cs)
left_first ops doc zero cs left = tt
left_first ops doc (suc n) [] left = tt
left_first ops doc (suc n) (c ∷ cs) left = (left.0, left_first ops doc n cs left.1)

left_rest : (ops : List Op) (doc n : ℕ) (cs : List Character) → AreLeft ops doc cs → AreLeft ops doc (drop n cs)
left_rest ops doc zero cs left = left
left_rest ops doc (suc n) [] left = tt
left_rest ops doc (suc n) (c ∷ cs) left = left_rest ops doc n cs left.1

-- a remove of another character leaves these
left_others : (ops : List Op) (doc : ℕ) (op : Op) (id : Id) (cs : List Character) → op.body ≡ body.Remove id → times id cs ≡ 0 → AreLeft ops doc cs
    → AreLeft (ops ++ op ∷ []) doc cs
left_others ops doc op id [] does none left = tt
left_others ops doc op id (c ∷ cs) does none left =
    elim (cases_Bool (is_same c.id id)) [
      | inl e ↦ absurd (omega (arith, rw e at none))
      | inr e ↦
          let other : (op.doc == doc && is_removal_of c.id op.body) ≡ false = rw (does, same_swapped id c.id, e) (never (op.doc == doc)) in (
            removed-push ops doc op c ∙ rw (left.0, other) refl,
            left_others ops doc op id cs does (let t = rw e at none in omega arith) left.1,
          )
    ]
  where
    never : (b : Bool) → (b && false) ≡ false
    never true = refl
    never false = refl

-- removes of characters that are left, each once
removes_left : (cs : List Character) (before : List Op) (replica doc : ℕ) (token : Option ℕ) (counter : ℕ) (clock : List (ℕ × ℕ))
    → AreLeft before doc cs → ((id : Id) → times id cs ≤ 1)
    → RemoveNothingAgain before (numbered replica doc token counter clock (map (λ c. body.Remove c.id) cs))
removes_left [] before replica doc token counter clock left once = tt
removes_left (c ∷ cs) before replica doc token counter clock left once =
    let op : Op = record { id = record { counter = counter; replica = replica }; doc = doc; token = token; deps = clock; body = body.Remove c.id } in
    let alone : times c.id cs ≡ 0 = (let t = rw (same_itself c.id) at (once c.id) in omega arith) in (
      λ x e. ap (λ id. list_any (λ o. o.doc == doc && is_removal_of id o.body) before) (sym (same_equal c.id x.id e)) ∙ left.0,
      removes_left cs (before ++ op ∷ []) replica doc token (counter + 1) (advanced clock replica) (left_others before doc op c.id cs refl alone left.1)
          (λ id. omega (arith, once id)),
    )

-- inserts remove nothing
inserts_none : (text : List ℕ) (before : List Op) (replica doc : ℕ) (token : Option ℕ) (counter : ℕ) (clock : List (ℕ × ℕ)) (first : ℕ) (origin : Option Id)
    → RemoveNothingAgain before (numbered replica doc token counter clock (insert_bodies replica first origin text))
inserts_none [] before replica doc token counter clock first origin = tt
inserts_none (value ∷ text) before replica doc token counter clock first origin =
    let op : Op = record { id = record { counter = counter; replica = replica }; doc = doc; token = token; deps = clock; body = body.Insert origin value } in (
      λ x e. absurd (false≢true e),
      inserts_none text (before ++ op ∷ []) replica doc token (counter + 1) (advanced clock replica) (first + 1) (Some (record { counter = first; replica = replica })),
    )

-- a part of a list has no id more often than all of it
times_part : (id : Id) (at count : ℕ) (cs : List Character) → times id (take count (drop at cs)) ≤ times id cs
times_part id at count cs =
    let all = times-append id (take at cs) (drop at cs) in
    let rest = times-append id (take count (drop at cs)) (drop count (drop at cs)) in
    let whole = ap (times id) (take-append-drop at cs) in
    let behind = ap (times id) (take-append-drop count (drop at cs)) in
    omega arith

change_removes_nothing_again : (ops : List Op) (replica doc : ℕ) (token : Option ℕ) (x : Change) → IsCausallyClosed ops
    → RemoveNothingAgain ops (numbered replica doc token (greatest_counter ops + 1) (clock_of ops) (bodies_of ops replica doc x))
change_removes_nothing_again ops replica doc token (change.Insert at text) closed =
    inserts_none text ops replica doc token (greatest_counter ops + 1) (clock_of ops) (greatest_counter ops + 1) (origin_of ops doc at)
change_removes_nothing_again ops replica doc token (change.Delete at count) closed =
    removes_left (take count.value (drop at (visible ops doc))) ops replica doc token (greatest_counter ops + 1) (clock_of ops)
    (left_first ops doc count.value (drop at (visible ops doc)) (left_rest ops doc at (visible ops doc) (left_shown ops doc (walk ops doc))))
    (λ id. omega (arith, times_part id at count.value (visible ops doc), visible_once ops doc closed id))
change_removes_nothing_again ops replica doc token (change.Mark from to mark) closed = (λ x e. absurd (false≢true e), tt)
change_removes_nothing_again ops replica doc token (change.Unmark from to key) closed = (λ x e. absurd (false≢true e), tt)

-- the operations that an edit makes
pub made_removes_nothing_again : (ops : List Op) (replica : ℕ) (e : Edit) → IsCausallyClosed ops → RemoveNothingAgain ops (made ops replica e)
made_removes_nothing_again ops replica e closed = change_removes_nothing_again ops replica e.doc e.token e.change closed
