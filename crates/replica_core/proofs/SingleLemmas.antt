-- An action of one change is refused as the edit, one of several is not.
use Rattle.std.proofs.Common.{◌≡◌, ℕ, ◌<◌, List, [], ◌∷◌, length, drop, Option, Some, None, refl, ap, ◌∙◌, arith}
use Rattle.std.specs.Option.{option_map}
use Rattle.op_model.specs.Actions.{action_refusal, asked, refusal_of, refused_several, Asked}
use Rattle.op_model.specs.declared.edit.Change.{Change}
use Rattle.op_model.specs.declared.edit.Edit.{Edit}
use Rattle.op_model.specs.declared.op.Op.{Op}
use Rattle.op_model.specs.Made.{edit_refusal, made}
use Rattle.op_model.specs.Waiting.{action_length, change_length}
use Rattle.op_ids.specs.Clock.{advanced}
use Rattle.op_model.specs.Actions.{all_wait_at_most}
use Rattle.op_model.specs.Causality.{clock_of}
use Rattle.model_laws.proofs.InTurn.{action_single}
use Rattle.std.proofs.lemmas.Bool.{lt-ltb}
use Rattle.replica_core.specs.RefusedAt.{place_in, refused_at}

-- no changes
pub none_from : (cs : List Change) → length cs ≡ 0 → cs ≡ []
none_from [] is = refl
none_from (c ∷ cs) is = absurd (omega arith)

second_of : (found : Option ℕ) → option_map (λ (f : ℕ × ℕ). f.1) (option_map (λ n. (0, n)) found) ≡ found
second_of None = refl
second_of (Some n) = refl

-- one change is refused as the edit
pub refusal_single : (ops : List Op) (replica : ℕ) (a : Asked) (e : Edit) → a ≡ asked e [] → refusal_of ops replica a ≡ edit_refusal ops replica e
refusal_single ops replica a e is = rw is (second_of (edit_refusal ops replica e))

-- and there has to be room for its own records
pub length_single : (ops : List Op) (replica : ℕ) (a : Asked) (e : Edit) → a ≡ asked e []
    → action_length ops replica a ≡ change_length e.change (made ops replica e)
length_single ops replica a e is =
    rw is (ap (change_length e.change) (action_single ops replica (asked e []) e refl refl refl))

-- several are refused in turn
pub refusal_several : (ops : List Op) (replica : ℕ) (a : Asked) (e : Edit) (others : List Change) → a ≡ asked e others → 0 < length others
    → action_refusal ops replica a ≡ refused_several ops replica a
refusal_several ops replica a e [] is some = absurd (omega arith)
refusal_several ops replica a e (c ∷ cs) is some = rw is refl

-- one change has no place
pub place_single : (ops : List Op) (replica : ℕ) (a : Asked) (cs : List Change) → a.changes ≡ cs → drop 1 cs ≡ [] → refused_at ops replica a ≡ None
place_single ops replica a [] is none = rw is refl
place_single ops replica a (c ∷ []) is none = rw is refl
place_single ops replica a (c ∷ d ∷ cs) is none = let never : d ∷ cs ≡ [] = none in absurd (cc)

-- the place of several is that of the first that is refused in turn
pub place_several : (ops : List Op) (replica : ℕ) (a : Asked) (e : Edit) (others : List Change) → a ≡ asked e others → 0 < length others
    → refused_at ops replica a ≡ place_in (refused_several ops replica a)
place_several ops replica a e others is some =
    let many : 1 < length a.changes = rw is (omega (arith, some)) in
    rw (lt-ltb 1 (length a.changes) many, refusal_several ops replica a e others is some) refl

-- so what refuses them in turn gives the place for whoever has the same list and name
pub place_from : (ops list : List Op) (replica name : ℕ) (a : Asked) (e : Edit) (others : List Change) (found : Option (ℕ × ℕ)) → ops ≡ list
    → replica ≡ name → a ≡ asked e others → 0 < length others → refused_several ops replica a ≡ found → refused_at list name a ≡ place_in found
place_from ops list replica name a e others found same named is some due =
    rw (← same, ← named) (place_several ops replica a e others is some ∙ ap place_in due)

-- and there has to be room for the most bytes
pub length_several : (ops : List Op) (replica : ℕ) (a : Asked) (e : Edit) (others : List Change) → a ≡ asked e others → 0 < length others
    → action_length ops replica a ≡ all_wait_at_most (length (advanced (clock_of ops) replica)) a.token a.changes
length_several ops replica a e [] is some = absurd (omega arith)
length_several ops replica a e (c ∷ cs) is some = rw is refl
