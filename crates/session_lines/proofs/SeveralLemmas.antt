-- A list of values that is read one by one.
use Rattle.std.proofs.Common.{◌≡◌, ℕ, suc, ◌+◌, ◌<◌, ◌≤◌, List, [], ◌∷◌, ◌++◌, length, get_or, drop, Option, Some, None, append_assoc, append-nil}
use Rattle.std.proofs.Common.{add-one, drop-cons, refl, sym, ap, ◌∙◌, arith, length-drop}
use Rattle.std.proofs.lemmas.List.{nil_from_length}
use Rattle.std.specs.Prelude.{option_map}
use Rattle.serde_json.specs.Data.{Data}
use Rattle.serde_json.specs.View.{view, items_view}
use Rattle.serde_json.specs.declared.value.Value.{Value}
use Rattle.session_lines.specs.Several.{each}

-- with some before it
abbrev pub with_front : {A : Type 0} → List A → Option (List A) → Option (List A)
with_front found rest = option_map (λ xs. found ++ xs) rest

split : (vs : List Value) (i : ℕ) (v : Value) → i < length vs → v ≡ get_or vs i v → drop i vs ≡ v ∷ drop (i + 1) vs
split vs i v within is = rw add-one (drop-cons vs i v within ∙ ap (λ x. x ∷ drop (suc i) vs) (sym is))

one_more : {A : Type 0} (found : List A) (x : A) (rest : Option (List A))
    → with_front found (option_map (λ xs. x ∷ xs) rest) ≡ with_front (found ++ x ∷ []) rest
one_more found x None = refl
one_more found x (Some xs) = ap (λ ys. Some ys) (sym (append_assoc found (x ∷ []) xs))

-- one more is read
pub each_more : {A : Type 0} (read : Data → Option A) (vs : List Value) (i : ℕ) (v : Value) (found : List A) (x : A) (whole : Option (List A))
    → i < length vs → v ≡ get_or vs i v → read (view v) ≡ Some x
    → with_front found (each read (items_view (drop i vs))) ≡ whole
    → with_front (found ++ x ∷ []) (each read (items_view (drop (i + 1) vs))) ≡ whole
each_more read vs i v found x whole within is reads so_far =
    let rest = rw (split vs i v within is, reads) at so_far in
    sym (one_more found x (each read (items_view (drop (i + 1) vs)))) ∙ rest

-- one isn't read
pub each_stops : {A : Type 0} (read : Data → Option A) (vs : List Value) (i : ℕ) (v : Value) (found : List A) (whole : Option (List A))
    → i < length vs → v ≡ get_or vs i v → read (view v) ≡ None
    → with_front found (each read (items_view (drop i vs))) ≡ whole → whole ≡ None
each_stops read vs i v found whole within is reads so_far = sym (rw (split vs i v within is, reads) at so_far)

-- all are read
pub each_end : {A : Type 0} (read : Data → Option A) (vs : List Value) (i : ℕ) (found : List A) (whole : Option (List A)) → length vs ≤ i
    → with_front found (each read (items_view (drop i vs))) ≡ whole → whole ≡ Some found
each_end read vs i found whole past so_far =
    sym (rw (nil_from_length (drop i vs) (omega (arith, length-drop i vs)), append-nil found) at so_far)

-- none is read yet
pub each_begin : {A : Type 0} (whole : Option (List A)) → with_front [] whole ≡ whole
each_begin None = refl
each_begin (Some xs) = refl
