-- Several changes that are read one by one.
use Rattle.std.proofs.Common.{◌≡◌, ℕ, suc, ◌+◌, ◌<◌, ◌≤◌, List, [], ◌∷◌, ◌++◌, length, get_or, drop, Result, Ok, Err, append_assoc, append-nil}
use Rattle.std.proofs.Common.{add-one, drop-cons, refl, sym, ap, ◌∙◌, arith, length-drop}
use Rattle.std.proofs.lemmas.List.{nil_from_length}
use Rattle.serde_json.specs.View.{view, items_view}
use Rattle.serde_json.specs.declared.value.Value.{Value}
use Rattle.op_model.specs.declared.edit.Change.{Change}
use Rattle.session_lines.specs.declared.refusal.Refusal.{Refusal}
use Rattle.session_lines.specs.Fields.{◌>>=◌}
use Rattle.placed_edits.specs.declared.spots.PlacedChange.{PlacedChange}
use Rattle.placed_edits.specs.declared.spots.Spots.{Spots}
use Rattle.session_lines.specs.Edits.{listed_change, listed_changes, Listed}

-- with some before it
abbrev pub behind : List Change → List Spots → Result Listed Refusal → Result Listed Refusal
behind found places rest = rest >>= λ cs. Ok (record { changes = found ++ cs.changes; spots = places ++ cs.spots })

split : (vs : List Value) (i : ℕ) (v : Value) → i < length vs → v ≡ get_or vs i v → drop i vs ≡ v ∷ drop (i + 1) vs
split vs i v within is = rw add-one (drop-cons vs i v within ∙ ap (λ x. x ∷ drop (suc i) vs) (sym is))

one_more : (found : List Change) (places : List Spots) (x : PlacedChange) (rest : Result Listed Refusal)
    → behind found places (rest >>= λ cs. Ok (record { changes = x.change ∷ cs.changes; spots = x.spots ∷ cs.spots }))
    ≡ behind (found ++ x.change ∷ []) (places ++ x.spots ∷ []) rest
one_more found places x (Err e) = refl
one_more found places x (Ok cs) =
    rw (append_assoc found (x.change ∷ []) cs.changes, append_assoc places (x.spots ∷ []) cs.spots) refl

-- one more is read
pub listed_more : (vs : List Value) (i : ℕ) (v : Value) (found : List Change) (places : List Spots) (x : PlacedChange) (whole : Result Listed Refusal)
    → i < length vs → v ≡ get_or vs i v → listed_change (view v) ≡ Ok x
    → behind found places (listed_changes (items_view (drop i vs))) ≡ whole
    → behind (found ++ x.change ∷ []) (places ++ x.spots ∷ []) (listed_changes (items_view (drop (i + 1) vs))) ≡ whole
listed_more vs i v found places x whole within is reads so_far =
    let rest = rw (split vs i v within is, reads) at so_far in
    sym (one_more found places x (listed_changes (items_view (drop (i + 1) vs)))) ∙ rest

-- one isn't read
pub listed_stops : (vs : List Value) (i : ℕ) (v : Value) (found : List Change) (places : List Spots) (e : Refusal) (whole : Result Listed Refusal)
    → i < length vs → v ≡ get_or vs i v → listed_change (view v) ≡ Err e
    → behind found places (listed_changes (items_view (drop i vs))) ≡ whole → whole ≡ Err e
listed_stops vs i v found places e whole within is reads so_far = sym (rw (split vs i v within is, reads) at so_far)

-- all are read
pub listed_end : (vs : List Value) (i : ℕ) (found : List Change) (places : List Spots) (whole : Result Listed Refusal) → length vs ≤ i
    → behind found places (listed_changes (items_view (drop i vs))) ≡ whole → whole ≡ Ok (record { changes = found; spots = places })
listed_end vs i found places whole past so_far =
    sym (rw (nil_from_length (drop i vs) (omega (arith, length-drop i vs)), append-nil found, append-nil places) at so_far)

-- none is read yet
pub listed_begin : (whole : Result Listed Refusal) → behind [] [] whole ≡ whole
listed_begin (Err e) = refl
listed_begin (Ok cs) = refl
