-- What one more operation makes of a document's content.
use Rattle.std.proofs.Common.{◌≡◌, ℕ, ◌≤◌, ◌==◌, Bool, true, false, ◌&&◌, ◌||◌, if◌then◌else◌, List, [], ◌∷◌, ◌++◌, map, Option, Some, None, refl}
use Rattle.std.proofs.Common.{◌∙◌, ap, append_assoc, arith}
use Rattle.std.specs.Prelude.{All}
use Rattle.std.specs.List.{list_any}
use Rattle.std.proofs.lemmas.List.Folds.{list_any-append}
use Rattle.std.proofs.lemmas.Bool.Decides.{nat_tests}
use Rattle.op_ids.specs.Id.{Id, is_below, is_same}
use Rattle.op_ids.proofs.IdLemmas.{same_from_test}
use Rattle.op_model.specs.declared.op.Op.{Op}
use Rattle.op_model.specs.declared.op.Body.{Body}
use Rattle.op_model.specs.declared.op.Body.TheVariants.{Insert, Remove, AddMark, RemoveMark}
use Rattle.op_model.specs.declared.character.Character.{Character}
use Rattle.op_model.specs.Characters.{character_of, character_in, characters}
use Rattle.op_model.specs.Walk.{walk, times}
use Rattle.op_model.specs.Text.{is_removal_of, is_removed}
use Rattle.op_model.specs.Causality.{named_by}
use Rattle.op_model.specs.Placing as placing
use Rattle.op_model.specs.Placing.{has_id, has_op_id, Fits, FitInTurn, IsOrderly}
use Rattle.model_laws.proofs.Ops.{lacks-characters, orderly_placed}
use Rattle.model_laws.proofs.Family.{orderly_once}
use Rattle.model_laws.proofs.Growth.{other_walk}
use Rattle.char_sequence.specs.Cells.{past_greater, behind, inserted, removed}
use Rattle.char_sequence.specs.Content.{cell_of, content_of}

-- cells are placed as their characters are
past_greater-map : (ops : List Op) (doc : ℕ) (c : Character) (ds : List Character)
    → map (cell_of ops doc) (placing.past_greater c ds) ≡ past_greater (cell_of ops doc c) (map (cell_of ops doc) ds)
past_greater-map ops doc c [] = refl
past_greater-map ops doc c (d ∷ ds) = go (past_greater-map ops doc c ds) (is_below c.id d.id)
  where
    go : map (cell_of ops doc) (placing.past_greater c ds) ≡ past_greater (cell_of ops doc c) (map (cell_of ops doc) ds) → (below : Bool)
        → map (cell_of ops doc) (if below then d ∷ placing.past_greater c ds else c ∷ d ∷ ds)
        ≡ (if below then cell_of ops doc d ∷ past_greater (cell_of ops doc c) (map (cell_of ops doc) ds)
        else cell_of ops doc c ∷ cell_of ops doc d ∷ map (cell_of ops doc) ds)
    go rest true = ap (λ r. cell_of ops doc d ∷ r) rest
    go rest false = refl

behind-map : (ops : List Op) (doc : ℕ) (origin : Id) (c : Character) (ds : List Character)
    → map (cell_of ops doc) (placing.behind origin c ds) ≡ behind origin (cell_of ops doc c) (map (cell_of ops doc) ds)
behind-map ops doc origin c [] = refl
behind-map ops doc origin c (d ∷ ds) = go (behind-map ops doc origin c ds) (is_same d.id origin)
  where
    go : map (cell_of ops doc) (placing.behind origin c ds) ≡ behind origin (cell_of ops doc c) (map (cell_of ops doc) ds) → (same : Bool)
        → map (cell_of ops doc) (if same then d ∷ placing.past_greater c ds else d ∷ placing.behind origin c ds)
        ≡ (if same then cell_of ops doc d ∷ past_greater (cell_of ops doc c) (map (cell_of ops doc) ds)
        else cell_of ops doc d ∷ behind origin (cell_of ops doc c) (map (cell_of ops doc) ds))
    go rest true = ap (λ r. cell_of ops doc d ∷ r) (past_greater-map ops doc c ds)
    go rest false = ap (λ r. cell_of ops doc d ∷ r) rest

inserted-map : (ops : List Op) (doc : ℕ) (origin : Option Id) (c : Character) (ds : List Character)
    → map (cell_of ops doc) (placing.behind_origin origin c ds) ≡ inserted origin (cell_of ops doc c) (map (cell_of ops doc) ds)
inserted-map ops doc None c ds = past_greater-map ops doc c ds
inserted-map ops doc (Some origin) c ds = behind-map ops doc origin c ds

-- an operation that removes nothing here leaves each character as it was
same_cells : (ops more : List Op) (doc : ℕ) (cs : List Character)
    → ((c : Character) → is_removed more doc c ≡ is_removed ops doc c) → map (cell_of more doc) cs ≡ map (cell_of ops doc) cs
same_cells ops more doc [] same = refl
same_cells ops more doc (c ∷ cs) same = rw (same c) (ap (λ r. cell_of ops doc c ∷ r) (same_cells ops more doc cs same))

-- one more operation removes what was removed, and what it removes itself
is_removed-push : (ops : List Op) (op : Op) (doc : ℕ) (c : Character)
    → is_removed (ops ++ op ∷ []) doc c ≡ (is_removed ops doc c || (op.doc == doc && is_removal_of c.id op.body))
is_removed-push ops op doc c =
    list_any-append (λ o. o.doc == doc && is_removal_of c.id o.body) ops (op ∷ []) ∙ grind (arith, nat_tests)

-- a body that removes a character names it
removal_named : (ops : List Op) (doc : ℕ) (id op_id : Id) (b : Body)
    → All (λ n. (has_id (characters ops doc) n ≡ true) × (is_below n op_id ≡ true)) (named_by b)
    → has_id (characters ops doc) id ≡ false → is_removal_of id b ≡ false
removal_named ops doc id op_id (Insert origin value) named lacks = refl
removal_named ops doc id op_id (AddMark mark start end) named lacks = refl
removal_named ops doc id op_id (RemoveMark key start end) named lacks = refl
removal_named ops doc id op_id (Remove target) named lacks =
    let known : has_id (characters ops doc) target ≡ true = (named 0 target (omega arith)).0 in
    let same : is_same target id ≡ true → has_id (characters ops doc) target ≡ has_id (characters ops doc) id =
    λ it. ap (has_id (characters ops doc)) (same_from_test target id it) in
    grind (arith, nat_tests)

-- what no operation is named by was removed by none
fresh_in_turn : (before : List Op) (ops : List Op) (doc : ℕ) (id : Id) → FitInTurn before doc ops → has_op_id (before ++ ops) doc id ≡ false
    → list_any (λ o. o.doc == doc && is_removal_of id o.body) ops ≡ false
fresh_in_turn before [] doc id fits lacks = refl
fresh_in_turn before (op ∷ ops) doc id fits lacks =
    let rest = fresh_in_turn (before ++ op ∷ []) ops doc id fits.1 (rw (append_assoc before (op ∷ []) ops) lacks) in
    let front : has_op_id before doc id ≡ false =
    (let parts = rw (list_any-append (λ o. o.doc == doc && is_same o.id id) before (op ∷ ops)) at lacks in grind (arith, nat_tests)) in
    let first : op.doc ≡ doc → is_removal_of id op.body ≡ false =
    λ same. removal_named before doc id op.id op.body (fits.0 same).names (lacks-characters before doc id front) in
    grind (arith, nat_tests)

pub fresh_unremoved : (ops : List Op) (doc : ℕ) (c : Character) → IsOrderly ops doc → has_op_id ops doc c.id ≡ false → is_removed ops doc c ≡ false
fresh_unremoved ops doc c orderly lacks = fresh_in_turn [] ops doc c.id orderly lacks

-- the content with one more insert
pub content_of-insert : (ops : List Op) (doc : ℕ) (op : Op) (origin : Option Id) (value : ℕ) → IsOrderly ops doc → Fits ops doc op
    → op.body ≡ Insert origin value
    → content_of (ops ++ op ∷ []) doc ≡ inserted origin (record { id = op.id; value = value; is_removed = false }) (content_of ops doc)
content_of-insert ops doc op origin value orderly fits is_insert =
    let c : Character = record { id = op.id; origin = origin; value = value } in
    let same_doc : (op.doc == doc) ≡ true = (let same = fits.same in grind (arith, nat_tests)) in
    let there : character_in doc op ≡ Some c = rw (same_doc, is_insert) refl in
    let keeps : (d : Character) → is_removed (ops ++ op ∷ []) doc d ≡ is_removed ops doc d =
    λ d. is_removed-push ops op doc d ∙ rw is_insert (grind (arith, nat_tests)) in
    let moved = ap (map (cell_of (ops ++ op ∷ []) doc)) (orderly_placed ops doc op orderly (λ _. fits)
    ∙ ap (λ m. placing.placed m (walk ops doc)) there) in
    let same = same_cells ops (ops ++ op ∷ []) doc (placing.behind_origin origin c (walk ops doc)) keeps in
    let new = fresh_unremoved ops doc c orderly fits.fresh in
    moved ∙ (same ∙ rw new at (inserted-map ops doc origin c (walk ops doc)))

-- the test of ids is the same both ways
is_same-comm : (a b : Id) → is_same a b ≡ is_same b a
unfolding is_same
is_same-comm a b = grind (arith, nat_tests)

-- a remove of a character that isn't among these leaves them as they were
untouched : (ops more : List Op) (doc : ℕ) (target : Id) (cs : List Character) → times target cs ≡ 0
    → ((c : Character) → is_removed more doc c ≡ (is_removed ops doc c || is_same target c.id))
    → map (cell_of more doc) cs ≡ map (cell_of ops doc) cs
untouched ops more doc target [] none same = refl
untouched ops more doc target (c ∷ cs) none same =
    let flip = is_same-comm target c.id in
    let other : is_removed more doc c ≡ is_removed ops doc c = (let it = same c in grind (arith, nat_tests)) in
    let rest : times target cs ≡ 0 = grind (arith, nat_tests) in
    rw other (ap (λ r. cell_of ops doc c ∷ r) (untouched ops more doc target cs rest same))

-- a remove of one character leaves the others as they were
removed-map : (ops more : List Op) (doc : ℕ) (target : Id) (cs : List Character) → times target cs ≤ 1
    → ((c : Character) → is_removed more doc c ≡ (is_removed ops doc c || is_same target c.id))
    → map (cell_of more doc) cs ≡ removed target (map (cell_of ops doc) cs)
removed-map ops more doc target [] once same = refl
removed-map ops more doc target (c ∷ cs) once same =
    go (is_same c.id target) refl (λ few. removed-map ops more doc target cs few same)
  where
    go : (hit : Bool) → is_same c.id target ≡ hit → (times target cs ≤ 1 → map (cell_of more doc) cs ≡ removed target (map (cell_of ops doc) cs))
        → map (cell_of more doc) (c ∷ cs)
        ≡ (if hit then record { id = c.id; value = c.value; is_removed = true } ∷ map (cell_of ops doc) cs
        else cell_of ops doc c ∷ removed target (map (cell_of ops doc) cs))
    go true it later =
        let flip = is_same-comm target c.id in
        let gone : is_removed more doc c ≡ true = (let rule = same c in grind (arith, nat_tests)) in
        let none : times target cs ≡ 0 = grind (arith, nat_tests) in
        rw gone (ap (λ r. record { id = c.id; value = c.value; is_removed = true } ∷ r) (untouched ops more doc target cs none same))
    go false it later =
        let flip = is_same-comm target c.id in
        let kept : is_removed more doc c ≡ is_removed ops doc c = (let rule = same c in grind (arith, nat_tests)) in
        let few : times target cs ≤ 1 = grind (arith, nat_tests) in
        rw kept (ap (λ r. cell_of ops doc c ∷ r) (later few))

-- the content with one more remove
pub content_of-remove : (ops : List Op) (doc : ℕ) (op : Op) (target : Id) → IsOrderly ops doc → Fits ops doc op
    → op.body ≡ Remove target → content_of (ops ++ op ∷ []) doc ≡ removed target (content_of ops doc)
content_of-remove ops doc op target orderly fits is_remove =
    let same_doc : (op.doc == doc) ≡ true = (let same = fits.same in grind (arith, nat_tests)) in
    let there : character_in doc op ≡ None = rw (same_doc, is_remove) refl in
    let moved = ap (map (cell_of (ops ++ op ∷ []) doc)) (orderly_placed ops doc op orderly (λ _. fits)
    ∙ ap (λ m. placing.placed m (walk ops doc)) there) in
    moved ∙ removed-map ops (ops ++ op ∷ []) doc target (walk ops doc) (orderly_once ops doc target orderly)
    (λ c. is_removed-push ops op doc c ∙ rw (is_remove, same_doc) (grind (arith, nat_tests)))

-- the body of a mark operation
abbrev pub is_marking : Body → Bool
is_marking (Insert origin value) = false
is_marking (Remove target) = false
is_marking (AddMark mark start end) = true
is_marking (RemoveMark key start end) = true

makes_none : (id : Id) (b : Body) → is_marking b ≡ true → character_of id b ≡ None
makes_none id (Insert origin value) marks = cc
makes_none id (Remove target) marks = cc
makes_none id (AddMark mark start end) marks = refl
makes_none id (RemoveMark key start end) marks = refl

removes_none : (id : Id) (b : Body) → is_marking b ≡ true → is_removal_of id b ≡ false
removes_none id (Insert origin value) marks = cc
removes_none id (Remove target) marks = cc
removes_none id (AddMark mark start end) marks = refl
removes_none id (RemoveMark key start end) marks = refl

-- a mark operation leaves the characters as they are
pub content_of-marking : (ops : List Op) (doc : ℕ) (op : Op) → IsOrderly ops doc → Fits ops doc op
    → is_marking op.body ≡ true → content_of (ops ++ op ∷ []) doc ≡ content_of ops doc
content_of-marking ops doc op orderly fits marks =
    let same_doc : (op.doc == doc) ≡ true = (let same = fits.same in grind (arith, nat_tests)) in
    let there : character_in doc op ≡ None = rw same_doc (makes_none op.id op.body marks) in
    let moved = ap (map (cell_of (ops ++ op ∷ []) doc)) (orderly_placed ops doc op orderly (λ _. fits)
    ∙ ap (λ m. placing.placed m (walk ops doc)) there) in
    moved ∙ same_cells ops (ops ++ op ∷ []) doc (walk ops doc)
    (λ c. is_removed-push ops op doc c ∙ (let none = removes_none c.id op.body marks in grind (arith, nat_tests)))

-- an operation of another document leaves the characters as they are
pub content_of-other : (ops : List Op) (doc : ℕ) (op : Op) → (op.doc == doc) ≡ false
    → content_of (ops ++ op ∷ []) doc ≡ content_of ops doc
content_of-other ops doc op other =
    ap (map (cell_of (ops ++ op ∷ []) doc)) (other_walk ops doc op other)
    ∙ same_cells ops (ops ++ op ∷ []) doc (walk ops doc)
    (λ c. is_removed-push ops op doc c ∙ rw other (grind (arith, nat_tests)))
