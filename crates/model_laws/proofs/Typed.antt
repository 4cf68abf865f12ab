-- What the operations of an edit do to the text.
use Rattle.std.proofs.Common.{Bool, ◌≡◌, ℕ, ◌+◌, ◌≤◌, ◌<◌, true, false, not, ◌||◌, ◌&&◌, inl, inr, List, [], ◌∷◌, ◌++◌, length, take, drop, map}
use Rattle.std.proofs.Common.{filter, Option, Some, None, arith, ap, refl, ◌∙◌, sym, append_assoc, append-nil}
use Rattle.std.specs.Prelude.{◌==◌}
use Rattle.std.specs.List.{list_any}
use Rattle.std.proofs.lemmas.Bool.{cases_Bool, or_cases, or_left, or_right, eqb-true, eq-eqb, or_from, and_right, false≢true}
use Rattle.std.proofs.lemmas.List.{map-append, take-map, drop-map}
use Rattle.std.proofs.lemmas.List.Folds.{list_any-append}
use Rattle.std.proofs.lemmas.List.Elements.{filter_agree, filter-append}
use Rattle.op_ids.specs.Id.{Id, is_below, is_same}
use Rattle.op_ids.specs.Clock.{advanced}
use Rattle.op_model.specs.declared.op.Op.{Op}
use Rattle.op_model.specs.declared.op.Body.{Body}
use Rattle.op_model.specs.declared.op.Body.TheVariants as body
use Rattle.op_model.specs.declared.edit.Change.TheVariants as change
use Rattle.op_model.specs.declared.character.Character.{Character}
use Rattle.op_model.specs.Characters.{character_of, character_in, characters}
use Rattle.op_model.specs.Walk.{walk, times}
use Rattle.op_model.specs.Text.{is_removed, is_removal_of, visible, text}
use Rattle.op_model.specs.Causality.{clock_of, FollowInTurn, IsCausallyClosed}
use Rattle.op_model.specs.Made.{id_before, behind_visible, tombstones_at, ends_after, last_or, origin_of, greatest_counter, numbered, insert_bodies}
use Rattle.op_model.specs.Made.{bodies_of}
use Rattle.op_model.specs.Placing.{has_id, behind_origin, placed, Fits, FitInTurn, IsOrderly}
use Rattle.model_laws.proofs.Ids.{same_equal, below_counters, not_below_greater}
use Rattle.model_laws.proofs.Count.{times-append}
use Rattle.model_laws.proofs.Ops.{AreNamed, orderly_placed}
use Rattle.model_laws.proofs.Closed.{closed_orderly, fits_in_turn}
use Rattle.model_laws.proofs.Family.{orderly_once}
use Rattle.model_laws.proofs.Growth.{orderly_push, removed-push, or-false}
use Rattle.model_laws.proofs.Ready.{found_insert, counter_within, greatest-push}
use Rattle.model_laws.proofs.Makes.{AreAmong, walk_known}
use Rattle.model_laws.proofs.Cursor.{last_or-append, HasNoAbove, HasNoAbove-rest, placed_behind, IsFront, front_of, IsKept, kept_of, last_present}

-- the values of the visible ones of these characters
abbrev pub shown : List Op → ℕ → List Character → List ℕ
shown ops doc cs = map (λ c. c.value) (filter (λ c. not (is_removed ops doc c)) cs)

shown-append : (ops : List Op) (doc : ℕ) (cs ds : List Character)
    → shown ops doc (cs ++ ds) ≡ shown ops doc cs ++ shown ops doc ds
shown-append ops doc cs ds =
    ap (λ xs. map (λ c. c.value) xs) (filter-append (λ c. not (is_removed ops doc c)) cs ds)
    ∙ map-append (λ c. c.value) (filter (λ c. not (is_removed ops doc c)) cs) (filter (λ c. not (is_removed ops doc c)) ds)

pub shown_same : (a b : List Op) (doc : ℕ) → ((c : Character) → is_removed a doc c ≡ is_removed b doc c)
    → (cs : List Character) → shown a doc cs ≡ shown b doc cs
shown_same a b doc h cs =
    ap (λ xs. map (λ c. c.value) xs) (filter_agree (λ c. not (is_removed a doc c)) (λ c. not (is_removed b doc c)) (λ c. ap not (h c)) cs)

-- the place of an insert: two parts of the walk, the first of which ends with the origin
pub record IsCursor (ops : List Op) (doc at : ℕ) (front rest : List Character) : Type 0 where
  pub whole : walk ops doc ≡ front ++ rest
  pub last : last_or None front ≡ origin_of ops doc at
  pub seen_before : filter (λ c. not (is_removed ops doc c)) front ≡ take at (visible ops doc)
  pub seen_behind : filter (λ c. not (is_removed ops doc c)) rest ≡ drop at (visible ops doc)
  pub ended : (id : Id) → ends_after ops doc id ≡ true → has_id (tombstones_at ops doc at) id ≡ true
      → has_id front id ≡ true
  pub shown_last : (id : Id) → id_before (visible ops doc) at ≡ Some id → has_id front id ≡ true

filtered_present : (keep : Id → Bool) (cs : List Character) (id : Id) → has_id cs id ≡ true → keep id ≡ true
    → has_id (filter (λ c. keep c.id) cs) id ≡ true
filtered_present keep [] id h k = h
filtered_present keep (c ∷ cs) id h k =
    elim (or_cases (is_same c.id id) (has_id cs id) h) [
      | inl e ↦ let f : keep c.id ≡ true = ap keep (same_equal c.id id e) ∙ k in rw f (or_left (is_same c.id id) (has_id (filter (λ x. keep x.id) cs) id) e)
      | inr e ↦ elim (cases_Bool (keep c.id)) [
        | inl f ↦ rw f (or_right (is_same c.id id) (has_id (filter (λ x. keep x.id) cs) id) (filtered_present keep cs id e k))
        | inr f ↦ rw f (filtered_present keep cs id e k)
      ]
    ]

cursor_from : (ops : List Op) (doc at : ℕ) (p t r : List Character) → IsFront (is_removed ops doc) at (walk ops doc) p
    → IsKept (is_removed ops doc) (λ c. ends_after ops doc c.id) (behind_visible (is_removed ops doc) at (walk ops doc)) t r
    → IsCursor ops doc at (p ++ t) r
cursor_from ops doc at p t r f k = record {
  whole = f.whole ∙ ap (λ xs. p ++ xs) k.whole ∙ sym (append_assoc p t r);
  last =
      last_or-append None p t
      ∙ k.last (last_or None p)
      ∙ ap (λ b. last_or b (filter (λ c. ends_after ops doc c.id) (tombstones_at ops doc at))) f.last;
  seen_before = filter-append (λ c. not (is_removed ops doc c)) p t ∙ ap (λ xs. filter (λ c. not (is_removed ops doc c)) p ++ xs) k.shown ∙ append-nil (filter (λ c. not (is_removed ops doc c)) p) ∙ f.shown;
  seen_behind = sym (ap (λ xs. xs ++ filter (λ c. not (is_removed ops doc c)) r) k.shown) ∙ sym (filter-append (λ c. not (is_removed ops doc c)) t r) ∙ ap (λ xs. filter (λ c. not (is_removed ops doc c)) xs) (sym k.whole) ∙ f.left;
  ended = λ id e h. list_any-append (λ c. is_same c.id id) p t ∙ or_right (has_id p id) (has_id t id) (k.has id (filtered_present (λ i. ends_after ops doc i) (tombstones_at ops doc at) id h e));
  shown_last = λ id e. list_any-append (λ c. is_same c.id id) p t ∙ or_left (has_id p id) (has_id t id) (last_present p id (f.last ∙ e));
}

pub cursor_of : (ops : List Op) (doc at : ℕ) → at ≤ length (visible ops doc)
    → (front : List Character) × (rest : List Character) × IsCursor ops doc at front rest
cursor_of ops doc at l =
    let (p, f) = front_of (is_removed ops doc) at (walk ops doc) l in
    let (t, r, k) = kept_of (is_removed ops doc) (λ c. ends_after ops doc c.id) (behind_visible (is_removed ops doc) at (walk ops doc)) in
    (p ++ t, r, cursor_from ops doc at p t r f k)

-- an id with a counter above all is above each character
nothing_above : (ops : List Op) (doc : ℕ) (id : Id) → greatest_counter ops < id.counter → (cs : List Character)
    → AreAmong (characters ops doc) cs → HasNoAbove id cs
nothing_above ops doc id l [] h = tt
nothing_above ops doc id l (c ∷ cs) h =
    (not_below_greater id c.id (omega (arith, counter_within ops doc c.id (found_insert ops doc c.id h.0))), nothing_above ops doc id l cs h.1)

removal_names : (cs : List Character) (opid id : Id) (b : Body) → AreNamed cs opid b → is_removal_of id b ≡ true
    → is_below id opid ≡ true
removal_names cs opid id (body.Remove target) h e = rw (same_equal target id e) at ((h 0 target (omega arith)).1)
removal_names cs opid id (body.Insert origin value) h e = absurd (false≢true e)
removal_names cs opid id (body.AddMark mark start end) h e = absurd (false≢true e)
removal_names cs opid id (body.RemoveMark key start end) h e = absurd (false≢true e)

not_removed_in : (before ops : List Op) (doc : ℕ) (id : Id) → FitInTurn before doc ops
    → greatest_counter ops < id.counter → list_any (λ op. op.doc == doc && is_removal_of id op.body) ops ≡ false
not_removed_in before [] doc id h l = refl
not_removed_in before (op ∷ ops) doc id h l =
    or_from (op.doc == doc && is_removal_of id op.body) (list_any (λ o. o.doc == doc && is_removal_of id o.body) ops) first
    (not_removed_in (before ++ op ∷ []) ops doc id h.1 (omega arith))
  where
    first : (op.doc == doc && is_removal_of id op.body) ≡ false
    first = elim (cases_Bool (op.doc == doc)) [
      | inl d ↦ elim (cases_Bool (is_removal_of id op.body)) [
        | inl e ↦ absurd (omega (arith, below_counters id op.id (removal_names (characters before doc) op.id id op.body (h.0 (eqb-true op.doc doc d)).names e)))
        | inr e ↦ rw (d, e) refl
      ]
      | inr d ↦ rw d refl
    ]

pub not_removed : (ops : List Op) (doc : ℕ) (c : Character) → IsOrderly ops doc → greatest_counter ops < c.id.counter
    → is_removed ops doc c ≡ false
not_removed ops doc c h l = not_removed_in [] ops doc c.id h l

-- an operation that removes nothing leaves the tombstones as they are
pub removed_kept : (ops : List Op) (doc : ℕ) (op : Op) → ((id : Id) → is_removal_of id op.body ≡ false)
    → (c : Character) → is_removed (ops ++ op ∷ []) doc c ≡ is_removed ops doc c
removed_kept ops doc op h c =
    removed-push ops doc op c
    ∙ ap (λ r. is_removed ops doc c || r) (and_right (op.doc == doc) (is_removal_of c.id op.body) (h c.id))
    ∙ or-false (is_removed ops doc c)

pub once_in_front : (ops : List Op) (doc : ℕ) (front rest : List Character) → IsOrderly ops doc
    → walk ops doc ≡ front ++ rest → (id : Id) → times id front ≤ 1
once_in_front ops doc front rest h w id =
    let t : times id (front ++ rest) ≤ 1 = rw (ap (λ xs. times id xs) w) at (orderly_once ops doc id h) in
    omega (arith, times-append id front rest)

pub character_here : (doc : ℕ) (op : Op) → op.doc ≡ doc → character_in doc op ≡ character_of op.id op.body
character_here doc op e = rw (eq-eqb op.doc doc e) refl

-- a new character stands right behind its origin, where this ends the front
pub insert_step : (ops : List Op) (doc : ℕ) (op : Op) (c : Character) (front rest : List Character) → IsOrderly ops doc
    → (op.doc ≡ doc → Fits ops doc op) → character_in doc op ≡ Some c → greatest_counter ops < c.id.counter
    → walk ops doc ≡ front ++ rest → last_or None front ≡ c.origin
    → walk (ops ++ op ∷ []) doc ≡ (front ++ c ∷ []) ++ rest
insert_step ops doc op c front rest h f e l w o =
    orderly_placed ops doc op h f
    ∙ ap (λ m. placed m (walk ops doc)) e
    ∙ ap (λ xs. behind_origin c.origin c xs) w
    ∙ ap (λ p. behind_origin p c (front ++ rest)) (sym o)
    ∙ placed_behind c front rest (once_in_front ops doc front rest h w) (HasNoAbove-rest c.id front rest (rw (ap (λ xs. HasNoAbove c.id xs) w) at (nothing_above ops doc c.id l (walk ops doc) (walk_known ops doc))))
    ∙ sym (append_assoc front (c ∷ []) rest)

shown_new : (ops : List Op) (doc : ℕ) (c : Character) → is_removed ops doc c ≡ false
    → shown ops doc (c ∷ []) ≡ c.value ∷ []
shown_new ops doc c e = rw e refl

typed : (vs : List ℕ) (ops : List Op) (replica doc : ℕ) (token : Option ℕ) (counter : ℕ) (clock : List (ℕ × ℕ)) (origin : Option Id) (front rest : List Character)
    → IsOrderly ops doc
    → FitInTurn ops doc (numbered replica doc token counter clock (insert_bodies replica counter origin vs))
    → greatest_counter ops < counter → walk ops doc ≡ front ++ rest → last_or None front ≡ origin
    → text (ops ++ numbered replica doc token counter clock (insert_bodies replica counter origin vs)) doc ≡ shown ops doc front ++ (vs ++ shown ops doc rest)
typed [] ops replica doc token counter clock origin front rest h f l w o =
    ap (λ xs. text xs doc) (append-nil ops) ∙ ap (λ xs. shown ops doc xs) w ∙ shown-append ops doc front rest
typed (v ∷ vs) ops replica doc token counter clock origin front rest h f l w o =
    let id : Id = record { counter = counter; replica = replica } in
    let c : Character = record { id = id; origin = origin; value = v } in
    let op : Op = record { id = id; doc = doc; token = token; deps = clock; body = body.Insert origin v } in
    let more : List Op = numbered replica doc token (counter + 1) (advanced clock replica) (insert_bodies replica (counter + 1) (Some id) vs) in
    let same = removed_kept ops doc op (λ i. refl) in
    ap (λ xs. text xs doc) (sym (append_assoc ops (op ∷ []) more))
    ∙ typed vs (ops ++ op ∷ []) replica doc token (counter + 1) (advanced clock replica) (Some id) (front ++ c ∷ []) rest
    (orderly_push ops doc op h f.0) f.1 (rw (greatest-push ops op) (omega arith))
    (insert_step ops doc op c front rest h f.0 (character_here doc op refl) l w o) (last_or-append None front (c ∷ []))
    ∙ ap (λ xs. xs ++ (vs ++ shown (ops ++ op ∷ []) doc rest)) (shown-append (ops ++ op ∷ []) doc front (c ∷ []) ∙ ap (λ xs. shown (ops ++ op ∷ []) doc front ++ xs) (shown_new (ops ++ op ∷ []) doc c (same c ∙ not_removed ops doc c h l)))
    ∙ append_assoc (shown (ops ++ op ∷ []) doc front) (v ∷ []) (vs ++ shown (ops ++ op ∷ []) doc rest)
    ∙ ap (λ xs. xs ++ (v ∷ (vs ++ shown (ops ++ op ∷ []) doc rest))) (shown_same (ops ++ op ∷ []) ops doc same front)
    ∙ ap (λ xs. shown ops doc front ++ (v ∷ (vs ++ xs))) (shown_same (ops ++ op ∷ []) ops doc same rest)

-- the walk with the new characters, in one piece behind their origin
pub walk_typed : (vs : List ℕ) (ops : List Op) (replica doc : ℕ) (token : Option ℕ) (counter : ℕ) (clock : List (ℕ × ℕ)) (origin : Option Id)
    (front rest : List Character) → IsOrderly ops doc
    → FitInTurn ops doc (numbered replica doc token counter clock (insert_bodies replica counter origin vs))
    → greatest_counter ops < counter → walk ops doc ≡ front ++ rest → last_or None front ≡ origin
    → (new : List Character) × (walk (ops ++ numbered replica doc token counter clock (insert_bodies replica counter origin vs)) doc ≡ front ++ (new ++ rest))
walk_typed [] ops replica doc token counter clock origin front rest h f l w o = ([], ap (λ xs. walk xs doc) (append-nil ops) ∙ w)
walk_typed (v ∷ vs) ops replica doc token counter clock origin front rest h f l w o =
    let id : Id = record { counter = counter; replica = replica } in
    let c : Character = record { id = id; origin = origin; value = v } in
    let op : Op = record { id = id; doc = doc; token = token; deps = clock; body = body.Insert origin v } in
    let more : List Op = numbered replica doc token (counter + 1) (advanced clock replica) (insert_bodies replica (counter + 1) (Some id) vs) in
    let (new, e) = walk_typed vs (ops ++ op ∷ []) replica doc token (counter + 1) (advanced clock replica) (Some id) (front ++ c ∷ []) rest
    (orderly_push ops doc op h f.0) f.1 (rw (greatest-push ops op) (omega arith))
    (insert_step ops doc op c front rest h f.0 (character_here doc op refl) l w o) (last_or-append None front (c ∷ [])) in
    (c ∷ new, ap (λ xs. walk xs doc) (sym (append_assoc ops (op ∷ []) more)) ∙ e ∙ append_assoc front (c ∷ []) (new ++ rest))

-- an insert at an index of the text puts its characters there
pub text_inserted : (ops : List Op) (replica doc : ℕ) (token : Option ℕ) (at : ℕ) (added : List ℕ) → IsCausallyClosed ops
    → at ≤ length (visible ops doc)
    → FollowInTurn ops (numbered replica doc token (greatest_counter ops + 1) (clock_of ops) (bodies_of ops replica doc (change.Insert at added)))
    → text (ops ++ numbered replica doc token (greatest_counter ops + 1) (clock_of ops) (bodies_of ops replica doc (change.Insert at added))) doc ≡ take at (text ops doc) ++ (added ++ drop at (text ops doc))
text_inserted ops replica doc token at added h l f =
    let (front, rest, k) = cursor_of ops doc at l in
    typed added ops replica doc token (greatest_counter ops + 1) (clock_of ops) (origin_of ops doc at) front rest (closed_orderly ops doc h) (fits_in_turn ops _ doc f) (omega arith) k.whole k.last
    ∙ ap (λ xs. xs ++ (added ++ shown ops doc rest)) (ap (λ xs. map (λ c. c.value) xs) k.seen_before ∙ sym (take-map (λ c. c.value) at (visible ops doc)))
    ∙ ap (λ xs. take at (text ops doc) ++ (added ++ xs)) (ap (λ xs. map (λ c. c.value) xs) k.seen_behind ∙ sym (drop-map (λ c. c.value) at (visible ops doc)))
