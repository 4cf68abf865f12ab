-- Where a place that lasts stands after an insert at it.
use Rattle.std.proofs.Common.{◌≡◌, ℕ, zero, suc, ◌+◌, ◌≤◌, ◌<◌, false, not, inl, inr, List, [], ◌∷◌, ◌++◌, length, take, drop}
use Rattle.std.proofs.Common.{filter, Option, Some, None, arith, ap, refl, ◌∙◌, sym, subst, append_assoc, append-nil}
use Rattle.std.proofs.lemmas.Bool.{cases_lt}
use Rattle.std.proofs.lemmas.List.{length-append, length-drop, length-take-le}
use Rattle.std.proofs.lemmas.List.Elements.{filter_agree, filter-append}
use Rattle.op_ids.specs.Id.{Id}
use Rattle.op_ids.specs.Clock.{advanced}
use Rattle.op_model.specs.declared.op.Op.{Op}
use Rattle.op_model.specs.declared.op.Body.TheVariants as body
use Rattle.op_model.specs.declared.edit.Change.{Change}
use Rattle.op_model.specs.declared.edit.Change.TheVariants as change
use Rattle.op_model.specs.declared.edit.Edit.{Edit}
use Rattle.op_model.specs.declared.lasting.Neighbour.TheVariants.{Previous, Next}
use Rattle.op_model.specs.declared.character.Character.{Character}
use Rattle.op_model.specs.Walk.{walk}
use Rattle.op_model.specs.Text.{is_removed, visible}
use Rattle.op_model.specs.Causality.{clock_of}
use Rattle.op_model.specs.Lasting.{at_of, beside_next, beside_previous, place_of}
use Rattle.op_model.specs.Made.{bodies_of, greatest_counter, id_at, id_before, insert_bodies, last_or, made, numbered, origin_of}
use Rattle.op_model.specs.Placing.{FitInTurn, IsOrderly}
use Rattle.model_laws.proofs.Cursor.{last_or-append}
use Rattle.model_laws.proofs.Growth.{fit_both, orderly_push}
use Rattle.model_laws.proofs.LastingPlaces.{at_after, at_before, at_end, id_end, id_there}
use Rattle.model_laws.proofs.Makes.{made_fit_in_turn}
use Rattle.model_laws.proofs.Ready.{greatest-push}
use Rattle.model_laws.proofs.Typed.{character_here, cursor_of, insert_step, not_removed, removed_kept}

-- the visible ones of these characters
abbrev seen : List Op → ℕ → List Character → List Character
seen ops doc cs = filter (λ c. not (is_removed ops doc c)) cs

seen_same : (a b : List Op) (doc : ℕ) → ((c : Character) → is_removed a doc c ≡ is_removed b doc c) → (cs : List Character) → seen a doc cs ≡ seen b doc cs
seen_same a b doc h cs = filter_agree (λ c. not (is_removed a doc c)) (λ c. not (is_removed b doc c)) (λ c. ap not (h c)) cs

seen_new : (ops : List Op) (doc : ℕ) (c : Character) → is_removed ops doc c ≡ false → seen ops doc (c ∷ []) ≡ c ∷ []
seen_new ops doc c e = rw e refl

-- the characters of an insert are visible, in one piece
visible_typed : (vs : List ℕ) (ops : List Op) (replica doc : ℕ) (token : Option ℕ) (counter : ℕ) (clock : List (ℕ × ℕ)) (origin : Option Id)
    (front rest : List Character) → IsOrderly ops doc
    → FitInTurn ops doc (numbered replica doc token counter clock (insert_bodies replica counter origin vs))
    → greatest_counter ops < counter → walk ops doc ≡ front ++ rest → last_or None front ≡ origin
    → (new : List Character) × (length new ≡ length vs)
    × (visible (ops ++ numbered replica doc token counter clock (insert_bodies replica counter origin vs)) doc ≡ seen ops doc front ++ (new ++ seen ops doc rest))
visible_typed [] ops replica doc token counter clock origin front rest h f l w o =
    ([], refl, ap (λ xs. visible xs doc) (append-nil ops) ∙ (ap (seen ops doc) w ∙ filter-append (λ c. not (is_removed ops doc c)) front rest))
visible_typed (v ∷ vs) ops replica doc token counter clock origin front rest h f l w o =
    let id : Id = record { counter = counter; replica = replica } in
    let c : Character = record { id = id; origin = origin; value = v } in
    let op : Op = record { id = id; doc = doc; token = token; deps = clock; body = body.Insert origin v } in
    let more : List Op = numbered replica doc token (counter + 1) (advanced clock replica) (insert_bodies replica (counter + 1) (Some id) vs) in
    let now : List Op = ops ++ op ∷ [] in
    let same = removed_kept ops doc op (λ i. refl) in
    let (new, many, e) = visible_typed vs now replica doc token (counter + 1) (advanced clock replica) (Some id) (front ++ c ∷ []) rest
    (orderly_push ops doc op h f.0) f.1 (rw (greatest-push ops op) (omega arith))
    (insert_step ops doc op c front rest h f.0 (character_here doc op refl) l w o) (last_or-append None front (c ∷ [])) in
    let first : seen now doc (front ++ c ∷ []) ≡ seen ops doc front ++ c ∷ [] =
    filter-append (λ d. not (is_removed now doc d)) front (c ∷ [])
    ∙ (ap (λ xs. xs ++ seen now doc (c ∷ [])) (seen_same now ops doc same front)
    ∙ ap (λ xs. seen ops doc front ++ xs) (seen_new now doc c (same c ∙ not_removed ops doc c h l))) in (
      c ∷ new,
      ap suc many,
      ap (λ xs. visible xs doc) (sym (append_assoc ops (op ∷ []) more))
          ∙ (e ∙ (ap (λ xs. xs ++ (new ++ seen now doc rest)) first
          ∙ (append_assoc (seen ops doc front) (c ∷ []) (new ++ seen now doc rest)
          ∙ ap (λ xs. seen ops doc front ++ (c ∷ (new ++ xs))) (seen_same now ops doc same rest)))),
    )

-- what an index names among characters with some put in before it, or from it on
id_front : (front rest : List Character) (i : ℕ) → i < length front → id_at (front ++ rest) i ≡ id_at front i
id_front [] rest i less = absurd (omega arith)
id_front (c ∷ front) rest zero less = refl
id_front (c ∷ front) rest (suc i) less = id_front front rest i (omega arith)

id_behind : (front rest : List Character) (i : ℕ) → id_at (front ++ rest) (length front + i) ≡ id_at rest i
id_behind [] rest i = let none : 0 + i ≡ i = omega arith in ap (id_at rest) none
id_behind (c ∷ front) rest i = let up : suc (length front) + i ≡ suc (length front + i) = omega arith in rw up (id_behind front rest i)

id_taken : (cs : List Character) (n i : ℕ) → i < n → id_at (take n cs) i ≡ id_at cs i
id_taken [] zero i less = absurd (omega arith)
id_taken [] (suc n) i less = refl
id_taken (c ∷ cs) zero i less = absurd (omega arith)
id_taken (c ∷ cs) (suc n) zero less = refl
id_taken (c ∷ cs) (suc n) (suc i) less = id_taken cs n i (omega arith)

id_dropped : (cs : List Character) (n : ℕ) → id_at (drop n cs) 0 ≡ id_at cs n
id_dropped [] zero = refl
id_dropped [] (suc n) = refl
id_dropped (c ∷ cs) zero = refl
id_dropped (c ∷ cs) (suc n) = id_dropped cs n

-- where an insert puts its characters at an index of the visible ones
module _ (ops : List Op) (replica : ℕ) (edit : Edit) (at : ℕ) (added : List ℕ) (orderly : IsOrderly ops edit.doc)
    (is : edit.change ≡ change.Insert at added) (within : at ≤ length (visible ops edit.doc)) where
  -- the operations stay orderly
  orderly_after : IsOrderly (ops ++ made ops replica edit) edit.doc
  orderly_after = fit_both [] ops (made ops replica edit) edit.doc orderly (made_fit_in_turn ops replica edit)

  inserted : (new : List Character) × (length new ≡ length added)
      × (visible (ops ++ made ops replica edit) edit.doc ≡ take at (visible ops edit.doc) ++ (new ++ drop at (visible ops edit.doc)))
  inserted =
      let doc = edit.doc in
      let (front, rest, k) = cursor_of ops doc at within in
      let bodies = insert_bodies replica (greatest_counter ops + 1) (origin_of ops doc at) added in
      let its : List Op = numbered replica doc edit.token (greatest_counter ops + 1) (clock_of ops) bodies in
      let same : made ops replica edit ≡ its = ap (λ (x : Change). numbered replica doc edit.token (greatest_counter ops + 1) (clock_of ops) (bodies_of ops replica doc x)) is in
      let fit : FitInTurn ops doc its = subst (λ (xs : List Op). FitInTurn ops doc xs) same (made_fit_in_turn ops replica edit) in
      let (new, many, e) = visible_typed added ops replica doc edit.token (greatest_counter ops + 1) (clock_of ops) (origin_of ops doc at) front rest
      orderly fit (omega arith) k.whole k.last in (
        new,
        many,
        ap (λ (xs : List Op). visible (ops ++ xs) doc) same
            ∙ (e ∙ (ap (λ xs. xs ++ (new ++ seen ops doc rest)) k.seen_before ∙ ap (λ xs. take at (visible ops doc) ++ (new ++ xs)) k.seen_behind)),
      )

  -- a place that stays with the character before it stays where it is
  pub stays_before : at_of (ops ++ made ops replica edit) edit.doc (place_of ops edit.doc at Previous) ≡ Some at
  stays_before = by_index at refl
    where
      by_index : (n : ℕ) → at ≡ n → at_of (ops ++ made ops replica edit) edit.doc (beside_previous (id_before (visible ops edit.doc) n)) ≡ Some n
      by_index zero none = refl
      by_index (suc i) some =
          let (id, found) = id_there (visible ops edit.doc) i (omega arith) in
          let (new, many, put) = inserted in
          let long = length-take-le at (visible ops edit.doc) within in
          let still : id_at (visible (ops ++ made ops replica edit) edit.doc) i ≡ Some id =
          ap (λ xs. id_at xs i) put
          ∙ (id_front (take at (visible ops edit.doc)) (new ++ drop at (visible ops edit.doc)) i (omega arith)
          ∙ (id_taken (visible ops edit.doc) at i (omega arith) ∙ found)) in
          let up : i + 1 ≡ suc i = omega arith in
          ap (λ o. at_of (ops ++ made ops replica edit) edit.doc (beside_previous o)) found
          ∙ (at_after (ops ++ made ops replica edit) edit.doc i id orderly_after still ∙ ap Some up)

  -- one that stays with the character after it stands after what was inserted
  pub stays_behind : at_of (ops ++ made ops replica edit) edit.doc (place_of ops edit.doc at Next) ≡ Some (at + length added)
  stays_behind =
      let (new, many, put) = inserted in
      let long = length-take-le at (visible ops edit.doc) within in
      let rest = drop at (visible ops edit.doc) in
      elim (cases_lt at (length (visible ops edit.doc))) [
        | inl less ↦
            let (id, found) = id_there (visible ops edit.doc) at less in
            let past : at + length added ≡ length (take at (visible ops edit.doc)) + (length new + 0) = omega arith in
            let still : id_at (visible (ops ++ made ops replica edit) edit.doc) (at + length added) ≡ Some id =
            ap (λ xs. id_at xs (at + length added)) put
            ∙ (ap (id_at (take at (visible ops edit.doc) ++ (new ++ rest))) past
            ∙ (id_behind (take at (visible ops edit.doc)) (new ++ rest) (length new + 0)
            ∙ (id_behind new rest 0 ∙ (id_dropped (visible ops edit.doc) at ∙ found)))) in
            ap (λ o. at_of (ops ++ made ops replica edit) edit.doc (beside_next o)) found
            ∙ at_before (ops ++ made ops replica edit) edit.doc (at + length added) id orderly_after still
        | inr past ↦
            let end : at ≡ length (visible ops edit.doc) = omega arith in
            let all : length (visible (ops ++ made ops replica edit) edit.doc) ≡ at + length added =
            ap length put ∙ simp (length-append, length-drop) (omega arith) in
            ap (λ o. at_of (ops ++ made ops replica edit) edit.doc (beside_next o)) (ap (id_at (visible ops edit.doc)) end ∙ id_end (visible ops edit.doc))
            ∙ (at_end (ops ++ made ops replica edit) edit.doc ∙ ap Some all)
      ]
