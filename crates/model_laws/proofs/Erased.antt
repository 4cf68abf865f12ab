-- What deletes and marks do to the text.
use Rattle.std.proofs.Common.{◌≡◌, ℕ, ◌+◌, ◌≤◌, Bool, true, false, not, ◌||◌, ◌&&◌, inl, inr, List}
use Rattle.std.proofs.Common.{[], ◌∷◌, ◌++◌, length, take, drop, map, filter, Option, None, arith, ap, refl}
use Rattle.std.proofs.Common.{◌∙◌, sym, append_assoc, append-nil}
use Rattle.std.specs.Prelude.{◌==◌}
use Rattle.std.proofs.lemmas.Bool.{cases_Bool, eq-eqb, leb-true, or_left}
use Rattle.std.proofs.lemmas.List.{map-append, take-map, drop-map, take-append-drop, drop-drop}
use Rattle.std.proofs.lemmas.List.Elements.{filter_agree, filter-append}
use Rattle.std.proofs.Math.Bool.{or_assoc}
use Rattle.op_ids.specs.Id.{Id, is_same}
use Rattle.op_ids.specs.Clock.{advanced}
use Rattle.op_model.specs.declared.op.Op.{Op}
use Rattle.op_model.specs.declared.op.Body.TheVariants as body
use Rattle.op_model.specs.declared.edit.Change.{Change}
use Rattle.op_model.specs.declared.edit.Change.TheVariants as change
use Rattle.op_model.specs.declared.edit.Edit.{Edit}
use Rattle.op_model.specs.declared.character.Character.{Character}
use Rattle.op_model.specs.Characters.{character_of}
use Rattle.op_model.specs.Walk.{walk, times}
use Rattle.op_model.specs.Text.{is_removed, is_removal_of, visible, text}
use Rattle.op_model.specs.Causality.{clock_of, is_within_limits, MayFollow, FollowInTurn, IsCausallyClosed}
use Rattle.op_model.specs.Made.{greatest_counter, numbered, bodies_of, is_inside, made}
use Rattle.op_model.specs.Placing.{has_id, placed}
use Rattle.model_laws.specs.Changed.{changed}
use Rattle.model_laws.proofs.Ids.{same_itself}
use Rattle.model_laws.proofs.Count.{times-append}
use Rattle.model_laws.proofs.Closed.{closed_orderly, closed_placed}
use Rattle.model_laws.proofs.Family.{orderly_once}
use Rattle.model_laws.proofs.Member.{present_counted}
use Rattle.model_laws.proofs.Growth.{closed_push, removed-push, or-false}
use Rattle.model_laws.proofs.Makes.{AreAmong, among_itself, made_follow}
use Rattle.model_laws.proofs.Typed.{shown, shown_same, removed_kept, character_here, text_inserted}

-- an operation that makes no character leaves the walk as it is
pub plain_step : (ops : List Op) (doc : ℕ) (op : Op) → IsCausallyClosed ops → MayFollow ops op → op.doc ≡ doc
    → character_of op.id op.body ≡ None → walk (ops ++ op ∷ []) doc ≡ walk ops doc
plain_step ops doc op h f d e =
    closed_placed ops doc op h f
    ∙ ap (λ m. placed m (walk ops doc)) (character_here doc op d ∙ e)

-- removes of these characters, made one after another
abbrev removals : ℕ → ℕ → Option ℕ → ℕ → List (ℕ × ℕ) → List Character → List Op
removals replica doc token counter clock cs = numbered replica doc token counter clock (map (λ c. body.Remove c.id) cs)

walk_after : (cs : List Character) (ops : List Op) (replica doc : ℕ) (token : Option ℕ) (counter : ℕ) (clock : List (ℕ × ℕ))
    → IsCausallyClosed ops → FollowInTurn ops (removals replica doc token counter clock cs)
    → walk (ops ++ removals replica doc token counter clock cs) doc ≡ walk ops doc
walk_after [] ops replica doc token counter clock h f = ap (λ xs. walk xs doc) (append-nil ops)
walk_after (c ∷ cs) ops replica doc token counter clock h f =
    let op : Op = record { id = record { counter = counter; replica = replica }; doc = doc; token = token; deps = clock; body = body.Remove c.id } in
    ap (λ xs. walk xs doc) (sym (append_assoc ops (op ∷ []) (removals replica doc token (counter + 1) (advanced clock replica) cs)))
    ∙ walk_after cs (ops ++ op ∷ []) replica doc token (counter + 1) (advanced clock replica) (closed_push ops op h f.0) f.1
    ∙ plain_step ops doc op h f.0 refl refl

removed_after : (cs : List Character) (ops : List Op) (replica doc : ℕ) (token : Option ℕ) (counter : ℕ) (clock : List (ℕ × ℕ)) (x : Character)
    → is_removed (ops ++ removals replica doc token counter clock cs) doc x ≡ (is_removed ops doc x || has_id cs x.id)
removed_after [] ops replica doc token counter clock x =
    ap (λ xs. is_removed xs doc x) (append-nil ops)
    ∙ sym (or-false (is_removed ops doc x))
removed_after (c ∷ cs) ops replica doc token counter clock x =
    let op : Op = record { id = record { counter = counter; replica = replica }; doc = doc; token = token; deps = clock; body = body.Remove c.id } in
    let here : (doc == doc && is_same c.id x.id) ≡ is_same c.id x.id = rw (eq-eqb doc doc refl) refl in
    ap (λ xs. is_removed xs doc x) (sym (append_assoc ops (op ∷ []) (removals replica doc token (counter + 1) (advanced clock replica) cs)))
    ∙ removed_after cs (ops ++ op ∷ []) replica doc token (counter + 1) (advanced clock replica) x
    ∙ ap (λ r. r || has_id cs x.id) (removed-push ops doc op x ∙ ap (λ r. is_removed ops doc x || r) here)
    ∙ or_assoc (is_removed ops doc x) (is_same c.id x.id) (has_id cs x.id)

filter_twice : (p q : Character → Bool) (cs : List Character)
    → filter (λ c. not (p c || q c)) cs ≡ filter (λ c. not (q c)) (filter (λ c. not (p c)) cs)
filter_twice p q [] = refl
filter_twice p q (c ∷ cs) =
    elim (cases_Bool (p c)) [
      | inl e ↦ rw e (filter_twice p q cs)
      | inr e ↦ elim (cases_Bool (q c)) [
        | inl f ↦ rw (e, f) (filter_twice p q cs)
        | inr f ↦ rw (e, f) (ap (λ xs. c ∷ xs) (filter_twice p q cs))
      ]
    ]

-- those without the ones that another list has
abbrev without : List Character → List Character → List Character
without left cs = filter (λ c. not (has_id left c.id)) cs

without_others : (left cs : List Character) → ((id : Id) → times id cs + times id left ≤ 1) → without left cs ≡ cs
without_others left [] t = refl
without_others left (c ∷ cs) t =
    elim (cases_Bool (has_id left c.id)) [
      | inl e ↦ absurd (omega (arith, present_counted left c.id e, t c.id, present_counted (c ∷ cs) c.id (or_left (is_same c.id c.id) (has_id cs c.id) (same_itself c.id))))
      | inr e ↦ rw e (ap (λ xs. c ∷ xs) (without_others left cs (λ id. omega (arith, t id))))
    ]

without_all : (left cs : List Character) → AreAmong left cs → without left cs ≡ []
without_all left [] h = refl
without_all left (c ∷ cs) h = let e : has_id left c.id ≡ true = h.0 in rw e (without_all left cs h.1)

without_middle : (a b c : List Character) → ((id : Id) → times id (a ++ (b ++ c)) ≤ 1)
    → without b (a ++ (b ++ c)) ≡ a ++ c
without_middle a b c t =
    filter-append (λ x. not (has_id b x.id)) a (b ++ c)
    ∙ ap (λ xs. without b a ++ xs) (filter-append (λ x. not (has_id b x.id)) b c)
    ∙ ap (λ xs. xs ++ (without b b ++ without b c)) (without_others b a (λ id. omega (arith, t id, times-append id a (b ++ c), times-append id b c)))
    ∙ ap (λ xs. a ++ (xs ++ without b c)) (without_all b b (among_itself b))
    ∙ ap (λ xs. a ++ xs) (without_others b c (λ id. omega (arith, t id, times-append id a (b ++ c), times-append id b c)))

times_filtered : (p : Character → Bool) (id : Id) (cs : List Character) → times id (filter p cs) ≤ times id cs
times_filtered p id [] = omega arith
times_filtered p id (c ∷ cs) =
    elim (cases_Bool (p c)) [
      | inl e ↦ rw e (omega (arith, times_filtered p id cs))
      | inr e ↦ rw e (omega (arith, times_filtered p id cs))
    ]

pub visible_once : (ops : List Op) (doc : ℕ) → IsCausallyClosed ops → (id : Id) → times id (visible ops doc) ≤ 1
visible_once ops doc h id = omega (arith, times_filtered (λ c. not (is_removed ops doc c)) id (walk ops doc), orderly_once ops doc id (closed_orderly ops doc h))

-- a delete leaves out what it deletes
text_deleted : (ops : List Op) (replica doc : ℕ) (token : Option ℕ) (at count counter : ℕ) (clock : List (ℕ × ℕ)) → IsCausallyClosed ops
    → FollowInTurn ops (removals replica doc token counter clock (take count (drop at (visible ops doc))))
    → text (ops ++ removals replica doc token counter clock (take count (drop at (visible ops doc)))) doc ≡ take at (text ops doc) ++ drop (at + count) (text ops doc)
text_deleted ops replica doc token at count counter clock h f =
    let v : List Character = visible ops doc in
    let gone : List Character = take count (drop at v) in
    let parts : v ≡ take at v ++ (gone ++ drop count (drop at v)) = sym (take-append-drop at v) ∙ ap (λ xs. take at v ++ xs) (sym (take-append-drop count (drop at v))) in
    ap (λ xs. map (λ c. c.value) xs)
    (ap (λ xs. filter (λ c. not (is_removed (ops ++ removals replica doc token counter clock gone) doc c)) xs) (walk_after gone ops replica doc token counter clock h f)
    ∙ filter_agree (λ c. not (is_removed (ops ++ removals replica doc token counter clock gone) doc c)) (λ c. not (is_removed ops doc c || has_id gone c.id)) (λ c. ap not (removed_after gone ops replica doc token counter clock c)) (walk ops doc)
    ∙ filter_twice (is_removed ops doc) (λ c. has_id gone c.id) (walk ops doc)
    ∙ ap (λ xs. without gone xs) parts
    ∙ without_middle (take at v) gone (drop count (drop at v)) (λ id. rw (ap (λ xs. times id xs) parts) at (visible_once ops doc h id)))
    ∙ map-append (λ c. c.value) (take at v) (drop count (drop at v))
    ∙ ap (λ xs. xs ++ map (λ c. c.value) (drop count (drop at v))) (sym (take-map (λ c. c.value) at v))
    ∙ ap (λ xs. take at (text ops doc) ++ map (λ c. c.value) xs) (drop-drop count at v)
    ∙ ap (λ xs. take at (text ops doc) ++ xs) (sym (drop-map (λ c. c.value) (at + count) v))

-- a mark leaves the text as it is
text_marked : (ops : List Op) (doc : ℕ) (op : Op) → IsCausallyClosed ops → MayFollow ops op → op.doc ≡ doc
    → character_of op.id op.body ≡ None → ((id : Id) → is_removal_of id op.body ≡ false)
    → text (ops ++ op ∷ []) doc ≡ text ops doc
text_marked ops doc op h f d e n =
    ap (λ cs. shown (ops ++ op ∷ []) doc cs) (plain_step ops doc op h f d e)
    ∙ shown_same (ops ++ op ∷ []) ops doc (removed_kept ops doc op n) (walk ops doc)

change_text : (ops : List Op) (replica doc : ℕ) (token : Option ℕ) (c : Change) → IsCausallyClosed ops
    → is_inside (length (visible ops doc)) c ≡ true
    → FollowInTurn ops (numbered replica doc token (greatest_counter ops + 1) (clock_of ops) (bodies_of ops replica doc c))
    → text (ops ++ numbered replica doc token (greatest_counter ops + 1) (clock_of ops) (bodies_of ops replica doc c)) doc ≡ changed (text ops doc) c
change_text ops replica doc token (change.Insert at added) h i f =
    text_inserted ops replica doc token at added h (leb-true at (length (visible ops doc)) i) f
    ∙ sym (append_assoc (take at (text ops doc)) added (drop at (text ops doc)))
change_text ops replica doc token (change.Delete at count) h i f = text_deleted ops replica doc token at count.value (greatest_counter ops + 1) (clock_of ops) h f
change_text ops replica doc token (change.Mark from to mark) h i f = text_marked ops doc _ h f.0 refl refl (λ id. refl)
change_text ops replica doc token (change.Unmark from to k) h i f = text_marked ops doc _ h f.0 refl refl (λ id. refl)

-- the text after an edit is the text before it with the edit's change
pub made_text : (ops : List Op) (replica : ℕ) (e : Edit) → IsCausallyClosed ops
    → is_inside (length (visible ops e.doc)) e.change ≡ true → is_within_limits (ops ++ made ops replica e) ≡ true
    → text (ops ++ made ops replica e) e.doc ≡ changed (text ops e.doc) e.change
made_text ops replica e h i l = change_text ops replica e.doc e.token e.change h i (made_follow ops replica e l)
