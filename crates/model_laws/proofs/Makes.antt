-- An edit's operations may follow the list one after another, where the limits are kept.
use Rattle.std.proofs.Common.{◌≡◌, ℕ, zero, suc, ◌+◌, ◌-◌, ◌<◌, Bool, true, false, not, cond, ◌&&◌, inl, inr, List, [], ◌∷◌, ◌++◌, take, drop, map}
use Rattle.std.proofs.Common.{filter, Option, Some, None, arith, ap, refl, ◌∙◌, sym, append_assoc}
use Rattle.std.specs.Prelude.{◌==◌}
use Rattle.std.specs.List.{list_any, list_all}
use Rattle.std.proofs.lemmas.Bool.{cases_Bool, eq-eqb, and_parts, and_from, or_left, or_right}
use Rattle.std.proofs.lemmas.List.Folds.{list_any-append, list_all-append}
use Rattle.op_ids.specs.Id.{Id, is_same}
use Rattle.op_ids.specs.Clock.{advanced}
use Rattle.op_model.specs.declared.op.Op.{Op}
use Rattle.op_model.specs.declared.op.Body.{Body}
use Rattle.op_model.specs.declared.op.Body.TheVariants as body
use Rattle.op_model.specs.declared.mark.MarkKey.{MarkKey}
use Rattle.op_model.specs.declared.mark.MarkKey.TheVariants as key
use Rattle.op_model.specs.declared.edit.Edit.{Edit}
use Rattle.op_model.specs.declared.edit.Change.{Change}
use Rattle.op_model.specs.declared.edit.Change.TheVariants as change
use Rattle.op_model.specs.declared.character.Character.{Character}
use Rattle.op_model.specs.Characters.{characters}
use Rattle.op_model.specs.Walk.{below, is_parent, walk}
use Rattle.op_model.specs.Text.{is_removed, visible}
use Rattle.op_model.specs.Marks.{key_of}
use Rattle.op_model.specs.Causality.{clock_of, optional, named_by, named_by_start, named_by_end, is_within_limits, FollowInTurn, IsCausallyClosed}
use Rattle.op_model.specs.Made.{behind_visible, first_hidden, tombstones_at, ends_after, last_or, id_at, id_before, origin_of, start_before, start_of}
use Rattle.op_model.specs.Made.{end_before, end_after, end_of, greatest_counter, numbered, insert_bodies, bodies_of, made}
use Rattle.op_model.specs.Placing.{has_id, FitInTurn}
use Rattle.model_laws.proofs.Ids.{same_itself}
use Rattle.model_laws.proofs.Closed.{is_insert_at, insert_found}
use Rattle.model_laws.proofs.Growth.{closed_with}
use Rattle.model_laws.proofs.Ready.{clock-push, greatest-push, found_insert, AreNamesKnown, follows_by_clock, fits_by_clock, limits_front}

-- the operation of a body after these
abbrev made_op : List Op → ℕ → ℕ → Option ℕ → ℕ → Body → Op
made_op before replica doc token counter b = record { id = record { counter = counter; replica = replica }; doc = doc; token = token; deps = clock_of before; body = b }

-- the names of each body are known when its turn comes
abbrev AreBodiesKnown : List Op → ℕ → ℕ → Option ℕ → ℕ → List Body → Type 0
AreBodiesKnown before replica doc token counter [] = Unit {0}
AreBodiesKnown before replica doc token counter (b ∷ bs) =
    AreNamesKnown before doc b × AreBodiesKnown (before ++ made_op before replica doc token counter b ∷ []) replica doc token (counter + 1) bs

numbered_follow : (before : List Op) (replica doc : ℕ) (token : Option ℕ) (counter : ℕ) (clock : List (ℕ × ℕ)) (bs : List Body)
    → clock ≡ clock_of before → greatest_counter before < counter → AreBodiesKnown before replica doc token counter bs
    → is_within_limits (before ++ numbered replica doc token counter clock bs) ≡ true
    → FollowInTurn before (numbered replica doc token counter clock bs)
numbered_follow before replica doc token counter clock [] c g k l = tt
numbered_follow before replica doc token counter clock (b ∷ bs) c g k l =
    let op : Op = record { id = record { counter = counter; replica = replica }; doc = doc; token = token; deps = clock; body = b } in
    let same : op ≡ made_op before replica doc token counter b = ap (λ es. record { id = record { counter = counter; replica = replica }; doc = doc; token = token; deps = es; body = b }) c in
    let limits : is_within_limits ((before ++ op ∷ []) ++ numbered replica doc token (counter + 1) (advanced clock replica) bs) ≡ true = rw (append_assoc before (op ∷ []) (numbered replica doc token (counter + 1) (advanced clock replica) bs)) l in (
      follows_by_clock before op c g k.0 (limits_front (before ++ op ∷ []) (numbered replica doc token (counter + 1) (advanced clock replica) bs) limits),
      numbered_follow (before ++ op ∷ []) replica doc token (counter + 1) (advanced clock replica) bs
          (ap (λ es. advanced es replica) c ∙ sym (clock-push before op))
          (rw (greatest-push before op) (omega arith))
          (rw (← same) at k.1)
          limits,
    )

-- they fit the document in turn, whatever the limits say
numbered_fit : (before : List Op) (replica doc : ℕ) (token : Option ℕ) (counter : ℕ) (clock : List (ℕ × ℕ)) (bs : List Body)
    → clock ≡ clock_of before → greatest_counter before < counter → AreBodiesKnown before replica doc token counter bs
    → FitInTurn before doc (numbered replica doc token counter clock bs)
numbered_fit before replica doc token counter clock [] c g k = tt
numbered_fit before replica doc token counter clock (b ∷ bs) c g k =
    let op : Op = record { id = record { counter = counter; replica = replica }; doc = doc; token = token; deps = clock; body = b } in
    let same : op ≡ made_op before replica doc token counter b = ap (λ es. record { id = record { counter = counter; replica = replica }; doc = doc; token = token; deps = es; body = b }) c in (
      λ here. fits_by_clock before op c g k.0,
      numbered_fit (before ++ op ∷ []) replica doc token (counter + 1) (advanced clock replica) bs
          (ap (λ es. advanced es replica) c ∙ sym (clock-push before op))
          (rw (greatest-push before op) (omega arith))
          (rw (← same) at k.1),
    )

-- what is known stays known
still_known : (before : List Op) (op : Op) (doc : ℕ) (id : Id) → has_id (characters before doc) id ≡ true
    → has_id (characters (before ++ op ∷ []) doc) id ≡ true
still_known before op doc id e =
    insert_found (before ++ op ∷ []) doc id
    (list_any-append (is_insert_at doc id) before (op ∷ []) ∙ or_left (list_any (is_insert_at doc id) before) (list_any (is_insert_at doc id) (op ∷ [])) (found_insert before doc id e))

all_still : (before : List Op) (op : Op) (doc : ℕ) (ids : List Id)
    → list_all (λ id. has_id (characters before doc) id) ids ≡ true
    → list_all (λ id. has_id (characters (before ++ op ∷ []) doc) id) ids ≡ true
all_still before op doc [] e = refl
all_still before op doc (id ∷ ids) e =
    let k = and_parts (has_id (characters before doc) id) (list_all (λ i. has_id (characters before doc) i) ids) e in
    and_from (has_id (characters (before ++ op ∷ []) doc) id) (list_all (λ i. has_id (characters (before ++ op ∷ []) doc) i) ids) (still_known before op doc id k.0) (all_still before op doc ids k.1)

-- bodies whose names are all known now
abbrev AreAllKnown : List Op → ℕ → List Body → Type 0
AreAllKnown before doc [] = Unit {0}
AreAllKnown before doc (b ∷ bs) = AreNamesKnown before doc b × AreAllKnown before doc bs

all_known_still : (before : List Op) (op : Op) (doc : ℕ) (bs : List Body) → AreAllKnown before doc bs
    → AreAllKnown (before ++ op ∷ []) doc bs
all_known_still before op doc [] h = tt
all_known_still before op doc (b ∷ bs) h = (all_still before op doc (named_by b) h.0, all_known_still before op doc bs h.1)

bodies_known : (before : List Op) (replica doc : ℕ) (token : Option ℕ) (counter : ℕ) (bs : List Body) → AreAllKnown before doc bs
    → AreBodiesKnown before replica doc token counter bs
bodies_known before replica doc token counter [] h = tt
bodies_known before replica doc token counter (b ∷ bs) h =
    (h.0, bodies_known (before ++ made_op before replica doc token counter b ∷ []) replica doc token (counter + 1) bs (all_known_still before (made_op before replica doc token counter b) doc bs h.1))

-- an origin, if there is one, is known
abbrev IsOriginKnown : List Op → ℕ → Option Id → Type 0
IsOriginKnown before doc origin = list_all (λ id. has_id (characters before doc) id) (optional origin) ≡ true

just_inserted : (before : List Op) (replica doc : ℕ) (token : Option ℕ) (counter : ℕ) (origin : Option Id) (value : ℕ) → has_id (characters (before ++ made_op before replica doc token counter (body.Insert origin value) ∷ []) doc) (record { counter = counter; replica = replica }) ≡ true
just_inserted before replica doc token counter origin value =
    let id : Id = record { counter = counter; replica = replica } in
    let op : Op = made_op before replica doc token counter (body.Insert origin value) in
    let last : is_insert_at doc id op ≡ true = and_from (is_same id id && doc == doc) true (and_from (is_same id id) (doc == doc) (same_itself id) (eq-eqb doc doc refl)) refl in
    insert_found (before ++ op ∷ []) doc id
    (list_any-append (is_insert_at doc id) before (op ∷ []) ∙ or_right (list_any (is_insert_at doc id) before) (list_any (is_insert_at doc id) (op ∷ [])) (or_left (is_insert_at doc id op) false last))

inserts_known : (before : List Op) (replica doc : ℕ) (token : Option ℕ) (counter : ℕ) (origin : Option Id) (values : List ℕ)
    → IsOriginKnown before doc origin
    → AreBodiesKnown before replica doc token counter (insert_bodies replica counter origin values)
inserts_known before replica doc token counter origin [] h = tt
inserts_known before replica doc token counter origin (v ∷ vs) h = (
  h,
  inserts_known (before ++ made_op before replica doc token counter (body.Insert origin v) ∷ []) replica doc token (counter + 1) (Some (record { counter = counter; replica = replica })) vs
      (and_from _ true (just_inserted before replica doc token counter origin v) refl),
)

-- the ids of these are among all of them
abbrev pub AreAmong : List Character → List Character → Type 0
AreAmong all [] = Unit {0}
AreAmong all (c ∷ cs) = (has_id all c.id ≡ true) × AreAmong all cs

AreAmong-more : (c : Character) (all cs : List Character) → AreAmong all cs → AreAmong (c ∷ all) cs
AreAmong-more c all [] h = tt
AreAmong-more c all (d ∷ cs) h = (or_right (is_same c.id d.id) (has_id all d.id) h.0, AreAmong-more c all cs h.1)

pub among_itself : (cs : List Character) → AreAmong cs cs
among_itself [] = tt
among_itself (c ∷ cs) = (or_left (is_same c.id c.id) (has_id cs c.id) (same_itself c.id), AreAmong-more c cs cs (among_itself cs))

AreAmong-append : (all cs ds : List Character) → AreAmong all cs → AreAmong all ds → AreAmong all (cs ++ ds)
AreAmong-append all [] ds h k = k
AreAmong-append all (c ∷ cs) ds h k = (h.0, AreAmong-append all cs ds h.1 k)

AreAmong-below : (all : List Character) (p : Option Id) (cs : List Character) → AreAmong all cs
    → AreAmong all (below p cs)
AreAmong-below all p [] h = tt
AreAmong-below all p (c ∷ cs) h =
    AreAmong-append all (below p cs) _ (AreAmong-below all p cs h.1)
    (elim (cases_Bool (is_parent p c.origin)) [ inl e ↦ rw e (h.0, AreAmong-below all (Some c.id) cs h.1) | inr e ↦ rw e tt ])

AreAmong-filter : (p : Character → Bool) (all cs : List Character) → AreAmong all cs → AreAmong all (filter p cs)
AreAmong-filter p all [] h = tt
AreAmong-filter p all (c ∷ cs) h = elim (cases_Bool (p c)) [ inl e ↦ rw e (h.0, AreAmong-filter p all cs h.1) | inr e ↦ rw e (AreAmong-filter p all cs h.1) ]

AreAmong-first_hidden : (p : Character → Bool) (all cs : List Character) → AreAmong all cs
    → AreAmong all (first_hidden p cs)
AreAmong-first_hidden p all [] h = tt
AreAmong-first_hidden p all (c ∷ cs) h = elim (cases_Bool (p c)) [ inl e ↦ rw e (h.0, AreAmong-first_hidden p all cs h.1) | inr e ↦ rw e tt ]

AreAmong-take : (all : List Character) (n : ℕ) (cs : List Character) → AreAmong all cs → AreAmong all (take n cs)
AreAmong-take all zero cs h = tt
AreAmong-take all (suc n) [] h = tt
AreAmong-take all (suc n) (c ∷ cs) h = (h.0, AreAmong-take all n cs h.1)

AreAmong-drop : (all : List Character) (n : ℕ) (cs : List Character) → AreAmong all cs → AreAmong all (drop n cs)
AreAmong-drop all zero cs h = h
AreAmong-drop all (suc n) [] h = tt
AreAmong-drop all (suc n) (c ∷ cs) h = AreAmong-drop all n cs h.1

AreAmong-behind : (hidden : Character → Bool) (all : List Character) (n : ℕ) (cs : List Character) → AreAmong all cs
    → AreAmong all (behind_visible hidden n cs)
AreAmong-behind hidden all n [] h = tt
AreAmong-behind hidden all n (c ∷ cs) h =
    elim (cases_Bool (n == 0)) [ inl e ↦ rw e h | inr e ↦ rw e (AreAmong-behind hidden all (cond (hidden c) n (n - 1)) cs h.1) ]

-- the id of one of these, if there is one
abbrev IsIdOf : List Character → Option Id → Type 0
IsIdOf all None = Unit {0}
IsIdOf all (Some id) = has_id all id ≡ true

id_at_known : (all cs : List Character) (i : ℕ) → AreAmong all cs → IsIdOf all (id_at cs i)
id_at_known all [] i h = tt
id_at_known all (c ∷ cs) zero h = h.0
id_at_known all (c ∷ cs) (suc i) h = id_at_known all cs i h.1

id_before_known : (all cs : List Character) (i : ℕ) → AreAmong all cs → IsIdOf all (id_before cs i)
id_before_known all cs zero h = tt
id_before_known all cs (suc i) h = id_at_known all cs i h

last_or_known : (all : List Character) (before : Option Id) (cs : List Character) → IsIdOf all before
    → AreAmong all cs → IsIdOf all (last_or before cs)
last_or_known all before [] k h = k
last_or_known all before (c ∷ cs) k h = last_or_known all (Some c.id) cs h.0 h.1

pub walk_known : (ops : List Op) (doc : ℕ) → AreAmong (characters ops doc) (walk ops doc)
walk_known ops doc = AreAmong-below (characters ops doc) None (characters ops doc) (among_itself (characters ops doc))

visible_known : (ops : List Op) (doc : ℕ) → AreAmong (characters ops doc) (visible ops doc)
visible_known ops doc = AreAmong-filter (λ c. not (is_removed ops doc c)) (characters ops doc) (walk ops doc) (walk_known ops doc)

origin_of_known : (ops : List Op) (doc i : ℕ) → IsIdOf (characters ops doc) (origin_of ops doc i)
origin_of_known ops doc i =
    last_or_known (characters ops doc) (id_before (visible ops doc) i) (filter (λ c. ends_after ops doc c.id) (tombstones_at ops doc i))
    (id_before_known (characters ops doc) (visible ops doc) i (visible_known ops doc))
    (AreAmong-filter (λ c. ends_after ops doc c.id) (characters ops doc) (tombstones_at ops doc i)
    (AreAmong-first_hidden (is_removed ops doc) (characters ops doc) (behind_visible (is_removed ops doc) i (walk ops doc))
    (AreAmong-behind (is_removed ops doc) (characters ops doc) i (walk ops doc) (walk_known ops doc))))

optional_known : (ops : List Op) (doc : ℕ) (id : Option Id) → IsIdOf (characters ops doc) id
    → IsOriginKnown ops doc id
optional_known ops doc None h = refl
optional_known ops doc (Some id) h = and_from (has_id (characters ops doc) id) true h refl

-- all of these ids are known
abbrev all_known : List Op → ℕ → List Id → Bool
all_known ops doc ids = list_all (λ id. has_id (characters ops doc) id) ids

start_known : (ops : List Op) (doc : ℕ) (id : Option Id) → IsIdOf (characters ops doc) id
    → all_known ops doc (named_by_start (start_before id)) ≡ true
start_known ops doc None h = refl
start_known ops doc (Some id) h = and_from (has_id (characters ops doc) id) true h refl

end_before_known : (ops : List Op) (doc : ℕ) (id : Option Id) → IsIdOf (characters ops doc) id
    → all_known ops doc (named_by_end (end_before id)) ≡ true
end_before_known ops doc None h = refl
end_before_known ops doc (Some id) h = and_from (has_id (characters ops doc) id) true h refl

end_after_known : (ops : List Op) (doc : ℕ) (id : Option Id) → IsIdOf (characters ops doc) id
    → all_known ops doc (named_by_end (end_after id)) ≡ true
end_after_known ops doc None h = refl
end_after_known ops doc (Some id) h = and_from (has_id (characters ops doc) id) true h refl

end_known : (ops : List Op) (doc : ℕ) (cs : List Character) (k : MarkKey) (to : ℕ) → AreAmong (characters ops doc) cs
    → all_known ops doc (named_by_end (end_of cs k to)) ≡ true
end_known ops doc cs key.Strong to h = end_before_known ops doc (id_at cs to) (id_at_known (characters ops doc) cs to h)
end_known ops doc cs key.Em to h = end_before_known ops doc (id_at cs to) (id_at_known (characters ops doc) cs to h)
end_known ops doc cs key.Link to h = end_after_known ops doc (id_before cs to) (id_before_known (characters ops doc) cs to h)
end_known ops doc cs (key.Comment id) to h = end_after_known ops doc (id_before cs to) (id_before_known (characters ops doc) cs to h)

anchors_known : (ops : List Op) (doc : ℕ) (k : MarkKey) (from to : ℕ)
    → all_known ops doc (named_by_start (start_of (visible ops doc) from) ++ named_by_end (end_of (visible ops doc) k to)) ≡ true
anchors_known ops doc k from to =
    list_all-append (λ id. has_id (characters ops doc) id) (named_by_start (start_of (visible ops doc) from)) (named_by_end (end_of (visible ops doc) k to))
    ∙ and_from (all_known ops doc (named_by_start (start_of (visible ops doc) from))) (all_known ops doc (named_by_end (end_of (visible ops doc) k to)))
    (start_known ops doc (id_at (visible ops doc) from) (id_at_known (characters ops doc) (visible ops doc) from (visible_known ops doc)))
    (end_known ops doc (visible ops doc) k to (visible_known ops doc))

removes_known : (ops : List Op) (doc : ℕ) (cs : List Character) → AreAmong (characters ops doc) cs
    → AreAllKnown ops doc (map (λ c. body.Remove c.id) cs)
removes_known ops doc [] h = tt
removes_known ops doc (c ∷ cs) h = (and_from (has_id (characters ops doc) c.id) true h.0 refl, removes_known ops doc cs h.1)

change_known : (ops : List Op) (replica doc : ℕ) (token : Option ℕ) (c : Change)
    → AreBodiesKnown ops replica doc token (greatest_counter ops + 1) (bodies_of ops replica doc c)
change_known ops replica doc token (change.Insert at text) =
    inserts_known ops replica doc token (greatest_counter ops + 1) (origin_of ops doc at) text (optional_known ops doc (origin_of ops doc at) (origin_of_known ops doc at))
change_known ops replica doc token (change.Delete at count) =
    bodies_known ops replica doc token (greatest_counter ops + 1) _
    (removes_known ops doc (take count.value (drop at (visible ops doc)))
    (AreAmong-take (characters ops doc) count.value (drop at (visible ops doc)) (AreAmong-drop (characters ops doc) at (visible ops doc) (visible_known ops doc))))
change_known ops replica doc token (change.Mark from to mark) = (anchors_known ops doc (key_of mark) from to, tt)
change_known ops replica doc token (change.Unmark from to k) = (anchors_known ops doc k from to, tt)

-- the operations of an edit may follow the list one after another
pub made_follow : (ops : List Op) (replica : ℕ) (e : Edit) → is_within_limits (ops ++ made ops replica e) ≡ true
    → FollowInTurn ops (made ops replica e)
made_follow ops replica e l =
    numbered_follow ops replica e.doc e.token (greatest_counter ops + 1) (clock_of ops) (bodies_of ops replica e.doc e.change) refl (omega arith) (change_known ops replica e.doc e.token e.change) l

-- they fit the document in turn, whatever the limits say
pub made_fit_in_turn : (ops : List Op) (replica : ℕ) (e : Edit) → FitInTurn ops e.doc (made ops replica e)
made_fit_in_turn ops replica e =
    numbered_fit ops replica e.doc e.token (greatest_counter ops + 1) (clock_of ops) (bodies_of ops replica e.doc e.change) refl (omega arith) (change_known ops replica e.doc e.token e.change)

pub closed_made : (ops : List Op) (replica : ℕ) (e : Edit) → IsCausallyClosed ops
    → is_within_limits (ops ++ made ops replica e) ≡ true → IsCausallyClosed (ops ++ made ops replica e)
closed_made ops replica e h l = closed_with ops (made ops replica e) h (made_follow ops replica e l)
