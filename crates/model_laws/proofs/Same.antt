-- What is built from a list of operations one by one, so that two operations of different ids may come in either order, is the
-- same for all lists with the same operations.
use Rattle.std.proofs.Common.{◌≡◌, false, ◌⊎◌, inl, inr, List, [], ◌∷◌, ◌++◌, ap, refl, ◌∙◌, sym, append_assoc, append-nil}
use Rattle.std.specs.List.{list_any}
use Rattle.std.proofs.lemmas.Bool.{or_parts, both_ways}
use Rattle.op_ids.specs.Id.{Id, is_same}
use Rattle.op_model.specs.declared.op.Op.{Op}
use Rattle.op_model.specs.Causality.{HasOp, HaveSameOps, FollowInTurn, IsCausallyClosed}
use Rattle.model_laws.proofs.Ids.{same_itself, same_swapped}
use Rattle.model_laws.proofs.Closed.{is_new}

-- no operation of these has this id
abbrev pub HasOther : List Op → Id → Type 0
HasOther ops id = (op : Op) → HasOp ops op → is_same op.id id ≡ false

-- the ids differ
abbrev pub AreDistinct : List Op → Type 0
AreDistinct [] = Unit {0}
AreDistinct (op ∷ ops) = HasOther ops op.id × AreDistinct ops

HasOp-push : (ops : List Op) (x op : Op) → HasOp (ops ++ x ∷ []) op → HasOp ops op ⊎ (x ≡ op)
HasOp-push [] x op (inl e) = inr e
HasOp-push [] x op (inr h) = absurd h
HasOp-push (y ∷ ops) x op (inl e) = inl (inl e)
HasOp-push (y ∷ ops) x op (inr h) = elim (HasOp-push ops x op h) [ inl k ↦ inl (inr k) | inr e ↦ inr e ]

HasOther-from : (ops : List Op) (id : Id) → list_any (λ x. is_same x.id id) ops ≡ false → HasOther ops id
HasOther-from [] id e op h = absurd h
HasOther-from (x ∷ ops) id e op (inl f) = rw (← f) ((or_parts (is_same x.id id) (list_any (λ y. is_same y.id id) ops) e).0)
HasOther-from (x ∷ ops) id e op (inr h) = HasOther-from ops id (or_parts (is_same x.id id) (list_any (λ y. is_same y.id id) ops) e).1 op h

AreDistinct-push : (ops : List Op) (op : Op) → AreDistinct ops → HasOther ops op.id → AreDistinct (ops ++ op ∷ [])
AreDistinct-push [] op d h = (λ x k. absurd k, tt)
AreDistinct-push (x ∷ ops) op d h = (
  λ y k. elim (HasOp-push ops op y k) [
    | inl m ↦ d.0 y m
    | inr e ↦ rw (← e) (same_swapped op.id x.id ∙ h x (inl refl))
  ],
  AreDistinct-push ops op d.1 (λ y k. h y (inr k)),
)

distinct_in_turn : (before ops : List Op) → AreDistinct before → FollowInTurn before ops → AreDistinct (before ++ ops)
distinct_in_turn before [] d h = rw append-nil d
distinct_in_turn before (op ∷ ops) d h =
    rw append_assoc at (distinct_in_turn (before ++ op ∷ []) ops (AreDistinct-push before op d (HasOther-from before op.id (is_new before op h.0.counter))) h.1)

pub closed_distinct : (ops : List Op) → IsCausallyClosed ops → AreDistinct ops
closed_distinct ops h = distinct_in_turn [] ops tt h

-- one of the operations, taken out of the list, and put on last
pub record IsPulled {Z : Type 0} (F : List Op → Z) (h : Op → Z → Z) (ops : List Op) (x : Op) (rest : List Op) : Type 0 where
  pub value : F ops ≡ h x (F rest)
  pub others : (op : Op) → HasOp ops op → (x ≡ op) ⊎ HasOp rest op
  pub back : (op : Op) → HasOp rest op → HasOp ops op
  pub apart : HasOther rest x.id
  pub distinct : AreDistinct rest

module _ {Z : Type 0} (F : List Op → Z) (h : Op → Z → Z) (step : (x : Op) (xs : List Op) → F (x ∷ xs) ≡ h x (F xs)) (swap : (x y : Op) (z : Z) → is_same x.id y.id ≡ false → h x (h y z) ≡ h y (h x z)) where
  pull : (ops : List Op) (x : Op) → HasOp ops x → AreDistinct ops → (rest : List Op) × IsPulled F h ops x rest
  pull [] x m d = absurd m
  pull (y ∷ ys) x (inl e) d = (
    ys,
    record {
      value = step y ys ∙ ap (λ w. h w (F ys)) e;
      others = λ op. elim [ inl f ↦ inl (sym e ∙ f) | inr m ↦ inr m ];
      back = λ op m. inr m;
      apart = λ op m. rw (← e) (d.0 op m);
      distinct = d.1;
    },
  )
  pull (y ∷ ys) x (inr k) d =
      let (rest, p) = pull ys x k d.1 in
      let differ : is_same y.id x.id ≡ false = same_swapped y.id x.id ∙ d.0 x k in (
        y ∷ rest,
        record {
          value = step y ys ∙ ap (λ z. h y z) p.value ∙ swap y x (F rest) differ ∙ ap (λ z. h x z) (sym (step y rest));
          others = λ op. elim [ inl f ↦ inr (inl f) | inr m ↦ elim (p.others op m) [ inl f ↦ inl f | inr n ↦ inr (inr n) ] ];
          back = λ op. elim [ inl f ↦ inl f | inr m ↦ inr (p.back op m) ];
          apart = λ op. elim [ inl f ↦ rw (← f) differ | inr m ↦ p.apart op m ];
          distinct = (λ op m. d.0 op (p.back op m), p.distinct);
        },
      )

  pub same_by_members : (a b : List Op) → AreDistinct a → AreDistinct b → ((op : Op) → HasOp a op → HasOp b op)
      → ((op : Op) → HasOp b op → HasOp a op) → F a ≡ F b
  same_by_members [] [] d k up down = refl
  same_by_members [] (y ∷ ys) d k up down = absurd (down y (inl refl))
  same_by_members (x ∷ xs) b d k up down =
      let (rest, p) = pull b x (up x (inl refl)) k in
      step x xs
      ∙ ap (λ z. h x z) (same_by_members xs rest d.1 p.distinct
      (λ op m. elim (p.others op (up op (inr m))) [ inl e ↦ absurd (both_ways (is_same op.id x.id) (d.0 op m) (rw (← e) (same_itself x.id))) | inr n ↦ n ])
      (λ op m. elim (down op (p.back op m)) [ inl e ↦ absurd (both_ways (is_same op.id x.id) (p.apart op m) (rw (← e) (same_itself x.id))) | inr n ↦ n ]))
      ∙ sym p.value

  -- two causally closed lists with the same operations give the same
  pub same_for_closed : (a b : List Op) → IsCausallyClosed a → IsCausallyClosed b → HaveSameOps a b → F a ≡ F b
  same_for_closed a b c d s = same_by_members a b (closed_distinct a c) (closed_distinct b d) s.no_more s.no_fewer

behind_other : (between rest : List Op) (b : Op) (id : Id) → HasOther (between ++ b ∷ rest) id
    → is_same b.id id ≡ false
behind_other [] rest b id h = h b (inl refl)
behind_other (x ∷ between) rest b id h = behind_other between rest b id (λ op k. h op (inr k))

distinct_at : (front between rest : List Op) (a b : Op) → AreDistinct (front ++ a ∷ (between ++ b ∷ rest))
    → is_same a.id b.id ≡ false
distinct_at [] between rest a b h = same_swapped a.id b.id ∙ behind_other between rest b a.id h.0
distinct_at (x ∷ front) between rest a b h = distinct_at front between rest a b h.1

-- in a causally closed list two operations have different ids
pub closed_ids_differ : (ops front between rest : List Op) (a b : Op) → IsCausallyClosed ops
    → ops ≡ front ++ a ∷ (between ++ b ∷ rest) → is_same a.id b.id ≡ false
closed_ids_differ ops front between rest a b h e = distinct_at front between rest a b (rw e at (closed_distinct ops h))
