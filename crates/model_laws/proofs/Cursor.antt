-- Where an insert at a visible index stands in the walk: behind its origin, between two fronts of the text.
use Rattle.std.proofs.Common.{◌≡◌, ℕ, zero, suc, ◌-◌, ◌≤◌, ◌<◌, Bool, true, false, not, inl, inr}
use Rattle.std.proofs.Common.{List, [], ◌∷◌, ◌++◌, length, take, drop, filter, Option, Some, None}
use Rattle.std.proofs.Common.{arith, ap, refl, ◌∙◌, sym}
use Rattle.std.specs.Prelude.{◌==◌}
use Rattle.std.proofs.lemmas.Bool.{cases_Bool, ne_eqb, or_left, or_right, or_cases}
use Rattle.op_ids.specs.Id.{Id, is_same, is_below}
use Rattle.op_model.specs.declared.character.Character.{Character}
use Rattle.op_model.specs.Walk.{times}
use Rattle.op_model.specs.Made.{behind_visible, first_hidden, last_or, id_at, id_before}
use Rattle.op_model.specs.Placing.{has_id, past_greater, behind, behind_origin}
use Rattle.model_laws.proofs.Ids.{same_itself}
use Rattle.model_laws.proofs.Member.{present_counted}

pub last_or-append : (before : Option Id) (cs ds : List Character)
    → last_or before (cs ++ ds) ≡ last_or (last_or before cs) ds
last_or-append before [] ds = refl
last_or-append before (c ∷ cs) ds = last_or-append (Some c.id) cs ds

-- the last of these has an id
last_there : (c : Character) (cs : List Character)
    → (id : Id) × (last_or (Some c.id) cs ≡ Some id) × (has_id (c ∷ cs) id ≡ true)
last_there c [] = (c.id, refl, or_left (is_same c.id c.id) false (same_itself c.id))
last_there c (d ∷ cs) = let (id, e, h) = last_there d cs in (id, e, or_right (is_same c.id id) (has_id (d ∷ cs) id) h)

-- no id of these is above this one
abbrev pub HasNoAbove : Id → List Character → Type 0
HasNoAbove id [] = Unit {0}
HasNoAbove id (c ∷ cs) = (is_below id c.id ≡ false) × HasNoAbove id cs

pub HasNoAbove-rest : (id : Id) (cs ds : List Character) → HasNoAbove id (cs ++ ds) → HasNoAbove id ds
HasNoAbove-rest id [] ds h = h
HasNoAbove-rest id (c ∷ cs) ds h = HasNoAbove-rest id cs ds h.1

past_none : (n : Character) (ds : List Character) → HasNoAbove n.id ds → past_greater n ds ≡ n ∷ ds
past_none n [] h = refl
past_none n (d ∷ ds) h = let e : is_below n.id d.id ≡ false = h.0 in rw e refl

behind_skips : (o : Id) (n c : Character) (ds : List Character) → is_same c.id o ≡ false
    → behind o n (c ∷ ds) ≡ c ∷ behind o n ds
behind_skips o n c ds e = rw e refl

behind_last : (n c : Character) (cs ds : List Character) → ((id : Id) → times id (c ∷ cs) ≤ 1) → HasNoAbove n.id ds
    → behind_origin (last_or (Some c.id) cs) n (c ∷ (cs ++ ds)) ≡ c ∷ (cs ++ n ∷ ds)
behind_last n c [] ds t h = rw (same_itself c.id) (ap (λ x. c ∷ x) (past_none n ds h))
behind_last n c (d ∷ cs) ds t h =
    let (id, e, m) = last_there d cs in
    let differs : is_same c.id id ≡ false = elim (cases_Bool (is_same c.id id)) [
      | inl f ↦ absurd (omega (arith, present_counted (d ∷ cs) id m, rw f at (t id)))
      | inr f ↦ f
    ] in
    let rest : behind_origin (Some id) n (d ∷ (cs ++ ds)) ≡ d ∷ (cs ++ n ∷ ds) = rw e at (behind_last n d cs ds (λ i. omega (arith, t i)) h) in
    ap (λ o. behind_origin o n (c ∷ d ∷ (cs ++ ds))) e ∙ behind_skips id n c (d ∷ (cs ++ ds)) differs ∙ ap (λ x. c ∷ x) rest

-- a character with the greatest id goes right behind its origin
pub placed_behind : (n : Character) (front rest : List Character) → ((id : Id) → times id front ≤ 1)
    → HasNoAbove n.id rest → behind_origin (last_or None front) n (front ++ rest) ≡ front ++ n ∷ rest
placed_behind n [] rest t h = past_none n rest h
placed_behind n (c ∷ front) rest t h = behind_last n c front rest t h

id_at_there : (cs : List Character) (i : ℕ) → i < length cs → id_at cs i ≡ None → ⊥
id_at_there [] i l e = omega arith
id_at_there (c ∷ cs) zero l e = cc
id_at_there (c ∷ cs) (suc i) l e = id_at_there cs i (omega arith) e

last_kept : (before : Option Id) (front shown : List Character) (n : ℕ) → n < length shown
    → last_or None front ≡ id_at shown n → last_or before front ≡ id_at shown n
last_kept before [] shown n l e = absurd (id_at_there shown n l (sym e))
last_kept before (c ∷ front) shown n l e = e

nothing_last : (before : Option Id) (front : List Character) → last_or None front ≡ None
    → last_or before front ≡ before
nothing_last before [] e = refl
nothing_last before (c ∷ front) e = let (id, f, h) = last_there c front in let g : ⊥ = cc in absurd g

last_next : (c : Character) (front shown : List Character) (n : ℕ) → n ≤ length shown
    → last_or None front ≡ id_before shown n → last_or (Some c.id) front ≡ id_at (c ∷ shown) n
last_next c front shown zero l e = nothing_last (Some c.id) front e
last_next c front shown (suc n) l e = last_kept (Some c.id) front shown n (omega arith) e

module _ (hidden : Character → Bool) where
  -- the front of these up to the n-th visible one
  pub record IsFront (n : ℕ) (cs front : List Character) : Type 0 where
    pub whole : cs ≡ front ++ behind_visible hidden n cs
    pub shown : filter (λ c. not (hidden c)) front ≡ take n (filter (λ c. not (hidden c)) cs)
    pub left : filter (λ c. not (hidden c)) (behind_visible hidden n cs) ≡ drop n (filter (λ c. not (hidden c)) cs)
    pub last : last_or None front ≡ id_before (filter (λ c. not (hidden c)) cs) n

  front_hidden : (n : ℕ) (c : Character) (cs front : List Character) → hidden c ≡ true
      → suc n ≤ length (filter (λ x. not (hidden x)) cs) → IsFront (suc n) cs front
      → IsFront (suc n) (c ∷ cs) (c ∷ front)
  front_hidden n c cs front e l p =
      let z : (suc n == 0) ≡ false = ne_eqb (suc n) 0 (omega arith) in
      record {
        whole = rw (z, e) (ap (λ xs. c ∷ xs) p.whole);
        shown = rw e p.shown;
        left = rw (z, e) p.left;
        last = rw e (last_kept (Some c.id) front (filter (λ x. not (hidden x)) cs) n l p.last);
      }

  front_shown : (n : ℕ) (c : Character) (cs front : List Character) → hidden c ≡ false
      → n ≤ length (filter (λ x. not (hidden x)) cs) → IsFront n cs front → IsFront (suc n) (c ∷ cs) (c ∷ front)
  front_shown n c cs front e l p =
      let z : (suc n == 0) ≡ false = ne_eqb (suc n) 0 (omega arith) in
      let one : suc n - 1 ≡ n = omega arith in
      record {
        whole = rw (z, e, one) (ap (λ xs. c ∷ xs) p.whole);
        shown = rw e (ap (λ xs. c ∷ xs) p.shown);
        left = rw (z, e, one) p.left;
        last = rw e (last_next c front (filter (λ x. not (hidden x)) cs) n l p.last);
      }

  pub front_of : (n : ℕ) (cs : List Character) → n ≤ length (filter (λ c. not (hidden c)) cs)
      → (front : List Character) × IsFront n cs front
  front_of zero [] l = ([], record { whole = refl; shown = refl; left = refl; last = refl })
  front_of zero (c ∷ cs) l = ([], record { whole = refl; shown = refl; left = refl; last = refl })
  front_of (suc n) [] l = absurd (omega arith)
  front_of (suc n) (c ∷ cs) l =
      elim (cases_Bool (hidden c)) [
        | inl e ↦
            let (front, p) = front_of (suc n) cs (rw e at l) in
            (c ∷ front, front_hidden n c cs front e (rw e at l) p)
        | inr e ↦
            let (front, p) = front_of n cs (omega (arith, rw e at l)) in
            (c ∷ front, front_shown n c cs front e (omega (arith, rw e at l)) p)
      ]

  -- the tombstones that these begin with, up to the last that is kept
  pub record IsKept (keep : Character → Bool) (cs front rest : List Character) : Type 0 where
    pub whole : cs ≡ front ++ rest
    pub shown : filter (λ c. not (hidden c)) front ≡ []
    pub last : (before : Option Id) → last_or before front ≡ last_or before (filter keep (first_hidden hidden cs))
    pub has : (id : Id) → has_id (filter keep (first_hidden hidden cs)) id ≡ true → has_id front id ≡ true

  kept_more : (keep : Character → Bool) (c : Character) (cs front rest : List Character) → hidden c ≡ true
      → IsKept keep cs front rest → (f : List Character) × (r : List Character) × IsKept keep (c ∷ cs) f r
  kept_more keep c cs front rest e p = elim (cases_Bool (keep c)) [ inl k ↦ (c ∷ front, rest, kept k) | inr k ↦ not_kept front p k ]
    where
      kept : keep c ≡ true → IsKept keep (c ∷ cs) (c ∷ front) rest
      kept k = record {
        whole = ap (λ xs. c ∷ xs) p.whole;
        shown = rw e p.shown;
        last = λ before. rw (e, k) (p.last (Some c.id));
        has = λ id h. elim (or_cases (is_same c.id id) (has_id (filter keep (first_hidden hidden cs)) id) (rw (e, k) at h)) [
          | inl f ↦ or_left (is_same c.id id) (has_id front id) f
          | inr f ↦ or_right (is_same c.id id) (has_id front id) (p.has id f)
        ];
      }

      not_kept : (f : List Character) → IsKept keep cs f rest → keep c ≡ false
          → (g : List Character) × (r : List Character) × IsKept keep (c ∷ cs) g r
      not_kept [] q k = (
        [],
        c ∷ cs,
        record {
          whole = refl;
          shown = refl;
          last = λ before. rw (e, k) (q.last before);
          has = λ id h. q.has id (rw (e, k) at h);
        },
      )
      not_kept (d ∷ f) q k = (
        c ∷ d ∷ f,
        rest,
        record {
          whole = ap (λ xs. c ∷ xs) q.whole;
          shown = rw e q.shown;
          last = λ before. rw (e, k) (q.last before);
          has = λ id h. or_right (is_same c.id id) (has_id (d ∷ f) id) (q.has id (rw (e, k) at h));
        },
      )

  pub kept_of : (keep : Character → Bool) (cs : List Character)
      → (front : List Character) × (rest : List Character) × IsKept keep cs front rest
  kept_of keep [] = ([], [], record { whole = refl; shown = refl; last = λ before. refl; has = λ id h. h })
  kept_of keep (c ∷ cs) =
      elim (cases_Bool (hidden c)) [
        | inl e ↦ let (front, rest, p) = kept_of keep cs in kept_more keep c cs front rest e p
        | inr e ↦ ([], c ∷ cs, record { whole = refl; shown = refl; last = λ before. rw e refl; has = λ id h. rw e at h })
      ]

pub last_present : (cs : List Character) (id : Id) → last_or None cs ≡ Some id → has_id cs id ≡ true
last_present [] id e = let f : ⊥ = cc in absurd f
last_present (c ∷ cs) id e =
    let (other, f, h) = last_there c cs in
    let same : other ≡ id = cc in
    ap (λ i. has_id (c ∷ cs) i) (sym same) ∙ h
