-- Which mark operation decides, and which comments are named, don't depend on the order of the operations.
use Rattle.std.proofs.Common.{◌≡◌, ℕ, ◌<◌, Bool, true, false, cond, inl, inr, List, [], ◌∷◌, filter, filter_map, Option, Some, None, arith, ap, refl, ◌∙◌, sym}
use Rattle.std.specs.Prelude.{◌==◌}
use Rattle.std.specs.List.{cons_option}
use Rattle.std.proofs.lemmas.Bool.{cases_Bool, cases_order, lt-ltb, le-ltb, eq-eqb, ne_eqb}
use Rattle.op_ids.specs.Id.{Id, is_below, is_same}
use Rattle.op_model.specs.declared.op.Op.{Op}
use Rattle.op_model.specs.declared.op.Body.{Body}
use Rattle.op_model.specs.declared.op.Body.TheVariants.{Insert, Remove, AddMark, RemoveMark}
use Rattle.op_model.specs.declared.marking.Marking.{Marking}
use Rattle.op_model.specs.Marks.{marking_of, markings, greater, greatest, key_of}
use Rattle.op_model.specs.Spans.{comment_of, with_number, rising, comment_ids}
use Rattle.model_laws.proofs.Ids.{below_chain, below_other, below_turned, same_swapped}

below_between : (a b c : Id) → is_below a c ≡ true → is_below b c ≡ false → is_same a b ≡ false → is_below a b ≡ true
below_between a b c e f d = elim (cases_Bool (is_below a b)) [ inl g ↦ g | inr g ↦ let k : is_below b c ≡ true = below_chain b a c (below_other a b g d) e in cc ]

greater_pair : (m n : Marking) → is_same m.id n.id ≡ false → greater m (Some n) ≡ greater n (Some m)
greater_pair m n d =
    elim (cases_Bool (is_below m.id n.id)) [
      | inl e ↦ rw (e, below_turned m.id n.id e) refl
      | inr e ↦ rw (e, below_other m.id n.id e d) refl
    ]

greater_swapped : (m n : Marking) (z : Option Marking) → is_same m.id n.id ≡ false
    → greater m (Some (greater n z)) ≡ greater n (Some (greater m z))
greater_swapped m n None d = greater_pair m n d
greater_swapped m n (Some k) d =
    elim (cases_Bool (is_below m.id k.id)) [
      | inl e ↦ elim (cases_Bool (is_below n.id k.id)) [
        | inl f ↦ simp (e, f)
        | inr f ↦ simp (e, f, below_between m.id n.id k.id e f d)
      ]
      | inr e ↦ elim (cases_Bool (is_below n.id k.id)) [
        | inl f ↦ simp (e, f, below_between n.id m.id k.id f e (same_swapped n.id m.id ∙ d))
        | inr f ↦ rw (e, f) (greater_pair m n d)
      ]
    ]

-- with a marking before it, if it passes
abbrev pub with_passing : (Marking → Bool) → Option Marking → Option Marking → Option Marking
with_passing p None z = z
with_passing p (Some m) z = cond (p m) (Some (greater m z)) z

passing_swapped : (p : Marking → Bool) (m n : Marking) (z : Option Marking) → is_same m.id n.id ≡ false
    → with_passing p (Some m) (with_passing p (Some n) z) ≡ with_passing p (Some n) (with_passing p (Some m) z)
passing_swapped p m n z d =
    elim (cases_Bool (p m)) [
      | inl e ↦ elim (cases_Bool (p n)) [ inl f ↦ rw (e, f) (ap Some (greater_swapped m n z d)) | inr f ↦ rw f refl ]
      | inr e ↦ rw e refl
    ]

markings_swapped : (p : Marking → Bool) (i j : Id) (b c : Body) (z : Option Marking) → is_same i j ≡ false
    → with_passing p (marking_of i b) (with_passing p (marking_of j c) z) ≡ with_passing p (marking_of j c) (with_passing p (marking_of i b) z)
markings_swapped p i j (Insert origin value) c z d = refl
markings_swapped p i j (Remove target) c z d = refl
markings_swapped p i j (AddMark mark start end) (Insert origin value) z d = refl
markings_swapped p i j (AddMark mark start end) (Remove target) z d = refl
markings_swapped p i j (AddMark mark start end) (AddMark mark' start' end') z d = passing_swapped p
    (record { id = i; key = key_of mark; mark = Some mark; start = start; end = end })
    (record { id = j; key = key_of mark'; mark = Some mark'; start = start'; end = end' }) z d
markings_swapped p i j (AddMark mark start end) (RemoveMark key' start' end') z d = passing_swapped p
    (record { id = i; key = key_of mark; mark = Some mark; start = start; end = end })
    (record { id = j; key = key'; mark = None; start = start'; end = end' }) z d
markings_swapped p i j (RemoveMark key start end) (Insert origin value) z d = refl
markings_swapped p i j (RemoveMark key start end) (Remove target) z d = refl
markings_swapped p i j (RemoveMark key start end) (AddMark mark' start' end') z d = passing_swapped p
    (record { id = i; key = key; mark = None; start = start; end = end })
    (record { id = j; key = key_of mark'; mark = Some mark'; start = start'; end = end' }) z d
markings_swapped p i j (RemoveMark key start end) (RemoveMark key' start' end') z d = passing_swapped p
    (record { id = i; key = key; mark = None; start = start; end = end })
    (record { id = j; key = key'; mark = None; start = start'; end = end' }) z d

-- what one more operation does to the greatest passing marking
abbrev pub greatest_step : (Marking → Bool) → ℕ → Op → Option Marking → Option Marking
greatest_step p doc op z = cond (op.doc == doc) (with_passing p (marking_of op.id op.body) z) z

greatest_of_more : (p : Marking → Bool) (o : Option Marking) (ms : List Marking)
    → greatest (filter p (cons_option o ms)) ≡ with_passing p o (greatest (filter p ms))
greatest_of_more p None ms = refl
greatest_of_more p (Some m) ms = elim (cases_Bool (p m)) [ inl e ↦ rw e refl | inr e ↦ rw e refl ]

pub greatest_more : (p : Marking → Bool) (doc : ℕ) (op : Op) (ops : List Op)
    → greatest (filter p (markings (op ∷ ops) doc)) ≡ greatest_step p doc op (greatest (filter p (markings ops doc)))
greatest_more p doc op ops =
    elim (cases_Bool (op.doc == doc)) [
      | inl e ↦ rw e (greatest_of_more p (marking_of op.id op.body) (markings ops doc))
      | inr e ↦ rw e refl
    ]

pub greatest_swapped : (p : Marking → Bool) (doc : ℕ) (x y : Op) (z : Option Marking) → is_same x.id y.id ≡ false
    → greatest_step p doc x (greatest_step p doc y z) ≡ greatest_step p doc y (greatest_step p doc x z)
greatest_swapped p doc x y z d =
    elim (cases_Bool (x.doc == doc)) [
      | inl e ↦ elim (cases_Bool (y.doc == doc)) [ inl f ↦ rw (e, f) (markings_swapped p x.id y.id x.body y.body z d) | inr f ↦ rw f refl ]
      | inr e ↦ rw e refl
    ]

abbrev pub with_optional : Option ℕ → List ℕ → List ℕ
with_optional None ns = ns
with_optional (Some n) ns = with_number n ns

-- the comment that a marking is about, if there is one
abbrev pub commented : Option Marking → Option ℕ
commented None = None
commented (Some m) = comment_of m.key

number_swapped_below : (a b : ℕ) (ns : List ℕ) → a < b
    → with_number a (with_number b ns) ≡ with_number b (with_number a ns)
number_swapped_below a b [] h = simp (lt-ltb a b h, le-ltb b a (omega arith), ne_eqb b a (omega arith))
number_swapped_below a b (c ∷ ns) h =
    elim (cases_order b c) [
      | inl e ↦ simp (lt-ltb a b h, le-ltb b a (omega arith), ne_eqb b a (omega arith), le-ltb b c (omega arith), eq-eqb b c e, lt-ltb a c (omega arith))
      | inr o ↦ elim o [
        | inl l ↦ simp (lt-ltb a b h, le-ltb b a (omega arith), ne_eqb b a (omega arith), lt-ltb b c l, lt-ltb a c (omega arith))
        | inr l ↦ elim (cases_order a c) [
          | inl e ↦ simp (le-ltb b c (omega arith), ne_eqb b c (omega arith), le-ltb a c (omega arith), eq-eqb a c e)
          | inr q ↦ elim q [
            | inl k ↦ simp (lt-ltb a b h, le-ltb b a (omega arith), ne_eqb b a (omega arith), le-ltb b c (omega arith), ne_eqb b c (omega arith), lt-ltb a c k)
            | inr k ↦ simp (le-ltb b c (omega arith), ne_eqb b c (omega arith), le-ltb a c (omega arith), ne_eqb a c (omega arith))
                (ap (λ xs. c ∷ xs) (number_swapped_below a b ns h))
          ]
        ]
      ]
    ]

pub number_swapped : (a b : ℕ) (ns : List ℕ) → with_number a (with_number b ns) ≡ with_number b (with_number a ns)
number_swapped a b ns =
    elim (cases_order a b) [
      | inl e ↦ rw e refl
      | inr o ↦ elim o [ inl h ↦ number_swapped_below a b ns h | inr h ↦ sym (number_swapped_below b a ns h) ]
    ]

optional_swapped : (a b : Option ℕ) (ns : List ℕ)
    → with_optional a (with_optional b ns) ≡ with_optional b (with_optional a ns)
optional_swapped None b ns = refl
optional_swapped (Some a) None ns = refl
optional_swapped (Some a) (Some b) ns = number_swapped a b ns

rising_of_more : (o : Option ℕ) (ns : List ℕ) → rising (cons_option o ns) ≡ with_optional o (rising ns)
rising_of_more None ns = refl
rising_of_more (Some n) ns = refl

comments_of_more : (o : Option Marking) (ms : List Marking)
    → comment_ids (cons_option o ms) ≡ with_optional (commented o) (comment_ids ms)
comments_of_more None ms = refl
comments_of_more (Some m) ms = rising_of_more (comment_of m.key) (filter_map (λ n. comment_of n.key) ms)

-- what one more operation does to the named comments
abbrev pub comments_step : ℕ → Op → List ℕ → List ℕ
comments_step doc op ns = cond (op.doc == doc) (with_optional (commented (marking_of op.id op.body)) ns) ns

pub comments_more : (doc : ℕ) (op : Op) (ops : List Op)
    → comment_ids (markings (op ∷ ops) doc) ≡ comments_step doc op (comment_ids (markings ops doc))
comments_more doc op ops =
    elim (cases_Bool (op.doc == doc)) [
      | inl e ↦ rw e (comments_of_more (marking_of op.id op.body) (markings ops doc))
      | inr e ↦ rw e refl
    ]

pub comments_swapped : (doc : ℕ) (x y : Op) (ns : List ℕ)
    → comments_step doc x (comments_step doc y ns) ≡ comments_step doc y (comments_step doc x ns)
comments_swapped doc x y ns =
    elim (cases_Bool (x.doc == doc)) [
      | inl e ↦ elim (cases_Bool (y.doc == doc)) [
        | inl f ↦ rw (e, f) (optional_swapped (commented (marking_of x.id x.body)) (commented (marking_of y.id y.body)) ns)
        | inr f ↦ rw f refl
      ]
      | inr e ↦ rw e refl
    ]
