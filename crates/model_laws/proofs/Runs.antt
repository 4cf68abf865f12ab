-- Spans: their texts make up the text, neighbours differ in their marks, and none is empty.
use Rattle.std.proofs.Common.{◌≡◌, ◌↔◌, ℕ, ◌+◌, eqb, Bool, true, false, not, ◌&&◌, inl, inr, List}
use Rattle.std.proofs.Common.{[], ◌∷◌, map, filter, Option, Some, None, arith, ap, refl, ◌∙◌}
use Rattle.std.specs.List.{concat}
use Rattle.std.proofs.lemmas.Bool.{cases_Bool, and_parts, and_from, eqb-true, eq-eqb, false≢true}
use Rattle.op_model.specs.declared.character.Character.{Character}
use Rattle.op_model.specs.declared.mark.Marks.{Marks}
use Rattle.op_model.specs.declared.span.Span.{Span}
use Rattle.model_laws.specs.Apart.{AreApart, AreFull}
use Rattle.op_model.specs.Spans.{is_same_list, is_same_link, is_same_bool, is_same_marks, with_front, runs, marks_of, spans}
use Rattle.op_model.specs.declared.op.Op.{Op}
use Rattle.op_model.specs.Walk.{walk}
use Rattle.op_model.specs.Text.{is_removed, text}
use Rattle.op_model.specs.Marks.{markings}

list_equal : (a b : List ℕ) → is_same_list a b ≡ true → a ≡ b
list_equal [] [] e = refl
list_equal [] (y ∷ b) e = absurd (false≢true e)
list_equal (x ∷ a) [] e = absurd (false≢true e)
list_equal (x ∷ a) (y ∷ b) e =
    let p : (eqb x y ≡ true) × (is_same_list a b ≡ true) = and_parts (eqb x y) (is_same_list a b) e in
    λ i. eqb-true x y p.0 i ∷ list_equal a b p.1 i

list_same : (a : List ℕ) → is_same_list a a ≡ true
list_same [] = refl
list_same (x ∷ a) = and_from (eqb x x) (is_same_list a a) (eq-eqb x x refl) (list_same a)

link_equal : (a b : Option (List ℕ)) → is_same_link a b ≡ true → a ≡ b
link_equal None None e = refl
link_equal None (Some y) e = absurd (false≢true e)
link_equal (Some x) None e = absurd (false≢true e)
link_equal (Some x) (Some y) e = ap Some (list_equal x y e)

link_same : (a : Option (List ℕ)) → is_same_link a a ≡ true
link_same None = refl
link_same (Some x) = list_same x

bool_equal : (a b : Bool) → is_same_bool a b ≡ true → a ≡ b
bool_equal true true e = refl
bool_equal true false e = absurd (false≢true e)
bool_equal false true e = absurd (false≢true e)
bool_equal false false e = refl

bool_same : (a : Bool) → is_same_bool a a ≡ true
bool_same true = refl
bool_same false = refl

pub marks_equal : (a b : Marks) → is_same_marks a b ≡ true → a ≡ b
marks_equal a b e =
    let s = and_parts (is_same_bool a.strong b.strong && is_same_bool a.em b.em && is_same_link a.link b.link) (is_same_list a.comments b.comments) e in
    let t = and_parts (is_same_bool a.strong b.strong && is_same_bool a.em b.em) (is_same_link a.link b.link) s.0 in
    let u = and_parts (is_same_bool a.strong b.strong) (is_same_bool a.em b.em) t.0 in
    λ i. record {
      strong = bool_equal a.strong b.strong u.0 i;
      em = bool_equal a.em b.em u.1 i;
      link = link_equal a.link b.link t.1 i;
      comments = list_equal a.comments b.comments s.1 i;
    }

pub marks_same : (a : Marks) → is_same_marks a a ≡ true
marks_same a =
    and_from (is_same_bool a.strong a.strong && is_same_bool a.em a.em && is_same_link a.link a.link) (is_same_list a.comments a.comments)
    (and_from (is_same_bool a.strong a.strong && is_same_bool a.em a.em) (is_same_link a.link a.link)
    (and_from (is_same_bool a.strong a.strong) (is_same_bool a.em a.em) (bool_same a.strong) (bool_same a.em)) (link_same a.link))
    (list_same a.comments)

pub marks_decided : (a b : Marks) → (is_same_marks a b ≡ true) ↔ (a ≡ b)
marks_decided a b = (marks_equal a b, λ e. rw e (marks_same b))

front_joined : (value : ℕ) (marks : Marks) (ss : List Span)
    → concat (map (λ s. s.text) (with_front value marks ss)) ≡ value ∷ concat (map (λ s. s.text) ss)
front_joined value marks [] = refl
front_joined value marks (s ∷ ss) = elim (cases_Bool (is_same_marks marks s.marks)) [ inl e ↦ rw e refl | inr e ↦ rw e refl ]

-- the texts of the runs, joined, are the values of the visible characters
pub runs_joined : (hidden : Character → Bool) (marks : ℕ → Marks) (k : ℕ) (cs : List Character)
    → concat (map (λ s. s.text) (runs hidden marks k cs)) ≡ map (λ c. c.value) (filter (λ c. not (hidden c)) cs)
runs_joined hidden marks k [] = refl
runs_joined hidden marks k (c ∷ cs) =
    elim (cases_Bool (hidden c)) [
      | inl e ↦ rw e (runs_joined hidden marks (k + 1) cs)
      | inr e ↦ rw e (front_joined c.value (marks k) (runs hidden marks (k + 1) cs) ∙ ap (λ xs. c.value ∷ xs) (runs_joined hidden marks (k + 1) cs))
    ]

apart_with_text : (s : Span) (ss : List Span) (text : List ℕ) → AreApart (s ∷ ss) → AreApart (record { text = text; marks = s.marks } ∷ ss)
apart_with_text s [] text h = tt
apart_with_text s (t ∷ ss) text h = h

front_apart : (value : ℕ) (marks : Marks) (ss : List Span) → AreApart ss → AreApart (with_front value marks ss)
front_apart value marks [] h = tt
front_apart value marks (s ∷ ss) h =
    elim (cases_Bool (is_same_marks marks s.marks)) [
      | inl e ↦ rw e (apart_with_text s ss (value ∷ s.text) h)
      | inr e ↦ rw e (e, h)
    ]

pub runs_apart : (hidden : Character → Bool) (marks : ℕ → Marks) (k : ℕ) (cs : List Character)
    → AreApart (runs hidden marks k cs)
runs_apart hidden marks k [] = tt
runs_apart hidden marks k (c ∷ cs) =
    elim (cases_Bool (hidden c)) [
      | inl e ↦ rw e (runs_apart hidden marks (k + 1) cs)
      | inr e ↦ rw e (front_apart c.value (marks k) (runs hidden marks (k + 1) cs) (runs_apart hidden marks (k + 1) cs))
    ]

front_full : (value : ℕ) (marks : Marks) (ss : List Span) → AreFull ss → AreFull (with_front value marks ss)
front_full value marks [] h = (omega arith, tt)
front_full value marks (s ∷ ss) h =
    elim (cases_Bool (is_same_marks marks s.marks)) [
      | inl e ↦ rw e (omega arith, h.1)
      | inr e ↦ rw e (omega arith, h)
    ]

pub runs_full : (hidden : Character → Bool) (marks : ℕ → Marks) (k : ℕ) (cs : List Character)
    → AreFull (runs hidden marks k cs)
runs_full hidden marks k [] = tt
runs_full hidden marks k (c ∷ cs) =
    elim (cases_Bool (hidden c)) [
      | inl e ↦ rw e (runs_full hidden marks (k + 1) cs)
      | inr e ↦ rw e (front_full c.value (marks k) (runs hidden marks (k + 1) cs) (runs_full hidden marks (k + 1) cs))
    ]

-- runs go by what is hidden and by the marks, and by nothing else
pub runs_agree : (hidden other : Character → Bool) (marks too : ℕ → Marks) → ((c : Character) → hidden c ≡ other c)
    → ((k : ℕ) → marks k ≡ too k) → (k : ℕ) (cs : List Character) → runs hidden marks k cs ≡ runs other too k cs
runs_agree hidden other marks too h m k [] = refl
runs_agree hidden other marks too h m k (c ∷ cs) =
    rw (h c, m k, runs_agree hidden other marks too h m (k + 1) cs) refl

pub spans_joined : (ops : List Op) (doc : ℕ) → concat (map (λ s. s.text) (spans ops doc)) ≡ text ops doc
spans_joined ops doc = runs_joined (is_removed ops doc) (marks_of (walk ops doc) (markings ops doc)) 0 (walk ops doc)

pub spans_apart : (ops : List Op) (doc : ℕ) → AreApart (spans ops doc)
spans_apart ops doc = runs_apart (is_removed ops doc) (marks_of (walk ops doc) (markings ops doc)) 0 (walk ops doc)

pub spans_full : (ops : List Op) (doc : ℕ) → AreFull (spans ops doc)
spans_full ops doc = runs_full (is_removed ops doc) (marks_of (walk ops doc) (markings ops doc)) 0 (walk ops doc)
