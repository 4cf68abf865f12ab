-- What one more mark operation, with the greatest id, decides.
use Rattle.std.proofs.Common.{◌≡◌, ℕ, ◌<◌, Bool, true, cond, ◌&&◌, inl, inr, List, [], ◌∷◌, ◌++◌, filter, Some, arith, ap, refl, ◌∙◌, append-nil}
use Rattle.std.specs.Prelude.{◌==◌, option_and_then}
use Rattle.std.specs.List.{cons_option}
use Rattle.std.proofs.lemmas.Bool.{cases_Bool, eq-eqb, lt-ltb}
use Rattle.std.proofs.lemmas.List.Elements.{filter-append}
use Rattle.op_ids.specs.Id.{Id, is_below}
use Rattle.op_model.specs.declared.op.Op.{Op}
use Rattle.op_model.specs.declared.op.Body.{Body}
use Rattle.op_model.specs.declared.op.Body.TheVariants.{Insert, Remove, AddMark, RemoveMark}
use Rattle.op_model.specs.declared.character.Character.{Character}
use Rattle.op_model.specs.declared.mark.MarkKey.{MarkKey}
use Rattle.op_model.specs.declared.marking.Marking.{Marking}
use Rattle.op_model.specs.Marks.{marking_of, markings, is_key, greatest}
use Rattle.op_model.specs.Places.{covers}
use Rattle.op_model.specs.Spans.{decided}
use Rattle.op_model.specs.Made.{greatest_counter}
use Rattle.model_laws.proofs.Ids.{below_by_counter}
use Rattle.model_laws.proofs.Growth.{markings-append}

-- all of these have smaller ids
abbrev AreUnder : Id → List Marking → Type 0
AreUnder id [] = Unit {0}
AreUnder id (m ∷ ms) = (is_below m.id id ≡ true) × AreUnder id ms

AreUnder-filter : (p : Marking → Bool) (id : Id) (ms : List Marking) → AreUnder id ms → AreUnder id (filter p ms)
AreUnder-filter p id [] h = tt
AreUnder-filter p id (m ∷ ms) h = elim (cases_Bool (p m)) [ inl e ↦ rw e (h.0, AreUnder-filter p id ms h.1) | inr e ↦ rw e (AreUnder-filter p id ms h.1) ]

greatest-last : (ms : List Marking) (n : Marking) → AreUnder n.id ms → greatest (ms ++ n ∷ []) ≡ Some n
greatest-last [] n h = refl
greatest-last (m ∷ ms) n h = let e : is_below m.id n.id ≡ true = h.0 in rw (greatest-last ms n h.1, e) refl

under_body : (id opid : Id) (b : Body) (ms : List Marking) → is_below opid id ≡ true → AreUnder id ms
    → AreUnder id (cons_option (marking_of opid b) ms)
under_body id opid (Insert origin value) ms e h = h
under_body id opid (Remove target) ms e h = h
under_body id opid (AddMark mark start end) ms e h = (e, h)
under_body id opid (RemoveMark key start end) ms e h = (e, h)

markings_under : (ops : List Op) (doc : ℕ) (id : Id) → greatest_counter ops < id.counter
    → AreUnder id (markings ops doc)
markings_under [] doc id l = tt
markings_under (op ∷ ops) doc id l =
    elim (cases_Bool (op.doc == doc)) [
      | inl d ↦ rw d (under_body id op.id op.body (markings ops doc) (below_by_counter op.id id (lt-ltb op.id.counter id.counter (omega arith))) (markings_under ops doc id (omega arith)))
      | inr d ↦ rw d (markings_under ops doc id (omega arith))
    ]

marking_last : (ops : List Op) (doc : ℕ) (op : Op) (m : Marking) → op.doc ≡ doc → marking_of op.id op.body ≡ Some m
    → markings (ops ++ op ∷ []) doc ≡ markings ops doc ++ m ∷ []
marking_last ops doc op m d e = markings-append ops (op ∷ []) doc ∙ ap (λ xs. markings ops doc ++ xs) last
  where
    last : markings (op ∷ []) doc ≡ m ∷ []
    last = rw (eq-eqb op.doc doc d, e) refl

-- a mark operation with the greatest id decides where it covers, and elsewhere nothing changes
pub decided-push : (cs : List Character) (ops : List Op) (doc k : ℕ) (key : MarkKey) (op : Op) (m : Marking)
    → op.doc ≡ doc → marking_of op.id op.body ≡ Some m
    → greatest_counter ops < m.id.counter
    → decided cs (markings (ops ++ op ∷ []) doc) k key ≡ cond (is_key m.key key && covers cs k m) m.mark (decided cs (markings ops doc) k key)
decided-push cs ops doc k key op m d e l =
    ap (λ ms. decided cs ms k key) (marking_last ops doc op m d e)
    ∙ ap (λ ms. option_and_then (λ x. x.mark) (greatest ms)) (filter-append (λ x. is_key x.key key && covers cs k x) (markings ops doc) (m ∷ []))
    ∙ elim (cases_Bool (is_key m.key key && covers cs k m)) [
      | inl f ↦ rw (
        f,
        greatest-last (filter (λ x. is_key x.key key && covers cs k x) (markings ops doc)) m
            (AreUnder-filter (λ x. is_key x.key key && covers cs k x) m.id (markings ops doc) (markings_under ops doc m.id l)),
      ) refl
      | inr f ↦ rw (f, append-nil) refl
    ]
