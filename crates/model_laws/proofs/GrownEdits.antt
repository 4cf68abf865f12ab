-- What a mark that an edit puts on, or takes away, covers of a text that a later edit inserts.
use Rattle.std.proofs.Common.{◌≡◌, ℕ, ◌+◌, ◌≤◌, ◌<◌, true, false, not, cond, List, [], ◌∷◌, ◌++◌, length, filter, filter_map, Option, Some, None}
use Rattle.std.proofs.Common.{arith, ap, refl, ◌∙◌, sym, subst}
use Rattle.std.specs.Prelude.{◌==◌}
use Rattle.std.proofs.lemmas.Bool.{eq-eqb, leb-true}
use Rattle.std.proofs.lemmas.List.{length-take-le}
use Rattle.std.proofs.lemmas.List.Elements.{filter_agree}
use Rattle.op_ids.specs.Id.{Id}
use Rattle.op_model.specs.declared.op.Op.{Op}
use Rattle.op_model.specs.declared.op.Body.TheVariants as body
use Rattle.op_model.specs.declared.character.Character.{Character}
use Rattle.op_model.specs.declared.edit.Change.{Change}
use Rattle.op_model.specs.declared.edit.Change.TheVariants as change
use Rattle.op_model.specs.declared.edit.Edit.{Edit}
use Rattle.op_model.specs.declared.mark.Mark.{Mark}
use Rattle.op_model.specs.declared.mark.MarkKey.{MarkKey}
use Rattle.op_model.specs.declared.marking.Marking.{Marking}
use Rattle.op_model.specs.Characters.{character_of}
use Rattle.op_model.specs.Walk.{walk}
use Rattle.op_model.specs.Text.{is_removed, is_removal_of, visible}
use Rattle.op_model.specs.Marks.{marking_of, markings, key_of}
use Rattle.op_model.specs.Places.{covers}
use Rattle.op_model.specs.Causality.{clock_of}
use Rattle.op_model.specs.Made.{start_of, end_of, origin_of, greatest_counter, numbered, bodies_of, is_inside, made}
use Rattle.op_model.specs.Placing.{has_id, placed, Fits, FitInTurn, IsOrderly}
use Rattle.model_laws.specs.Changed.{takes_in}
use Rattle.model_laws.proofs.Ops.{orderly_placed}
use Rattle.model_laws.proofs.Family.{orderly_once}
use Rattle.model_laws.proofs.Growth.{fit_both, orderly_push}
use Rattle.model_laws.proofs.Makes.{made_fit_in_turn}
use Rattle.model_laws.proofs.Typed.{IsCursor, cursor_of, walk_typed, removed_kept, character_here}
use Rattle.model_laws.proofs.MarkEdits.{inside_parts}
use Rattle.model_laws.proofs.Grown.{covers_new}

-- the operations of a change
abbrev done_by : List Op → ℕ → ℕ → Option ℕ → Change → List Op
done_by ops replica doc token x = numbered replica doc token (greatest_counter ops + 1) (clock_of ops) (bodies_of ops replica doc x)

-- an operation that neither makes nor removes a character leaves the text as it is
plain_visible : (ops : List Op) (doc : ℕ) (op : Op) → IsOrderly ops doc → (op.doc ≡ doc → Fits ops doc op) → op.doc ≡ doc
    → character_of op.id op.body ≡ None → ((id : Id) → is_removal_of id op.body ≡ false) → visible (ops ++ op ∷ []) doc ≡ visible ops doc
plain_visible ops doc op h f d n k =
    ap (λ cs. filter (λ c. not (is_removed (ops ++ op ∷ []) doc c)) cs) (orderly_placed ops doc op h f ∙ ap (λ m. placed m (walk ops doc)) (character_here doc op d ∙ n))
    ∙ filter_agree (λ c. not (is_removed (ops ++ op ∷ []) doc c)) (λ c. not (is_removed ops doc c)) (λ c. ap not (removed_kept ops doc op k c)) (walk ops doc)

-- a mark operation that was put on the text from one index to another, and then an insert
grown : (ops : List Op) (doc : ℕ) (op : Op) (m : Marking) (from to replica : ℕ) (token : Option ℕ) (at : ℕ) (added : List ℕ) (front rest : List Character) (c : Character)
    → IsOrderly ops doc → (op.doc ≡ doc → Fits ops doc op) → op.doc ≡ doc → character_of op.id op.body ≡ None
    → ((id : Id) → is_removal_of id op.body ≡ false) → from < to → to ≤ length (visible ops doc)
    → m.start ≡ start_of (visible ops doc) from → m.end ≡ end_of (visible ops doc) m.key to → at ≤ length (visible ops doc)
    → FitInTurn (ops ++ op ∷ []) doc (done_by (ops ++ op ∷ []) replica doc token (change.Insert at added))
    → walk ((ops ++ op ∷ []) ++ done_by (ops ++ op ∷ []) replica doc token (change.Insert at added)) doc ≡ front ++ c ∷ rest
    → has_id (walk (ops ++ op ∷ []) doc) c.id ≡ false
    → covers (walk ((ops ++ op ∷ []) ++ done_by (ops ++ op ∷ []) replica doc token (change.Insert at added)) doc) (length front) m ≡ takes_in m.key from to at
grown ops doc op m from to replica token at added front rest c h f d n k less within s e inside fit parts fresh =
    let more = ops ++ op ∷ [] in
    let orderly = orderly_push ops doc op h f in
    let same : visible more doc ≡ visible ops doc = plain_visible ops doc op h f d n k in
    let there : at ≤ length (visible more doc) = rw same inside in
    let (g, r, q) = cursor_of more doc at there in
    let (new, whole) = walk_typed added more replica doc token (greatest_counter more + 1) (clock_of more) (origin_of more doc at) g r orderly fit (omega arith) q.whole q.last in
    let split : visible ops doc ≡ filter (λ x. not (is_removed more doc x)) (g ++ r) = sym same ∙ ap (λ cs. filter (λ x. not (is_removed more doc x)) cs) q.whole in
    covers_new (is_removed more doc) (walk (more ++ done_by more replica doc token (change.Insert at added)) doc) g new r front rest c at whole parts
    (λ id. orderly_once (more ++ done_by more replica doc token (change.Insert at added)) doc id (fit_both [] more (done_by more replica doc token (change.Insert at added)) doc orderly fit))
    (sym (ap (λ cs. has_id cs c.id) q.whole) ∙ fresh) (ap length q.seen_before ∙ length-take-le at (visible more doc) there)
    m from to (rw (← split) inside) less (rw (← split) within) (s ∙ ap (λ xs. start_of xs from) split) (e ∙ ap (λ xs. end_of xs m.key to) split)

-- what the one mark operation of a change covers of the characters of a later change
abbrev GrowsBy : List Op → ℕ → ℕ → Option ℕ → Change → ℕ → ℕ → Option ℕ → Change → MarkKey → ℕ → ℕ → ℕ → Type 0
GrowsBy ops replica doc token x other where_to later y k from to at =
    (m : Marking) (front rest : List Character) (c : Character) → markings (done_by ops replica doc token x) doc ≡ m ∷ []
    → walk ((ops ++ done_by ops replica doc token x) ++ done_by (ops ++ done_by ops replica doc token x) other where_to later y) doc ≡ front ++ c ∷ rest
    → has_id (walk (ops ++ done_by ops replica doc token x) doc) c.id ≡ false
    → covers (walk ((ops ++ done_by ops replica doc token x) ++ done_by (ops ++ done_by ops replica doc token x) other where_to later y) doc) (length front) m
    ≡ takes_in k from to at

-- the only mark operation of a list
only_is : (a b : Marking) (rest : List Marking) → a ∷ rest ≡ b ∷ [] → a ≡ b
only_is a b rest e = cc

module _ (ops : List Op) (replica doc : ℕ) (token : Option ℕ) (other : ℕ) (later : Option ℕ) (from to at : ℕ) (added : List ℕ)
    (h : IsOrderly ops doc) (less : from < to) (within : to ≤ length (visible ops doc)) (inside : at ≤ length (visible ops doc)) where
  mark_grows : (mark : Mark) → GrowsBy ops replica doc token (change.Mark from to mark) other doc later (change.Insert at added) (key_of mark) from to at
  mark_grows mark m front rest c only parts fresh =
      let id : Id = record { counter = greatest_counter ops + 1; replica = replica } in
      let op : Op = record { id = id; doc = doc; token = token; deps = clock_of ops; body = body.AddMark mark (start_of (visible ops doc) from) (end_of (visible ops doc) (key_of mark) to) } in
      let put : Marking = record { id = id; key = key_of mark; mark = Some mark; start = start_of (visible ops doc) from; end = end_of (visible ops doc) (key_of mark) to } in
      let is : put ≡ m = only_is put m [] (sym (one_marking op put (eq-eqb doc doc refl) refl) ∙ only) in
      let first : FitInTurn ops doc (op ∷ []) = made_fit_in_turn ops replica (record { doc = doc; rev = None; token = token; change = change.Mark from to mark }) in
      let second : FitInTurn (ops ++ op ∷ []) doc (done_by (ops ++ op ∷ []) other doc later (change.Insert at added)) =
      made_fit_in_turn (ops ++ op ∷ []) other (record { doc = doc; rev = None; token = later; change = change.Insert at added }) in
      subst (λ (x : Marking). covers (walk ((ops ++ op ∷ []) ++ done_by (ops ++ op ∷ []) other doc later (change.Insert at added)) doc) (length front) x ≡ takes_in (key_of mark) from to at) is
      (grown ops doc op put from to other later at added front rest c h first.0 refl refl (λ i. refl) less within refl refl inside second parts fresh)
    where
      one_marking : (op : Op) (x : Marking) → (op.doc == doc) ≡ true → marking_of op.id op.body ≡ Some x → markings (op ∷ []) doc ≡ x ∷ []
      one_marking op x d e = rw (d, e) refl

  unmark_grows : (k : MarkKey) → GrowsBy ops replica doc token (change.Unmark from to k) other doc later (change.Insert at added) k from to at
  unmark_grows k m front rest c only parts fresh =
      let id : Id = record { counter = greatest_counter ops + 1; replica = replica } in
      let op : Op = record { id = id; doc = doc; token = token; deps = clock_of ops; body = body.RemoveMark k (start_of (visible ops doc) from) (end_of (visible ops doc) k to) } in
      let put : Marking = record { id = id; key = k; mark = None; start = start_of (visible ops doc) from; end = end_of (visible ops doc) k to } in
      let is : put ≡ m = only_is put m [] (sym (one_marking op put (eq-eqb doc doc refl) refl) ∙ only) in
      let first : FitInTurn ops doc (op ∷ []) = made_fit_in_turn ops replica (record { doc = doc; rev = None; token = token; change = change.Unmark from to k }) in
      let second : FitInTurn (ops ++ op ∷ []) doc (done_by (ops ++ op ∷ []) other doc later (change.Insert at added)) =
      made_fit_in_turn (ops ++ op ∷ []) other (record { doc = doc; rev = None; token = later; change = change.Insert at added }) in
      subst (λ (x : Marking). covers (walk ((ops ++ op ∷ []) ++ done_by (ops ++ op ∷ []) other doc later (change.Insert at added)) doc) (length front) x ≡ takes_in k from to at) is
      (grown ops doc op put from to other later at added front rest c h first.0 refl refl (λ i. refl) less within refl refl inside second parts fresh)
    where
      one_marking : (op : Op) (x : Marking) → (op.doc == doc) ≡ true → marking_of op.id op.body ≡ Some x → markings (op ∷ []) doc ≡ x ∷ []
      one_marking op x d e = rw (d, e) refl

-- the same of edits
pub made_grows : (ops : List Op) (replica : ℕ) (e : Edit) (from to : ℕ) (mark : Mark) (other : ℕ) (l : Edit) (at : ℕ) (added : List ℕ)
    → IsOrderly ops e.doc → e.change ≡ change.Mark from to mark → is_inside (length (visible ops e.doc)) e.change ≡ true
    → l.doc ≡ e.doc → l.change ≡ change.Insert at added → at ≤ length (visible ops e.doc)
    → GrowsBy ops replica e.doc e.token e.change other l.doc l.token l.change (key_of mark) from to at
made_grows ops replica e from to mark other l at added h s i d t inside =
    let p = inside_parts from to (length (visible ops e.doc)) (ap (λ x. is_inside (length (visible ops e.doc)) x) (sym s) ∙ i) in
    subst (λ (x : Change). GrowsBy ops replica e.doc e.token x other l.doc l.token l.change (key_of mark) from to at) (sym s)
    (subst (λ (y : Change). GrowsBy ops replica e.doc e.token (change.Mark from to mark) other l.doc l.token y (key_of mark) from to at) (sym t)
    (subst (λ (n : ℕ). GrowsBy ops replica e.doc e.token (change.Mark from to mark) other n l.token (change.Insert at added) (key_of mark) from to at) (sym d)
    (mark_grows ops replica e.doc e.token other l.token from to at added h p.0 p.1 inside mark)))

pub made_shrinks : (ops : List Op) (replica : ℕ) (e : Edit) (from to : ℕ) (k : MarkKey) (other : ℕ) (l : Edit) (at : ℕ) (added : List ℕ)
    → IsOrderly ops e.doc → e.change ≡ change.Unmark from to k → is_inside (length (visible ops e.doc)) e.change ≡ true
    → l.doc ≡ e.doc → l.change ≡ change.Insert at added → at ≤ length (visible ops e.doc)
    → GrowsBy ops replica e.doc e.token e.change other l.doc l.token l.change k from to at
made_shrinks ops replica e from to k other l at added h s i d t inside =
    let p = inside_parts from to (length (visible ops e.doc)) (ap (λ x. is_inside (length (visible ops e.doc)) x) (sym s) ∙ i) in
    subst (λ (x : Change). GrowsBy ops replica e.doc e.token x other l.doc l.token l.change k from to at) (sym s)
    (subst (λ (y : Change). GrowsBy ops replica e.doc e.token (change.Unmark from to k) other l.doc l.token y k from to at) (sym t)
    (subst (λ (n : ℕ). GrowsBy ops replica e.doc e.token (change.Unmark from to k) other n l.token (change.Insert at added) k from to at) (sym d)
    (unmark_grows ops replica e.doc e.token other l.token from to at added h p.0 p.1 inside k)))
