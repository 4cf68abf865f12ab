-- A mark edit decides its key for the characters that it is put on, and changes no other decision.
use Rattle.std.proofs.Common.{◌≡◌, ℕ, ◌+◌, ◌≤◌, ◌<◌, true, false, not, cond, ◌&&◌, List, [], ◌∷◌}
use Rattle.std.proofs.Common.{◌++◌, length, filter, Option, Some, None, arith, ap, refl, ◌∙◌, sym, subst}
use Rattle.std.specs.Prelude.{nat_lt, nat_le}
use Rattle.std.proofs.lemmas.Bool.{and_parts, ltb-true, leb-true}
use Rattle.op_ids.specs.Id.{Id}
use Rattle.op_model.specs.declared.op.Op.{Op}
use Rattle.op_model.specs.declared.op.Body.TheVariants as body
use Rattle.op_model.specs.declared.character.Character.{Character}
use Rattle.op_model.specs.declared.edit.Change.{Change}
use Rattle.op_model.specs.declared.edit.Change.TheVariants as change
use Rattle.op_model.specs.declared.edit.Edit.{Edit}
use Rattle.op_model.specs.declared.mark.Mark.{Mark}
use Rattle.op_model.specs.declared.mark.MarkKey.{MarkKey}
use Rattle.op_model.specs.declared.marking.Marking.{Marking}
use Rattle.op_model.specs.Walk.{walk, times}
use Rattle.op_model.specs.Text.{is_removed, visible}
use Rattle.op_model.specs.Marks.{marking_of, markings, key_of, is_key}
use Rattle.op_model.specs.Places.{covers}
use Rattle.op_model.specs.Spans.{decided}
use Rattle.op_model.specs.Causality.{clock_of, is_within_limits, MayFollow, FollowInTurn, IsCausallyClosed}
use Rattle.op_model.specs.Made.{start_of, end_of, greatest_counter, numbered, bodies_of, is_inside, made}
use Rattle.op_model.specs.Characters.{character_of}
use Rattle.model_laws.specs.Changed.{shown_before, is_between}
use Rattle.model_laws.proofs.Closed.{closed_orderly}
use Rattle.model_laws.proofs.Family.{orderly_once}
use Rattle.model_laws.proofs.Covered.{covers_between}
use Rattle.model_laws.proofs.Decided.{decided-push}
use Rattle.model_laws.proofs.Erased.{plain_step}
use Rattle.model_laws.proofs.Makes.{made_follow}

-- a mark operation that is put on the text from one index to another
marking_decides : (ops : List Op) (doc from to : ℕ) (k key : MarkKey) (op : Op) (m : Marking) (front rest : List Character) (c : Character)
    → IsCausallyClosed ops → MayFollow ops op → op.doc ≡ doc → character_of op.id op.body ≡ None → marking_of op.id op.body ≡ Some m
    → greatest_counter ops < m.id.counter → from < to → to ≤ length (visible ops doc)
    → m.start ≡ start_of (visible ops doc) from → m.end ≡ end_of (visible ops doc) k to
    → walk ops doc ≡ front ++ c ∷ rest → is_removed ops doc c ≡ false
    → decided (walk (ops ++ op ∷ []) doc) (markings (ops ++ op ∷ []) doc) (length front) key
    ≡ cond (is_key m.key key && is_between from to (shown_before ops doc front)) m.mark (decided (walk ops doc) (markings ops doc) (length front) key)
marking_decides ops doc from to k key op m front rest c h f d n e l less within s t w v =
    let once : (id : Id) → times id (front ++ c ∷ rest) ≤ 1 = λ id. rw (ap (λ xs. times id xs) w) at (orderly_once ops doc id (closed_orderly ops doc h)) in
    let shown : visible ops doc ≡ filter (λ x. not (is_removed ops doc x)) (front ++ c ∷ rest) = ap (λ xs. filter (λ x. not (is_removed ops doc x)) xs) w in
    let covered : covers (front ++ c ∷ rest) (length front) m ≡ is_between from to (shown_before ops doc front) =
    covers_between (is_removed ops doc) front c rest v once m k from to less (rw (ap (λ xs. length xs) shown) at within)
    (s ∙ ap (λ xs. start_of xs from) shown) (t ∙ ap (λ xs. end_of xs k to) shown) in
    ap (λ cs. decided cs (markings (ops ++ op ∷ []) doc) (length front) key) (plain_step ops doc op h f d n)
    ∙ decided-push (walk ops doc) ops doc (length front) key op m d e l
    ∙ ap (λ r. cond (is_key m.key key && r) m.mark (decided (walk ops doc) (markings ops doc) (length front) key))
    (ap (λ cs. covers cs (length front) m) w ∙ covered)

pub inside_parts : (from to n : ℕ) → (nat_lt from to && nat_le to n) ≡ true → (from < to) × (to ≤ n)
inside_parts from to n e = let p = and_parts (nat_lt from to) (nat_le to n) e in (ltb-true from to p.0, leb-true to n p.1)

-- the list with the operations of a change
abbrev with_change : List Op → ℕ → ℕ → Option ℕ → Change → List Op
with_change ops replica doc token x = ops ++ numbered replica doc token (greatest_counter ops + 1) (clock_of ops) (bodies_of ops replica doc x)

module _ (ops : List Op) (replica doc : ℕ) (token : Option ℕ) (from to : ℕ) (key : MarkKey) (front rest : List Character) (c : Character) (h : IsCausallyClosed ops)
    (w : walk ops doc ≡ front ++ c ∷ rest) (v : is_removed ops doc c ≡ false) where
  mark_decides : (mark : Mark) → is_inside (length (visible ops doc)) (change.Mark from to mark) ≡ true
      → FollowInTurn ops (numbered replica doc token (greatest_counter ops + 1) (clock_of ops) (bodies_of ops replica doc (change.Mark from to mark)))
      → decided (walk (with_change ops replica doc token (change.Mark from to mark)) doc) (markings (with_change ops replica doc token (change.Mark from to mark)) doc) (length front) key
      ≡ cond (is_key (key_of mark) key && is_between from to (shown_before ops doc front)) (Some mark) (decided (walk ops doc) (markings ops doc) (length front) key)
  mark_decides mark i f =
      let p = inside_parts from to (length (visible ops doc)) i in
      let id : Id = record { counter = greatest_counter ops + 1; replica = replica } in
      let m : Marking = record { id = id; key = key_of mark; mark = Some mark; start = start_of (visible ops doc) from; end = end_of (visible ops doc) (key_of mark) to } in
      marking_decides ops doc from to (key_of mark) key
      (record { id = id; doc = doc; token = token; deps = clock_of ops; body = body.AddMark mark (start_of (visible ops doc) from) (end_of (visible ops doc) (key_of mark) to) })
      m front rest c h f.0 refl refl refl (omega arith) p.0 p.1 refl refl w v

  unmark_decides : (k : MarkKey) → is_inside (length (visible ops doc)) (change.Unmark from to k) ≡ true
      → FollowInTurn ops (numbered replica doc token (greatest_counter ops + 1) (clock_of ops) (bodies_of ops replica doc (change.Unmark from to k)))
      → decided (walk (with_change ops replica doc token (change.Unmark from to k)) doc) (markings (with_change ops replica doc token (change.Unmark from to k)) doc) (length front) key
      ≡ cond (is_key k key && is_between from to (shown_before ops doc front)) None (decided (walk ops doc) (markings ops doc) (length front) key)
  unmark_decides k i f =
      let p = inside_parts from to (length (visible ops doc)) i in
      let id : Id = record { counter = greatest_counter ops + 1; replica = replica } in
      let m : Marking = record { id = id; key = k; mark = None; start = start_of (visible ops doc) from; end = end_of (visible ops doc) k to } in
      marking_decides ops doc from to k key
      (record { id = id; doc = doc; token = token; deps = clock_of ops; body = body.RemoveMark k (start_of (visible ops doc) from) (end_of (visible ops doc) k to) })
      m front rest c h f.0 refl refl refl (omega arith) p.0 p.1 refl refl w v

  -- the same of a change that is known to be one of these
  change_marks : (x : Change) (mark : Mark) → x ≡ change.Mark from to mark
      → is_inside (length (visible ops doc)) x ≡ true
      → FollowInTurn ops (numbered replica doc token (greatest_counter ops + 1) (clock_of ops) (bodies_of ops replica doc x))
      → decided (walk (with_change ops replica doc token x) doc) (markings (with_change ops replica doc token x) doc) (length front) key
      ≡ cond (is_key (key_of mark) key && is_between from to (shown_before ops doc front)) (Some mark) (decided (walk ops doc) (markings ops doc) (length front) key)
  change_marks x mark s i f =
      ap (λ y. decided (walk (with_change ops replica doc token y) doc) (markings (with_change ops replica doc token y) doc) (length front) key) s
      ∙ mark_decides mark (ap (λ y. is_inside (length (visible ops doc)) y) (sym s) ∙ i)
      (subst (λ y. FollowInTurn ops (numbered replica doc token (greatest_counter ops + 1) (clock_of ops) (bodies_of ops replica doc y))) s f)

  change_unmarks : (x : Change) (k : MarkKey) → x ≡ change.Unmark from to k
      → is_inside (length (visible ops doc)) x ≡ true
      → FollowInTurn ops (numbered replica doc token (greatest_counter ops + 1) (clock_of ops) (bodies_of ops replica doc x))
      → decided (walk (with_change ops replica doc token x) doc) (markings (with_change ops replica doc token x) doc) (length front) key
      ≡ cond (is_key k key && is_between from to (shown_before ops doc front)) None (decided (walk ops doc) (markings ops doc) (length front) key)
  change_unmarks x k s i f =
      ap (λ y. decided (walk (with_change ops replica doc token y) doc) (markings (with_change ops replica doc token y) doc) (length front) key) s
      ∙ unmark_decides k (ap (λ y. is_inside (length (visible ops doc)) y) (sym s) ∙ i)
      (subst (λ y. FollowInTurn ops (numbered replica doc token (greatest_counter ops + 1) (clock_of ops) (bodies_of ops replica doc y))) s f)

pub made_marks : (ops : List Op) (replica : ℕ) (e : Edit) (from to : ℕ) (mark : Mark) (key : MarkKey) (front rest : List Character) (c : Character)
    → IsCausallyClosed ops → e.change ≡ change.Mark from to mark → is_inside (length (visible ops e.doc)) e.change ≡ true
    → is_within_limits (ops ++ made ops replica e) ≡ true → walk ops e.doc ≡ front ++ c ∷ rest → is_removed ops e.doc c ≡ false
    → decided (walk (ops ++ made ops replica e) e.doc) (markings (ops ++ made ops replica e) e.doc) (length front) key
    ≡ cond (is_key (key_of mark) key && is_between from to (shown_before ops e.doc front)) (Some mark) (decided (walk ops e.doc) (markings ops e.doc) (length front) key)
made_marks ops replica e from to mark key front rest c h s i l w v =
    change_marks ops replica e.doc e.token from to key front rest c h w v e.change mark s i (made_follow ops replica e l)

pub made_unmarks : (ops : List Op) (replica : ℕ) (e : Edit) (from to : ℕ) (k key : MarkKey) (front rest : List Character) (c : Character)
    → IsCausallyClosed ops → e.change ≡ change.Unmark from to k → is_inside (length (visible ops e.doc)) e.change ≡ true
    → is_within_limits (ops ++ made ops replica e) ≡ true → walk ops e.doc ≡ front ++ c ∷ rest → is_removed ops e.doc c ≡ false
    → decided (walk (ops ++ made ops replica e) e.doc) (markings (ops ++ made ops replica e) e.doc) (length front) key
    ≡ cond (is_key k key && is_between from to (shown_before ops e.doc front)) None (decided (walk ops e.doc) (markings ops e.doc) (length front) key)
made_unmarks ops replica e from to k key front rest c h s i l w v =
    change_unmarks ops replica e.doc e.token from to key front rest c h w v e.change k s i (made_follow ops replica e l)
