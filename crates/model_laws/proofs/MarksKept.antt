-- A character that nothing touched since is kept, with its marks.
use Rattle.std.proofs.Common.{◌≡◌, ℕ, Bool, true, false, not, cond, ◌&&◌, ◌||◌, inl, inr, List, [], ◌∷◌, ◌++◌, length, filter, filter_map}
use Rattle.std.proofs.Common.{Some, None, All, arith}
use Rattle.std.proofs.Common.{ap, refl, ◌∙◌, sym, append-nil}
use Rattle.std.specs.Prelude.{◌==◌, is_some, option_and_then}
use Rattle.std.specs.List.{cons_option}
use Rattle.std.proofs.lemmas.Bool.{cases_Bool, or_left, or_parts, and_left, and_right}
use Rattle.std.proofs.lemmas.Bool.{false≢true}
use Rattle.std.proofs.lemmas.List.Elements.{All-tail, filter-append, filter_map-append}
use Rattle.std.proofs.lemmas.List.Folds.{list_any-append}
use Rattle.op_ids.specs.Id.{Id}
use Rattle.op_model.specs.declared.op.Op.{Op}
use Rattle.op_model.specs.declared.character.Character.{Character}
use Rattle.op_model.specs.declared.change_step.ChangeStep.TheVariants.{Keep}
use Rattle.op_model.specs.declared.mark.MarkKey.{MarkKey}
use Rattle.op_model.specs.declared.mark.Marks.{Marks}
use Rattle.op_model.specs.declared.mark.MarkKey.TheVariants as key
use Rattle.op_model.specs.declared.marking.Marking.{Marking}
use Rattle.op_model.specs.Walk.{walk}
use Rattle.op_model.specs.Text.{is_removed, is_removal_of}
use Rattle.op_model.specs.Marks.{markings, is_key, greatest}
use Rattle.op_model.specs.Places.{index_of, covers}
use Rattle.op_model.specs.Spans.{decided, url_of, comment_of, comment_ids, marks_of}
use Rattle.op_model.specs.Placing.{has_id, IsOrderly}
use Rattle.op_model.specs.Changes.{is_shown, marks_at, became, step_of, with_any_step, steps}
use Rattle.op_model.proofs.RisingLemmas.{rising_up}
use Rattle.model_laws.specs.Since.{all_kept, IsUncovered, IsUntouched}
use Rattle.model_laws.proofs.Growth.{orderly_front, markings-append, or-false}
use Rattle.model_laws.proofs.Runs.{marks_same}
use Rattle.model_laws.proofs.Up.{has, has-rising, up_filter, has-filter, same_members}
use Rattle.model_laws.proofs.StepShape.{kept_with}
use Rattle.model_laws.proofs.LaterWalk.{still_there, order_kept}
use Rattle.model_laws.proofs.Untouched.{anchored_walk, passing_same}

-- no mark operation among these covers the k-th character
none_covers : (cs : List Character) (k : ℕ) (ms : List Marking) (key : MarkKey) → All (λ m. covers cs k m ≡ false) ms
    → filter (λ m. is_key m.key key && covers cs k m) ms ≡ []
none_covers cs k [] key h = refl
none_covers cs k (m ∷ ms) key h =
    let e : (is_key m.key key && covers cs k m) ≡ false = and_right (is_key m.key key) (covers cs k m) (h 0 m (omega arith)) in
    rw e (none_covers cs k ms key (All-tail (λ n. covers cs k n ≡ false) m ms h))

-- the comments that mark operations name
abbrev named : List Marking → List ℕ
named ms = filter_map (λ m. comment_of m.key) ms

other_key : (k : MarkKey) (n : ℕ) (ns : List ℕ) → has n (cons_option (comment_of k) ns) ≡ false
    → (is_key k (key.Comment n) ≡ false) × (has n ns ≡ false)
other_key key.Strong n ns e = (refl, e)
other_key key.Em n ns e = (refl, e)
other_key key.Link n ns e = (refl, e)
other_key (key.Comment id) n ns e = or_parts (id == n) (has n ns) e

-- a comment that none of them names isn't decided by any
no_decision : (cs : List Character) (k n : ℕ) (ms : List Marking) → has n (named ms) ≡ false
    → filter (λ m. is_key m.key (key.Comment n) && covers cs k m) ms ≡ []
no_decision cs k n [] e = refl
no_decision cs k n (m ∷ ms) e =
    let p = other_key m.key n (named ms) e in
    let f : (is_key m.key (key.Comment n) && covers cs k m) ≡ false = and_left (is_key m.key (key.Comment n)) (covers cs k m) p.0 in
    rw f (no_decision cs k n ms p.1)

-- the k-th character has a comment
abbrev has_comment : List Character → List Marking → ℕ → ℕ → Bool
has_comment cs ms k n = is_some (decided cs ms k (key.Comment n))

comment_named : (cs : List Character) (ms : List Marking) (k n : ℕ) → has_comment cs ms k n ≡ true → has n (named ms) ≡ true
comment_named cs ms k n e =
    elim (cases_Bool (has n (named ms))) [
      | inl f ↦ f
      | inr f ↦ absurd (false≢true (ap (λ ds. is_some (option_and_then (λ m. m.mark) (greatest ds))) (sym (no_decision cs k n ms f)) ∙ e))
    ]

both_named : (p o m : Bool) → (p ≡ true → o ≡ true) → (p && o) ≡ (p && (o || m))
both_named true o m f = f refl ∙ sym (or_left o m (f refl))
both_named false o m f = refl

-- a character of old is decided by the old mark operations as before, if no later one covers it
module _ (old new : List Character) (ms more : List Marking) (j k : ℕ)
    (passing : (key : MarkKey) → filter (λ m. is_key m.key key && covers old j m) ms ≡ filter (λ m. is_key m.key key && covers new k m) ms)
    (none : All (λ m. covers new k m ≡ false) more) where
  decided_kept : (key : MarkKey) → decided old ms j key ≡ decided new (ms ++ more) k key
  decided_kept key = ap (λ ds. option_and_then (λ m. m.mark) (greatest ds))
      (passing key
      ∙ sym (append-nil (filter (λ m. is_key m.key key && covers new k m) ms))
      ∙ ap (λ ds. filter (λ m. is_key m.key key && covers new k m) ms ++ ds) (sym (none_covers new k more key none))
      ∙ sym (filter-append (λ m. is_key m.key key && covers new k m) ms more))

  comment_kept : (n : ℕ) → has_comment old ms j n ≡ has_comment new (ms ++ more) k n
  comment_kept n = ap is_some (decided_kept (key.Comment n))

  members : (n : ℕ) → has n (filter (has_comment old ms j) (comment_ids ms)) ≡ has n (filter (has_comment new (ms ++ more) k) (comment_ids (ms ++ more)))
  members n =
      has-filter (has_comment old ms j) n (comment_ids ms)
      ∙ ap (λ r. has_comment old ms j n && r) (has-rising n (named ms))
      ∙ both_named (has_comment old ms j n) (has n (named ms)) (has n (named more)) (comment_named old ms j n)
      ∙ ap (λ r. has_comment old ms j n && r) (sym (list_any-append (λ m. m == n) (named ms) (named more)))
      ∙ ap (λ xs. has_comment old ms j n && has n xs) (sym (filter_map-append (λ m. comment_of m.key) ms more))
      ∙ ap (λ r. has_comment old ms j n && r) (sym (has-rising n (named (ms ++ more))))
      ∙ ap (λ r. r && has n (comment_ids (ms ++ more))) (comment_kept n)
      ∙ sym (has-filter (has_comment new (ms ++ more) k) n (comment_ids (ms ++ more)))

  comments_kept : filter (has_comment old ms j) (comment_ids ms) ≡ filter (has_comment new (ms ++ more) k) (comment_ids (ms ++ more))
  comments_kept =
      same_members (filter (has_comment old ms j) (comment_ids ms)) (filter (has_comment new (ms ++ more) k) (comment_ids (ms ++ more)))
      (up_filter (has_comment old ms j) (comment_ids ms) (rising_up (named ms)))
      (up_filter (has_comment new (ms ++ more) k) (comment_ids (ms ++ more)) (rising_up (named (ms ++ more))))
      members

  marks_of_kept : marks_of old ms j ≡ marks_of new (ms ++ more) k
  marks_of_kept = λ i. record {
    strong = is_some (decided_kept key.Strong i);
    em = is_some (decided_kept key.Em i);
    link = option_and_then url_of (decided_kept key.Link i);
    comments = comments_kept i;
  }

-- a character of before that no later mark operation covers has the marks that it had
pub marks_kept : (before more : List Op) (doc : ℕ) (id : Id) → IsOrderly (before ++ more) doc → has_id (walk before doc) id ≡ true
    → IsUncovered before more doc id
    → marks_at before doc id ≡ marks_at (before ++ more) doc id
marks_kept before more doc id h k none =
    let old : List Character = walk before doc in
    let new : List Character = walk (before ++ more) doc in
    marks_of_kept old new (markings before doc) (markings more doc) (index_of id old) (index_of id new)
    (λ key. passing_same old new (λ a e. still_there before more doc a h e) (λ a b e f l. order_kept before more doc a b h e f l) key id (markings before doc)
    (anchored_walk before doc (orderly_front before more doc h)) k)
    none
    ∙ ap (λ ms. marks_of new ms (index_of id new)) (sym (markings-append before more doc))

-- a character of before has the marks that the mark operations of before give it in the walk of now
pub marks_then : (before more : List Op) (doc : ℕ) (id : Id) → IsOrderly (before ++ more) doc → has_id (walk before doc) id ≡ true
    → marks_at before doc id ≡ marks_of (walk (before ++ more) doc) (markings before doc) (index_of id (walk (before ++ more) doc))
marks_then before more doc id h k =
    let old : List Character = walk before doc in
    let new : List Character = walk (before ++ more) doc in
    marks_of_kept old new (markings before doc) [] (index_of id old) (index_of id new)
    (λ key. passing_same old new (λ a e. still_there before more doc a h e) (λ a b e f l. order_kept before more doc a b h e f l) key id (markings before doc)
    (anchored_walk before doc (orderly_front before more doc h)) k)
    (λ j d l. absurd (omega arith))
    ∙ ap (λ ms. marks_of new ms (index_of id new)) (append-nil (markings before doc))

became_kept : (was is shown : Bool) (old new : Marks) (value : ℕ) → was ≡ shown → is ≡ shown → old ≡ new
    → became was is old new value ≡ cond shown (Some (Keep 1)) None
became_kept was is shown old new value e f g = (λ i. became (e i) (f i) (g i) new value) ∙ same shown
  where
    same : (b : Bool) → became b b new new value ≡ cond b (Some (Keep 1)) None
    same true = rw (marks_same new) refl
    same false = refl

-- a character that is untouched is kept, if it is shown
untouched_step : (before more : List Op) (doc : ℕ) (c : Character) → IsOrderly (before ++ more) doc → IsUntouched before more doc c
    → step_of before (before ++ more) doc c ≡ cond (not (is_removed (before ++ more) doc c)) (Some (Keep 1)) None
untouched_step before more doc c h u =
    let still : has_id (walk (before ++ more) doc) c.id ≡ true = still_there before more doc c.id h u.there in
    let stays : is_removed (before ++ more) doc c ≡ is_removed before doc c =
    list_any-append (λ op. op.doc == doc && is_removal_of c.id op.body) before more ∙ ap (λ r. is_removed before doc c || r) u.stays ∙ or-false (is_removed before doc c) in
    became_kept (is_shown before doc c) (is_shown (before ++ more) doc c) (not (is_removed (before ++ more) doc c))
    (marks_at before doc c.id) (marks_at (before ++ more) doc c.id) c.value
    (ap (λ r. r && not (is_removed before doc c)) u.there ∙ ap not (sym stays))
    (ap (λ r. r && not (is_removed (before ++ more) doc c)) still)
    (marks_kept before more doc c.id h u.there u.uncovered)

one_more_kept : (shown : Bool) (c : Character) (cs : List Character)
    → with_any_step (cond shown (Some (Keep 1)) None) (all_kept (length cs)) ≡ all_kept (length (cond shown (c ∷ cs) cs))
one_more_kept true c cs = kept_with (length cs)
one_more_kept false c cs = refl

-- the steps of characters that are untouched
pub untouched_kept : (before more : List Op) (doc : ℕ) (cs : List Character) → IsOrderly (before ++ more) doc
    → All (λ c. IsUntouched before more doc c) cs
    → steps (step_of before (before ++ more) doc) cs ≡ all_kept (length (filter (λ c. not (is_removed (before ++ more) doc c)) cs))
untouched_kept before more doc [] h u = refl
untouched_kept before more doc (c ∷ cs) h u =
    ap (λ ss. with_any_step (step_of before (before ++ more) doc c) ss)
    (untouched_kept before more doc cs h (All-tail (λ x. IsUntouched before more doc x) c cs u))
    ∙ ap (λ s. with_any_step s (all_kept (length (filter (λ x. not (is_removed (before ++ more) doc x)) cs)))) (untouched_step before more doc c h (u 0 c (omega arith)))
    ∙ one_more_kept (not (is_removed (before ++ more) doc c)) c (filter (λ x. not (is_removed (before ++ more) doc x)) cs)
