-- Changes that nothing refuses, made one after another: what they leave of the text and the lists.
use Rattle.std.proofs.Common.{◌≡◌, ℕ, ◌+◌, true, false, cond, inl, inr, Option, None}
use Rattle.std.proofs.Common.{List, [], ◌∷◌, ◌++◌, length, map}
use Rattle.std.proofs.Common.{arith, ap, refl, ◌∙◌, sym, append_assoc, append-nil, length-append}
use Rattle.std.specs.Prelude.{◌==◌}
use Rattle.std.proofs.lemmas.Bool.{eq-eqb}
use Rattle.std.proofs.lemmas.List.Elements.{filter-append}
use Rattle.std.proofs.lemmas.List.Sums.{length-filter, sum_by-append}
use Rattle.op_ids.specs.Clock.{advanced}
use Rattle.op_model.specs.declared.op.Op.{Op}
use Rattle.op_model.specs.declared.op.Body.{Body}
use Rattle.op_model.specs.declared.edit.Change.{Change}
use Rattle.op_model.specs.declared.edit.Edit.{Edit}
use Rattle.op_model.specs.Actions.{edit_of, made_in_turn, sizes}
use Rattle.op_model.specs.Causality.{HasOp, IsCausallyClosed, clock_of, is_within_limits, made_by}
use Rattle.op_model.specs.Made.{bodies_of, edit_refusal, greatest_counter, made, numbered, size_of}
use Rattle.op_model.specs.Text.{rev, text, visible}
use Rattle.model_laws.specs.Acting.{IsMadeFor, NoneRefused, all_changed, bodies_in_turn, length_after_all}
use Rattle.model_laws.specs.Since.{RemoveNothingAgain, of_doc}
use Rattle.model_laws.proofs.Again.{made_removes_nothing_again}
use Rattle.model_laws.proofs.EditLimits.{length-bodies_of, length-numbered}
use Rattle.model_laws.proofs.Erased.{made_text}
use Rattle.model_laws.proofs.Growth.{other_visible}
use Rattle.model_laws.proofs.InTurn.{in_turn_numbered}
use Rattle.model_laws.proofs.LimitsMade.{closed_within, due_asks_right, due_within}
use Rattle.model_laws.proofs.OneChange.{closed-due, due_inside, length-visible_made}

-- the list stays closed
pub none_refused_closed : (ops : List Op) (replica doc : ℕ) (token : Option ℕ) (cs : List Change) → IsCausallyClosed ops
    → NoneRefused ops replica doc token cs → IsCausallyClosed (ops ++ made_in_turn ops replica doc token cs)
none_refused_closed ops replica doc token [] closed right = rw append-nil closed
none_refused_closed ops replica doc token (c ∷ cs) closed right =
    let e : Edit = edit_of doc token c in
    let now : List Op = made ops replica e in
    rw (append_assoc ops now (made_in_turn (ops ++ now) replica doc token cs))
    at (none_refused_closed (ops ++ now) replica doc token cs (closed-due ops replica e closed right.0) right.1)

-- and keeps the limits
pub none_refused_within : (ops : List Op) (replica doc : ℕ) (token : Option ℕ) (cs : List Change) → IsCausallyClosed ops
    → NoneRefused ops replica doc token cs → is_within_limits (ops ++ made_in_turn ops replica doc token cs) ≡ true
none_refused_within ops replica doc token cs closed right =
    closed_within (ops ++ made_in_turn ops replica doc token cs) (none_refused_closed ops replica doc token cs closed right)

-- the text is changed by one after another
pub in_turn_text : (ops : List Op) (replica doc : ℕ) (token : Option ℕ) (cs : List Change) → IsCausallyClosed ops
    → NoneRefused ops replica doc token cs
    → text (ops ++ made_in_turn ops replica doc token cs) doc ≡ all_changed (text ops doc) cs
in_turn_text ops replica doc token [] closed right = ap (λ xs. text xs doc) (append-nil ops)
in_turn_text ops replica doc token (c ∷ cs) closed right =
    let e : Edit = edit_of doc token c in
    let now : List Op = made ops replica e in
    ap (λ xs. text xs doc) (sym (append_assoc ops now (made_in_turn (ops ++ now) replica doc token cs)))
    ∙ in_turn_text (ops ++ now) replica doc token cs (closed-due ops replica e closed right.0) right.1
    ∙ ap (λ xs. all_changed xs cs) (made_text ops replica e closed (due_inside ops replica e closed right.0) (due_within ops replica e right.0))

-- it is as long as they say
pub in_turn_length : (ops : List Op) (replica doc : ℕ) (token : Option ℕ) (cs : List Change) → IsCausallyClosed ops
    → NoneRefused ops replica doc token cs
    → length (visible (ops ++ made_in_turn ops replica doc token cs) doc) ≡ length_after_all (length (visible ops doc)) cs
in_turn_length ops replica doc token [] closed right = ap (λ xs. length (visible xs doc)) (append-nil ops)
in_turn_length ops replica doc token (c ∷ cs) closed right =
    let e : Edit = edit_of doc token c in
    let now : List Op = made ops replica e in
    ap (λ xs. length (visible xs doc)) (sym (append_assoc ops now (made_in_turn (ops ++ now) replica doc token cs)))
    ∙ in_turn_length (ops ++ now) replica doc token cs (closed-due ops replica e closed right.0) right.1
    ∙ ap (λ n. length_after_all n cs) (length-visible_made ops replica e closed right.0)

-- as many operations as they say
length-right : (ops : List Op) (replica : ℕ) (e : Edit) → edit_refusal ops replica e ≡ None → length (made ops replica e) ≡ size_of e.change
length-right ops replica e due =
    length-numbered replica e.doc e.token (greatest_counter ops + 1) (clock_of ops) (bodies_of ops replica e.doc e.change)
    ∙ length-bodies_of ops replica e.doc e.change (due_asks_right ops replica e due).inside

pub in_turn_size : (ops : List Op) (replica doc : ℕ) (token : Option ℕ) (cs : List Change)
    → NoneRefused ops replica doc token cs → length (made_in_turn ops replica doc token cs) ≡ sizes cs
in_turn_size ops replica doc token [] right = refl
in_turn_size ops replica doc token (c ∷ cs) right =
    let e : Edit = edit_of doc token c in
    let now : List Op = made ops replica e in
    let first : length now ≡ size_of c = length-right ops replica e right.0 in
    let rest = in_turn_size (ops ++ now) replica doc token cs right.1 in
    length-append now (made_in_turn (ops ++ now) replica doc token cs) ∙ omega arith

-- all are of the document
own-numbered : (replica doc : ℕ) (token : Option ℕ) (counter : ℕ) (clock : List (ℕ × ℕ)) (bodies : List Body)
    → of_doc doc (numbered replica doc token counter clock bodies) ≡ numbered replica doc token counter clock bodies
own-numbered replica doc token counter clock [] = refl
own-numbered replica doc token counter clock (b ∷ bs) =
    let op : Op = record { id = record { counter = counter; replica = replica }; doc = doc; token = token; deps = clock; body = b } in
    rw (eq-eqb doc doc refl) (ap (λ ops. op ∷ ops) (own-numbered replica doc token (counter + 1) (advanced clock replica) bs))

pub in_turn_of_doc : (ops : List Op) (replica doc : ℕ) (token : Option ℕ) (cs : List Change)
    → of_doc doc (made_in_turn ops replica doc token cs) ≡ made_in_turn ops replica doc token cs
in_turn_of_doc ops replica doc token cs =
    rw (in_turn_numbered ops replica doc token cs)
    (own-numbered replica doc token (greatest_counter ops + 1) (clock_of ops) (bodies_in_turn ops replica doc token cs))

-- the number of a document's operations
pub rev-of_doc : (ops : List Op) (doc : ℕ) → rev ops doc ≡ length (of_doc doc ops)
rev-of_doc ops doc = sym (length-filter (λ op. op.doc == doc) ops)

pub rev-append : (xs ys : List Op) (doc : ℕ) → rev (xs ++ ys) doc ≡ rev xs doc + rev ys doc
rev-append xs ys doc = sum_by-append (λ o. cond (o.doc == doc) 1 0) xs ys

pub rev-made_in_turn : (ops : List Op) (replica doc : ℕ) (token : Option ℕ) (cs : List Change)
    → rev (made_in_turn ops replica doc token cs) doc ≡ length (made_in_turn ops replica doc token cs)
rev-made_in_turn ops replica doc token cs =
    rev-of_doc (made_in_turn ops replica doc token cs) doc ∙ ap length (in_turn_of_doc ops replica doc token cs)

pub in_turn_rev : (ops : List Op) (replica doc : ℕ) (token : Option ℕ) (cs : List Change)
    → NoneRefused ops replica doc token cs → rev (ops ++ made_in_turn ops replica doc token cs) doc ≡ rev ops doc + sizes cs
in_turn_rev ops replica doc token cs right =
    rev-append ops (made_in_turn ops replica doc token cs) doc
    ∙ ap (λ n. rev ops doc + n) (rev-made_in_turn ops replica doc token cs ∙ in_turn_size ops replica doc token cs right)

-- what all of the operations have: the replica, the document and the token
pub numbered_for : (replica doc : ℕ) (token : Option ℕ) (counter : ℕ) (clock : List (ℕ × ℕ)) (bodies : List Body) (op : Op)
    → HasOp (numbered replica doc token counter clock bodies) op → IsMadeFor replica doc token op
numbered_for replica doc token counter clock [] op has = absurd has
numbered_for replica doc token counter clock (b ∷ bs) op (inl is) =
    record { replica_is = ap (λ o. o.id.replica) (sym is); doc_is = ap (λ o. o.doc) (sym is); token_is = ap (λ o. o.token) (sym is) }
numbered_for replica doc token counter clock (b ∷ bs) op (inr has) =
    numbered_for replica doc token (counter + 1) (advanced clock replica) bs op has

pub in_turn_for : (ops : List Op) (replica doc : ℕ) (token : Option ℕ) (cs : List Change) (op : Op)
    → HasOp (made_in_turn ops replica doc token cs) op → IsMadeFor replica doc token op
in_turn_for ops replica doc token cs op has =
    numbered_for replica doc token (greatest_counter ops + 1) (clock_of ops) (bodies_in_turn ops replica doc token cs) op
    (rw (in_turn_numbered ops replica doc token cs) at has)

made_by-numbered : (replica doc : ℕ) (token : Option ℕ) (counter : ℕ) (clock : List (ℕ × ℕ)) (bodies : List Body)
    → made_by replica (numbered replica doc token counter clock bodies) ≡ numbered replica doc token counter clock bodies
made_by-numbered replica doc token counter clock [] = refl
made_by-numbered replica doc token counter clock (b ∷ bs) =
    let op : Op = record { id = record { counter = counter; replica = replica }; doc = doc; token = token; deps = clock; body = b } in
    rw (eq-eqb replica replica refl) (ap (λ ops. op ∷ ops) (made_by-numbered replica doc token (counter + 1) (advanced clock replica) bs))

pub in_turn_own : (ops : List Op) (replica doc : ℕ) (token : Option ℕ) (cs : List Change)
    → made_by replica (made_in_turn ops replica doc token cs) ≡ made_in_turn ops replica doc token cs
in_turn_own ops replica doc token cs =
    rw (in_turn_numbered ops replica doc token cs)
    (made_by-numbered replica doc token (greatest_counter ops + 1) (clock_of ops) (bodies_in_turn ops replica doc token cs))

-- other documents have the operations that they had
others-numbered : (replica doc other : ℕ) (token : Option ℕ) (counter : ℕ) (clock : List (ℕ × ℕ)) (bodies : List Body) → (doc == other) ≡ false
    → of_doc other (numbered replica doc token counter clock bodies) ≡ []
others-numbered replica doc other token counter clock [] apart = refl
others-numbered replica doc other token counter clock (b ∷ bs) apart =
    rw apart (others-numbered replica doc other token (counter + 1) (advanced clock replica) bs apart)

pub in_turn_others : (ops : List Op) (replica doc : ℕ) (token : Option ℕ) (cs : List Change) (other : ℕ) → (doc == other) ≡ false
    → of_doc other (ops ++ made_in_turn ops replica doc token cs) ≡ of_doc other ops
in_turn_others ops replica doc token cs other apart =
    filter-append (λ op. op.doc == other) ops (made_in_turn ops replica doc token cs)
    ∙ ap (λ more. of_doc other ops ++ of_doc other more) (in_turn_numbered ops replica doc token cs)
    ∙ ap (λ more. of_doc other ops ++ more) (others-numbered replica doc other token (greatest_counter ops + 1) (clock_of ops) (bodies_in_turn ops replica doc token cs) apart)
    ∙ append-nil (of_doc other ops)

-- and so the texts that they had
untouched-numbered : (ops : List Op) (replica doc other : ℕ) (token : Option ℕ) (counter : ℕ) (clock : List (ℕ × ℕ)) (bodies : List Body) → (doc == other) ≡ false
    → visible (ops ++ numbered replica doc token counter clock bodies) other ≡ visible ops other
untouched-numbered ops replica doc other token counter clock [] apart = ap (λ xs. visible xs other) (append-nil ops)
untouched-numbered ops replica doc other token counter clock (b ∷ bs) apart =
    let op : Op = record { id = record { counter = counter; replica = replica }; doc = doc; token = token; deps = clock; body = b } in
    ap (λ xs. visible xs other) (sym (append_assoc ops (op ∷ []) (numbered replica doc token (counter + 1) (advanced clock replica) bs)))
    ∙ untouched-numbered (ops ++ op ∷ []) replica doc other token (counter + 1) (advanced clock replica) bs apart
    ∙ other_visible ops other op apart

pub in_turn_other_text : (ops : List Op) (replica doc : ℕ) (token : Option ℕ) (cs : List Change) (other : ℕ) → (doc == other) ≡ false
    → text (ops ++ made_in_turn ops replica doc token cs) other ≡ text ops other
in_turn_other_text ops replica doc token cs other apart =
    ap (λ xs. map (λ c. c.value) xs)
    (ap (λ more. visible (ops ++ more) other) (in_turn_numbered ops replica doc token cs)
    ∙ untouched-numbered ops replica doc other token (greatest_counter ops + 1) (clock_of ops) (bodies_in_turn ops replica doc token cs) apart)

-- the same of the number of their operations
pub in_turn_other_rev : (ops : List Op) (replica doc : ℕ) (token : Option ℕ) (cs : List Change) (other : ℕ) → (doc == other) ≡ false
    → rev (ops ++ made_in_turn ops replica doc token cs) other ≡ rev ops other
in_turn_other_rev ops replica doc token cs other apart =
    rev-of_doc (ops ++ made_in_turn ops replica doc token cs) other
    ∙ ap length (in_turn_others ops replica doc token cs other apart)
    ∙ sym (rev-of_doc ops other)

-- operations after others remove nothing again
pub nothing_again_both : (before first more : List Op) → RemoveNothingAgain before first → RemoveNothingAgain (before ++ first) more
    → RemoveNothingAgain before (first ++ more)
nothing_again_both before [] more one two = rw append-nil at two
nothing_again_both before (op ∷ first) more one two = (one.0, nothing_again_both (before ++ op ∷ []) first more one.1 (rw append_assoc two))

-- they remove nothing again
pub in_turn_removes_nothing_again : (ops : List Op) (replica doc : ℕ) (token : Option ℕ) (cs : List Change) → IsCausallyClosed ops
    → NoneRefused ops replica doc token cs → RemoveNothingAgain ops (made_in_turn ops replica doc token cs)
in_turn_removes_nothing_again ops replica doc token [] closed right = tt
in_turn_removes_nothing_again ops replica doc token (c ∷ cs) closed right =
    let e : Edit = edit_of doc token c in
    let now : List Op = made ops replica e in
    nothing_again_both ops now (made_in_turn (ops ++ now) replica doc token cs) (made_removes_nothing_again ops replica e closed)
    (in_turn_removes_nothing_again (ops ++ now) replica doc token cs (closed-due ops replica e closed right.0) right.1)
