-- Changes that are made one after another: their operations are numbered in one go, and may follow the list.
use Rattle.std.proofs.Common.{◌≡◌, ℕ, suc, ◌+◌, true, false, Option, None, List, [], ◌∷◌, ◌++◌, length, arith, ap, refl, ◌∙◌, sym, append_assoc, append-nil}
use Rattle.std.specs.List.{list_all}
use Rattle.op_ids.specs.Id.{is_below}
use Rattle.op_ids.specs.Clock.{advanced, advanced_by}
use Rattle.op_model.specs.declared.op.Op.{Op}
use Rattle.op_model.specs.declared.op.Body.{Body}
use Rattle.op_model.specs.declared.edit.Change.{Change}
use Rattle.op_model.specs.declared.edit.Edit.{Edit}
use Rattle.op_model.specs.Actions.{Asked, edit_of, made_by_action, made_in_turn}
use Rattle.op_model.specs.Causality.{FollowInTurn, IsCausallyClosed, clock_of, is_within_limits}
use Rattle.op_model.specs.Made.{bodies_of, greatest_counter, made, numbered}
use Rattle.op_model.specs.Placing.{FitInTurn}
use Rattle.op_model.specs.Tokens.{carries, is_token, last_of}
use Rattle.model_laws.specs.Acting.{NoneRefused, bodies_in_turn}
use Rattle.model_laws.proofs.Above.{numbered_above}
use Rattle.model_laws.proofs.EditLimits.{clock_of-numbered}
use Rattle.model_laws.proofs.Growth.{closed_with, fit_both, follow_both}
use Rattle.model_laws.proofs.LastOf.{numbered_other}
use Rattle.model_laws.proofs.LimitsMade.{greatest-numbered}
use Rattle.model_laws.proofs.Makes.{made_fit_in_turn, made_follow}
use Rattle.model_laws.proofs.Ready.{limits_front}

-- bodies after others are numbered from the counter and the clock that those leave
pub numbered-append : (replica doc : ℕ) (token : Option ℕ) (counter : ℕ) (clock : List (ℕ × ℕ)) (xs ys : List Body)
    → numbered replica doc token counter clock (xs ++ ys)
    ≡ numbered replica doc token counter clock xs ++ numbered replica doc token (counter + length xs) (advanced_by clock replica (length xs)) ys
numbered-append replica doc token counter clock [] ys =
    let same : counter ≡ counter + 0 = omega arith in ap (λ n. numbered replica doc token n clock ys) same
numbered-append replica doc token counter clock (x ∷ xs) ys =
    let op : Op = record { id = record { counter = counter; replica = replica }; doc = doc; token = token; deps = clock; body = x } in
    let later = advanced_by (advanced clock replica) replica (length xs) in
    let same : counter + 1 + length xs ≡ counter + suc (length xs) = omega arith in
    ap (λ ops. op ∷ ops) (numbered-append replica doc token (counter + 1) (advanced clock replica) xs ys)
    ∙ ap (λ n. op ∷ (numbered replica doc token (counter + 1) (advanced clock replica) xs ++ numbered replica doc token n later ys)) same

-- made of what those before them leave, they are numbered in one go
pub in_turn_numbered : (ops : List Op) (replica doc : ℕ) (token : Option ℕ) (cs : List Change)
    → made_in_turn ops replica doc token cs
    ≡ numbered replica doc token (greatest_counter ops + 1) (clock_of ops) (bodies_in_turn ops replica doc token cs)
in_turn_numbered ops replica doc token [] = refl
in_turn_numbered ops replica doc token (c ∷ cs) =
    let now : List Op = made ops replica (edit_of doc token c) in
    let bodies : List Body = bodies_of ops replica doc c in
    let later : List Body = bodies_in_turn (ops ++ now) replica doc token cs in
    let greatest = greatest-numbered ops replica doc token (greatest_counter ops + 1) (clock_of ops) bodies refl in
    let count : greatest_counter (ops ++ now) + 1 ≡ greatest_counter ops + 1 + length bodies = omega arith in
    let clock : clock_of (ops ++ now) ≡ advanced_by (clock_of ops) replica (length bodies) = clock_of-numbered ops replica doc token (greatest_counter ops + 1) (clock_of ops) bodies in
    ap (λ more. now ++ more)
    (in_turn_numbered (ops ++ now) replica doc token cs
    ∙ ap (λ n. numbered replica doc token n (clock_of (ops ++ now)) later) count
    ∙ ap (λ es. numbered replica doc token (greatest_counter ops + 1 + length bodies) es later) clock)
    ∙ sym (numbered-append replica doc token (greatest_counter ops + 1) (clock_of ops) bodies later)

-- they may follow the list one after another, where the limits are kept
pub in_turn_follow : (ops : List Op) (replica doc : ℕ) (token : Option ℕ) (cs : List Change)
    → is_within_limits (ops ++ made_in_turn ops replica doc token cs) ≡ true → FollowInTurn ops (made_in_turn ops replica doc token cs)
in_turn_follow ops replica doc token [] within = tt
in_turn_follow ops replica doc token (c ∷ cs) within =
    let now : List Op = made ops replica (edit_of doc token c) in
    let later : List Op = made_in_turn (ops ++ now) replica doc token cs in
    let all : is_within_limits ((ops ++ now) ++ later) ≡ true = rw (append_assoc ops now later) within in
    follow_both ops now later (made_follow ops replica (edit_of doc token c) (limits_front (ops ++ now) later all))
    (in_turn_follow (ops ++ now) replica doc token cs all)

-- so a causally closed list stays so
pub in_turn_closed : (ops : List Op) (replica doc : ℕ) (token : Option ℕ) (cs : List Change) → IsCausallyClosed ops
    → is_within_limits (ops ++ made_in_turn ops replica doc token cs) ≡ true → IsCausallyClosed (ops ++ made_in_turn ops replica doc token cs)
in_turn_closed ops replica doc token cs closed within =
    closed_with ops (made_in_turn ops replica doc token cs) closed (in_turn_follow ops replica doc token cs within)

-- they fit the document in turn, whatever the limits say
pub in_turn_fit : (ops : List Op) (replica doc : ℕ) (token : Option ℕ) (cs : List Change) → FitInTurn ops doc (made_in_turn ops replica doc token cs)
in_turn_fit ops replica doc token [] = tt
in_turn_fit ops replica doc token (c ∷ cs) =
    let now : List Op = made ops replica (edit_of doc token c) in
    fit_both ops now (made_in_turn (ops ++ now) replica doc token cs) doc
    (made_fit_in_turn ops replica (edit_of doc token c)) (in_turn_fit (ops ++ now) replica doc token cs)

-- their ids are above all before
pub in_turn_above : (ops : List Op) (replica doc : ℕ) (token : Option ℕ) (cs : List Change)
    → list_all (λ op. list_all (λ earlier. is_below earlier.id op.id) ops) (made_in_turn ops replica doc token cs) ≡ true
in_turn_above ops replica doc token cs =
    rw (in_turn_numbered ops replica doc token cs)
    (numbered_above ops replica doc token (greatest_counter ops + 1) (clock_of ops) (bodies_in_turn ops replica doc token cs) (omega arith))

-- changes after others are made of what those leave
pub in_turn-append : (ops : List Op) (replica doc : ℕ) (token : Option ℕ) (cs ds : List Change)
    → made_in_turn ops replica doc token (cs ++ ds)
    ≡ made_in_turn ops replica doc token cs ++ made_in_turn (ops ++ made_in_turn ops replica doc token cs) replica doc token ds
in_turn-append ops replica doc token [] ds = ap (λ before. made_in_turn before replica doc token ds) (sym (append-nil ops))
in_turn-append ops replica doc token (c ∷ cs) ds =
    let now : List Op = made ops replica (edit_of doc token c) in
    let later : List Op = made_in_turn (ops ++ now) replica doc token cs in
    ap (λ more. now ++ more) (in_turn-append (ops ++ now) replica doc token cs ds)
    ∙ ap (λ before. now ++ (later ++ made_in_turn before replica doc token ds)) (append_assoc ops now later)
    ∙ sym (append_assoc now later (made_in_turn (ops ++ (now ++ later)) replica doc token ds))

-- so are the refusals: nothing refuses all of them where nothing refuses the first ones, nor the others after those
pub none_refused_both : (ops : List Op) (replica doc : ℕ) (token : Option ℕ) (cs ds : List Change)
    → NoneRefused ops replica doc token cs → NoneRefused (ops ++ made_in_turn ops replica doc token cs) replica doc token ds
    → NoneRefused ops replica doc token (cs ++ ds)
none_refused_both ops replica doc token [] ds first rest = rw (append-nil ops) at rest
none_refused_both ops replica doc token (c ∷ cs) ds first rest =
    let now : List Op = made ops replica (edit_of doc token c) in
    let later : List Op = made_in_turn (ops ++ now) replica doc token cs in (
      first.0,
      none_refused_both (ops ++ now) replica doc token cs ds first.1 (rw (append_assoc ops now later) rest),
    )

pub none_refused_first : (ops : List Op) (replica doc : ℕ) (token : Option ℕ) (cs ds : List Change)
    → NoneRefused ops replica doc token (cs ++ ds) → NoneRefused ops replica doc token cs
none_refused_first ops replica doc token [] ds all = tt
none_refused_first ops replica doc token (c ∷ cs) ds all =
    (all.0, none_refused_first (ops ++ made ops replica (edit_of doc token c)) replica doc token cs ds all.1)

pub none_refused_rest : (ops : List Op) (replica doc : ℕ) (token : Option ℕ) (cs ds : List Change)
    → NoneRefused ops replica doc token (cs ++ ds) → NoneRefused (ops ++ made_in_turn ops replica doc token cs) replica doc token ds
none_refused_rest ops replica doc token [] ds all = rw (append-nil ops) all
none_refused_rest ops replica doc token (c ∷ cs) ds all =
    let now : List Op = made ops replica (edit_of doc token c) in
    let later : List Op = made_in_turn (ops ++ now) replica doc token cs in
    rw (append_assoc ops now later) at (none_refused_rest (ops ++ now) replica doc token cs ds all.1)

-- a single change is made as the edit that asks for it
pub in_turn_single : (ops : List Op) (replica doc : ℕ) (token : Option ℕ) (c : Change)
    → made_in_turn ops replica doc token (c ∷ []) ≡ made ops replica (edit_of doc token c)
in_turn_single ops replica doc token c = append-nil (made ops replica (edit_of doc token c))

pub action_single : (ops : List Op) (replica : ℕ) (a : Asked) (e : Edit) → a.doc ≡ e.doc → a.token ≡ e.token
    → a.changes ≡ e.change ∷ [] → made_by_action ops replica a ≡ made ops replica e
action_single ops replica a e doc token single =
    rw (doc, token, single) (in_turn_single ops replica e.doc e.token e.change)

-- an action's operations carry its token and no other
pub action_other : (ops : List Op) (maker : ℕ) (a : Asked) (replica token : ℕ) → is_token token a.token ≡ false
    → last_of (carries replica token) (made_by_action ops maker a) ≡ None
action_other ops maker a replica token other =
    rw (in_turn_numbered ops maker a.doc a.token a.changes)
    (numbered_other replica token maker a.doc a.token (greatest_counter ops + 1) (clock_of ops) (bodies_in_turn ops maker a.doc a.token a.changes) other)
