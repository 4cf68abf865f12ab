-- The records of changes are put one after another.
use Rattle.std.proofs.Common.{◌≡◌, ℕ, ◌+◌, ◌≤◌, List, [], ◌∷◌, ◌++◌, length, drop, take}
use Rattle.std.proofs.Common.{true, refl, sym, ap, subst, ◌∙◌, arith, length-append, append_assoc, append-nil, Option, None}
use Rattle.std.proofs.lemmas.List.{drop_at, take-append-drop}
use Rattle.group_commit.specs.Plan.{newest}
use Rattle.model_laws.proofs.LimitsMade.{due_asks_right}
use Rattle.model_laws.proofs.OneChange.{closed-due, length-due}
use Rattle.model_laws.proofs.InTurnText.{in_turn_size}
use Rattle.model_laws.proofs.RoomInTurn.{action_not_refused}
use Rattle.model_laws.proofs.WaitsInTurn.{changes_length-one, waits_in_turn}
use Rattle.model_laws.specs.Acting.{NoneRefused}
use Rattle.op_model.specs.Actions.{edit_of, made_by_action, made_in_turn, refusal_of, sizes, Asked}
use Rattle.op_model.specs.Causality.{IsCausallyClosed}
use Rattle.op_model.specs.declared.edit.Change.{Change}
use Rattle.op_model.specs.declared.op.Op.{Op}
use Rattle.op_model.specs.Made.{is_small, made, size_of}
use Rattle.op_model.specs.Waiting.{action_length, change_length, changes_length, length_of_changes}
use Rattle.piece_codec.proofs.StreamLaws.{both_join, nothing}
use Rattle.hub_parts.specs.Adding.{Adds, IsPutting}

-- nothing is put
adds_nothing : (was : List ℕ) → Adds was was [] 0
adds_nothing was = record { records = []; spells = nothing newest; long = refl; behind = sym (append-nil was) }

-- one after another
adds_both : (was mid now : List ℕ) (xs ys : List Op) (m n : ℕ) → Adds was mid xs m → Adds mid now ys n → Adds was now (xs ++ ys) (m + n)
adds_both was mid now xs ys m n first second =
    let one = first.long in
    let two = second.long in
    record {
      records = first.records ++ second.records;
      spells = both_join newest xs ys first.records second.records first.spells second.spells;
      long = omega (arith, one, two, length-append first.records second.records);
      behind = second.behind ∙ (ap (λ front. front ++ second.records) first.behind ∙ append_assoc was first.records second.records);
    }

-- before the first change
pub putting_starts : (was : List ℕ) (ops list : List Op) (replica doc : ℕ) (token : Option ℕ) (all : List Change) → IsCausallyClosed list
    → NoneRefused list replica doc token all → ops ≡ made_in_turn list replica doc token all → IsPutting was was ops ops doc token all all
putting_starts was ops list replica doc token all closed due is = record {
  replica = replica;
  list = list;
  closed = closed;
  due = due;
  rest_is = is;
  front = [];
  bytes = 0;
  adds = adds_nothing was;
  whole = refl;
  long = omega arith;
}

-- what the next change made stands first among those that are left
pub record IsNext (rest : List Op) (c : Change) : Type 0 where
  pub list : List Op
  pub more : List Op
  pub replica : ℕ
  pub doc : ℕ
  pub token : Option ℕ
  pub whole : rest ≡ made list replica (edit_of doc token c) ++ more
  pub size : length (made list replica (edit_of doc token c)) ≡ size_of c
  pub small : is_small c ≡ true

pub next_stands : (was now : List ℕ) (ops rest : List Op) (doc : ℕ) (token : Option ℕ) (all : List Change) (c : Change) (cs : List Change)
    → IsPutting was now ops rest doc token all (c ∷ cs) → IsNext rest c
next_stands was now ops rest doc token all c cs is = record {
  list = is.list;
  more = made_in_turn (is.list ++ made is.list is.replica (edit_of doc token c)) is.replica doc token cs;
  replica = is.replica;
  doc = doc;
  token = token;
  whole = is.rest_is;
  size = length-due is.list is.replica (edit_of doc token c) is.closed is.due.0;
  small = (due_asks_right is.list is.replica (edit_of doc token c) is.due.0).small;
}

-- one more change
pub putting_goes_on : (was mid now : List ℕ) (ops rest : List Op) (doc : ℕ) (token : Option ℕ) (all : List Change) (c : Change) (cs : List Change)
    → IsPutting was mid ops rest doc token all (c ∷ cs) → Adds mid now (take (size_of c) rest) (change_length c (take (size_of c) rest))
    → IsPutting was now ops (drop (size_of c) rest) doc token all cs
putting_goes_on was mid now ops rest doc token all c cs is adds =
    let e = edit_of doc token c in
    let more : List Op = made_in_turn (is.list ++ made is.list is.replica e) is.replica doc token cs in
    let size = length-due is.list is.replica e is.closed is.due.0 in
    let long = is.long in
    record {
      replica = is.replica;
      list = is.list ++ made is.list is.replica e;
      closed = closed-due is.list is.replica e is.closed is.due.0;
      due = is.due.1;
      rest_is = ap (drop (size_of c)) is.rest_is ∙ drop_at (made is.list is.replica e) more (size_of c) size;
      front = is.front ++ take (size_of c) rest;
      bytes = is.bytes + change_length c (take (size_of c) rest);
      adds = adds_both was mid now is.front (take (size_of c) rest) is.bytes (change_length c (take (size_of c) rest)) is.adds adds;
      whole = append_assoc is.front (take (size_of c) rest) (drop (size_of c) rest) ∙ (ap (λ back. is.front ++ back) (take-append-drop (size_of c) rest) ∙ is.whole);
      long = omega (arith, long);
    }

-- after the last one
pub putting_ends : (was now : List ℕ) (ops rest : List Op) (doc : ℕ) (token : Option ℕ) (all : List Change)
    → IsPutting was now ops rest doc token all [] → Adds was now ops (changes_length all ops)
putting_ends was now ops rest doc token all is =
    let whole : is.front ≡ ops = sym (append-nil is.front) ∙ (ap (λ back. is.front ++ back) (sym is.rest_is) ∙ is.whole) in
    let long : is.bytes ≡ changes_length all ops = omega (arith, is.long) in
    subst (λ front. Adds was now front (changes_length all ops)) whole (subst (λ bytes. Adds was now is.front bytes) long is.adds)

by_changes : (ops : List Op) (replica : ℕ) (a : Asked) (cs : List Change) → a.changes ≡ cs → IsCausallyClosed ops
    → NoneRefused ops replica a.doc a.token a.changes → changes_length a.changes (made_by_action ops replica a) ≤ length_of_changes ops replica a cs
by_changes ops replica a [] is closed due = waits_in_turn a.changes ops replica a.doc a.token closed due
by_changes ops replica a (c ∷ []) is closed due =
    let many = in_turn_size ops replica a.doc a.token a.changes due in
    let one_size : sizes (c ∷ []) ≡ size_of c = omega arith in
    let size : length (made_by_action ops replica a) ≡ size_of c = many ∙ (ap sizes is ∙ one_size) in
    let one = ap (λ cs. changes_length cs (made_by_action ops replica a)) is ∙ changes_length-one c (made_by_action ops replica a) size in
    omega (arith, one)
by_changes ops replica a (c ∷ d ∷ cs) is closed due = waits_in_turn a.changes ops replica a.doc a.token closed due

-- an action adds no more than there has to be room for
pub action_within : (ops : List Op) (replica : ℕ) (a : Asked) → IsCausallyClosed ops → refusal_of ops replica a ≡ None
    → changes_length a.changes (made_by_action ops replica a) ≤ action_length ops replica a
action_within ops replica a closed due = by_changes ops replica a a.changes refl closed (action_not_refused ops replica a closed due)
