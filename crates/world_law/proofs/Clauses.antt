-- What every sound world has: one operation under an id, and one text under a clock.
use Rattle.std.proofs.Common.{◌≡◌, ◌<◌, inl, inr, List, ap, ◌∙◌, sym}
use Rattle.std.specs.List.{list_all}
use Rattle.std.proofs.lemmas.Bool.{both_ways}
use Rattle.op_ids.specs.Id.{is_below, is_same}
use Rattle.op_ids.specs.Clock.{count_of}
use Rattle.op_model.specs.declared.op.Op.{Op}
use Rattle.op_model.specs.Causality.{clock_of, HasOp, HaveSameOps}
use Rattle.op_model.specs.Actions.{made_by_action}
use Rattle.model_laws.proofs.InTurn.{in_turn_above}
use Rattle.model_laws.proofs.Marked.{same_text, same_spans, same_rev}
use Rattle.model_laws.proofs.Ids.{below_differs, equal_same}
use Rattle.world_law.specs.Counts.{own_count}
use Rattle.op_model.specs.Machine.{State}
use Rattle.world_law.specs.World.{World, HasMachine, IsInBag, IsBeginning}
use Rattle.world_law.specs.Histories.{Happening, History}
use Rattle.world_law.specs.Laws.{HoldsOneOperation, TellsOneOperation, MakesNoOther, ShowsTheSame, KeepsWhatWasTold, Always, NeverMadeAgain}
use Rattle.world_law.proofs.ClosedLists.{closed_one, closed_same, closed_counted, closed_at}
use Rattle.world_law.proofs.Members.{HasOp-take, all_at, one_machine}
use Rattle.world_law.proofs.Steps.{made_own}
use Rattle.world_law.proofs.Worlds.{IsSoundWorld, beginning_sound, history_sound, history_bag}

module _ (w : World) (sound : IsSoundWorld w) where
  -- the maker of an operation holds it
  abbrev IsHome : Op → Type 0
  IsHome op = (m : State) × HasMachine w.machines m × (m.held.replica ≡ op.id.replica) × HasOp m.held.list op

  told_home : (op : Op) → IsInBag w.bag op → IsHome op
  told_home op h = let (m, l, e, k) = sound.home op h in (m, l, e, HasOp-take m.held.settled m.held.list op k)

  held_home : (m : State) (op : Op) → HasMachine w.machines m → HasOp m.held.list op → IsHome op
  held_home m op h k = elim ((sound.each m h).foreign op k) [ inl e ↦ (m, h, sym e, k) | inr t ↦ told_home op t ]

  -- two operations of one replica are both in its list
  both_home : (x y : Op) → IsHome x → IsHome y → x.id.replica ≡ y.id.replica
      → (m : State) × HasMachine w.machines m × HasOp m.held.list x × HasOp m.held.list y
  both_home x y (m, h, e, k) (n, i, f, l) r =
      let one = one_machine w.machines n m sound.apart i h (f ∙ sym r ∙ sym e) in
      (m, h, k, rw one at l)

  home_one : (x y : Op) → IsHome x → IsHome y → x.id ≡ y.id → x ≡ y
  home_one x y h k e =
      let (m, i, l, p) = both_home x y h k (ap (λ id. id.replica) e) in
      closed_one m.held.list x y (sound.each m i).closed l p e

  home_same : (x y : Op) → IsHome x → IsHome y → x.id.replica ≡ y.id.replica → own_count x ≡ own_count y → x ≡ y
  home_same x y h k r e =
      let (m, i, l, p) = both_home x y h k r in
      closed_same m.held.list x y (sound.each m i).closed l p r e

  pub world_one : HoldsOneOperation w
  world_one a b x y h k i l e = home_one x y (held_home a x h i) (held_home b y k l) e

  pub world_told : TellsOneOperation w
  world_told = record {
    once = λ x y h k e. home_one x y (told_home x h) (told_home y k) e;
    as_held = λ m x y h i k e. home_one x y (held_home m x h i) (told_home y k) e;
  }

  -- with a clock that counts as many, the other list has the operation too
  has_too : (a b : State) (op : Op) → HasMachine w.machines a → HasMachine w.machines b → clock_of a.held.list ≡ clock_of b.held.list
      → HasOp a.held.list op → HasOp b.held.list op
  has_too a b op h k e i =
      let counted : own_count op < count_of (clock_of b.held.list) op.id.replica =
      rw e at (closed_counted a.held.list op (sound.each a h).closed i) in
      let (other, l, r, same) = closed_at b.held.list op.id.replica (own_count op) (sound.each b k).closed counted in
      let is : other ≡ op = home_same other op (held_home b other k l) (held_home a op h i) r same in
      rw is at l

  same_ops : (a b : State) → HasMachine w.machines a → HasMachine w.machines b → clock_of a.held.list ≡ clock_of b.held.list
      → HaveSameOps a.held.list b.held.list
  same_ops a b h k e = record { no_more = λ op i. has_too a b op h k e i; no_fewer = λ op i. has_too b a op k h (sym e) i }

  pub world_same : ShowsTheSame w
  world_same a b doc h k e =
      let same = same_ops a b h k e in
      let first = (sound.each a h).closed in
      let second = (sound.each b k).closed in (
        same_text a.held.list b.held.list first second same doc,
        same_spans a.held.list b.held.list first second same doc,
        same_rev a.held.list b.held.list first second same doc,
      )

  -- an edit's operations have greater ids than all in the list, and its own replica's are there
  pub world_never : (told : Op) → IsInBag w.bag told → MakesNoOther w told
  world_never told t m edit op h k e =
      let own = made_own m.held.list m.held.replica edit op k in
      let (n, i, r, l) = told_home told t in
      let one = one_machine w.machines n m sound.apart i h (r ∙ ap (λ id. id.replica) (sym e) ∙ own) in
      let there : HasOp m.held.list told = rw one at l in
      let greater = in_turn_above m.held.list m.held.replica edit.doc edit.token edit.changes in
      let above = all_at (λ o. list_all (λ earlier. is_below earlier.id o.id) m.held.list) (made_by_action m.held.list m.held.replica edit) op greater k in
      let below = all_at (λ earlier. is_below earlier.id op.id) m.held.list told above there in
      both_ways (is_same told.id op.id) (below_differs told.id op.id below) (equal_same told.id op.id (sym e))

-- the same behind every history from a beginning
pub history_of_beginning : (w after : World) (hs : List Happening) → IsBeginning w → History w hs after → IsSoundWorld after
history_of_beginning w after hs begins h = history_sound w hs after (beginning_sound w begins) h

pub one_operation : Always HoldsOneOperation
one_operation w after hs begins h = world_one after (history_of_beginning w after hs begins h)

pub told_once : Always TellsOneOperation
told_once w after hs begins h = world_told after (history_of_beginning w after hs begins h)

pub never_again : NeverMadeAgain
never_again w mid after hs more op begins h told behind =
    world_never after (history_sound mid more after (history_of_beginning w mid hs begins h) behind) op (history_bag mid more after op behind told)

pub same_shown : Always ShowsTheSame
same_shown w after hs begins h = world_same after (history_of_beginning w after hs begins h)

pub settled : Always KeepsWhatWasTold
settled w after hs begins h = (history_of_beginning w after hs begins h).home
