-- What every world keeps that a history leads to.
use Rattle.std.proofs.Common.{◌≡◌, ℕ, ◌⊎◌, inl, inr, List, [], ◌∷◌, ◌++◌, take, refl, ap, ◌∙◌, sym, arith}
use Rattle.op_model.specs.declared.op.Op.{Op}
use Rattle.op_model.specs.Causality.{HasOp}
use Rattle.op_model.specs.Machine.{State, opened}
use Rattle.world_law.specs.World.{Message, World, HasMachine, IsInBag, AreApart, numbers_of, told_by, IsBeginning}
use Rattle.world_law.specs.Histories.{Happening, step, crash, IsChanged, Happens, History}
use Rattle.world_law.specs.Laws.{KeepsWhatWasTold, EachFrontIsOne}
use Rattle.world_law.proofs.Members.{HasOp-take, IsInBag-cases, IsInBag-more, HasMachine-cases, HasMachine-at, numbers_stay}
use Rattle.world_law.proofs.Sound.{IsSound, IsSound-more, Goes}
use Rattle.world_law.proofs.Steps.{step_goes, crash_goes, told_settled}

-- the numbers differ, each replica is sound, and what was told is settled at its maker's
pub record IsSoundWorld (w : World) : Type 0 where
  pub apart : AreApart (numbers_of w.machines)
  pub each : (m : State) → HasMachine w.machines m → IsSound w.bag m
  pub home : KeepsWhatWasTold w

sound_new : (replica version : ℕ) (s : State) → s ≡ opened replica [] version → IsSound [] s
sound_new replica version s is = rw is (record { closed = tt; foreign = λ op h. absurd h; settled = omega arith; commit = tt })

pub beginning_sound : (w : World) → IsBeginning w → IsSoundWorld w
beginning_sound w b = record {
  apart = b.apart;
  each = λ m h. rw b.untold (sound_new m.held.replica (b.new m h).0 m (b.new m h).1);
  home = λ op h. absurd (rw b.untold at h);
}

-- a world of which one machine changed, while some messages were told
module _ (w after : World) (replica : ℕ) (new : List Message) (sound : IsSoundWorld w) (c : IsChanged replica w.machines after.machines)
    (bag : after.bag ≡ new ++ w.bag) where
  stood : HasMachine w.machines c.old
  stood = rw c.was (HasMachine-at c.front c.rest c.old)

  stands : HasMachine after.machines c.next
  stands = rw c.is (HasMachine-at c.front c.rest c.next)

  -- each machine behind the change is the changed one, or was there before
  came : (m : State) → HasMachine after.machines m → (c.next ≡ m) ⊎ HasMachine w.machines m
  came m h = elim (HasMachine-cases c.front c.rest c.next m (rw c.is at h)) [
    | inl e ↦ inl e
    | inr k ↦ inr (rw c.was (k c.old))
  ]

  -- and each machine before it is the changed one, or is there behind
  goes : (m : State) → HasMachine w.machines m → (c.old ≡ m) ⊎ HasMachine after.machines m
  goes m h = elim (HasMachine-cases c.front c.rest c.old m (rw c.was at h)) [
    | inl e ↦ inl e
    | inr k ↦ inr (rw c.is (k c.next))
  ]

  -- what a machine had settled, one of its number has settled still
  module _ (went : Goes w.bag c.old c.next) where
    keeps_home : (op : Op) (m : State) → HasMachine w.machines m → m.held.replica ≡ op.id.replica → HasOp (take m.held.settled m.held.list) op
        → (n : State) × HasMachine after.machines n × (n.held.replica ≡ op.id.replica) × HasOp (take n.held.settled n.held.list) op
    keeps_home op m h e k = elim (goes m h) [
      | inl f ↦ (c.next, stands, went.number ∙ ap (λ x. x.held.replica) f ∙ e, went.kept op (rw (← f) at k))
      | inr l ↦ (m, l, e, k)
    ]

    still_home : (op : Op) → IsInBag w.bag op
        → (n : State) × HasMachine after.machines n × (n.held.replica ≡ op.id.replica) × HasOp (take n.held.settled n.held.list) op
    still_home op k = let (m, l, e, p) = sound.home op k in keeps_home op m l e p

    -- an operation that is told is settled here: its maker is this replica, or the bag had it before
    told_home : (op : Op) → HasOp (take c.old.held.settled c.old.held.list) op
        → (n : State) × HasMachine after.machines n × (n.held.replica ≡ op.id.replica) × HasOp (take n.held.settled n.held.list) op
    told_home op h = elim ((sound.each c.old stood).foreign op (HasOp-take c.old.held.settled c.old.held.list op h)) [
      | inl e ↦ (c.next, stands, went.number ∙ sym e, went.kept op h)
      | inr k ↦ still_home op k
    ]

    pub changed_sound : ((op : Op) → IsInBag new op → HasOp (take c.old.held.settled c.old.held.list) op) → IsSoundWorld after
    changed_sound told = record {
      apart = rw c.is (rw (numbers_stay c.front c.rest c.old c.next went.number) (rw c.was at sound.apart));
      each = λ m h. rw bag (IsSound-more new w.bag m (elim (came m h) [
        | inl e ↦ rw (← e) went.sound
        | inr k ↦ sound.each m k
      ]));
      home = λ op h. elim (IsInBag-cases new w.bag op (rw bag at h)) [
        | inl k ↦ told_home op (told op k)
        | inr k ↦ still_home op k
      ];
    }

  -- what the machine was before, and what it keeps
  was_sound : IsSound w.bag c.old
  was_sound = sound.each c.old stood

pub happens_sound : (w : World) (h : Happening) (after : World) → IsSoundWorld w → Happens w h after → IsSoundWorld after
happens_sound w (step replica e a) after sound (c, from, k, bag) =
    let went = step_goes w.bag c.old e a c.next (was_sound w after replica (told_by a) sound c bag) from k in
    changed_sound w after replica (told_by a) sound c bag went (λ op h. told_settled c.old e a c.next op k h)
happens_sound w (crash replica) after sound (c, k, bag) =
    let went = crash_goes w.bag c.old c.next (was_sound w after replica [] sound c bag) k in
    changed_sound w after replica [] sound c bag went (λ op h. absurd h)

pub history_sound : (w : World) (hs : List Happening) (after : World) → IsSoundWorld w → History w hs after → IsSoundWorld after
history_sound w [] after sound is = rw is sound
history_sound w (h ∷ hs) after sound (mid, first, rest) = history_sound mid hs after (happens_sound w h mid sound first) rest

-- what lies in the bag stays there
happens_bag : (w : World) (h : Happening) (after : World) (op : Op) → Happens w h after → IsInBag w.bag op → IsInBag after.bag op
happens_bag w (step replica e a) after op (c, from, k, bag) h = rw bag (IsInBag-more (told_by a) w.bag op h)
happens_bag w (crash replica) after op (c, k, bag) h = rw bag h

pub history_bag : (w : World) (hs : List Happening) (after : World) (op : Op) → History w hs after → IsInBag w.bag op → IsInBag after.bag op
history_bag w [] after op is h = rw is h
history_bag w (x ∷ hs) after op (mid, first, rest) h = history_bag mid hs after op rest (happens_bag w x mid op first h)

-- each front of a history is one, and so is what follows it
pub history_fronts : EachFrontIsOne
history_fronts w after [] rest h = (w, refl, h)
history_fronts w after (x ∷ front) rest (next, first, more) =
    let (mid, before, behind) = history_fronts next after front rest more in (mid, (next, first, before), behind)
