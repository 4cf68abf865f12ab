-- Two parts that fit, behind a settlement.
use Rattle.std.proofs.Common.{◌≡◌, Bool, true, false, List, sym, ◌∙◌, arith}
use Rattle.std.proofs.lemmas.Bool.{le-ltb}
use Rattle.disk_trait.specs.declared.facts.DiskFacts.{Ghosts}
use Rattle.op_model.specs.declared.op.Op.{Op}
use Rattle.op_model.specs.Held.{with_settled}
use Rattle.group_commit.specs.Begin.{is_idle}
use Rattle.group_commit.specs.Held.{StoreHeld}
use Rattle.hub_parts.specs.Flusher.{IsFlusher}
use Rattle.hub_parts.specs.Locked.{IsLocked, LockedHeld}
use Rattle.hub_parts.specs.Fitting.{FitTogether, side_of}
use Rattle.hub_parts.proofs.Fronts.{whole_list}
use Rattle.hub_parts.proofs.MeetSteps.{front_length}

-- two parts that fit, behind a settlement
pub meet_settled : {D : Type 0} (facts : Ghosts D) (l : LockedHeld) (s : StoreHeld D) (list : List Op) (due : Bool)
    → IsFlusher facts (record { store = s; list = list; due = due }) → IsLocked l → is_idle s.phase ≡ true
    → FitTogether l (side_of (record { store = s; list = list; due = due }))
    → FitTogether (record l { replica = with_settled l.replica l.begun }) (side_of (record { store = s; list = list; due = false }))
meet_settled facts l s list due kept locked idle meet = record {
  owner = meet.owner;
  both = sym (le-ltb l.begun l.begun (omega arith));
  front = meet.front;
  settled = λ none. sym (whole_list facts s list due kept idle ∙ front_length l list locked.keeps.within meet.front);
  through = λ never. absurd (cc);
}
