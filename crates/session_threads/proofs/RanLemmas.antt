-- Calls of a hub are a run.
use Rattle.std.proofs.Common.{List, [], ◌∷◌, ◌++◌, sym, subst, append_assoc, append-nil}
use Rattle.disk_trait.specs.Calls.{IsLawful}
use Rattle.disk_trait.specs.declared.facts.DiskFacts.{Ghosts}
use Rattle.op_model.specs.Machine.{Event, Answer}
use Rattle.locked_replica.specs.Hub.{Parts}
use Rattle.locked_replica.specs.Run.{Ran, Calls}
use Rattle.locked_replica.proofs.RunLemmas.{ran_more}

-- a run with the calls that follow it
pub ran_calls : {D : Type 0} (facts : Ghosts D) → ((disk : D) → facts.tells disk → IsLawful facts disk)
    → (old between new : Parts D) (es fs : List (Event × Answer)) → Ran facts old es between → Calls facts between fs new
    → Ran facts old (es ++ fs) new
ran_calls facts lawful old between new es [] ran same =
    subst (λ hub. Ran facts old (es ++ []) hub) (sym same) (rw (append-nil es) ran)
ran_calls facts lawful old between new es (f ∷ fs) ran (hub, call, calls) =
    let more = ran_more facts old between hub es f.0 f.1 (λ told. lawful hub.store.disk told) ran call in
    subst (λ all. Ran facts old all new) (append_assoc es (f ∷ []) fs) (ran_calls facts lawful old hub new (es ++ f ∷ []) fs more calls)
