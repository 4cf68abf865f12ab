use Rattle.std.proofs.Common.{length, ap, ◌∙◌}
use Rattle.hub_parts.specs.Locked.{LockedHeld}
use Rattle.hub_parts.proofs.KeptParts.{keeps_taken}
use Rattle.hub_parts.proofs.WaitLemmas.{all_counted, none_waits}
use Rattle.hub_parts.proofs.locked.Locked.take_all.Goals as goal

pub invariant_of-self : goal.invariant_of-self
invariant_of-self c =
    let l : LockedHeld = record { replica = c.self.inside.replica; begun = c.self.inside.begun; failure_told = c.self.inside.failure_told } in (
      rw (c.len-self-inside.ensures, c.list.ensures.list) (keeps_taken l c.list.ensures.sound c.self.invariant.0),
      none_waits c.self.inside.replica c.len-self-inside.result c.clear.new.self.items (c.len-self-inside.ensures ∙ ap length c.list.ensures.list) c.clear.ensures.items,
      all_counted c.self.inside.replica c.len-self-inside.result c.records_length-self-inside.result (c.len-self-inside.ensures ∙ ap length c.list.ensures.list) c.records_length-self-inside.ensures,
    )
