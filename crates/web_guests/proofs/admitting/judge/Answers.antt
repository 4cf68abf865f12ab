use Rattle.std.proofs.Common.{◌∙◌, sym, inr}
use Rattle.web_guests.proofs.AdmittingLemmas.{asks_nothing}
use Rattle.web_guests.proofs.admitting.judge.Goals as goal

pub returns-in-Err : goal.returns-in-Err
returns-in-Err c =
    inr (
      sym (c.may_come.ensures _ _ c.of-host.ensures c.of-origin.ensures) ∙ c.in_ok-may_come.was,
      asks_nothing _ c.in-Err.error c.of.result c.in-Err.ensures c.of.ensures,
    )
