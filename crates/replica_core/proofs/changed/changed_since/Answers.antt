use native.Mathlib.Omega.{arith}
use Rattle.std.proofs.Common.{◌≤◌, refl, subst}
use Rattle.replica_core.proofs.CameLemmas.{changes_told}
use Rattle.replica_core.proofs.changed.changed_since.Goals as goal

pub returns-in_ok-changes-in-Some : goal.returns-in_ok-changes-in-Some
returns-in_ok-changes-in-Some c =
    let came = rw c.number.ensures at (rw c.in-Some.is at c.in_ok-came.ensures.came) in
    record {
      changes = record {
        within = subst (λ n. c.args.since ≤ n) c.count-rev.ensures c.if-since-rev.false;
        are = λ before more all is.
            changes_told c.args.document.now c.in-Some.came c.args.list.now before more c.args.document.now.number c.count-rev.result c.args.since
            c.in_ok-changes-in-Some.field-0.items c.requires.stands refl came c.if-since-rev.false c.count-rev.ensures all is
            c.in_ok-changes-in-Some.ensures.told;
      };
      first = λ is. refl;
      later = λ opened now. refl;
    }

pub returns-in-None : goal.returns-in-None
returns-in-None c =
    let known = rw c.number.ensures at (rw c.in-None.is at c.in_ok-came.ensures.known) in
    record {
      changes = tt;
      first = λ is. absurd (omega (arith, is, c.requires.later));
      later = λ from now. known (omega (arith, from, now, c.count-rev.ensures, c.if-since-rev.false));
    }
