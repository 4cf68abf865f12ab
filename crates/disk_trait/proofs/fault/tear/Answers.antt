use Rattle.std.proofs.Common.{◌≡◌, ◌+◌, ◌-◌, ◌/◌, ◌≤◌, ℕ, List, length, take, arith, rules, ◌∙◌, ap, refl, length-take, Result, Ok, Err}
use Rattle.std.specs.Result.{OnOk, IsErr}
use Rattle.std.proofs.lemmas.Grind.{common_steps}
use Rattle.disk_trait.specs.File.{overwritten}
use Rattle.disk_trait.specs.Fault.{extended}
use Rattle.disk_trait.proofs.CallLemmas.{tears_again, tears_wider}
use Rattle.disk_trait.proofs.FileLemmas.{length-overwritten}
use Rattle.disk_trait.proofs.fault.tear.Goals as goal

pub returns-in_err-write_at-clause-torn : goal.returns-in_err-write_at-clause-torn
returns-in_err-write_at-clause-torn g c told = record {
  torn = tears_wider g.D.DiskFacts c.args.pos (length c.args.bytes.now) _ _ _ _ (omega arith) (grind (arith, common_steps)) (c.write_at.ensures.written told).torn;
  written = search rules;
  past_end = search rules;
  unchanged = search rules;
}

pub returns-then-is_some-clause-torn : goal.returns-then-is_some-clause-torn
returns-then-is_some-clause-torn g c told =
    let facts = g.D.DiskFacts in
    let n = length c.args.bytes.now in
    let still : facts.tells c.write_at.new.self = search rules in
    record {
      torn = tears_again facts c.args.pos n _ _ _
          (tears_wider facts c.args.pos n _ _ _ _ (omega arith) (grind (arith, common_steps)) (c.write_at.ensures.written told).torn)
          (tears_wider facts c.args.pos n _ _ _ _ (omega arith) (grind (arith, common_steps)) (c.rewrite.ensures.torn still));
      written = search rules;
      past_end = search rules;
      unchanged = search rules;
    }

-- a call that could only fail by a failure of the disk, and didn't
ok_if_alone : {T E P : Type 0} (answer : Result T E) → OnOk answer P → (IsErr answer → ⊥) → P
ok_if_alone (Ok x) p fine = p
ok_if_alone (Err e) p fine = absurd (fine refl)

pub returns-then-is_some-clause-half : goal.returns-then-is_some-clause-half
returns-then-is_some-clause-half g c told failed alone fits =
    let facts = g.D.DiskFacts in
    let file = facts.content c.args.disk.now in
    let n = length c.args.bytes.now in
    let still : facts.tells c.write_at.new.self = search rules in
    let half : facts.content c.write_at.new.self ≡ overwritten file c.args.pos (take (n / 2) c.args.bytes.now) = search rules in
    let within : c.args.pos ≤ length file = search rules in
    let reached : c.args.pos + n / 2 ≤ length (facts.content c.write_at.new.self) =
    omega (arith, ap length half, length-overwritten file c.args.pos (take (n / 2) c.args.bytes.now) within, length-take (n / 2) c.args.bytes.now) in
    let kept : facts.failures c.write_at.new.self ≡ facts.failures c.args.disk.now = search rules in
    let sum : c.args.pos + n / 2 + (n - n / 2) ≡ c.args.pos + n = omega arith in
    ok_if_alone _ (c.rewrite.ensures.same still reached) (λ err. let more = c.rewrite.ensures.failed still reached err in absurd (omega (arith, more)))
    ∙ ap (λ (xs : List ℕ). extended xs (c.args.pos + n / 2 + (n - n / 2))) half
    ∙ ap (extended (overwritten file c.args.pos (take (n / 2) c.args.bytes.now))) sum

pub returns-else-is_some-clause-torn : goal.returns-else-is_some-clause-torn
returns-else-is_some-clause-torn g c told = record {
  torn = tears_wider g.D.DiskFacts c.args.pos (length c.args.bytes.now) _ _ _ _ (omega arith) (grind (arith, common_steps)) (c.write_at.ensures.written told).torn;
  written = search rules;
  past_end = search rules;
  unchanged = search rules;
}
