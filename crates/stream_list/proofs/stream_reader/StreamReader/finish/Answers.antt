use Rattle.std.proofs.Common.{◌≡◌, ◌≢◌, length, subst, arith, rules, inl, inr}
use Rattle.std.proofs.lemmas.List.{nil_from_length}
use Rattle.stream_list.specs.Passing.{Reading}
use Rattle.stream_list.specs.Streams.{HasNone, SpellsShort}
use Rattle.stream_list.proofs.PassingLemmas.{ends_early, passed_all}
use Rattle.stream_list.proofs.stream_reader.StreamReader.finish.Goals.{then-not-is_empty-via-then-not-is_empty}
use Rattle.stream_list.proofs.stream_reader.StreamReader.finish.Goals.{then-not-is_empty-via-else-not-is_empty+then-listed-gt0}
use Rattle.stream_list.proofs.stream_reader.StreamReader.finish.Goals as goal

pub returns-then-not-is_empty-clause-none : goal.returns-then-not-is_empty-clause-none
returns-then-not-is_empty-clause-none c = λ is.
    let it = c.self.inside in
    subst (λ (r : Reading). HasNone r.format r.bytes r.count) c.self.view_is
    (ends_early (record { format = it.format; count = it.count; bytes = it.bytes.items }) it.rest.items it.listed c.self.invariant
    (elim c.then-not-is_empty.branch [
      | then-not-is_empty-via-then-not-is_empty w ↦ inl (let some : length it.rest.items ≢ 0 = search rules in some)
      | then-not-is_empty-via-else-not-is_empty+then-listed-gt0 w ↦ inr w.if-listed-gt0.true
    ]))

pub returns-clause-found : goal.returns-clause-found
returns-clause-found c =
    let it = c.self.inside in
    let none : length it.rest.items ≡ 0 = search rules in
    let passed = c.self.invariant.passed in
    subst (λ (r : Reading). SpellsShort r.format c.into_list.result r.count r.bytes) c.self.view_is
    (rw c.into_list.ensures (record {
      some =
          passed_all it.format it.bytes.items it.rest.items it.listed.list it.count it.listed.left it.listed.records passed (nil_from_length it.rest.items none)
          (omega (arith, c.if-listed-gt0.false));
      short = omega (arith, passed.measured, c.if-listed-gt-MAX_STREAM_LENGTH.false);
    }))
