use Rattle.std.proofs.lemmas.List.{take_all}
use Rattle.std.proofs.Common.{◌≡◌, List, take, subst, arith}
use Rattle.op_model.specs.declared.op.Op.{Op}
use Rattle.replica_core.specs.Passing.{ArePassed}
use Rattle.replica_core.proofs.DraftLemmas.{take_push}
use Rattle.replica_core.proofs.FollowLemmas.{follows_front}
use Rattle.replica_core.proofs.ReadLemmas.{read_more, read_there}
use Rattle.replica_core.proofs.opening.counted.Goals as goal

pub loop-i-init : goal.loop-i-init
loop-i-init c = record { read = c.reader-reader.ensures; passed = c.new-passed.ensures c.args.replica }

pub returns-in-Err-clause-bad : goal.returns-in-Err-clause-bad
returns-in-Err-clause-bad c = λ other.
    let there = read_there c.args.list.now c.loop-i.i c.loop-i.reader c.read.new.self c.op.result.now c.loop-i.invariant.read c.in_ok-read.ensures.ok c.op.ensures in
    let bad = c.in-Err.ensures.bad other in (
      bad.0,
      λ closed.
          let follows = follows_front c.args.list.now c.loop-i.i c.op.result.now closed (omega arith) there in
          bad.1 (rw c.front.ensures follows.1),
    )

pub loop-i-preserved : goal.loop-i-preserved
loop-i-preserved c =
    let there = read_there c.args.list.now c.loop-i.i c.loop-i.reader c.read.new.self c.op.result.now c.loop-i.invariant.read c.in_ok-read.ensures.ok c.op.ensures in
    let grown = take_push c.args.list.now c.loop-i.i c.op.result.now (omega arith) there in
    record {
      read = read_more c.args.list.now c.loop-i.i c.loop-i.reader c.read.new.self c.loop-i.invariant.read c.in_ok-read.ensures.ok;
      passed = rw (grown) (rw c.front.ensures at c.in_default.ensures.passed);
    }

pub returns-clause-known : goal.returns-clause-known
returns-clause-known c =
    let all : take c.loop-i.i c.args.list.now ≡ c.args.list.now = take_all c.loop-i.i c.args.list.now (omega (arith, c.len-i-end.ensures)) in
    c.in_ok-found.ensures.known c.args.list.now c.args.replica (subst (λ (ops : List Op). ArePassed c.loop-i.passed c.args.replica ops) all c.loop-i.invariant.passed)
