use Rattle.std.proofs.Common.{rules, suc, ◌∷◌, [], length, drop, sym, ap, ◌∙◌, arith}
use Rattle.std.proofs.Math.Seq.{drop-cons}
use Rattle.std.proofs.lemmas.Result.{err_from_is_err_and}
use Rattle.std.proofs.lemmas.List.{length-append}
use Rattle.locked_replica.proofs.RunLemmas.{ran_none}
use Rattle.locked_replica.proofs.Replies.{replied_none, replied_more}
use Rattle.locked_replica.proofs.running.run.Goals as goal

pub loop-step-init : goal.loop-step-init
loop-step-init g c = record {
  count = rw c.in_ok-replies.ensures.items (omega arith);
  room = search rules;
  replied = rw c.in_ok-replies.ensures.items
      (replied_none g.D.DiskFacts c.args.hub.now c.args.steps.now
      (ran_none g.D.DiskFacts c.args.hub.now (λ told. g.met.D.Disk.lawful c.args.hub.now.store.disk told) c.survivors.ensures.settled
      c.survivors.ensures.image));
}

pub loop-step-preserved : goal.loop-step-preserved
loop-step-preserved g c =
    let pushed = c.push_reserved.ensures.items in
    let item =
    drop-cons c.args.steps.now c.loop-step.step-index c.step-item.result c.loop-step-test.true
    ∙ ap (λ step. step ∷ drop (suc c.loop-step.step-index) c.args.steps.now) (sym c.step-item.is) in
    record {
      count = omega (arith, ap length pushed, length-append c.loop-step.replies.items (c.in_ok-reply.reply ∷ []), c.loop-step.invariant.count);
      room = search rules;
      replied = rw pushed
          (replied_more g.D.DiskFacts c.args.hub.now c.loop-step.hub c.make.new.hub c.args.steps.now _ c.loop-step.replies.items c.step-item.result
          c.in_ok-reply.reply (rw (sym c.loop-step.invariant.count) at item) (λ told. g.met.D.Disk.lawful c.make.new.hub.store.disk told)
          c.loop-step.invariant.replied c.in_ok-reply.ensures.call c.in_ok-reply.ensures.kind c.in_ok-reply.ensures.phase);
    }

pub returns-in_err-replies-clause-beginning : goal.returns-in_err-replies-clause-beginning
returns-in_err-replies-clause-beginning g c =
    let p = err_from_is_err_and c.from_residual.result c.from_residual.ensures.1 in
    rw p.1 (
      [],
      replied_none g.D.DiskFacts c.args.hub.now c.args.steps.now
          (ran_none g.D.DiskFacts c.args.hub.now (λ told. g.met.D.Disk.lawful c.args.hub.now.store.disk told) c.survivors.ensures.settled
          c.survivors.ensures.image),
    )

pub returns-in_err-reply-clause-beginning : goal.returns-in_err-reply-clause-beginning
returns-in_err-reply-clause-beginning g c =
    let p = err_from_is_err_and c.from_residual-in_err-reply.result c.from_residual-in_err-reply.ensures.1 in
    rw (p.1, c.in_err-reply.ensures.err) (c.loop-step.replies.items, c.loop-step.invariant.replied)

pub push_reserved-requires : goal.push_reserved-requires
push_reserved-requires g c = search rules

pub returns-clause-all : goal.returns-clause-all
returns-clause-all g c = search rules

pub returns-clause-ran : goal.returns-clause-ran
returns-clause-ran g c = c.loop-step.invariant.replied
