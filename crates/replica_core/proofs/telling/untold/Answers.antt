use Rattle.std.proofs.Common.{◌∙◌, ◌<◌, length, take, sym, arith}
use Rattle.std.proofs.lemmas.List.{get_or-take, length-take-le}
use Rattle.replica_core.proofs.TellLemmas.{told_none, told_more, told_all, known_in_front}
use Rattle.replica_core.proofs.telling.untold.Goals as goal

pub loop-next-init : goal.loop-next-init
loop-next-init c = record {
  told = rw c.new-found.ensures.items (told_none c.args.peer.now (take c.args.settled c.args.ops.now));
  within = omega arith;
}

pub loop-next-preserved : goal.loop-next-preserved
loop-next-preserved c =
    let here = c.if-next-settled.false in
    let front = length-take-le c.args.settled c.args.ops.now c.requires.within in
    let there : c.next_untold-next.result < length c.args.ops.now = omega (arith, c.requires.within) in
    let is_it = c.in_ok-op.ensures ∙ sym (get_or-take c.args.settled c.args.ops.now c.next_untold-next.result c.in_ok-op.op here) in
    record {
      told = told_more c.args.peer.now (take c.args.settled c.args.ops.now) c.loop-next.found.items c.push.new.self.items c.loop-next.from c.next_untold-next.result
          c.in_ok-op.op c.loop-next.invariant.told (omega arith)
          (known_in_front c.args.peer.now c.args.ops.now c.loop-next.from c.next_untold-next.result c.next_untold-next.result c.args.settled c.next_untold-next.ensures (omega arith) (omega arith))
          (c.next_untold-next.ensures.behind there) (omega arith) is_it (c.next_untold-next.ensures.new c.in_ok-op.op there c.in_ok-op.ensures) c.in_ok-push.ensures.items;
      within = omega arith;
    }

pub returns-then-next-settled-clause-told : goal.returns-then-next-settled-clause-told
returns-then-next-settled-clause-told c =
    let front = length-take-le c.args.settled c.args.ops.now c.requires.within in
    let within = c.loop-next.invariant.within in
    (told_all c.args.peer.now (take c.args.settled c.args.ops.now) c.loop-next.found.items c.loop-next.from c.loop-next.invariant.told (omega arith)
    (known_in_front c.args.peer.now c.args.ops.now c.loop-next.from c.next_untold-next.result (length (take c.args.settled c.args.ops.now)) c.args.settled c.next_untold-next.ensures (omega arith) (omega arith))).0

pub returns-then-next-settled-clause-reached : goal.returns-then-next-settled-clause-reached
returns-then-next-settled-clause-reached c =
    let front = length-take-le c.args.settled c.args.ops.now c.requires.within in
    let within = c.loop-next.invariant.within in
    (told_all c.args.peer.now (take c.args.settled c.args.ops.now) c.loop-next.found.items c.loop-next.from c.loop-next.invariant.told (omega arith)
    (known_in_front c.args.peer.now c.args.ops.now c.loop-next.from c.next_untold-next.result (length (take c.args.settled c.args.ops.now)) c.args.settled c.next_untold-next.ensures (omega arith) (omega arith))).1
