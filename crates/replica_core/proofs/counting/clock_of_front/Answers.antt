use Rattle.std.proofs.Common.{◌≡◌, ◌∙◌, true, sym, refl}
use Rattle.std.proofs.lemmas.Bool.{false≢true}
use Rattle.op_ids.specs.Clock.{is_clock}
use Rattle.replica_core.proofs.FrontLemmas.{is_front, made_in_front, recounted, recounted_all, recounted_none, recounted_some}
use Rattle.replica_core.proofs.counting.clock_of_front.Goals as goal
use Rattle.replica_core.proofs.counting.clock_of_front.Goals.{then-made-gt0+in_ok-push, else-made-gt0}

pub loop-entry-init : goal.loop-entry-init
loop-entry-init c = rw (c.new-entries.ensures.items, c.entries-entry-items.ensures.same) refl

pub loop-entry-preserved : goal.loop-entry-preserved
loop-entry-preserved c =
    elim c.if-made-gt0.branch [
      | then-made-gt0+in_ok-push w ↦ rw w.entries-is
          (recounted_some (made_in_front c.args.ops.now c.args.count) c.entries-entry-items.result.now c.loop-entry.entries.items w.push.new.self.items (recounted (made_in_front c.args.ops.now c.args.count) c.args.clock.now)
          c.loop-entry.entry-index c.count_before-made.result c.entry-item.result c.loop-entry.invariant c.loop-entry-test.true c.entry-item.is c.count_before-made.ensures
          w.if-made-gt0.true w.in_ok-push.ensures.items)
      | else-made-gt0 w ↦ rw w.entries-is
          (recounted_none (made_in_front c.args.ops.now c.args.count) c.entries-entry-items.result.now c.loop-entry.entries.items (recounted (made_in_front c.args.ops.now c.args.count) c.args.clock.now)
          c.loop-entry.entry-index c.count_before-made.result c.entry-item.result c.loop-entry.invariant c.loop-entry-test.true c.entry-item.is c.count_before-made.ensures
          w.if-made-gt0.false)
    ]

pub unreachable-requires : goal.unreachable-requires
unreachable-requires c =
    let whole = recounted_all (made_in_front c.args.ops.now c.args.count) c.entries-entry-items.result.now c.loop-entry.entries.items (recounted (made_in_front c.args.ops.now c.args.count) c.args.clock.now)
    c.loop-entry.entry-index c.loop-entry.invariant c.loop-entry-test.false in
    let rising : is_clock c.args.clock.now ≡ true = rw c.entries-entry-items.ensures.same at c.entries-entry-items.ensures.rising in
    let front = is_front c.args.ops.now c.args.count c.args.clock.now c.requires.closed c.requires.clock rising in
    false≢true (c.in-None.ensures.valid.1 (rw whole at front.is_it))

pub returns : goal.returns
returns c =
    let whole = recounted_all (made_in_front c.args.ops.now c.args.count) c.entries-entry-items.result.now c.loop-entry.entries.items (recounted (made_in_front c.args.ops.now c.args.count) c.args.clock.now)
    c.loop-entry.entry-index c.loop-entry.invariant c.loop-entry-test.false in
    let rising : is_clock c.args.clock.now ≡ true = rw c.entries-entry-items.ensures.same at c.entries-entry-items.ensures.rising in
    let front = is_front c.args.ops.now c.args.count c.args.clock.now c.requires.closed c.requires.clock rising in
    c.in-Some.ensures.same ∙ (sym whole ∙ front.clock)
