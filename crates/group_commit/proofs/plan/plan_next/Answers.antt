use Rattle.std.proofs.Common.{refl, inl, []}
use Rattle.group_commit.specs.Changes.{data_of}
use Rattle.group_commit.specs.Planning.{Prepares}
use Rattle.group_commit.specs.Saved.{HasDataPages, with_stream}
use Rattle.group_commit.proofs.BaseLemmas.{planned, has_none, moved_plan}
use Rattle.group_commit.proofs.PlanLemmas.{data_is}
use Rattle.group_commit.proofs.plan.plan_next.Goals as goal

pub make_plan-requires-else-whole : goal.make_plan-requires-else-whole
make_plan-requires-else-whole c = record {
  is_index = c.requires.is_index;
  none_taken = c.requires.none_taken;
  is_base = inl refl;
  had = c.live_data_pages-data_pages.ensures c.args.stream.now c.requires.long;
  some = c.requires.some;
  room = rw c.if-whole.false at c.requires.room;
  version = c.requires.version;
  count = c.requires.count;
}

pub returns-in_ok-next_stream-clause-plan : goal.returns-in_ok-next_stream-clause-plan
returns-in_ok-next_stream-clause-plan c =
    let current = with_stream c.args.live.root.now c.args.stream.now in
    let its = c.live_data_pages-data_pages.ensures c.args.stream.now c.requires.long in
    let had : HasDataPages current (data_of current) = rw (data_is current c.live_data_pages-data_pages.result.now its) its in
    let empty = c.in_ok-base.ensures in
    let made : Prepares c.args.live.root.now.pages (with_stream c.in_ok-base.base []) c.args.new.bytes.now c.args.new.count
    (with_stream c.in_ok-plan.plan.next c.in_ok-next_stream.next_stream) c.in_ok-plan.plan.numbers.items c.in_ok-plan.plan.fresh.items =
    rw (c.in_ok-next_stream.ensures, c.new-none.ensures) (rw c.new-none.ensures at c.in_ok-plan.ensures.plan) in
    rw (c.if-whole.true) (moved_plan c.args.live.root.now c.in_ok-base.base empty c.args.stream.now _ _ _ _ _
    (planned current (with_stream c.in_ok-base.base []) _ _ _ _ _ had empty.version (λ file has. has_none c.args.live.root.now c.in_ok-base.base empty file) made))

pub returns-in_ok-next_stream-2-clause-plan : goal.returns-in_ok-next_stream-2-clause-plan
returns-in_ok-next_stream-2-clause-plan c =
    let current = with_stream c.args.live.root.now c.args.stream.now in
    let its = c.live_data_pages-data_pages.ensures c.args.stream.now c.requires.long in
    let had : HasDataPages current (data_of current) = rw (data_is current c.live_data_pages-data_pages.result.now its) its in
    rw (c.if-whole.false, c.in_ok-next_stream-2.ensures) (planned current current _ _ _ _ _ had refl (λ file has. has) c.in_ok-plan-2.ensures.plan)
