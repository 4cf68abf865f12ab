use Rattle.std.proofs.Common.{refl, ap, sym, ◌∙◌, length, []}
use Rattle.group_commit.specs.Saved.{with_stream}
use Rattle.group_commit.proofs.Steps.{is_idle, live_by_older}
use Rattle.group_commit.proofs.PagingLemmas.{paging_alone}
use Rattle.group_commit.proofs.store.Store.load.Goals as goal

pub invariant_of-store : goal.invariant_of-store
invariant_of-store g c = (
  record {
    slots = c.in-Ok.ensures.read.slot;
    room = rw (c.new-in-Ok.ensures.items, c.new-in-Ok-2.ensures.items) refl;
    plan = λ busy. absurd (busy refl);
    stands = λ told file left.
        let before = c.in-Ok.ensures.looks.tells.0 told in
        rw (c.in-Ok.ensures.settled before file left, c.new.ensures) (c.in-Ok.ensures.read.stands before);
    reads = λ told works. tt;
  },
  record {
    of_current = c.in-Ok.ensures.read.long;
    of_next = ap length c.new.ensures ∙ sym c.in-Ok.ensures.read.other;
    moving = c.in-Ok.ensures.read.moving;
  },
  paging_alone _ _ _ _ _ _ _ c.in-Ok.ensures.read.index c.in-Ok.ensures.read.none_taken,
)

pub returns-in-Ok-clause-loaded : goal.returns-in-Ok-clause-loaded
returns-in-Ok-clause-loaded g c =
    let read = c.in-Ok.ensures.read in
    let root = λ (told : g.D.DiskFacts.tells c.args.disk).
    is_idle c.in-Ok.image.roots.slot c.in-Ok.image.roots.stale_open (with_stream c.in-Ok.image.current c.in-Ok.image.stream) (with_stream c.in-Ok.image.next [])
    (g.D.DiskFacts.content c.args.disk) read.slot (read.stands told) in
    record {
      root = root;
      slot = λ told.
          live_by_older c.in-Ok.image.roots.slot c.in-Ok.image.roots.stale_open _ _ (g.D.DiskFacts.content c.args.disk) read.slot (read.stands told);
      history = rw (c.replica-replica.ensures) read.history;
      idle = refl;
      works = refl;
      settled = c.in-Ok.ensures.settled;
      left = λ told file left. rw (c.in-Ok.ensures.settled told file left) (root told);
    }
