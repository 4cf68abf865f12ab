use Rattle.group_commit.proofs.store.Store.init.Goals as goal
use Rattle.std.proofs.Common.{ap, sym, ◌∙◌, refl, arith, length, ◌*◌}
use Rattle.group_commit.specs.Plan.{newest}
use Rattle.group_commit.specs.Saved.{with_stream}
use Rattle.group_commit.proofs.NewFileLemmas.{stands_new}
use Rattle.group_commit.proofs.Roots.{root_size}
use Rattle.group_commit.proofs.MovingLemmas.{stays_put}
use Rattle.group_commit.proofs.PagingLemmas.{paging_alone}
use Rattle.group_commit.proofs.DeviceCall.{left_of}

pub invariant_of-result : goal.invariant_of-result
invariant_of-result g c = (
  record {
    slots = omega (arith, c.of_new_file.ensures.live);
    room = ap length c.new-in-Ok-4.ensures.items ∙ ap (λ ns. 4096 * length ns) (sym c.new-in-Ok-3.ensures.items);
    plan = λ not_idle. absurd (not_idle refl);
    stands = λ told file left. rw (c.of_new_file.ensures.live, c.of_new_file.ensures.closed, c.in-Ok.ensures.left ((c.in-Ok.ensures.tells).0 told) file left)
        (stands_new (with_stream c.in-Ok.current c.new.result) (with_stream c.in-Ok.next c.new-in-Ok.result) newest 1 c.args.replica c.in-Ok.ensures.roots.valid
        (root_size c.in-Ok.current.body c.in-Ok.ensures.roots.valid) c.new.ensures
        c.in-Ok.ensures.roots.no_pages c.in-Ok.ensures.roots.root);
    reads = λ told works. tt;
  },
  record {
    of_current = ap length c.new.ensures ∙ sym (ap (λ r. r.stream_length) c.in-Ok.ensures.roots.root);
    of_next = ap length c.new-in-Ok.ensures ∙ sym c.in-Ok.ensures.roots.other;
    moving = stays_put _ _ (ap (λ r. r.format) c.in-Ok.ensures.roots.root);
  },
  paging_alone _ _ _ _ _ _ _ (record {
    tables = c.in-Ok.ensures.roots.no_tables ∙ sym (ap (λ r. r.tables) c.in-Ok.ensures.roots.root);
    live = rw (c.in-Ok.ensures.roots.no_tables, c.in-Ok.ensures.roots.no_data_pages) (sym c.in-Ok.ensures.roots.no_pages);
  }) c.in-Ok.ensures.roots.none_taken,
)

pub returns-in-Ok-clause-made : goal.returns-in-Ok-clause-made
returns-in-Ok-clause-made g c = record {
  root = c.in-Ok.ensures.roots.root;
  empty = c.new.ensures;
  idle = refl;
  works = refl;
  closed = c.of_new_file.ensures.closed;
  slot = c.of_new_file.ensures.live;
  taken = c.in-Ok.ensures.taken;
  made = c.in-Ok.ensures.made;
  left = λ told. left_of g.D.DiskFacts _ c.of_new_file.result.slot _ _ (invariant_of-result g c).0 (c.in-Ok.ensures.tells.1 told);
  tells = c.in-Ok.ensures.tells;
}
