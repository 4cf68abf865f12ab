use Rattle.std.proofs.Common.{◌++◌, ap, ◌∙◌, arith, length}
use Rattle.std.proofs.lemmas.List.{length-replicate}
use Rattle.std.specs.Prelude.{replicate}
use Rattle.root_slots.specs.Root.{stream_length_of}
use Rattle.group_commit.specs.Saved.{with_stream}
use Rattle.group_commit.proofs.Roots.{root_few}
use Rattle.group_commit.proofs.plan.free_pages.Goals as goal

pub lowest_free_pages-requires : goal.lowest_free_pages-requires
lowest_free_pages-requires c =
    let few = root_few (with_stream c.args.current.now (replicate (stream_length_of c.args.current.now.body) 0)) c.data_pages-reached.result.now.items
    (c.data_pages-reached.ensures (replicate (stream_length_of c.args.current.now.body) 0) (length-replicate (stream_length_of c.args.current.now.body) 0)) in
    record { few = omega (arith, few, c.requires.few, ap length (ap (λ t. t ++ (c.args.pages.now.tables ++ c.args.pages.now.data_pages)) c.requires.none ∙ c.requires.index.live)) }
