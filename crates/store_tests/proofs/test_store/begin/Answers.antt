use Rattle.std.proofs.Common.{◌≡◌, ap, ◌∙◌, ◌++◌, refl}
use Rattle.change_codec.specs.Stream.{spelled_all}
use Rattle.change_codec.proofs.StreamLaws.{are_of_third}
use Rattle.group_commit.specs.Plan.{newest}
use Rattle.piece_codec.proofs.StreamLaws.{single_records}
use Rattle.store_tests.proofs.test_store.begin.Goals as goal

pub begin_records-requires : goal.begin_records-requires
begin_records-requires g c =
    let written : c.deref.result.now ≡ spelled_all c.args.ops.now =
    c.deref.ensures.value ∙ c.in_ok-put_ops.ensures.ok ∙ ap (λ front. front ++ spelled_all c.args.ops.now) c.new-records.ensures.items in (
      c.args.ops.now,
      record {
        spells = rw written (single_records newest c.args.ops.now c.in_ok-put_ops.ensures.fits (are_of_third c.args.ops.now));
        counted = refl;
      },
    )
