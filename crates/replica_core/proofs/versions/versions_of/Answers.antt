use Rattle.std.proofs.Common.{◌+◌, ◌<◌, ◌∷◌, ◌++◌, ◌∙◌, ap, sym, length, drop, arith}
use Rattle.list_counts.specs.Versions.{makers}
use Rattle.replica_core.specs.Versions.{versions_from}
use Rattle.replica_core.proofs.VersionLemmas.{at_most_next, maker_next, maker_none}
use Rattle.replica_core.proofs.versions.versions_of.Goals.{then-head-doc+in_ok-with_next, else-head-doc}
use Rattle.replica_core.proofs.versions.versions_of.Goals as goal

pub loop-at-preserved : goal.loop-at-preserved
loop-at-preserved c =
    let list = c.args.list.now in
    let k = c.loop-at.at in
    let rest = makers (drop (k + 1) list) c.args.doc in
    let so_far = c.loop-at.invariant in
    let here : k < length list = omega (arith, c.loop-at-test.true, c.len-at-end.ensures) in
    elim c.if-head-doc.branch [
      | then-head-doc+in_ok-with_next w ↦
          let next = maker_next list c.args.doc k c.head-head.result here c.head-head.ensures w.if-head-doc.true
          ∙ ap (λ r. r ∷ rest) (sym w.replica.ensures) in
          rw (w.ended-is, w.last-is) (
            so_far.0 ∙ (ap (λ ms. c.loop-at.ended.items ++ versions_from c.args.every c.loop-at.last ms) next ∙ w.in_ok-with_next.ensures.versions rest),
            w.in_ok-with_next.ensures.small k so_far.1,
          )
      | else-head-doc w ↦
          let next = maker_none list c.args.doc k c.head-head.result here c.head-head.ensures w.if-head-doc.false in
          rw (w.ended-is, w.last-is) (
            so_far.0 ∙ ap (λ ms. c.loop-at.ended.items ++ versions_from c.args.every c.loop-at.last ms) next,
            at_most_next k c.loop-at.last so_far.1,
          )
    ]
