use Rattle.std.proofs.Common.{◌≡◌, [], ◌∷◌, ◌++◌, length, sym, ◌∙◌, ap, arith}
use Rattle.std.specs.Prelude.{option_to_list}
use Rattle.mark_anchors.specs.Ended.{ended_by, ended_of}
use Rattle.mark_anchors.proofs.EdgeLemmas.{are_edges_more}
use Rattle.mark_anchors.proofs.EndedLemmas.{ended_more}
use Rattle.mark_anchors.proofs.anchors.add.Goals as goal

pub returns-clause-kept : goal.returns-clause-kept
returns-clause-kept c =
    let i : c.len-i.result ≡ length c.args.markings.now.items = omega (arith, c.in_ok-reserve.ensures.len) in
    record {
      edges = rw (c.in-Ok.ensures.items, c.in_ok-reserve.ensures.items)
          (are_edges_more c.args.markings.now.items c.args.marking c.args.edges.now c.put_both.new.self (option_to_list c.start_edge.result)
          (option_to_list c.end_edge.result) c.len-i.result i c.requires.edges c.start_edge.ensures c.end_edge.ensures c.in_ok-put_both.ensures.put);
      ended = c.note.ensures
          ∙ (ap (λ ids. ids ++ ended_by c.args.marking.end) (c.in_ok-reserve-2.ensures.items ∙ c.requires.ended)
          ∙ (sym (ended_more c.args.markings.now.items c.args.marking)
          ∙ ap ended_of (sym (c.in-Ok.ensures.items ∙ ap (λ ms. ms ++ c.args.marking ∷ []) c.in_ok-reserve.ensures.items))));
    }
