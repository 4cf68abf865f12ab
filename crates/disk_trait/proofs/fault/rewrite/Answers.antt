use Rattle.std.proofs.Common.{◌≡◌, ◌+◌, ◌≤◌, ℕ, List, length, arith, rules, ◌∙◌, ap}
use Rattle.disk_trait.specs.Fault.{extended}
use Rattle.disk_trait.proofs.CallLemmas.{tears_again, tears_wider}
use Rattle.disk_trait.proofs.FaultLemmas.{length-extended, extended_again}
use Rattle.disk_trait.proofs.fault.rewrite.Goals as goal

pub returns-in_err-rewrite_piece-clause-torn : goal.returns-in_err-rewrite_piece-clause-torn
returns-in_err-rewrite_piece-clause-torn g c told =
    let facts = g.D.DiskFacts in
    let still : facts.tells c.pieces.disk = search rules in
    tears_again facts c.args.pos c.args.len _ _ _ (c.pieces.invariant.torn told)
    (tears_wider facts c.args.pos c.args.len _ _ _ _ (omega arith) (omega (arith, c.min-count.ensures)) (c.rewrite_piece.ensures.torn still))

pub pieces-preserved : goal.pieces-preserved
pieces-preserved g c =
    let facts = g.D.DiskFacts in
    record {
      within = omega (arith, c.min-count.ensures);
      tells = search rules;
      torn = λ told.
          let still : facts.tells c.pieces.disk = search rules in
          tears_again facts c.args.pos c.args.len _ _ _ (c.pieces.invariant.torn told)
          (tears_wider facts c.args.pos c.args.len _ _ _ _ (omega arith) (omega (arith, c.min-count.ensures)) (c.rewrite_piece.ensures.torn still));
      same = λ told within.
          let still : facts.tells c.pieces.disk = search rules in
          let before = c.pieces.invariant.same told within in
          let file = facts.content c.args.disk.now in
          let reached : c.args.pos + c.pieces.done ≤ length (facts.content c.pieces.disk) = omega (arith, ap length before, length-extended file (c.args.pos + c.pieces.done)) in
          let sum : c.args.pos + c.pieces.done + c.min-count.result ≡ c.args.pos + (c.pieces.done + c.min-count.result) = omega arith in
          c.in_ok-rewrite_piece.ensures.same still reached
          ∙ ap (λ (xs : List ℕ). extended xs (c.args.pos + c.pieces.done + c.min-count.result)) before
          ∙ extended_again file (c.args.pos + c.pieces.done) (c.args.pos + c.pieces.done + c.min-count.result) (omega arith)
          ∙ ap (extended file) sum;
      kept = λ told.
          let still : facts.tells c.pieces.disk = search rules in
          c.in_ok-rewrite_piece.ensures.kept still ∙ c.pieces.invariant.kept told;
    }
