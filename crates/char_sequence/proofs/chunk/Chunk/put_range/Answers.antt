use Rattle.std.proofs.Common.{◌≡◌, ◌∷◌, [], ◌<◌, Some, length, append_assoc, sym, ◌∙◌, arith}
use Rattle.std.specs.Prelude.{slice_get, slice_range}
use Rattle.char_sequence.proofs.ChunkLemmas.{copied, not_past}
use Rattle.char_sequence.proofs.chunk.Chunk.put_range.Goals as goal
use Rattle.char_sequence.proofs.chunk.Chunk.put_range.Goals.{in_default, in-Some+in_ok-push}

pub loop-j-preserved : goal.loop-j-preserved
loop-j-preserved c =
    let here = rw c.self.view_is at c.get.ensures in
    let within : c.loop-j.j < length c.args.self.now = (let end = c.loop-j-test.true in let most = c.requires.within in let all = c.loop-j.auto in omega arith) in
    elim c.match-get.branch [
      | in-Some+in_ok-push w ↦
          let there : slice_get c.args.self.now c.loop-j.j ≡ Some w.in-Some.cell = sym here ∙ w.in-Some.is in
          rw (
            w.into-is,
            w.in_ok-push.ensures.items,
            c.loop-j.invariant,
            copied c.args.self.now c.args.from c.loop-j.j w.in-Some.cell c.loop-j.auto.j there,
          )
          (append_assoc c.args.into.now.items (slice_range c.args.self.now c.args.from c.loop-j.j) (w.in-Some.cell ∷ []))
      | in_default w ↦ absurd (not_past c.args.self.now c.loop-j.j (sym here ∙ w.in_default.is) within)
    ]
