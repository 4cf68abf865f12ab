use Rattle.std.proofs.Common.{arith}
use Rattle.char_sequence.proofs.ChunkLemmas.{few_shown, put_hidden, put_visible}
use Rattle.char_sequence.proofs.chunk.Chunk.insert.Goals as goal

pub overflow_add-self : goal.overflow_add-self
overflow_add-self c = let few = few_shown _ _ c.self.invariant in omega arith

pub invariant_of-self-then-not-is_removed : goal.invariant_of-self-then-not-is_removed
invariant_of-self-then-not-is_removed c =
    let room = rw (← c.self.view_is) at c.requires.room in
    rw c.in_ok-insert.ensures.put (put_visible _ c.args.j _ c.args.cell c.self.invariant room c.if-not-is_removed.true)

pub invariant_of-self-else-not-is_removed : goal.invariant_of-self-else-not-is_removed
invariant_of-self-else-not-is_removed c =
    let room = rw (← c.self.view_is) at c.requires.room in
    rw c.in_ok-insert.ensures.put (put_hidden _ c.args.j _ c.args.cell c.self.invariant room c.if-not-is_removed.false)
