use Rattle.std.proofs.Common.{◌≤◌, [], length, get_or, refl, sym, ◌∙◌, ap, arith}
use Rattle.char_sequence.specs.Cells.{shown}
use Rattle.char_sequence.specs.declared.chunk_size.ChunkSize.{ChunkSize}
use Rattle.char_sequence.proofs.PlaceLemmas.{ends_chunk}
use Rattle.char_sequence.proofs.ShownLemmas.{found_at}
use Rattle.char_sequence.proofs.SumLemmas.{seen_few}
use Rattle.char_sequence.proofs.shown.shown_of_chunk.Goals as goal
use Rattle.char_sequence.proofs.shown.shown_of_chunk.Goals.{Else-size}

-- a reader sees each cell of the chunk
whole : (c : Else-size) → length (get_or c.args.chunks.now c.args.i []) ≤ length (shown (get_or c.args.chunks.now c.args.i []))
whole c =
    let cells = ap (λ (s : ChunkSize). s.cells) c.requires.size in
    let seen = ap (λ (s : ChunkSize). s.shown) c.requires.size in
    let all = c.if-size.false in
    omega arith

pub returns-in-Some-clause-found : goal.returns-in-Some-clause-found
returns-in-Some-clause-found c =
    found_at c.args.chunks.now c.args.i c.args.k c.in-Some.cell _ (whole (goal.at.returns-in-Some-clause-found c).Else-size)
    (sym c.cell.ensures.cell ∙ c.in-Some.is) refl

pub returns-in-None-clause-found : goal.returns-in-None-clause-found
returns-in-None-clause-found c =
    let out = ends_chunk c.args.chunks.now c.args.i c.args.k (sym c.cell.ensures.cell ∙ c.in-None.is) in
    let few = seen_few (get_or c.args.chunks.now c.args.i []) in
    let here = c.requires.here in
    omega arith
