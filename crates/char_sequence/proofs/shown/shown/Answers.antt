use Rattle.std.proofs.Common.{◌≡◌, inl, inr, refl, ◌≤◌, ◌+◌, ◌-◌, [], length, drop, get_or, sym, ◌∙◌, ap, arith}
use Rattle.char_sequence.specs.Cells.{behind_shown, shown, shown_at}
use Rattle.char_sequence.specs.Chunks.{cells_of}
use Rattle.char_sequence.proofs.BehindLemmas.{behind_chunk}
use Rattle.char_sequence.proofs.GroupSearchLemmas.{near_next, near_none, reads_all, reads_few, several, Reads}
use Rattle.char_sequence.proofs.PlaceLemmas.{few_in_chunk}
use Rattle.char_sequence.proofs.ShownLemmas.{seen_of}
use Rattle.char_sequence.proofs.SizeLemmas.{few_chunks, next_chunk, none_read, past_all, past_chunk, size_read}
use Rattle.char_sequence.proofs.shown.shown.Goals as goal
use Rattle.char_sequence.proofs.shown.shown.Goals.{After-shown_of_chunk}

pub shown_of_chunk-requires-clause-size : goal.shown_of_chunk-requires-clause-size
shown_of_chunk-requires-clause-size c =
    let read = size_read c.args.chunks.now c.loop-size.i c.in-Some.size (sym c.chunk.ensures.size ∙ c.in-Some.is) in
    let cells : c.in-Some.size ≡ record { cells = length (get_or c.args.chunks.now c.loop-size.i []); shown = c.in-Some.size.shown } =
    ap (λ n. record { cells = n; shown = c.in-Some.size.shown }) read.1 in
    cells ∙ ap (λ n. record { cells = length (get_or c.args.chunks.now c.loop-size.i []); shown = n }) read.2

pub shown_of_chunk-requires-clause-here : goal.shown_of_chunk-requires-clause-here
shown_of_chunk-requires-clause-here c =
    let read = size_read c.args.chunks.now c.loop-size.i c.in-Some.size (sym c.chunk.ensures.size ∙ c.in-Some.is) in
    let here = c.if-left-size.true in
    let is = read.2 in
    omega arith

pub returns-then-left-size-clause-found : goal.returns-then-left-size-clause-found
returns-then-left-size-clause-found c =
    seen_of c.args.chunks.now c.loop-size.i c.args.k c.loop-size.left c.shown_of_chunk.result c.loop-size.invariant.found c.loop-size.invariant.rest
    c.shown_of_chunk.ensures.found

-- what was read where the cell is found
reads : (c : After-shown_of_chunk) → Reads c.args.ticks.now c.past_groups-start.new.ticks c.loop-size.ticks c.shown_of_chunk.new.ticks c.past_groups-start.result.chunk c.loop-size.i c.in-Some.size.cells
reads c =
    let read = size_read c.args.chunks.now c.loop-size.i c.in-Some.size (sym c.chunk.ensures.size ∙ c.in-Some.is) in
    let small = few_in_chunk c.args.chunks.now c.loop-size.i c.are_sized.ensures.chunks.sized in
    record {
      groups = c.past_groups-start.ensures.ticks;
      low = c.loop-size.invariant.low;
      chunks = c.loop-size.invariant.ticks;
      last = let one = c.chunk.ensures.tick in let more = c.shown_of_chunk.ensures.ticks in omega arith;
      small = let cells = read.1 in omega arith;
    }

pub returns-then-left-size-clause-ticks : goal.returns-then-left-size-clause-ticks
returns-then-left-size-clause-ticks c =
    let held = c.args.chunks.now in
    let read = size_read held c.loop-size.i c.in-Some.size (sym c.chunk.ensures.size ∙ c.in-Some.is) in
    reads_all c.args.ticks.now c.past_groups-start.new.ticks c.loop-size.ticks c.shown_of_chunk.new.ticks c.past_groups-start.result.chunk c.loop-size.i
    c.in-Some.size.cells (length held) (length (cells_of held)) (reads (goal.at.returns-then-left-size-clause-ticks c).After-shown_of_chunk) read.0
    c.past_groups-start.ensures.none (several held c.are_sized.ensures.chunks) (few_chunks held c.are_sized.ensures.chunks)

pub returns-then-left-size-clause-fewer : goal.returns-then-left-size-clause-fewer
returns-then-left-size-clause-fewer c =
    let held = c.args.chunks.now in
    let read = size_read held c.loop-size.i c.in-Some.size (sym c.chunk.ensures.size ∙ c.in-Some.is) in
    reads_few c.args.ticks.now c.past_groups-start.new.ticks c.loop-size.ticks c.shown_of_chunk.new.ticks c.past_groups-start.result.chunk c.loop-size.i
    c.in-Some.size.cells (length held) (length (cells_of held)) (reads (goal.at.returns-then-left-size-clause-fewer c).After-shown_of_chunk)
    c.loop-size.invariant.here (λ whole. near_none held c.loop-size.i _ c.loop-size.left (c.loop-size.invariant.near whole)) (inl read.0)
    (few_chunks held c.are_sized.ensures.chunks)

pub overflow_add-i : goal.overflow_add-i
overflow_add-i c =
    let next = next_chunk c.args.chunks.now c.loop-size.i c.in-Some.size c.are_sized.ensures.many (sym c.chunk.ensures.size ∙ c.in-Some.is) in
    let fits = next.1 in
    omega arith

pub loop-size-smaller : goal.loop-size-smaller
loop-size-smaller c =
    let here = next_chunk c.args.chunks.now c.loop-size.i c.in-Some.size c.are_sized.ensures.many (sym c.chunk.ensures.size ∙ c.in-Some.is) in
    let more = here.0 in
    omega arith

pub loop-size-preserved : goal.loop-size-preserved
loop-size-preserved c =
    let read = size_read c.args.chunks.now c.loop-size.i c.in-Some.size (sym c.chunk.ensures.size ∙ c.in-Some.is) in
    let start = c.past_groups-start.result.chunk in
    let past : length (shown (get_or c.args.chunks.now c.loop-size.i [])) ≤ c.loop-size.left =
    (let out = c.if-left-size.false in let is = read.2 in omega arith) in
    record {
      found = c.loop-size.invariant.found
          ∙ (past_chunk c.args.chunks.now c.loop-size.i c.loop-size.left past
          ∙ ap (λ n. shown_at (cells_of (drop (c.loop-size.i + 1) c.args.chunks.now)) (c.loop-size.left - n)) (sym read.2));
      rest = c.loop-size.invariant.rest
          ∙ (behind_chunk c.args.chunks.now c.loop-size.i (c.loop-size.left + 1) (omega arith)
          ∙ ap (behind_shown (cells_of (drop (c.loop-size.i + 1) c.args.chunks.now))) (let is = read.2 in omega arith));
      here = let here = read.0 in omega arith;
      low = let low = c.loop-size.invariant.low in omega arith;
      near = λ whole.
          let before = c.loop-size.invariant.near whole in
          let some = near_none c.args.chunks.now c.loop-size.i _ c.loop-size.left before in
          let next = near_next c.args.chunks.now c.loop-size.i (start + 64 - (c.loop-size.i + 1)) (start + 64 - c.loop-size.i) c.loop-size.left read.0 (omega arith) before past in
          let is = read.2 in
          omega arith;
      ticks = let tick = c.chunk.ensures.tick in let so_far = c.loop-size.invariant.ticks in let low = c.loop-size.invariant.low in omega arith;
      rising = let tick = c.chunk.ensures.tick in let so_far = c.loop-size.invariant.rising in omega arith;
    }

pub returns-clause-found : goal.returns-clause-found
returns-clause-found c =
    let end = none_read c.args.chunks.now c.loop-size.i (sym c.chunk.ensures.size ∙ c.in_default.is) in
    c.loop-size.invariant.found ∙ ap (λ cs. shown_at cs c.loop-size.left) (past_all c.args.chunks.now c.loop-size.i end)

pub returns-clause-ticks : goal.returns-clause-ticks
returns-clause-ticks c =
    let few = few_chunks c.args.chunks.now c.are_sized.ensures.chunks in
    let so_far = c.loop-size.invariant.ticks in
    let here = c.loop-size.invariant.here in
    let one = c.chunk.ensures.tick in
    let started = c.past_groups-start.ensures.ticks in
    let low = c.loop-size.invariant.low in
    omega arith

pub returns-clause-fewer : goal.returns-clause-fewer
returns-clause-fewer c =
    let held = c.args.chunks.now in
    reads_few c.args.ticks.now c.past_groups-start.new.ticks c.loop-size.ticks c.chunk.new.ticks c.past_groups-start.result.chunk c.loop-size.i
    0 (length held) (length (cells_of held)) (record {
      groups = c.past_groups-start.ensures.ticks;
      low = c.loop-size.invariant.low;
      chunks = c.loop-size.invariant.ticks;
      last = let one = c.chunk.ensures.tick in omega arith;
      small = omega arith;
    }) c.loop-size.invariant.here (λ whole. near_none held c.loop-size.i _ c.loop-size.left (c.loop-size.invariant.near whole)) (inr refl)
    (few_chunks held c.are_sized.ensures.chunks)
