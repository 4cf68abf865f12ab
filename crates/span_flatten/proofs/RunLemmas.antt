-- Runs that are taken from the last character on, and the spans that they are.
use Rattle.std.proofs.Common.{◌≡◌, ℕ, ◌+◌, ◌-◌, ◌<◌, true, false, List, [], ◌∷◌, ◌++◌, length, take, drop, map, get_or, set, reverse, refl, sym, ◌∙◌}
use Rattle.std.proofs.Common.{ap, arith}
use Rattle.std.proofs.lemmas.List.{reverse-append, take_more, take_more_set, take_all, drop_more, length-set}
use Rattle.op_model.specs.declared.mark.Marks.{Marks}
use Rattle.op_model.specs.Spans.{with_front, is_same_marks}
use Rattle.char_sequence.specs.declared.cell.Cell.{Cell}
use Rattle.span_flatten.specs.declared.run.Run.{Run}
use Rattle.span_flatten.specs.Runs.{cell_runs, span_of, spans_of_runs}

-- the last run becomes the first span
last_first : (front : List Run) (run : Run) → spans_of_runs (front ++ run ∷ []) ≡ span_of run ∷ spans_of_runs front
last_first front run = ap (λ rs. map span_of rs) (reverse-append front (run ∷ []))

pub front_and_last : (rs : List Run) (run : Run) → 0 < length rs → run ≡ get_or rs (length rs - 1) run
    → rs ≡ take (length rs - 1) rs ++ run ∷ []
front_and_last rs run some is_it =
    let whole : length rs - 1 + 1 ≡ length rs = omega arith in
    sym (take_all (length rs) rs (omega arith)) ∙ ap (λ n. take n rs) (sym whole)
    ∙ take_more rs (length rs - 1) run (omega arith) ∙ ap (λ r. take (length rs - 1) rs ++ r ∷ []) (sym is_it)

pub front_and_other : (rs : List Run) (other : Run) → 0 < length rs → set rs (length rs - 1) other ≡ take (length rs - 1) rs ++ other ∷ []
front_and_other rs other some =
    let whole : length rs - 1 + 1 ≡ length rs = omega arith in
    sym (take_all (length rs) (set rs (length rs - 1) other) (let long = length-set rs (length rs - 1) other in omega arith))
    ∙ ap (λ n. take n (set rs (length rs - 1) other)) (sym whole)
    ∙ take_more_set rs (length rs - 1) other (omega arith)

joined_last : (rs : List Run) (run other : Run) (value : ℕ) (marks : Marks) → 0 < length rs → run ≡ get_or rs (length rs - 1) run
    → is_same_marks marks run.marks ≡ true → other.values.items ≡ run.values.items ++ value ∷ [] → other.marks ≡ run.marks
    → spans_of_runs (set rs (length rs - 1) other) ≡ with_front value marks (spans_of_runs rs)
joined_last rs run other value marks some is_it same values kept =
    let front : List Run = take (length rs - 1) rs in
    let before : spans_of_runs rs ≡ span_of run ∷ spans_of_runs front = ap spans_of_runs (front_and_last rs run some is_it) ∙ last_first front run in
    let text : reverse other.values.items ≡ value ∷ reverse run.values.items = ap reverse values ∙ reverse-append run.values.items (value ∷ []) in
    let longer : span_of other ≡ record { text = value ∷ reverse run.values.items; marks = run.marks } = rw (text, kept) refl in
    ap spans_of_runs (front_and_other rs other some) ∙ last_first front other
    ∙ (ap (λ s. s ∷ spans_of_runs front) longer ∙ rw before (rw same refl))

-- a character that joins the last of n runs is the first one of the first span
pub joined : (rs : List Run) (n : ℕ) (run other : Run) (value : ℕ) (marks : Marks) → n ≡ length rs → 0 < n → run ≡ get_or rs (n - 1) run
    → is_same_marks marks run.marks ≡ true → other.values.items ≡ run.values.items ++ value ∷ [] → other.marks ≡ run.marks
    → spans_of_runs (set rs (n - 1) other) ≡ with_front value marks (spans_of_runs rs)
joined rs n run other value marks long some is_it same values kept =
    rw long (joined_last rs run other value marks (rw long at some) (rw long at is_it) same values kept)

-- a visible cell joins the runs behind it
pub cell_step : (marks : ℕ → Marks) (cells : List Cell) (i : ℕ) (c : Cell) → i < length cells → c ≡ get_or cells i c → c.is_removed ≡ false
    → with_front c.value (marks i) (cell_runs marks (i + 1) (drop (i + 1) cells)) ≡ cell_runs marks i (drop i cells)
cell_step marks cells i c there is_it shown =
    let split : drop i cells ≡ c ∷ drop (i + 1) cells = drop_more cells i c there ∙ ap (λ d. d ∷ drop (i + 1) cells) (sym is_it) in
    sym (ap (λ rest. cell_runs marks i rest) split ∙ rw shown refl)
