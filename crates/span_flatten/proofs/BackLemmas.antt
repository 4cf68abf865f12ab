-- Runs from the left: what a character behind them makes of them.
use Rattle.std.proofs.Common.{◌≡◌, ℕ, suc, ◌+◌, ◌-◌, ◌<◌, true, false, inl, inr, if◌then◌else◌, List, [], ◌∷◌, ◌++◌, length, take, map, get_or, set}
use Rattle.std.proofs.Common.{Some, refl, sym, ◌∙◌, ap, arith}
use Rattle.std.specs.Prelude.{slice_get}
use Rattle.std.proofs.lemmas.Bool.{cases_Bool, false≢true}
use Rattle.op_model.specs.declared.mark.Marks.{Marks}
use Rattle.op_model.specs.declared.span.Span.{Span}
use Rattle.op_model.specs.Spans.{is_same_marks, with_front}
use Rattle.model_laws.proofs.Runs.{marks_equal, marks_same}
use Rattle.char_sequence.specs.declared.cell.Cell.{Cell}
use Rattle.span_flatten.specs.declared.run.Run.{Run}
use Rattle.span_flatten.specs.Runs.{cell_runs}
use Rattle.span_flatten.specs.Sweeping.{extended, forward_span, is_last_same, last_comments, with_back, IsLast}
use Rattle.span_flatten.proofs.RunLemmas.{front_and_last, front_and_other}

-- the last one is joined
pub back_joined : (value : ℕ) (marks : Marks) (ss : List Span) → is_last_same marks ss ≡ true → with_back value marks ss ≡ extended value ss
back_joined value marks [] same = absurd (false≢true same)
back_joined value marks (s ∷ []) same = rw same refl
back_joined value marks (s ∷ t ∷ ss) same = ap (λ rest. s ∷ rest) (back_joined value marks (t ∷ ss) same)

-- or another one begins
pub back_begun : (value : ℕ) (marks : Marks) (ss : List Span) → is_last_same marks ss ≡ false
    → with_back value marks ss ≡ ss ++ record { text = value ∷ []; marks = marks } ∷ []
back_begun value marks [] other = refl
back_begun value marks (s ∷ []) other = rw other refl
back_begun value marks (s ∷ t ∷ ss) other = ap (λ rest. s ∷ rest) (back_begun value marks (t ∷ ss) other)

pub last_same : (marks : Marks) (ss : List Span) → IsLast marks ss → is_last_same marks ss ≡ true
last_same marks [] is = absurd is
last_same marks (s ∷ []) is = rw is (marks_same marks)
last_same marks (s ∷ t ∷ ss) is = last_same marks (t ∷ ss) is

pub last_equal : (marks : Marks) (ss : List Span) → is_last_same marks ss ≡ true → IsLast marks ss
last_equal marks [] same = absurd (false≢true same)
last_equal marks (s ∷ []) same = marks_equal s.marks marks same
last_equal marks (s ∷ t ∷ ss) same = last_equal marks (t ∷ ss) same

pub last_extended : (value : ℕ) (marks : Marks) (ss : List Span) → IsLast marks ss → IsLast marks (extended value ss)
last_extended value marks [] is = is
last_extended value marks (s ∷ []) is = is
last_extended value marks (s ∷ t ∷ []) is = is
last_extended value marks (s ∷ t ∷ u ∷ ss) is = last_extended value marks (t ∷ u ∷ ss) is

pub last_begun : (s : Span) (ss : List Span) → IsLast s.marks (ss ++ s ∷ [])
last_begun s [] = refl
last_begun s (t ∷ []) = refl
last_begun s (t ∷ u ∷ ss) = last_begun s (u ∷ ss)

-- the same of runs
pub last_of_runs : (marks : Marks) (rs : List Run) (run : Run) → slice_get rs (length rs - 1) ≡ Some run
    → is_last_same marks (map forward_span rs) ≡ is_same_marks run.marks marks
last_of_runs marks [] run there = absurd (cc)
last_of_runs marks (r ∷ []) run there =
    let none : 1 - 1 ≡ 0 = omega arith in
    let there_too : slice_get (r ∷ []) 0 ≡ Some run = there in
    let same : r ≡ run = cc in ap (λ (x : Run). is_same_marks x.marks marks) same
last_of_runs marks (r ∷ s ∷ rs) run there =
    let less : suc (suc (length rs)) - 1 ≡ suc (length rs) = omega arith in
    let too : suc (length rs) - 1 ≡ length rs = omega arith in
    last_of_runs marks (s ∷ rs) run (rw too (rw less at there))

extended_last : (value : ℕ) (front : List Run) (run other : Run) → other.values.items ≡ run.values.items ++ value ∷ [] → other.marks ≡ run.marks
    → map forward_span (front ++ other ∷ []) ≡ extended value (map forward_span (front ++ run ∷ []))
extended_last value [] run other values marks = rw (values, marks) refl
extended_last value (f ∷ []) run other values marks = ap (λ rest. forward_span f ∷ rest) (extended_last value [] run other values marks)
extended_last value (f ∷ g ∷ front) run other values marks = ap (λ rest. forward_span f ∷ rest) (extended_last value (g ∷ front) run other values marks)

pub runs_extended : (rs : List Run) (n value : ℕ) (run other : Run) → n ≡ length rs → 0 < n → run ≡ get_or rs (n - 1) run
    → other.values.items ≡ run.values.items ++ value ∷ [] → other.marks ≡ run.marks
    → map forward_span (set rs (n - 1) other) ≡ extended value (map forward_span rs)
runs_extended rs n value run other long some is_it values marks =
    let there : 0 < length rs = omega arith in
    let is : run ≡ get_or rs (length rs - 1) run = rw long at is_it in
    rw long (ap (map forward_span) (front_and_other rs other there)
    ∙ (extended_last value (take (length rs - 1) rs) run other values marks
    ∙ sym (ap (λ r. extended value (map forward_span r)) (front_and_last rs run there is))))

pub no_runs : (rs : List Run) (value : ℕ) → length rs ≡ 0 → map forward_span rs ≡ extended value (map forward_span rs)
no_runs [] value none = refl
no_runs (r ∷ rs) value none = absurd (omega arith)

pub runs_begun : (rs now : List Run) (value : ℕ) (new : Run) → now ≡ rs ++ new ∷ [] → new.values.items ≡ value ∷ []
    → map forward_span now ≡ map forward_span rs ++ record { text = value ∷ []; marks = new.marks } ∷ []
runs_begun rs now value new is values = ap (map forward_span) is ∙ (front rs ∙ ap (λ text. map forward_span rs ++ record { text = text; marks = new.marks } ∷ []) values)
  where
    front : (fs : List Run) → map forward_span (fs ++ new ∷ []) ≡ map forward_span fs ++ forward_span new ∷ []
    front [] = refl
    front (f ∷ fs) = ap (λ rest. forward_span f ∷ rest) (front fs)

-- what the last one lists, where a character joins it, and where another one begins
pub comments_extended : (value : ℕ) (ss : List Span) → last_comments (extended value ss) ≡ last_comments ss
comments_extended value [] = refl
comments_extended value (s ∷ []) = refl
comments_extended value (s ∷ t ∷ []) = refl
comments_extended value (s ∷ t ∷ u ∷ ss) = comments_extended value (t ∷ u ∷ ss)

pub comments_begun : (s : Span) (ss : List Span) → last_comments (ss ++ s ∷ []) ≡ s.marks.comments
comments_begun s [] = refl
comments_begun s (t ∷ []) = refl
comments_begun s (t ∷ u ∷ ss) = comments_begun s (u ∷ ss)

pub comments_of_runs : (rs : List Run) (run : Run) → slice_get rs (length rs - 1) ≡ Some run → last_comments (map forward_span rs) ≡ run.marks.comments
comments_of_runs [] run there = absurd (cc)
comments_of_runs (r ∷ []) run there =
    let none : 1 - 1 ≡ 0 = omega arith in
    let there_too : slice_get (r ∷ []) 0 ≡ Some run = there in
    let same : r ≡ run = cc in ap (λ (x : Run). x.marks.comments) same
comments_of_runs (r ∷ s ∷ rs) run there =
    let less : suc (suc (length rs)) - 1 ≡ suc (length rs) = omega arith in
    let too : suc (length rs) - 1 ≡ length rs = omega arith in
    comments_of_runs (s ∷ rs) run (rw too (rw less at there))

-- a character before, and one behind
front_and_back : (v : ℕ) (m : Marks) (value : ℕ) (marks : Marks) (ss : List Span)
    → with_front v m (with_back value marks ss) ≡ with_back value marks (with_front v m ss)
front_and_back v m value marks [] =
    elim (cases_Bool (is_same_marks m marks)) [
      | inl e ↦ let same : m ≡ marks = marks_equal m marks e in rw e (ap (λ n. record { text = v ∷ value ∷ []; marks = n } ∷ []) (sym same))
      | inr e ↦ rw e refl
    ]
front_and_back v m value marks (s ∷ []) =
    elim (cases_Bool (is_same_marks m s.marks)) [
      | inl e ↦ elim (cases_Bool (is_same_marks s.marks marks)) [
        | inl f ↦ rw (e, f, e) refl
        | inr f ↦ rw (e, f, e) refl
      ]
      | inr e ↦ elim (cases_Bool (is_same_marks s.marks marks)) [
        | inl f ↦ rw (e, f, e) refl
        | inr f ↦ rw (e, f, e) refl
      ]
    ]
front_and_back v m value marks (s ∷ t ∷ ss) =
    elim (cases_Bool (is_same_marks m s.marks)) [
      | inl e ↦ rw e refl
      | inr e ↦ rw e refl
    ]

-- one more cell behind others
pub back_step : (at : ℕ → Marks) (j : ℕ) (cs : List Cell) (c : Cell)
    → cell_runs at j (cs ++ c ∷ []) ≡ (if c.is_removed then cell_runs at j cs else with_back c.value (at (j + length cs)) (cell_runs at j cs))
back_step at j [] c = let same : j + 0 ≡ j = omega arith in rw same refl
back_step at j (d ∷ cs) c =
    let same : j + suc (length cs) ≡ j + 1 + length cs = omega arith in
    let rest = back_step at (j + 1) cs c in
    elim (cases_Bool d.is_removed) [
      | inl e ↦ rw (e, same) rest
      | inr e ↦ elim (cases_Bool c.is_removed) [
        | inl f ↦ rw (e, f) (ap (with_front d.value (at j)) (rw f at rest))
        | inr f ↦ rw (e, f, same) (ap (with_front d.value (at j)) (rw f at rest)
            ∙ front_and_back d.value (at j) c.value (at (j + 1 + length cs)) (cell_runs at (j + 1) cs))
      ]
    ]
