-- The entries of a clock, one after another.
use Rattle.std.proofs.Common.{◌≡◌, ℕ, ◌+◌, ◌<◌, List, ◌++◌, length, get_or, drop, sym, ap, ◌∙◌}
use Rattle.std.proofs.lemmas.List.{drop_more, length-append}
use Rattle.change_codec.specs.Spelling.{entry_bytes, entries_bytes}

-- the first of the entries that are left
pub entries_from : (es : List (ℕ × ℕ)) (i : ℕ) (e : ℕ × ℕ) → i < length es → e ≡ get_or es i e → entries_bytes (drop i es) ≡ entry_bytes e ++ entries_bytes (drop (i + 1) es)
entries_from es i e lt is =
    ap entries_bytes (drop_more es i e lt) ∙ ap (λ (x : ℕ × ℕ). entry_bytes x ++ entries_bytes (drop (i + 1) es)) (sym is)

-- and its length
pub length-entries_from : (es : List (ℕ × ℕ)) (i : ℕ) (e : ℕ × ℕ) → i < length es → e ≡ get_or es i e → length (entries_bytes (drop i es)) ≡ length (entry_bytes e) + length (entries_bytes (drop (i + 1) es))
length-entries_from es i e lt is =
    ap (λ (x : List ℕ). length x) (entries_from es i e lt is) ∙ length-append (entry_bytes e) (entries_bytes (drop (i + 1) es))
