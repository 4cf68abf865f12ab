-- What the decisions about comments are kept as: only private functions use this.
use Rattle.std.specs.Prelude.{ℕ, Bool, false, List, [], ◌∷◌, is_some, Option, Some, None, if◌then◌else◌}
use Rattle.std.specs.BTreeMap.{insert_entry, is_at}
use Rattle.std.specs.Map.{lookup}
use Rattle.std.specs.Ordering.{nat_cmp}
use Rattle.op_ids.specs.Id.{is_below}
use Rattle.op_model.specs.declared.marking.Marking.{Marking}
use Rattle.op_model.specs.Spans.{comment_of}
use Rattle.comment_marks.specs.declared.decisions.Decision.{Decision}

-- what a mark operation decides of its comment, as long as no other one is greater
abbrev pub says : Marking → Decision
says m = record { id = m.id; adds = is_some m.mark }

-- of two decisions the one with the greater id
abbrev pub greater : Decision → Option Decision → Decision
greater d None = d
greater d (Some e) = if is_below d.id e.id then e else d

-- the decision about a comment
abbrev pub about : ℕ → List (ℕ × Decision) → Option Decision
about id entries = lookup (is_at (nat_cmp id)) entries

-- with one more decision about a comment
abbrev pub with_decision : Option ℕ → Decision → List (ℕ × Decision) → List (ℕ × Decision)
with_decision None d entries = entries
with_decision (Some id) d entries = insert_entry nat_cmp entries id (greater d (about id entries))

-- the decisions of a set, in the order of the comments
abbrev pub decisions : List Marking → List (ℕ × Decision)
decisions [] = []
decisions (m ∷ ms) = with_decision (comment_of m.key) (says m) (decisions ms)

-- there is a decision, and it adds the comment
abbrev pub is_added : Option Decision → Bool
is_added None = false
is_added (Some d) = d.adds
