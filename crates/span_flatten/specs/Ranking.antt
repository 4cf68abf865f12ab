-- Used by private functions and proofs alone.
--
-- What is kept of the mark operations that have begun and not ended: for each key their ranks.
use Rattle.std.specs.Prelude.{◌≡◌, ℕ, ◌==◌, Bool, false, ◌&&◌, List, Option, Some, None, slice_get}
use Rattle.std.specs.BTreeSet.{contains}
use Rattle.std.specs.List.{list_any}
use Rattle.std.specs.declared.cmp.Ordering.{Ordering}
use Rattle.std.specs.Ordering.{nat_cmp, ordering_then}
use Rattle.op_ids.specs.Id.{Id, is_same}
use Rattle.op_model.specs.declared.mark.MarkKey.{MarkKey}
use Rattle.op_model.specs.declared.marking.Marking.{Marking}
use Rattle.op_model.specs.Marks.{is_key}
use Rattle.span_flatten.specs.declared.rank.Rank.{Rank}
use Rattle.span_flatten.specs.declared.ranks.Ranks.{Ranks}

-- how two ids stand to one another: by counter, and then by replica
abbrev pub id_order : Id → Id → Ordering
id_order a b = ordering_then (nat_cmp a.counter b.counter) (nat_cmp a.replica b.replica)

-- how two ranks stand to one another: by id, and of equal ids the earlier one is greater
abbrev pub rank_cmp : Rank → Rank → Ordering
rank_cmp a b = ordering_then (id_order a.id b.id) (nat_cmp b.before.0 a.before.0)

-- a rank is one of these
abbrev pub has_rank : Ranks → Rank → Bool
has_rank ranks r = contains rank_cmp ranks.set r

-- there is a mark operation, it is about this key, and its id is the rank's
abbrev pub is_ranked : Option Marking → MarkKey → Rank → Bool
is_ranked None key r = false
is_ranked (Some m) key r = is_key m.key key && is_same m.id r.id

-- those kept are the ranks of those with these indexes that are about a key
abbrev pub AreRanks : List Marking → List ℕ → MarkKey → (Rank → Bool) → Type 0
AreRanks ms set key kept = (r : Rank)
    → kept r ≡ (list_any (λ i. i == r.before.0) set && is_ranked (slice_get ms r.before.0) key r)
