-- Used by private functions and proofs alone.
--
-- What decides the marks of a character: for each key the mark operations that have begun and not ended, by their ranks.
use Rattle.std.specs.Prelude.{◌≡◌, ℕ, ◌==◌, Bool, true, false, not, List, Option, Some, None, is_some}
use Rattle.std.specs.BTreeMap.{get}
use Rattle.std.specs.BTreeSet.{contains}
use Rattle.std.specs.List.{list_any}
use Rattle.std.specs.Ordering.{nat_cmp}
use Rattle.op_model.specs.declared.mark.MarkKey.TheVariants as key
use Rattle.op_model.specs.declared.marking.Marking.{Marking}
use Rattle.op_model.specs.Rising.{IsUp}
use Rattle.comment_marks.specs.Standing.{decided}
use Rattle.span_flatten.specs.declared.discussed.Discussed.{Discussed}
use Rattle.span_flatten.specs.declared.deciding.Deciding.{Deciding}
use Rattle.span_flatten.specs.declared.rank.Rank.{Rank}
use Rattle.span_flatten.specs.declared.ranks.Ranks.{Ranks}
use Rattle.span_flatten.specs.Picking.{picked}
use Rattle.span_flatten.specs.Ranking.{has_rank, AreRanks}

-- a rank is one of these, if there are any
abbrev pub is_kept : Option Ranks → Rank → Bool
is_kept None r = false
is_kept (Some ranks) r = has_rank ranks r

-- a rank is kept for a comment
abbrev pub is_about : Discussed → ℕ → Rank → Bool
is_about d id r = is_kept (get nat_cmp d.ranks id) r

-- kept for each comment are the ranks of those with these indexes that are about it, and which comments stand
pub record AreDiscussed (d : Discussed) (ms : List Marking) (set : List ℕ) : Type 0 where
  pub ranks : (id : ℕ) → AreRanks ms set (key.Comment id) (is_about d id)
  pub standing : (id : ℕ) → contains nat_cmp d.standing id ≡ is_some (decided (picked ms set) (key.Comment id))

-- what a flag is where it differs from another one, and where it doesn't
abbrev pub differs : Bool → Bool → Bool
differs true was = not was
differs false was = was

-- the comments that stand are those that were noted, in rising order, but for those that are kept as differing
pub record IsNoted (d : Discussed) (ids : List ℕ) : Type 0 where
  pub up : IsUp ids
  pub noted : (id : ℕ) → contains nat_cmp d.standing id ≡ differs (contains nat_cmp d.since id) (list_any (λ i. i == id) ids)

-- kept for each key are the ranks of those with these indexes that are about it, and which comments stand
pub record Decides (d : Deciding) (ms : List Marking) (set : List ℕ) : Type 0 where
  pub strong : AreRanks ms set key.Strong (has_rank d.strong)
  pub em : AreRanks ms set key.Em (has_rank d.em)
  pub link : AreRanks ms set key.Link (has_rank d.link)
  pub comments : AreDiscussed d.comments ms set
