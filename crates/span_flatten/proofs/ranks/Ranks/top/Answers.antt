use Rattle.std.proofs.Common.{◌≡◌, false, Option, Some, None}
use Rattle.std.specs.Prelude.{IsTrue, IfSome}
use Rattle.std.specs.Option.{option_copied}
use Rattle.std.specs.Ordering.{is_lt}
use denote.Ref.{Bor}
use Rattle.span_flatten.specs.declared.rank.Rank.{Rank}
use Rattle.span_flatten.specs.declared.ranks.Ranks.{Ranks}
use Rattle.span_flatten.specs.Ranking.{has_rank, rank_cmp}
use Rattle.span_flatten.proofs.ranks.Ranks.top.Goals as goal

-- the last rank is one of them, and none is above it
abbrev IsTop : Ranks → Rank → Type 0
IsTop s r = IsTrue (has_rank s r) × ((q : Rank) → IsTrue (has_rank s q) → is_lt (rank_cmp r q) ≡ false)

copied_top : (s : Ranks) (o : Option (Bor Rank)) → IfSome o (λ k. IsTrue (has_rank s k.now))
    → IfSome o (λ k. (q : Rank) → IsTrue (has_rank s q) → is_lt (rank_cmp k.now q) ≡ false) → IfSome (option_copied o) (IsTop s)
copied_top s None member greatest = tt
copied_top s (Some k) member greatest = (member, greatest)

pub returns-clause-some : goal.returns-clause-some
returns-clause-some c = rw c.copied.ensures (copied_top c.args.self.now c.last.result c.last.ensures.member c.last.ensures.greatest)
