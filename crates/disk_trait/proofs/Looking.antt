-- Calls that write nothing, one after another.
use Rattle.std.proofs.Common.{ℕ, ◌+◌, List, ◌∙◌, arith}
use Rattle.disk_trait.specs.Calls.{LeavesOnly}
use Rattle.disk_trait.specs.declared.facts.DiskFacts.{Ghosts}
use Rattle.disk_trait.proofs.Moments.{moments_then}
use Rattle.disk_trait.specs.Looks.{OnlyLooks}
use Rattle.std.proofs.Common.{inl, inr}

-- what a crash may leave at all moments, it may leave by a wider rule too
weaker : {D : Type 0} (facts : Ghosts D) (P Q : List ℕ → Type 0) (old new : D) → ((c : List ℕ) → P c → Q c) → LeavesOnly facts old new P → LeavesOnly facts old new Q
weaker facts P Q old new wider moments = record {
  later = moments.later;
  each = λ c left. wider c (moments.each c left);
  before = λ t c le left. elim (moments.before t c le left) [ inl earlier ↦ inl earlier | inr has ↦ inr (wider c has) ];
}

-- some calls and those that follow
pub looks_then : {D : Type 0} (facts : Ghosts D) (f s f' s' : ℕ) (old mid new : D) → OnlyLooks facts f s old mid → OnlyLooks facts f' s' mid new
    → OnlyLooks facts (f + f') (s + s') old new
looks_then facts f s f' s' old mid new first second = record {
  same = second.same ∙ first.same;
  no_more = λ c left. first.no_more c (second.no_more c left);
  moments = moments_then facts (facts.survives old) old mid new first.moments (weaker facts (facts.survives mid) (facts.survives old) mid new first.no_more second.moments);
  failures = omega (arith, first.failures, second.failures);
  writes = second.writes ∙ first.writes;
  syncs = omega (arith, first.syncs, second.syncs);
}

-- some calls that all went well, and those that follow
pub looks_on : {D : Type 0} (facts : Ghosts D) (f s : ℕ) (old mid new : D) → OnlyLooks facts 0 0 old mid → OnlyLooks facts f s mid new → OnlyLooks facts f s old new
looks_on facts f s old mid new first second = record {
  same = second.same ∙ first.same;
  no_more = λ c left. first.no_more c (second.no_more c left);
  moments = (looks_then facts 0 0 f s old mid new first second).moments;
  failures = omega (arith, first.failures, second.failures);
  writes = second.writes ∙ first.writes;
  syncs = omega (arith, first.syncs, second.syncs);
}
