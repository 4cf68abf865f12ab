-- What a crash leaves at the moments of one call after another.
use Rattle.std.proofs.Common.{ℕ, List, inl, inr, arith}
use Rattle.disk_trait.specs.Calls.{IsOneCall, IsLawful, LeavesOnly}
use Rattle.disk_trait.specs.declared.facts.DiskFacts.{Ghosts}

module _ {D : Type 0} (facts : Ghosts D) (P : List ℕ → Type 0) where
  -- in no call: what a crash may leave now
  pub moments_of_none : (disk : D) → IsLawful facts disk → ((c : List ℕ) → facts.survives disk c → P c) → LeavesOnly facts disk disk P
  moments_of_none disk lawful has = record {
    later = omega arith;
    each = λ c left. has c (lawful.only_now c left);
    before = λ t c le left. inl left;
  }

  -- in one call: what a crash may leave before it or after it
  pub moments_of_call : {failures writes syncs : ℕ} (old new : D) → IsLawful facts old → IsOneCall facts failures writes syncs old new
      → ((c : List ℕ) → facts.survives old c → P c) → ((c : List ℕ) → facts.survives new c → P c) → LeavesOnly facts old new P
  moments_of_call old new lawful call had has = record {
    later = omega (arith, call.one_more);
    each = λ c left.
        elim (call.nothing_else (facts.time old) c (omega arith) left) [ inl before ↦ had c (lawful.only_now c before) | inr now ↦ has c now ];
    before = λ t c le left. elim (call.nothing_else t c le left) [ inl before ↦ inl before | inr now ↦ inr (has c now) ];
  }

  -- in some calls and those that follow
  pub moments_then : (old mid new : D) → LeavesOnly facts old mid P → LeavesOnly facts mid new P → LeavesOnly facts old new P
  moments_then old mid new first second = record {
    later = omega (arith, first.later, second.later);
    each = λ c left. elim (second.before (facts.time old) c first.later left) [ inl before ↦ first.each c before | inr has ↦ has ];
    before = λ t c le left.
        elim (second.before t c (omega (arith, first.later)) left) [ inl before ↦ first.before t c le before | inr has ↦ inr has ];
  }
