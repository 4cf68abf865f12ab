-- What calls of a disk make of it together.
use Rattle.std.proofs.Common.{◌≡◌, ℕ, ◌+◌, ◌≤◌, min, List, length, refl, sym, ap, subst, ◌∙◌, inl, inr, arith, length-take}
use Rattle.disk_trait.specs.File.{Torn}
use Rattle.disk_trait.specs.Survivors.{IsOutside}
use Rattle.disk_trait.specs.Calls.{Keeps, Tears, Settles, IsLawful}
use Rattle.disk_trait.specs.declared.facts.DiskFacts.{Ghosts}
use Rattle.disk_trait.proofs.FileLemmas.{torn_outside, torn_by_place}

-- a file is its own after a write of which nothing is seen
pub torn_same : (at n : ℕ) (file : List ℕ) → Torn at n file file
torn_same at n file = record { before = refl; after = refl; no_shorter = omega arith; no_longer = omega arith }

-- a file torn twice in a range is one torn once
torn_again : (at n : ℕ) (old mid new : List ℕ) → Torn at n old mid → Torn at n mid new → Torn at n old new
torn_again at n old mid new first second = record {
  before = second.before ∙ first.before;
  after = second.after ∙ first.after;
  no_shorter = omega (arith, first.no_shorter, second.no_shorter);
  no_longer = omega (arith, first.no_longer, second.no_longer);
}

-- a place outside of a range is outside of a part of it
outside_part : (at n at' n' i : ℕ) → at ≤ at' → at' + n' ≤ at + n → IsOutside i (at, n) → IsOutside i (at', n')
outside_part at n at' n' i begins ends (inl below) = inl (omega arith)
outside_part at n at' n' i begins ends (inr above) = inr (omega arith)

-- a file torn in a part of a range is torn in that range
torn_wider : (at n at' n' : ℕ) (old new : List ℕ) → at ≤ at' → at' + n' ≤ at + n → Torn at' n' old new → Torn at n old new
torn_wider at n at' n' old new begins ends torn =
    let fronts : min at' (length new) ≡ min at' (length old) = omega (arith, length-take at' new, length-take at' old, ap length torn.before) in
    torn_by_place at n old new torn.no_shorter (omega (arith, torn.no_longer)) (omega (arith, torn.no_shorter)) (λ i there outside.
    torn_outside at' n' old new i torn (outside_part at n at' n' i begins ends outside))

module _ {D : Type 0} (facts : Ghosts D) (at n : ℕ) where
  -- a call that writes nothing is one that tears nothing
  pub keeps_tears : (old new : D) → Keeps facts old new → Tears facts at n old new
  keeps_tears old new keeps = record {
    reads = subst (Torn at n (facts.content old)) (sym keeps.same) (torn_same at n (facts.content old));
    no_more = λ c survives. (c, keeps.no_more c survives, torn_same at n c);
    no_fewer = keeps.no_fewer;
  }

  -- two writes of a range, as one
  pub tears_again : (old mid new : D) → Tears facts at n old mid → Tears facts at n mid new → Tears facts at n old new
  tears_again old mid new first second = record {
    reads = torn_again at n (facts.content old) (facts.content mid) (facts.content new) first.reads second.reads;
    no_more = λ c survives.
        let d = second.no_more c survives in
        let e = first.no_more d.0 d.1 in
        (e.0, e.1, torn_again at n e.0 d.0 c e.2 d.2);
    no_fewer = λ c survives. second.no_fewer c (first.no_fewer c survives);
  }

  -- a write of a part of a range, as one of the range
  pub tears_wider : (at' n' : ℕ) (old new : D) → at ≤ at' → at' + n' ≤ at + n → Tears facts at' n' old new → Tears facts at n old new
  tears_wider at' n' old new begins ends tears = record {
    reads = torn_wider at n at' n' (facts.content old) (facts.content new) begins ends tears.reads;
    no_more = λ c survives.
        let d = tears.no_more c survives in
        (d.0, d.1, torn_wider at n at' n' d.0 c begins ends d.2);
    no_fewer = tears.no_fewer;
  }

-- after a sync a crash leaves no file that it couldn't leave before
pub settles_no_more : {D : Type 0} (facts : Ghosts D) (old new : D) → IsLawful facts old → Settles facts old new → (c : List ℕ) → facts.survives new c → facts.survives old c
settles_no_more facts old new lawful settles c survives =
    subst (facts.survives old) (sym (settles.only c survives ∙ settles.same)) lawful.reads_survive
