-- An operation of which no check fails.
use Rattle.std.proofs.Common.{◌≡◌, ℕ, Bool, true, false, not, List, [], ◌∷◌, ◌++◌, Option, Some, None, refl}
use Rattle.std.specs.Prelude.{nat_lt, if◌then◌else◌}
use Rattle.op_ids.specs.Clock.{is_ready}
use Rattle.op_model.specs.declared.op.Op.{Op}
use Rattle.op_model.specs.Causality.{clock_of, first_failed, is_counted_up, names_inserts, is_within_limits, MayFollow}

-- the checks of an operation, where none fails
abbrev checks : Bool → Bool → Bool → Bool → Option ℕ
checks counter names document limits =
    if not counter then Some 21 else if not names then Some 22 else if not document then Some 23 else if not limits then Some 24 else None

first_none : (a b c d : Bool)
    → checks a b c d ≡ None → (a ≡ true) × (b ≡ true) × (c ≡ true) × (d ≡ true)
first_none true true true true e = (refl, refl, refl, refl)
first_none true true true false e = absurd (cc)
first_none true true false d e = absurd (cc)
first_none true false c d e = absurd (cc)
first_none false b c d e = absurd (cc)

-- an operation that is ready and of which no check fails may follow
pub passed_follows : (ops : List Op) (op : Op) → is_ready (clock_of ops) op.id.replica op.deps ≡ true → first_failed ops op ≡ None → MayFollow ops op
passed_follows ops op ready passed =
    let all = first_none (is_counted_up ops op) (names_inserts ops op) (nat_lt 0 op.doc) (is_within_limits (ops ++ op ∷ [])) passed in
    record { ready = ready; counter = all.0; names = all.1; document = all.2; limits = all.3 }
