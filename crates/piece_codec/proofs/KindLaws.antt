-- The kind of a run's record, and how long its body is.
use Rattle.std.proofs.Common.{◌≡◌, ℕ, ◌<◌, ◌≤◌, Bool, true, false, ◌&&◌, eqb, List, length, Option, Some, None, refl, sym, ap, ◌∙◌, arith, inl, inr}
use Rattle.std.proofs.lemmas.Bool.{cases_Bool, and_parts, eqb-true}
use Rattle.op_ids.specs.Clock.{is_clock}
use Rattle.op_model.specs.Records.{origin_length}
use Rattle.op_model.specs.declared.op.Op.{Op}
use Rattle.op_model.specs.declared.op.Body.{Body}
use Rattle.op_model.specs.declared.op.Body.TheVariants.{Insert, Remove, AddMark, RemoveMark}
use Rattle.change_codec.specs.declared.format.Format.{Format}
use Rattle.change_codec.specs.declared.format.Format.TheVariants.{First, Second, Third}
use Rattle.change_codec.specs.Formats.{has_tokens, longest}
use Rattle.change_codec.specs.Spelling.{kind_byte, tagged}
use Rattle.piece_codec.specs.Formats.{has_runs, run_named}
use Rattle.piece_codec.specs.Spelling.{origin_of, run_bytes}
use Rattle.change_codec.proofs.RecordLaws.{clock_length, token_range}
use Rattle.piece_codec.proofs.Lengths.{length-run}

-- ---- how long a body is

origin_range : (body : Body) → (1 ≤ origin_length (origin_of body)) × (origin_length (origin_of body) ≤ 25)
origin_range (Insert None value) = (omega arith, omega arith)
origin_range (Insert (Some id) value) = (omega arith, omega arith)
origin_range (Remove target) = (omega arith, omega arith)
origin_range (AddMark mark from to) = (omega arith, omega arith)
origin_range (RemoveMark mark from to) = (omega arith, omega arith)

longest_least : (f : Format) → 1491 ≤ longest f
longest_least f = elim (cases_Bool (has_tokens f)) [ inl has ↦ rw has (omega arith) | inr none ↦ rw none (omega arith) ]

pub run_range : (f : Format) (op : Op) (vs : List ℕ) → is_clock op.deps ≡ true → length vs < 256 → (33 ≤ length (run_bytes op vs)) × (length (run_bytes op vs) ≤ longest f)
run_range f op vs clock few =
    let origin = origin_range op.body in
    (omega (arith, length-run op vs), omega (arith, length-run op vs, origin.1, token_range op.token, clock_length op.deps clock, longest_least f, few))

-- ---- the kind

-- what a kind was named
abbrev flag : Option Bool → Option Bool
flag x = x

-- what is named as a run's kind is one
pub record Named (f : Format) (kind : ℕ) (has_token : Bool) : Type 0 where
  pub is : kind ≡ tagged has_token 5
  pub runs : has_runs f ≡ true
  pub tokens : has_tokens f ≡ false → has_token ≡ false

third_runs : (f : Format) → has_tokens f ≡ true → has_runs f ≡ true
third_runs First has = absurd cc
third_runs Second has = refl
third_runs Third has = refl

pub named_is : (f : Format) (kind : ℕ) (has_token : Bool) → run_named f kind ≡ Some has_token → Named f kind has_token
unfolding run_named
named_is f kind has_token e =
    elim (cases_Bool (eqb kind 5 && has_runs f)) [
      | inl plain ↦
          let parts = and_parts (eqb kind 5) (has_runs f) plain in
          let none : false ≡ has_token = some_is false has_token (sym (rw plain refl) ∙ e) in
          record { is = eqb-true kind 5 parts.0 ∙ ap (λ b. tagged b 5) none; runs = parts.1; tokens = λ h. sym none }
      | inr other ↦ elim (cases_Bool (eqb kind 21 && has_tokens f)) [
        | inl with_token ↦
            let parts = and_parts (eqb kind 21) (has_tokens f) with_token in
            let one : true ≡ has_token = some_is true has_token (sym (rw (other, with_token) refl) ∙ e) in
            record { is = eqb-true kind 21 parts.0 ∙ ap (λ b. tagged b 5) one; runs = third_runs f parts.1; tokens = λ h. absurd (let has = parts.1 in let never : ⊥ = cc in never) }
        | inr neither ↦ absurd (none_is has_token (sym (rw (other, neither) refl) ∙ e))
      ]
    ]
  where
    some_is : (a b : Bool) → flag (Some a) ≡ flag (Some b) → a ≡ b
    some_is a b e = cc

    none_is : (a : Bool) → flag None ≡ flag (Some a) → ⊥
    none_is a e = cc

-- the kind of an operation is none of a run
pub named_op : (f : Format) (b : Bool) (body : Body) → run_named f (tagged b (kind_byte body)) ≡ None
unfolding run_named
named_op f false (Insert origin value) = refl
named_op f false (Remove target) = refl
named_op f false (AddMark mark from to) = refl
named_op f false (RemoveMark mark from to) = refl
named_op f true (Insert origin value) = refl
named_op f true (Remove target) = refl
named_op f true (AddMark mark from to) = refl
named_op f true (RemoveMark mark from to) = refl

-- and a run's is
pub named_run : (f : Format) (has_token : Bool) → has_runs f ≡ true → (has_tokens f ≡ false → has_token ≡ false) → run_named f (tagged has_token 5) ≡ Some has_token
unfolding run_named
named_run f false runs tokens = rw runs refl
named_run f true runs tokens = rw (has tokens) refl
  where
    has : (has_tokens f ≡ false → true ≡ false) → has_tokens f ≡ true
    has never = elim (cases_Bool (has_tokens f)) [ inl yes_it ↦ yes_it | inr none ↦ absurd (let broken = never none in let never_so : ⊥ = cc in never_so) ]
