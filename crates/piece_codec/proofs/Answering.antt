-- What a call answered, and what that says of the bytes.
use Rattle.std.proofs.Common.{◌≡◌, ◌≢◌, ◌⊎◌, ℕ, Bool, List, get_or, drop, Option, Some, None, Result, Ok, Err, refl, inl, inr}
use Rattle.std.specs.Prelude.{IfOk, IfSome}
use Rattle.op_model.specs.declared.op.Op.{Op}
use Rattle.op_pieces.specs.Pieces.{Run, single}
use Rattle.change_codec.specs.declared.codec_error.CodecError.{CodecError}
use Rattle.change_codec.specs.declared.codec_error.CodecError.TheVariants as fault
use Rattle.change_codec.specs.declared.codec_error.CodecError.TheVariants.{Memory}
use Rattle.change_codec.specs.declared.format.Format.{Format}
use Rattle.change_codec.specs.Formats.{IsOf}
use Rattle.change_codec.specs.Reading.{◌>>=◌}
use Rattle.change_codec.specs.Record.{taken, IsPartial, BeginsWithOp, Answers}
use Rattle.change_codec.specs.Record.{first_fault as first_fault_of_op, BeginsWithOneOf as BeginsWithOpOf}
use Rattle.change_codec.proofs.Steps.{IsBytes}
use Rattle.change_codec.proofs.Answered.{only_answer, none_read, none_answered, read_fault, fault_read, fault_answered, memory_found}
use Rattle.change_codec.proofs.Clean.{no_memory, no_memory_of, framed_clean}
use Rattle.change_codec.proofs.RecordLaws.{begins_taken, partial_taken}
use Rattle.piece_codec.specs.Formats.{IsPieceOf, run_named}
use Rattle.piece_codec.specs.Record.{run_body_at, as_piece, taken_as, taken_piece, first_fault, BeginsWithPiece, BeginsWithOneOf}
use Rattle.piece_codec.proofs.Clean.{run_clean}
use Rattle.piece_codec.proofs.PartialLaws.{partial_piece, piece_partial}
use Rattle.piece_codec.proofs.PieceLaws.{piece_begins, begins_piece}

-- ---- an operation

fault_taken : (f : Format) (bytes : List ℕ) (e : CodecError) → first_fault_of_op f bytes ≡ Some e → taken f bytes ≡ Err e
unfolding first_fault_of_op
fault_taken f bytes e is = read_fault (taken f bytes) e is

pub found_single : (f : Format) (bytes : List ℕ) (op : Op) (n : ℕ) (p : Run) → p ≡ single op → IsOf f op → BeginsWithOp bytes op n → taken_as None f bytes ≡ Ok (Some (p, n))
found_single f bytes op n p is of_format begins = rw (is, begins_taken f bytes op n of_format begins) refl

pub none_single : (f : Format) (bytes : List ℕ) → IsPartial f bytes → taken_as None f bytes ≡ Ok None
none_single f bytes partial = rw (partial_taken f bytes partial) refl

-- a fault is out of memory, or it isn't
is_memory : (e : CodecError) → (e ≡ Memory) ⊎ (e ≢ Memory)
is_memory fault.Memory = inl refl
is_memory fault.Length = inr (λ e. cc)
is_memory fault.Kind = inr (λ e. cc)
is_memory fault.Number = inr (λ e. cc)
is_memory fault.Scalar = inr (λ e. cc)
is_memory fault.Utf8 = inr (λ e. cc)
is_memory fault.Order = inr (λ e. cc)
is_memory fault.Anchor = inr (λ e. cc)

pub fault_single : (f : Format) (bytes : List ℕ) (e : CodecError) → (e ≢ Memory → first_fault_of_op f bytes ≡ Some e) → (e ≡ Memory → BeginsWithOpOf f bytes)
    → Answers (Err e) (taken_as None f bytes)
fault_single f bytes e first memory =
    elim (is_memory e) [
      | inl is ↦
          let some = memory is in
          inr (is, ((single some.0, some.1), found_single f bytes some.0 some.1 (single some.0) refl some.2 some.3))
      | inr other ↦ inl (let read = fault_taken f bytes e (first other) in rw read refl)
    ]

-- ---- the call

pub is_found : (f : Format) (bytes : List ℕ) (r : Result (Option (Run × ℕ)) CodecError) → IsBytes bytes → Answers r (taken_piece f bytes) → IfOk r (λ found. IfSome found (λ x. IsPieceOf f x.0 × BeginsWithPiece bytes x.0 x.1))
is_found f bytes (Ok None) fits answers = tt
is_found f bytes (Ok (Some x)) fits answers = piece_begins f bytes x.0 x.1 fits answers
is_found f bytes (Err e) fits answers = tt

pub is_only : (f : Format) (bytes : List ℕ) (r : Result (Option (Run × ℕ)) CodecError) (p : Run) (n : ℕ) → Answers r (taken_piece f bytes) → IsPieceOf f p → BeginsWithPiece bytes p n → (r ≡ Ok (Some (p, n))) ⊎ (r ≡ Err Memory)
is_only f bytes r p n answers of_format begins = only_answer r (taken_piece f bytes) (p, n) answers (begins_piece f bytes p n of_format begins)

pub none_partial : (f : Format) (bytes : List ℕ) (r : Result (Option (Run × ℕ)) CodecError) → Answers r (taken_piece f bytes) → r ≡ Ok None → IsPartial f bytes
none_partial f bytes r answers none = piece_partial f bytes (none_read r (taken_piece f bytes) answers none)

pub partial_none : (f : Format) (bytes : List ℕ) (r : Result (Option (Run × ℕ)) CodecError) → Answers r (taken_piece f bytes) → IsPartial f bytes → r ≡ Ok None
partial_none f bytes r answers partial = none_answered r (taken_piece f bytes) answers (partial_piece f bytes partial)

pub fault_first : (f : Format) (bytes : List ℕ) (r : Result (Option (Run × ℕ)) CodecError) (e : CodecError) → e ≢ Memory → Answers r (taken_piece f bytes) → r ≡ Err e → first_fault f bytes ≡ Some e
unfolding first_fault
fault_first f bytes r e other answers is = fault_read r (taken_piece f bytes) e other answers is

pub first_is_fault : (f : Format) (bytes : List ℕ) (r : Result (Option (Run × ℕ)) CodecError) (e : CodecError) → Answers r (taken_piece f bytes) → first_fault f bytes ≡ Some e → r ≡ Err e
unfolding first_fault
first_is_fault f bytes r e answers first = fault_answered r (taken_piece f bytes) e answers first

-- what is read is never out of memory
run_no_memory : (has_token : Bool) (f : Format) (bytes : List ℕ) → taken_as (Some has_token) f bytes ≡ Err Memory → ⊥
run_no_memory has_token f bytes e =
    no_memory_of (taken_as (Some has_token) f bytes) (framed_clean (run_body_at has_token) f bytes (λ body. run_clean has_token (drop 1 body))) e

op_no_memory : (f : Format) (bytes : List ℕ) → taken_as None f bytes ≡ Err Memory → ⊥
op_no_memory f bytes e = no_memory f bytes (same_fault (taken f bytes) e)
  where
    same_fault : (r : Result (Option (Op × ℕ)) CodecError) → (r >>= λ found. Ok (as_piece found)) ≡ Err Memory → r ≡ Err Memory
    same_fault (Ok x) e = absurd cc
    same_fault (Err d) e = cc

piece_no_memory : (f : Format) (bytes : List ℕ) → taken_piece f bytes ≡ Err Memory → ⊥
unfolding taken_piece
piece_no_memory f bytes e = by_kind (run_named f (get_or bytes 4 0)) e
  where
    by_kind : (k : Option Bool) → taken_as k f bytes ≡ Err Memory → ⊥
    by_kind None e = op_no_memory f bytes e
    by_kind (Some has_token) e = run_no_memory has_token f bytes e

pub memory_some : (f : Format) (bytes : List ℕ) (r : Result (Option (Run × ℕ)) CodecError) → IsBytes bytes → Answers r (taken_piece f bytes) → r ≡ Err Memory → BeginsWithOneOf f bytes
memory_some f bytes r fits answers is =
    let found = memory_found r (taken_piece f bytes) (piece_no_memory f bytes) answers is in
    let begins = piece_begins f bytes found.0.0 found.0.1 fits found.1 in (found.0.0, found.0.1, begins.0, begins.1)
