use Rattle.std.proofs.Common.{◌≡◌, ◌⊎◌, inl, inr, Result, Ok, Err, Some, arith}
use Rattle.std.specs.Prelude.{IsOk}
use Rattle.change_codec.specs.declared.codec_error.CodecError.{CodecError}
use Rattle.change_codec.specs.declared.codec_error.CodecError.TheVariants.{Memory}
use Rattle.change_codec.proofs.RecordLaws.{is_found, is_only, none_partial, partial_none, fault_first, first_is_fault, memory_some, begins_taken}
use Rattle.change_codec.proofs.record.take_op.Goals as goal

pub returns-clause-found : goal.returns-clause-found
returns-clause-found c = is_found c.args.format c.args.bytes.now c.take_record.result (λ i. omega (arith, c.type_inv.bytes i)) c.take_record.ensures.answers

pub returns-clause-only : goal.returns-clause-only
returns-clause-only c = λ op n of_format begins.
    is_only c.args.format c.args.bytes.now c.take_record.result op n c.take_record.ensures.answers of_format begins

pub returns-clause-partial : goal.returns-clause-partial
returns-clause-partial c =
    (λ none. none_partial c.args.format c.args.bytes.now c.take_record.result c.take_record.ensures.answers none, λ partial. partial_none c.args.format c.args.bytes.now c.take_record.result c.take_record.ensures.answers partial)

pub returns-clause-fault : goal.returns-clause-fault
returns-clause-fault c = λ e other.
    (λ is. fault_first c.args.format c.args.bytes.now c.take_record.result e other c.take_record.ensures.answers is, λ first. first_is_fault c.args.format c.args.bytes.now c.take_record.result e c.take_record.ensures.answers first)

pub returns-clause-memory : goal.returns-clause-memory
returns-clause-memory c = λ is. memory_some c.args.format c.args.bytes.now c.take_record.result (λ i. omega (arith, c.type_inv.bytes i)) c.take_record.ensures.answers is

-- what is found isn't refused
found_only : {A : Type 0} (r : Result A CodecError) (x : A) → IsOk r → (r ≡ Ok x) ⊎ (r ≡ Err Memory) → r ≡ Ok x
found_only r x ok (inl is) = is
found_only (Ok y) x ok (inr is) = absurd cc
found_only (Err e) x ok (inr is) = absurd cc

pub returns-clause-small : goal.returns-clause-small
returns-clause-small c = λ op n of_format begins owns.
    let read = begins_taken c.args.format c.args.bytes.now op n of_format begins in
    found_only c.take_record.result (Some (op, n)) (c.take_record.ensures.small op n read owns)
    (is_only c.args.format c.args.bytes.now c.take_record.result op n c.take_record.ensures.answers of_format begins)
