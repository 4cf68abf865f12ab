use Rattle.std.proofs.Common.{arith}
use Rattle.piece_codec.proofs.Answering.{is_found, is_only, none_partial, partial_none, fault_first, first_is_fault, memory_some}
use Rattle.piece_codec.proofs.record.take_piece.Goals as goal

pub returns-clause-found : goal.returns-clause-found
returns-clause-found c = is_found c.args.format c.args.bytes.now c.take_any.result (λ i. omega (arith, c.type_inv.bytes i)) c.take_any.ensures

pub returns-clause-only : goal.returns-clause-only
returns-clause-only c = λ p n of_format begins.
    is_only c.args.format c.args.bytes.now c.take_any.result p n c.take_any.ensures of_format begins

pub returns-clause-partial : goal.returns-clause-partial
returns-clause-partial c =
    (λ none. none_partial c.args.format c.args.bytes.now c.take_any.result c.take_any.ensures none, λ partial. partial_none c.args.format c.args.bytes.now c.take_any.result c.take_any.ensures partial)

pub returns-clause-fault : goal.returns-clause-fault
returns-clause-fault c = λ e other.
    (λ is. fault_first c.args.format c.args.bytes.now c.take_any.result e other c.take_any.ensures is, λ first. first_is_fault c.args.format c.args.bytes.now c.take_any.result e c.take_any.ensures first)

pub returns-clause-memory : goal.returns-clause-memory
returns-clause-memory c = λ is. memory_some c.args.format c.args.bytes.now c.take_any.result (λ i. omega (arith, c.type_inv.bytes i)) c.take_any.ensures is
