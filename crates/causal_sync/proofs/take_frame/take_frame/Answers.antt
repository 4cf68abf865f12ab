use Rattle.std.proofs.Common.{◌≡◌, Some, Ok, arith, ap, ◌∙◌, sym}
use Rattle.std.proofs.lemmas.List.{take-append-drop}
use Rattle.causal_sync.specs.Reading.{frame_at}
use Rattle.causal_sync.proofs.ReadLemmas.{frame_takes}
use Rattle.causal_sync.proofs.take_frame.take_frame.Goals as goal

pub split_at-requires : goal.split_at-requires
split_at-requires c =
    let read : frame_at c.args.own c.args.is_first c.args.bytes.now ≡ Ok (Some (c.in-Ok-Some.heard, c.in-Ok-Some.len)) = c.in-Ok-Some.ensures ∙ ap (λ x. Ok x) c.in-Ok-Some.field-0-is in
    (frame_takes c.args.own c.args.is_first c.args.bytes.now c.in-Ok-Some.heard c.in-Ok-Some.len (λ i. omega (arith, c.type_inv.bytes i)) read).0

pub returns-in-Ok-Some-clause-found : goal.returns-in-Ok-Some-clause-found
returns-in-Ok-Some-clause-found c =
    let read : frame_at c.args.own c.args.is_first c.args.bytes.now ≡ Ok (Some (c.in-Ok-Some.heard, c.in-Ok-Some.len)) = c.in-Ok-Some.ensures ∙ ap (λ x. Ok x) c.in-Ok-Some.field-0-is in
    let takes = frame_takes c.args.own c.args.is_first c.args.bytes.now c.in-Ok-Some.heard c.in-Ok-Some.len (λ i. omega (arith, c.type_inv.bytes i)) read in
    (rw (← takes.1, c.split_at.ensures.back) (sym (take-append-drop c.in-Ok-Some.len c.args.bytes.now)), takes.2)
