-- How much a shared hub tells at once.
use Rattle.std.proofs.Common.{◌≡◌, ℕ, ◌≤◌, List, length, filter, not, ap, arith}
use Rattle.std.specs.List.{enumerate_from}
use Rattle.std.proofs.lemmas.List.{length-map, length-take}
use Rattle.op_model.specs.declared.op.Op.{Op}
use Rattle.op_model.specs.Causality.{is_known}
use Rattle.op_model.specs.Held.{settled_list}
use Rattle.op_model.specs.Machine.{tell, operations}
use Rattle.op_model.specs.Telling.{due, untold}
use Rattle.shared_hub.specs.Books.{PassHeld}
use Rattle.shared_hub.specs.Shared.{EntersTo}

-- at most 64 operations are told at once
pub few_told : (old new : PassHeld) (c : List (ℕ × ℕ)) (ops : List Op) → EntersTo old old new (tell c) (operations ops) → length ops ≤ 64
few_told old new c ops enters =
    let settled : List Op = settled_list enters.before.replica in
    let is : ops ≡ untold c settled = enters.makes.makes.step.0 in
    let all : List (ℕ × Op) = filter (λ p. not (is_known c p.1)) (enumerate_from 1 settled) in
    omega (arith, ap length is, length-map (due c settled) (λ (p : ℕ × Op). p.1), length-take 64 all)
