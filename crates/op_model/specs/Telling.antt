-- Which of the settled operations are told to a peer.
use Rattle.std.specs.Prelude.{ℕ, not, List, [], ◌∷◌, take, filter, map}
use Rattle.std.specs.List.{enumerate_from}
use Rattle.fixed_numbers.specs.declared.limits.TheConstants.{MAX_TOLD}
use Rattle.op_model.specs.declared.op.Op.{Op}
use Rattle.op_model.specs.Causality.{is_known}

-- the first of them, at most MAX_TOLD, that a clock doesn't count, each with its number: they are numbered from 1 on
abbrev pub due : List (ℕ × ℕ) → List Op → List (ℕ × Op)
due c settled = take MAX_TOLD (filter (λ p. not (is_known c p.1)) (enumerate_from 1 settled))

-- these operations
abbrev pub untold : List (ℕ × ℕ) → List Op → List Op
untold c settled = map (λ p. p.1) (due c settled)

-- the last number, or this one where there is none
abbrev pub last_number : ℕ → List (ℕ × Op) → ℕ
last_number n [] = n
last_number n (p ∷ ps) = last_number p.0 ps

-- how many settled operations the last of them needs: its number; 0 where none is told
abbrev pub reach : List (ℕ × ℕ) → List Op → ℕ
reach c settled = last_number 0 (due c settled)
