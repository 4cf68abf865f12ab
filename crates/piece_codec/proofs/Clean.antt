-- No fault of a run's bytes is out of memory.
use Rattle.std.proofs.Common.{ℕ, zero, suc, ◌-◌, Bool, eqb, List, length, Ok, Err}
use Rattle.std.specs.Int.{w16, w32}
use Rattle.op_model.specs.declared.op.Op.{Op}
use Rattle.change_codec.specs.declared.codec_error.CodecError.TheVariants as fault
use Rattle.change_codec.specs.Reading.{◌>>=◌, number_at, id_at, deps_at, token_at, origin_at, scalar_at}
use Rattle.change_codec.proofs.Clean.{IsClean, bind, choice, length_fault, number_fault, number, id, deps, origin, value, token}
use Rattle.piece_codec.specs.Reading.{run_head_at, run_tail_at, first_of, is_count, scalars_at, text_at, counted_at, run_at}

values : (n : ℕ) (bytes : List ℕ) → IsClean (scalars_at n bytes)
unfolding scalars_at
values zero bytes = tt
values (suc n) bytes = bind (scalar_at bytes) _ (value bytes) (λ first. bind (scalars_at n first.1) _ (values n first.1) (λ others. tt))

text : (n : ℕ) (bytes : List ℕ) → IsClean (text_at n bytes)
unfolding text_at
text n bytes =
    bind (scalar_at bytes) _ (value bytes)
    (λ first. bind (scalars_at n first.1) _ (values n first.1) (λ rest. choice (eqb (length rest.1) 0) (Ok (first.0, rest.0)) (Err fault.Length) tt length_fault))

head : (bytes : List ℕ) → IsClean (run_head_at bytes)
unfolding run_head_at
head bytes = bind (number_at w32 bytes) _ (number w32 bytes) (λ d. bind (id_at d.1) _ (id d.1) (λ i. tt))

tail : (has_token : Bool) (bytes : List ℕ) → IsClean (run_tail_at has_token bytes)
unfolding run_tail_at
tail has_token bytes =
    bind (token_at has_token bytes) _ (token has_token bytes)
    (λ t. bind (origin_at t.1) _ (origin t.1) (λ o. bind (number_at w16 o.1) _ (number w16 o.1) (λ n. tt)))

counted : (first : ℕ → Op) (n : ℕ) (bytes : List ℕ) → IsClean (counted_at first n bytes)
counted first n bytes =
    choice (is_count (first 0) n) (text_at (n - 1) bytes >>= λ t. Ok (record { first = first t.0; others = t.1 })) (Err fault.Number)
    (bind (text_at (n - 1) bytes) (λ t. Ok (record { first = first t.0; others = t.1 })) (text (n - 1) bytes) (λ t. tt)) number_fault

pub run_clean : (has_token : Bool) (bytes : List ℕ) → IsClean (run_at has_token bytes)
unfolding run_at
run_clean has_token bytes =
    bind (run_head_at bytes) _ (head bytes)
    (λ h. bind (deps_at h.1) _ (deps h.1) (λ d. bind (run_tail_at has_token d.1) _ (tail has_token d.1) (λ t. counted (first_of h.0 d.0 t.0) t.0.count t.1)))
