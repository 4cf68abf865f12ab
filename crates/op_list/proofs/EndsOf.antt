-- Where records end.
use Rattle.std.proofs.Common.{◌≡◌, ℕ, zero, suc, ◌+◌, ◌<◌, List, [], ◌∷◌, ◌++◌, length, get_or, take, refl, ap, ◌∙◌, arith, add_assoc}
use Rattle.op_model.specs.declared.op.Op.{Op}
use Rattle.op_model.specs.Records.{record_length, stream_length}
use Rattle.op_list.specs.Held.{ends_of}

pub length-ends_of : (start : ℕ) (ops : List Op) → length (ends_of start ops) ≡ length ops
length-ends_of start [] = refl
length-ends_of start (op ∷ ops) = ap suc (length-ends_of (start + record_length op) ops)

-- the first ends are those of the first operations
pub ends_of-take : (n start : ℕ) (ops : List Op)
    → take n (ends_of start ops) ≡ ends_of start (take n ops)
ends_of-take zero start ops = refl
ends_of-take (suc n) start [] = refl
ends_of-take (suc n) start (op ∷ ops) =
    ap (λ ends. (start + record_length op) ∷ ends) (ends_of-take n (start + record_length op) ops)

-- the ends of two lists, one behind the other
pub ends_of-append : (start : ℕ) (a b : List Op)
    → ends_of start (a ++ b) ≡ ends_of start a ++ ends_of (start + stream_length a) b
ends_of-append start [] b = let same : start ≡ start + 0 = omega arith in ap (λ s. ends_of s b) same
ends_of-append start (op ∷ ops) b =
    let next = start + record_length op in
    let sum = add_assoc start (record_length op) (stream_length ops) in
    let others = ends_of-append next ops b ∙ ap (λ s. ends_of next ops ++ ends_of s b) sum in
    ap (λ ends. next ∷ ends) others

-- an end is the length of all the records up to it
pub end_at : (start : ℕ) (ops : List Op) (i d : ℕ) → i < length ops
    → get_or (ends_of start ops) i d ≡ start + stream_length (take (suc i) ops)
end_at start [] i d lt = absurd (omega (arith, lt))
end_at start (op ∷ ops) zero d lt = omega arith
end_at start (op ∷ ops) (suc i) d lt =
    let next = end_at (start + record_length op) ops i d (omega (arith, lt)) in
    omega (arith, next)

pub stream_length-append : (a b : List Op)
    → stream_length (a ++ b) ≡ stream_length a + stream_length b
stream_length-append [] b = omega arith
stream_length-append (op ∷ ops) b = omega (arith, stream_length-append ops b)
