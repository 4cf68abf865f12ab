-- The limits of a store, of one list behind another.
use Rattle.std.proofs.Common.{◌≡◌, ◌+◌, ◌&&◌, nat_le, List, [], ◌∷◌, ◌++◌, length, refl, length-append, arith}
use Rattle.std.proofs.lemmas.List.Folds.{list_all-append}
use Rattle.std.specs.List.{list_all}
use Rattle.op_model.specs.declared.op.Op.{Op}
use Rattle.op_model.specs.Records.{stream_length}
use Rattle.op_model.specs.Causality.{clock_of, documents, is_in_range, is_within_limits}

-- the records of two lists
pub stream_length-append : (xs ys : List Op) → stream_length (xs ++ ys) ≡ stream_length xs + stream_length ys
stream_length-append [] ys = omega arith
stream_length-append (x ∷ xs) ys = let rest = stream_length-append xs ys in omega arith

-- the ranges of two lists
pub in_range-append : (xs ys : List Op) → list_all is_in_range (xs ++ ys) ≡ (list_all is_in_range xs && list_all is_in_range ys)
in_range-append xs ys = list_all-append is_in_range xs ys

-- all limits of two lists, each of which has its part
pub within-append : (xs ys : List Op) → is_within_limits (xs ++ ys)
    ≡ ((list_all is_in_range xs && list_all is_in_range ys)
    && (nat_le (length (clock_of (xs ++ ys))) 16 && nat_le (length (documents (xs ++ ys))) 1024
    && nat_le (length xs + length ys) 16777216 && nat_le (stream_length xs + stream_length ys) 1073741824))
within-append xs ys = rw (in_range-append, length-append, stream_length-append) refl

pub ruleset parts = within-append
