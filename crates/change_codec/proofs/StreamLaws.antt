-- The records of a list, one after another, determine the list.
use Rattle.std.proofs.Common.{◌≡◌, ℕ, ◌<◌, List, [], ◌∷◌, ◌++◌, length, Option, Some, Result, Ok, Err, ◌⊎◌, inl, inr, refl, sym, ap, ◌∙◌, append_assoc, arith}
use Rattle.std.proofs.lemmas.List.{take_at, length-append, length-take}
use Rattle.op_model.specs.declared.op.Op.{Op}
use Rattle.op_model.specs.Records.{stream_length}
use Rattle.change_codec.specs.declared.codec_error.CodecError.{CodecError}
use Rattle.change_codec.specs.declared.codec_error.CodecError.TheVariants.{Memory}
use Rattle.change_codec.specs.declared.format.Format.{Format}
use Rattle.change_codec.specs.declared.format.Format.TheVariants.{Third}
use Rattle.change_codec.specs.Fits.{IsOperation}
use Rattle.change_codec.specs.Formats.{AreOf, IsOf}
use Rattle.change_codec.specs.Spelling.{spelled}
use Rattle.change_codec.specs.Record.{BeginsWithOp}
use Rattle.change_codec.specs.Stream.{spelled_all, AreOperations, IsNoStream}
use Rattle.change_codec.proofs.Lengths.{length_spelled}
use Rattle.change_codec.proofs.RecordLaws.{begins_none, of_third}

-- a record has some bytes
spelled_some : (op : Op) → 0 < length (spelled op)
spelled_some op = omega (arith, length_spelled op)

-- the records of two lists, one after the other
pub spelled_all-append : (a b : List Op) → spelled_all (a ++ b) ≡ spelled_all a ++ spelled_all b
spelled_all-append [] b = refl
spelled_all-append (op ∷ ops) b =
    ap (λ bytes. spelled op ++ bytes) (spelled_all-append ops b) ∙ sym (append_assoc (spelled op) (spelled_all ops) (spelled_all b))

-- the records are as long as the limit on a stream counts them
pub length-spelled_all : (ops : List Op) → length (spelled_all ops) ≡ stream_length ops
length-spelled_all [] = refl
length-spelled_all (op ∷ ops) =
    omega (arith, length-append (spelled op) (spelled_all ops), length_spelled op, length-spelled_all ops)

-- records aren't nothing
some_records : (op : Op) (bytes : List ℕ) → spelled op ++ bytes ≡ [] → ⊥
some_records op bytes is = absurd (omega (arith, ap length is, length-append (spelled op) bytes, spelled_some op))

-- the records of one list are those of no other
pub spelled_all-determines : (a b : List Op) → AreOperations a → AreOperations b → spelled_all a ≡ spelled_all b → a ≡ b
spelled_all-determines [] [] fits_a fits_b is = refl
spelled_all-determines [] (op ∷ ops) fits_a fits_b is = absurd (some_records op (spelled_all ops) (sym is))
spelled_all-determines (op ∷ ops) [] fits_a fits_b is = absurd (some_records op (spelled_all ops) is)
spelled_all-determines (x ∷ xs) (y ∷ ys) fits_a fits_b is =
    let both = begins_none x y (spelled_all xs) (spelled_all ys) fits_a.0 fits_b.0 is in
    let others = spelled_all-determines xs ys fits_a.1 fits_b.1 both.1 in
    λ i. both.0 i ∷ others i

-- bytes behind records are a stream, if all of them are
pub no_stream_behind : (f : Format) (before : List Op) (rest : List ℕ) → AreOperations before → IsNoStream f rest → IsNoStream f (spelled_all before ++ rest)
no_stream_behind f [] rest fits none ops fits_b of_b is = none ops fits_b of_b is
no_stream_behind f (x ∷ xs) rest fits none [] fits_b of_b is =
    absurd (some_records x (spelled_all xs ++ rest) (sym (append_assoc (spelled x) (spelled_all xs) rest) ∙ sym is))
no_stream_behind f (x ∷ xs) rest fits none (y ∷ ys) fits_b of_b is =
    let both = begins_none y x (spelled_all ys) (spelled_all xs ++ rest) fits_b.0 fits.0 (is ∙ append_assoc (spelled x) (spelled_all xs) rest) in
    no_stream_behind f xs rest fits.1 none ys fits_b.1 of_b.1 both.1

-- bytes begin with the first of the records that they are
begins_first : (op : Op) (rest : List ℕ) → IsOperation op → BeginsWithOp (spelled op ++ rest) op (length (spelled op))
begins_first op rest fits =
    record {
      whole = omega (arith, length-append (spelled op) rest);
      spelled_so = take_at (spelled op) rest (length (spelled op)) refl;
      fits = fits;
    }

-- some bytes that begin with no operation are no stream
pub none_begins : (f : Format) (bytes : List ℕ) → 0 < length bytes → ((op : Op) (n : ℕ) → IsOf f op → BeginsWithOp bytes op n → ⊥) → IsNoStream f bytes
none_begins f bytes some none [] fits of_ops is = absurd (omega (arith, ap length is, some))
none_begins f bytes some none (op ∷ ops) fits of_ops is =
    none op (length (spelled op)) of_ops.0 (rw (← is) (begins_first op (spelled_all ops) fits.0))

-- the third format has all operations
pub are_of_third : (ops : List Op) → AreOf Third ops
are_of_third [] = tt
are_of_third (op ∷ ops) = (of_third op, are_of_third ops)

-- one operation more is of the format too
pub are_of_more : (f : Format) (ops : List Op) (op : Op) → AreOf f ops → IsOf f op → AreOf f (ops ++ op ∷ [])
are_of_more f [] op of_ops more = (more, tt)
are_of_more f (x ∷ xs) op of_ops more = (of_ops.0, are_of_more f xs op of_ops.1 more)

-- one operation more keeps its rules
pub are_more : (ops : List Op) (op : Op) → AreOperations ops → IsOperation op → AreOperations (ops ++ op ∷ [])
are_more [] op fits more = (more, tt)
are_more (x ∷ xs) op fits more = (fits.0, are_more xs op fits.1 more)

-- one record more
pub spelled_more : (ops : List Op) (op : Op) (rest bytes : List ℕ) → spelled_all ops ++ (spelled op ++ rest) ≡ bytes → spelled_all (ops ++ op ∷ []) ++ rest ≡ bytes
spelled_more [] op rest bytes is = append_assoc (spelled op) [] rest ∙ is
spelled_more (x ∷ xs) op rest bytes is =
    append_assoc (spelled x) (spelled_all (xs ++ op ∷ [])) rest
    ∙ ap (λ more. spelled x ++ more) (spelled_more xs op rest (spelled_all xs ++ (spelled op ++ rest)) refl)
    ∙ sym (append_assoc (spelled x) (spelled_all xs) (spelled op ++ rest)) ∙ is

-- a record that bytes begin with takes some of them
pub begins_some : (bytes : List ℕ) (op : Op) (n : ℕ) → BeginsWithOp bytes op n → 0 < n
begins_some bytes op n begins = omega (arith, ap length begins.spelled_so, length-take n bytes, spelled_some op)

-- some bytes of which a record can't be taken, for another cause than memory, are no stream
pub no_begin : (f : Format) (bytes : List ℕ) (r : Result (Option (Op × ℕ)) CodecError) → 0 < length bytes
    → ((op : Op) (n : ℕ) → IsOf f op → BeginsWithOp bytes op n → (r ≡ Ok (Some (op, n))) ⊎ (r ≡ Err Memory)) → ((x : Op × ℕ) → r ≡ Ok (Some x) → ⊥) → (r ≡ Err Memory → ⊥) → IsNoStream f bytes
no_begin f bytes r some only not_found not_memory =
    none_begins f bytes some (λ op n of_format begins. elim (only op n of_format begins) [
      | inl found ↦ not_found (op, n) found
      | inr memory ↦ not_memory memory
    ])
