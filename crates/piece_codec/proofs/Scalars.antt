-- Reading the characters of a run one after another, as a loop does.
use Rattle.std.proofs.Common.{◌≡◌, ℕ, suc, ◌-◌, ◌+◌, ◌≤◌, ◌<◌, Bool, true, false, cond, eqb, List, [], ◌∷◌, ◌++◌, length, Result, Ok, Err, refl, sym, ap, ◌∙◌}
use Rattle.std.proofs.Common.{append_assoc, arith}
use Rattle.std.specs.Prelude.{IsOk}
use Rattle.std.proofs.lemmas.List.{append-nil}
use Rattle.change_codec.specs.declared.codec_error.CodecError.{CodecError}
use Rattle.change_codec.specs.Reading.{◌>>=◌, only_rest, only_value, scalar_at}
use Rattle.change_codec.specs.declared.codec_error.CodecError.TheVariants.{Length}
use Rattle.change_codec.proofs.Steps.{done, ok_is}
use Rattle.piece_codec.specs.Reading.{scalars_at, text_at}

-- the rest is that of the others
rest_of_others : (v : ℕ) (read : Result (List ℕ × List ℕ) CodecError) → only_rest (read >>= λ x. Ok (v ∷ x.0, x.1)) ≡ only_rest read
rest_of_others v (Ok x) = refl
rest_of_others v (Err f) = refl

pub skips_on : (count i : ℕ) (bytes : List ℕ) (v : ℕ) (after : List ℕ) (total : Result (List ℕ) CodecError) → i < count → scalar_at bytes ≡ Ok (v, after)
    → only_rest (scalars_at (count - i) bytes) ≡ total → only_rest (scalars_at (count - (i + 1)) after) ≡ total
unfolding scalars_at
skips_on count i bytes v after total lt h so_far =
    let k : count - i ≡ suc (count - (i + 1)) = omega arith in
    let one : only_rest (scalars_at (count - i) bytes) ≡ only_rest (scalars_at (count - (i + 1)) after) = rw (k, h) (rest_of_others v (scalars_at (count - (i + 1)) after)) in
    sym one ∙ so_far

pub skip_fails : (count i : ℕ) (bytes : List ℕ) (f : CodecError) (total : Result (List ℕ) CodecError) → i < count → scalar_at bytes ≡ Err f
    → only_rest (scalars_at (count - i) bytes) ≡ total → total ≡ Err f
unfolding scalars_at
skip_fails count i bytes f total lt h so_far =
    let k : count - i ≡ suc (count - (i + 1)) = omega arith in
    let one : only_rest (scalars_at (count - i) bytes) ≡ Err f = rw (k, h) refl in
    sym so_far ∙ one

pub skip_ends : (count i : ℕ) (bytes : List ℕ) (total : Result (List ℕ) CodecError) → count ≤ i → only_rest (scalars_at (count - i) bytes) ≡ total → total ≡ Ok bytes
unfolding scalars_at
skip_ends count i bytes total le so_far =
    let k : count - i ≡ 0 = omega arith in
    let one : only_rest (scalars_at (count - i) bytes) ≡ Ok bytes = rw k refl in
    sym so_far ∙ one

-- what was read before, and what is still read
abbrev pub with_front : List ℕ → Result (List ℕ × List ℕ) CodecError → Result (List ℕ) CodecError
with_front front (Ok x) = Ok (front ++ x.0)
with_front front (Err f) = Err f

regroup : (front : List ℕ) (v : ℕ) (read : Result (List ℕ × List ℕ) CodecError) → with_front front (read >>= λ x. Ok (v ∷ x.0, x.1)) ≡ with_front (front ++ v ∷ []) read
regroup front v (Ok x) = ap (λ (vs : List ℕ). Ok vs) (simp append_assoc)
regroup front v (Err f) = refl

pub collects_on : (front : List ℕ) (count i : ℕ) (bytes : List ℕ) (v : ℕ) (after : List ℕ) (total : Result (List ℕ) CodecError) → i < count → scalar_at bytes ≡ Ok (v, after)
    → with_front front (scalars_at (count - i) bytes) ≡ total → with_front (front ++ v ∷ []) (scalars_at (count - (i + 1)) after) ≡ total
unfolding scalars_at
collects_on front count i bytes v after total lt h so_far =
    let k : count - i ≡ suc (count - (i + 1)) = omega arith in
    let one : with_front front (scalars_at (count - i) bytes) ≡ with_front (front ++ v ∷ []) (scalars_at (count - (i + 1)) after) = rw (k, h) (regroup front v (scalars_at (count - (i + 1)) after)) in
    sym one ∙ so_far

pub collect_fails : (front : List ℕ) (count i : ℕ) (bytes : List ℕ) (f : CodecError) (total : Result (List ℕ) CodecError) → i < count → scalar_at bytes ≡ Err f
    → with_front front (scalars_at (count - i) bytes) ≡ total → total ≡ Err f
unfolding scalars_at
collect_fails front count i bytes f total lt h so_far =
    let k : count - i ≡ suc (count - (i + 1)) = omega arith in
    let one : with_front front (scalars_at (count - i) bytes) ≡ Err f = rw (k, h) refl in
    sym so_far ∙ one

pub collect_ends : (front : List ℕ) (count i : ℕ) (bytes : List ℕ) (total : Result (List ℕ) CodecError) → count ≤ i → with_front front (scalars_at (count - i) bytes) ≡ total → total ≡ Ok front
unfolding scalars_at
collect_ends front count i bytes total le so_far =
    let k : count - i ≡ 0 = omega arith in
    let one : with_front front (scalars_at (count - i) bytes) ≡ Ok front = rw k (ap (λ (vs : List ℕ). Ok vs) (append-nil front)) in
    sym so_far ∙ one

-- what is read without a fault has none
no_fault : {A : Type 0} (read : Result A CodecError) (fault : CodecError) → IsOk read → read ≡ Err fault → ⊥
no_fault (Ok x) fault ok e = cc
no_fault (Err f) fault ok e = cc

from_fault : (read : Result (List ℕ × List ℕ) CodecError) (fault : CodecError) → only_value read ≡ Err fault → read ≡ Err fault
from_fault (Ok x) fault e = absurd cc
from_fault (Err f) fault e = cc

pub text_faulty : (n : ℕ) (bytes : List ℕ) (f : CodecError) → scalar_at bytes ≡ Err f → text_at n bytes ≡ Err f
unfolding text_at
text_faulty n bytes f first = rw first refl

-- characters that were tested have no fault when they are read again
pub text_fails : (n : ℕ) (bytes : List ℕ) (v : ℕ) (rest : List ℕ) (f : CodecError) → IsOk (text_at n bytes) → scalar_at bytes ≡ Ok (v, rest)
    → only_value (scalars_at n rest) ≡ Err f → ⊥
unfolding text_at
text_fails n bytes v rest f tested first others =
    let faulty : text_at n bytes ≡ Err f = rw (first, from_fault (scalars_at n rest) f others) refl in
    no_fault (text_at n bytes) f tested faulty

-- the characters, if nothing stands behind them
abbrev ended : ℕ → List ℕ × List ℕ → Result (ℕ × List ℕ) CodecError
ended v rest = cond (eqb (length rest.1) 0) (Ok (v, rest.0)) (Err Length)

-- what a test let through
let_through : (b : Bool) (x : ℕ × List ℕ) (r : Result (ℕ × List ℕ) CodecError) → r ≡ cond b (Ok x) (Err Length) → IsOk r → r ≡ Ok x
let_through true x r is ok = is
let_through false x r is ok = absurd (no_fault r Length ok is)

from_tested : (v : ℕ) (read : Result (List ℕ × List ℕ) CodecError) (others : List ℕ) (r : Result (ℕ × List ℕ) CodecError) → only_value read ≡ Ok others
    → r ≡ (read >>= ended v) → IsOk r → r ≡ Ok (v, others)
from_tested v (Ok x) others r value is ok =
    let_through (eqb (length x.1) 0) (v, x.0) r is ok ∙ ap (λ (vs : List ℕ). done (v, vs)) (ok_is x.0 others value)
from_tested v (Err f) others r value is ok = absurd cc

-- and are those that were collected
pub text_collected : (n : ℕ) (bytes : List ℕ) (v : ℕ) (rest others : List ℕ) → IsOk (text_at n bytes) → scalar_at bytes ≡ Ok (v, rest)
    → only_value (scalars_at n rest) ≡ Ok others → text_at n bytes ≡ Ok (v, others)
unfolding text_at
text_collected n bytes v rest others tested first read =
    let opened : text_at n bytes ≡ (scalars_at n rest >>= ended v) = rw first refl in
    from_tested v (scalars_at n rest) others (text_at n bytes) read opened tested
