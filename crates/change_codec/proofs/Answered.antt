-- What a call answered, and what that says of what is read.
use Rattle.std.proofs.Common.{◌≡◌, ◌≢◌, ◌⊎◌, Option, Some, None, Result, Ok, Err, sym, ap, ◌∙◌, inl, inr}
use Rattle.change_codec.specs.declared.codec_error.CodecError.{CodecError}
use Rattle.change_codec.specs.declared.codec_error.CodecError.TheVariants.{Memory}
use Rattle.change_codec.specs.Record.{fault_of, Answers}

pub only_answer : {A : Type 0} (r read : Result (Option A) CodecError) (x : A) → Answers r read → read ≡ Ok (Some x) → (r ≡ Ok (Some x)) ⊎ (r ≡ Err Memory)
only_answer (Ok found) read x answers is = inl (sym answers ∙ is)
only_answer (Err e) read x (inl fault) is = absurd cc
only_answer (Err e) read x (inr (memory, found)) is = inr (ap (λ (d : CodecError). Err d) memory)

pub none_read : {A : Type 0} (r read : Result (Option A) CodecError) → Answers r read → r ≡ Ok None → read ≡ Ok None
none_read (Ok found) read answers none = answers ∙ none
none_read (Err e) read answers none = absurd cc

pub none_answered : {A : Type 0} (r read : Result (Option A) CodecError) → Answers r read → read ≡ Ok None → r ≡ Ok None
none_answered (Ok found) read answers none = sym answers ∙ none
none_answered (Err e) read (inl fault) none = absurd cc
none_answered (Err e) read (inr (memory, found)) none =
    let other = found.1 in
    absurd cc

-- a fault is the one that was read
pub read_fault : {A : Type 0} (r : Result A CodecError) (e : CodecError) → fault_of r ≡ Some e → r ≡ Err e
read_fault (Ok x) e is = absurd cc
read_fault (Err d) e is = cc

pub fault_read : {A : Type 0} (r read : Result (Option A) CodecError) (e : CodecError) → e ≢ Memory → Answers r read → r ≡ Err e → fault_of read ≡ Some e
fault_read (Ok found) read e other answers is = absurd cc
fault_read (Err d) read e other (inl fault) is = ap fault_of (fault ∙ is)
fault_read (Err d) read e other (inr (memory, found)) is =
    let same : d ≡ e = cc in
    absurd (other (sym same ∙ memory))

pub fault_answered : {A : Type 0} (r read : Result (Option A) CodecError) (e : CodecError) → Answers r read → fault_of read ≡ Some e → r ≡ Err e
fault_answered (Ok found) read e answers first = let is = read_fault read e first in absurd cc
fault_answered (Err d) read e (inl fault) first = sym fault ∙ read_fault read e first
fault_answered (Err d) read e (inr (memory, found)) first =
    let is = read_fault read e first in
    let other = found.1 in
    absurd cc

pub memory_found : {A : Type 0} (r read : Result (Option A) CodecError) → (read ≡ Err Memory → ⊥) → Answers r read → r ≡ Err Memory → (x : A) × (read ≡ Ok (Some x))
memory_found (Ok found) read never answers is = absurd cc
memory_found (Err d) read never (inl fault) is = absurd (never (fault ∙ is))
memory_found (Err d) read never (inr (memory, found)) is = found
