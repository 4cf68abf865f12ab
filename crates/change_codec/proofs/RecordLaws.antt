-- Whole records at the front of bytes.
use Rattle.std.proofs.Common.{◌≡◌, ◌≢◌, ◌⊎◌, ℕ, ◌≤◌, true, false, List, ◌++◌}
use Rattle.std.proofs.Common.{length, take, drop, Option, Some, None, Result, Ok, Err, refl, sym}
use Rattle.std.proofs.Common.{ap, ◌∙◌, append_assoc, arith, inl, inr}
use Rattle.std.specs.Prelude.{IfOk, IfSome}
use Rattle.std.specs.Int.{w32, to_be_bytes}
use Rattle.std.proofs.lemmas.Bool.{cases_Bool}
use Rattle.std.proofs.lemmas.Bool.Decides.{nat_tests}
use Rattle.std.proofs.lemmas.List.{drop_at, take-append-drop, length-take}
use Rattle.op_ids.specs.Clock.{is_clock}
use Rattle.op_model.specs.Records.{mark_length, key_length, start_length, end_length, body_length, token_length}
use Rattle.op_ids.specs.Id.{Id}
use Rattle.op_model.specs.declared.op.Op.{Op}
use Rattle.op_model.specs.declared.op.Body.{Body}
use Rattle.op_model.specs.declared.op.Body.TheVariants.{Insert, Remove, AddMark, RemoveMark}
use Rattle.op_model.specs.declared.anchor.Start.{Start}
use Rattle.op_model.specs.declared.anchor.Start.TheVariants as start
use Rattle.op_model.specs.declared.anchor.End.{End}
use Rattle.op_model.specs.declared.anchor.End.TheVariants as end
use Rattle.op_model.specs.declared.mark.Mark.{Mark}
use Rattle.op_model.specs.declared.mark.Mark.TheVariants as added
use Rattle.op_model.specs.declared.mark.MarkKey.{MarkKey}
use Rattle.op_model.specs.declared.mark.MarkKey.TheVariants as key
use Rattle.change_codec.specs.declared.codec_error.CodecError.{CodecError}
use Rattle.change_codec.specs.declared.codec_error.CodecError.TheVariants.{Memory}
use Rattle.change_codec.specs.Spelling.{number_bytes, body_bytes, spelled}
use Rattle.change_codec.specs.declared.format.Format.{Format}
use Rattle.change_codec.specs.declared.format.Format.TheVariants.{Third}
use Rattle.change_codec.specs.declared.head.Head.{Head}
use Rattle.change_codec.specs.Formats.{has_tokens, longest, IsOf}
use Rattle.change_codec.specs.Heads.{head_of, origin_of}
use Rattle.change_codec.specs.Fits.{IsMark, IsContent, IsOperation}
use Rattle.change_codec.specs.Reading.{head_at, named_at, behind_at, op_at}
use Rattle.change_codec.specs.Record.{length_at, taken, found_length, first_fault, IsPartial, BeginsWithOp, BeginsWithOneOf, Answers}
use Rattle.change_codec.proofs.Answered.{only_answer, none_read, none_answered, fault_read, fault_answered, memory_found}
use Rattle.change_codec.proofs.Framing.{framed_found, found_whole, found_spelled, framed_again, partial_framed, framed_partial}
use Rattle.change_codec.proofs.Steps.{IsBytes, IsBytes-take, IsBytes-drop, done, ok_is}
use Rattle.change_codec.proofs.Lengths.{length_body, length_spelled}
use Rattle.change_codec.proofs.OpLaws.{op_takes, op_again, head_again, token_is_read, origin_is_read}
use Rattle.change_codec.proofs.Clean.{no_memory}

-- ---- how long a body is

start_range : (s : Start) → (1 ≤ start_length s) × (start_length s ≤ 25)
start_range start.OfText = (omega arith, omega arith)
start_range (start.From anchor) = (omega arith, omega arith)

end_range : (e : End) → (1 ≤ end_length e) × (end_length e ≤ 25)
end_range end.OfText = (omega arith, omega arith)
end_range (end.To anchor) = (omega arith, omega arith)

mark_range : (m : Mark) → IsMark m → (1 ≤ mark_length m) × (mark_length m ≤ 1027)
mark_range added.Strong fits = (omega arith, omega arith)
mark_range added.Em fits = (omega arith, omega arith)
mark_range (added.Link url) fits = (omega arith, omega (arith, fits.most))
mark_range (added.Comment id) fits = (omega arith, omega arith)

key_range : (m : MarkKey) → (1 ≤ key_length m) × (key_length m ≤ 17)
key_range key.Strong = (omega arith, omega arith)
key_range key.Em = (omega arith, omega arith)
key_range key.Link = (omega arith, omega arith)
key_range (key.Comment id) = (omega arith, omega arith)

content_range : (body : Body) → IsContent body → (3 ≤ body_length body) × (body_length body ≤ 1077)
content_range (Insert None value) fits = (omega arith, omega arith)
content_range (Insert (Some id) value) fits = (omega arith, omega arith)
content_range (Remove target) fits = (omega arith, omega arith)
content_range (AddMark mark from to) fits =
    let m = mark_range mark fits.0 in
    let s = start_range from in
    let e = end_range to in
    (omega (arith, m.0, s.0, e.0), omega (arith, m.1, s.1, e.1))
content_range (RemoveMark mark from to) fits =
    let m = key_range mark in
    let s = start_range from in
    let e = end_range to in
    (omega (arith, m.0, s.0, e.0), omega (arith, m.1, s.1, e.1))

pub clock_length : (es : List (ℕ × ℕ)) → is_clock es ≡ true → length es ≤ 16
clock_length es clock = grind (arith, nat_tests)

pub token_range : (token : Option ℕ) → token_length token ≤ 16
token_range None = omega arith
token_range (Some token) = omega arith

pub body_range : (f : Format) (op : Op) → IsOf f op → IsOperation op → (33 ≤ length (body_bytes op)) × (length (body_bytes op) ≤ longest f)
body_range f op of_format fits = (omega (arith, length_body op, content.0), elim (cases_Bool (has_tokens f)) [ inl has ↦ with_token has | inr none ↦ without none ])
  where
    content : (3 ≤ body_length op.body) × (body_length op.body ≤ 1077)
    content = content_range op.body fits.body

    deps : length op.deps ≤ 16
    deps = clock_length op.deps fits.deps

    with_token : has_tokens f ≡ true → length (body_bytes op) ≤ longest f
    with_token has = rw has (omega (arith, length_body op, content.1, deps, token_range op.token))

    without : has_tokens f ≡ false → length (body_bytes op) ≤ longest f
    without none =
        let bare : token_length op.token ≡ 0 = ap token_length (of_format none) in
        rw none (omega (arith, length_body op, content.1, deps, bare))

-- ---- an operation

pub taken_begins : (f : Format) (bytes : List ℕ) (op : Op) (n : ℕ) → IsBytes bytes → taken f bytes ≡ Ok (Some (op, n)) → IsOf f op × BeginsWithOp bytes op n
unfolding taken spelled
taken_begins f bytes op n fits e =
    let body = take (length_at bytes) (drop 4 bytes) in
    let found = framed_found (op_at f) f bytes op n e in
    let law = op_takes f body op (IsBytes-take (length_at bytes) (drop 4 bytes) (IsBytes-drop 4 bytes fits)) found.value in
    (law.2, record { whole = found_whole found; spelled_so = found_spelled found (body_bytes op) fits law.0; fits = law.1 })

pub spelled_taken : (f : Format) (op : Op) (rest : List ℕ) → IsOf f op → IsOperation op → taken f (spelled op ++ rest) ≡ Ok (Some (op, length (spelled op)))
unfolding taken spelled
spelled_taken f op rest of_format fits =
    let range = body_range f op of_format fits in
    framed_again (op_at f) f (body_bytes op) rest op range.0 range.1 (op_again f op of_format fits)

pub begins_taken : (f : Format) (bytes : List ℕ) (op : Op) (n : ℕ) → IsOf f op → BeginsWithOp bytes op n → taken f bytes ≡ Ok (Some (op, n))
begins_taken f bytes op n of_format b =
    let whole : spelled op ++ drop n bytes ≡ bytes = ap (λ (w : List ℕ). w ++ drop n bytes) (sym b.spelled_so) ∙ take-append-drop n bytes in
    let size : length (spelled op) ≡ n = ap (λ (w : List ℕ). length w) (sym b.spelled_so) ∙ omega (arith, length-take n bytes, b.whole) in
    ap (taken f) (sym whole) ∙ spelled_taken f op (drop n bytes) of_format b.fits ∙ ap (λ (k : ℕ). done (Some (op, k))) size

-- two readings of one list are one
same_reading : (f g : Op × ℕ) → done (Some f) ≡ done (Some g) → (f.0 ≡ g.0) × (f.1 ≡ g.1)
same_reading f g e = (cc, cc)

-- the third format has every operation
pub of_third : (op : Op) → IsOf Third op
of_third op none = absurd cc

pub begins_none : (a b : Op) (x y : List ℕ) → IsOperation a → IsOperation b → spelled a ++ x ≡ spelled b ++ y → (a ≡ b) × (x ≡ y)
begins_none a b x y fits_a fits_b e =
    let one = spelled_taken Third a x (of_third a) fits_a in
    let two = spelled_taken Third b y (of_third b) fits_b in
    let same = same_reading (a, length (spelled a)) (b, length (spelled b)) (sym one ∙ ap (taken Third) e ∙ two) in
    let cut_a = drop_at (spelled a) x (length (spelled a)) refl in
    let cut_b = drop_at (spelled b) y (length (spelled b)) refl in
    (same.0, sym cut_a ∙ ap (drop (length (spelled a))) e ∙ ap (λ (k : ℕ). drop k (spelled b ++ y)) same.1 ∙ cut_b)

-- ---- no whole record

pub partial_taken : (f : Format) (bytes : List ℕ) → IsPartial f bytes → taken f bytes ≡ Ok None
unfolding taken
partial_taken f bytes partial = partial_framed (op_at f) f bytes partial

pub taken_partial : (f : Format) (bytes : List ℕ) → taken f bytes ≡ Ok None → IsPartial f bytes
unfolding taken
taken_partial f bytes e = framed_partial (op_at f) f bytes e

-- ---- what a call answered

pub is_found : (f : Format) (bytes : List ℕ) (r : Result (Option (Op × ℕ)) CodecError) → IsBytes bytes → Answers r (taken f bytes) → IfOk r (λ found. IfSome found (λ x. IsOf f x.0 × BeginsWithOp bytes x.0 x.1))
is_found f bytes (Ok None) fits answers = tt
is_found f bytes (Ok (Some x)) fits answers = taken_begins f bytes x.0 x.1 fits answers
is_found f bytes (Err e) fits answers = tt

pub is_only : (f : Format) (bytes : List ℕ) (r : Result (Option (Op × ℕ)) CodecError) (op : Op) (n : ℕ) → Answers r (taken f bytes) → IsOf f op → BeginsWithOp bytes op n → (r ≡ Ok (Some (op, n))) ⊎ (r ≡ Err Memory)
is_only f bytes r op n answers of_format begins = only_answer r (taken f bytes) (op, n) answers (begins_taken f bytes op n of_format begins)

pub none_partial : (f : Format) (bytes : List ℕ) (r : Result (Option (Op × ℕ)) CodecError) → Answers r (taken f bytes) → r ≡ Ok None → IsPartial f bytes
none_partial f bytes r answers none = taken_partial f bytes (none_read r (taken f bytes) answers none)

pub partial_none : (f : Format) (bytes : List ℕ) (r : Result (Option (Op × ℕ)) CodecError) → Answers r (taken f bytes) → IsPartial f bytes → r ≡ Ok None
partial_none f bytes r answers partial = none_answered r (taken f bytes) answers (partial_taken f bytes partial)

pub fault_first : (f : Format) (bytes : List ℕ) (r : Result (Option (Op × ℕ)) CodecError) (e : CodecError) → e ≢ Memory → Answers r (taken f bytes) → r ≡ Err e → first_fault f bytes ≡ Some e
unfolding first_fault
fault_first f bytes r e other answers is = fault_read r (taken f bytes) e other answers is

pub first_is_fault : (f : Format) (bytes : List ℕ) (r : Result (Option (Op × ℕ)) CodecError) (e : CodecError) → Answers r (taken f bytes) → first_fault f bytes ≡ Some e → r ≡ Err e
unfolding first_fault
first_is_fault f bytes r e answers first = fault_answered r (taken f bytes) e answers first

pub memory_some : (f : Format) (bytes : List ℕ) (r : Result (Option (Op × ℕ)) CodecError) → IsBytes bytes → Answers r (taken f bytes) → r ≡ Err Memory → BeginsWithOneOf f bytes
memory_some f bytes r fits answers is =
    let found = memory_found r (taken f bytes) (no_memory f bytes) answers is in
    let begins = taken_begins f bytes found.0.0 found.0.1 fits found.1 in (found.0.0, found.0.1, begins.0, begins.1)

-- ---- what is known of a record without an operation

-- what was found has its length
skipped_begins : (f : Format) (bytes : List ℕ) (n : ℕ) → IsBytes bytes → found_length (taken f bytes) ≡ Some n → (op : Op) × IsOf f op × BeginsWithOp bytes op n
skipped_begins f bytes n fits is =
    let found = found_is (taken f bytes) n is in
    let begins = taken_begins f bytes found.0 n fits found.1 in (found.0, begins.0, begins.1)
  where
    found_is : (r : Result (Option (Op × ℕ)) CodecError) (n : ℕ) → found_length r ≡ Some n → (op : Op) × (r ≡ Ok (Some (op, n)))
    found_is (Ok (Some x)) n is = (x.0, let same : x.1 ≡ n = cc in ap (λ (k : ℕ). done (Some (x.0, k))) same)
    found_is (Ok None) n is = absurd cc
    found_is (Err e) n is = absurd cc

-- the same of an answer
pub skipped_some : (f : Format) (bytes : List ℕ) (r : Option ℕ) → IsBytes bytes → r ≡ found_length (taken f bytes) → IfSome r (λ n. (op : Op) × IsOf f op × BeginsWithOp bytes op n)
skipped_some f bytes (Some n) fits is = skipped_begins f bytes n fits (sym is)
skipped_some f bytes None fits is = tt

-- where nothing was found, there is none
pub none_skipped : (f : Format) (bytes : List ℕ) (op : Op) (n : ℕ) → found_length (taken f bytes) ≡ None → IsOf f op → BeginsWithOp bytes op n → ⊥
none_skipped f bytes op n none of_format begins =
    let found : found_length (taken f bytes) ≡ Some n = ap found_length (begins_taken f bytes op n of_format begins) in
    cc

-- the body stands behind the length
body_behind : (bytes : List ℕ) (op : Op) (n : ℕ) → BeginsWithOp bytes op n → drop 4 bytes ≡ body_bytes op ++ drop n bytes
unfolding spelled number_bytes
body_behind bytes op n b =
    let front : List ℕ = to_be_bytes w32 (length (body_bytes op)) in
    let rest = drop n bytes in
    let whole : (front ++ body_bytes op) ++ rest ≡ bytes = ap (λ (w : List ℕ). w ++ rest) (sym b.spelled_so) ∙ take-append-drop n bytes in
    ap (drop 4) (sym whole ∙ append_assoc front (body_bytes op) rest) ∙ drop_at front (body_bytes op ++ rest) 4 refl

-- it begins with the head
pub head_behind : (bytes : List ℕ) (op : Op) (n : ℕ) → BeginsWithOp bytes op n → (rest : List ℕ) × (head_at Third (drop 4 bytes) ≡ Ok (head_of op, rest))
head_behind bytes op n b = (_, ap (head_at Third) (body_behind bytes op n b) ∙ head_again op (drop n bytes) b.fits)

-- and has the token
pub token_behind : (bytes : List ℕ) (op : Op) (n : ℕ) → BeginsWithOp bytes op n → named_at (drop 4 bytes) ≡ Ok op.token
token_behind bytes op n b = ap named_at (body_behind bytes op n b) ∙ token_is_read op (drop n bytes) b.fits

-- a record begins with four bytes
pub begins_four : (bytes : List ℕ) (op : Op) (n : ℕ) → BeginsWithOp bytes op n → 4 ≤ length bytes
begins_four bytes op n b = omega (arith, ap length b.spelled_so, length-take n bytes, length_spelled op, b.whole)

-- what was read as a head is the operation's
pub read_head : (bytes : List ℕ) (op : Op) (n : ℕ) (head : Head) (rest : List ℕ) → BeginsWithOp bytes op n → head_at Third (drop 4 bytes) ≡ Ok (head, rest) → head ≡ head_of op
read_head bytes op n head rest b read = let same = head_is (head, rest) (head_of op, behind.0) (sym read ∙ behind.1) in same
  where
    behind : (rest : List ℕ) × (head_at Third (drop 4 bytes) ≡ Ok (head_of op, rest))
    behind = head_behind bytes op n b

    head_is : (x y : Head × List ℕ) → done x ≡ done y → x.0 ≡ y.0
    head_is x y e = cc

-- a head can be read
pub some_head : (bytes : List ℕ) (op : Op) (n : ℕ) (e : CodecError) → BeginsWithOp bytes op n → head_at Third (drop 4 bytes) ≡ Err e → ⊥
some_head bytes op n e b read = let behind = head_behind bytes op n b in let found = behind.1 in cc

-- what was read as a token is the operation's
pub read_token : (bytes : List ℕ) (op : Op) (n : ℕ) (token : Option ℕ) → BeginsWithOp bytes op n → named_at (drop 4 bytes) ≡ Ok token → token ≡ op.token
read_token bytes op n token b read = ok_is token op.token (sym read ∙ token_behind bytes op n b)

-- a token can be read
pub some_token : (bytes : List ℕ) (op : Op) (n : ℕ) (e : CodecError) → BeginsWithOp bytes op n → named_at (drop 4 bytes) ≡ Err e → ⊥
some_token bytes op n e b read = let found = token_behind bytes op n b in cc

-- and has the origin
pub origin_behind : (bytes : List ℕ) (op : Op) (n : ℕ) → BeginsWithOp bytes op n → behind_at (drop 4 bytes) ≡ Ok (origin_of op.body)
origin_behind bytes op n b = ap behind_at (body_behind bytes op n b) ∙ origin_is_read op (drop n bytes) b.fits

-- what was read as an origin is the operation's
pub read_origin : (bytes : List ℕ) (op : Op) (n : ℕ) (origin : Option Id) → BeginsWithOp bytes op n → behind_at (drop 4 bytes) ≡ Ok origin → origin ≡ origin_of op.body
read_origin bytes op n origin b read = ok_is origin (origin_of op.body) (sym read ∙ origin_behind bytes op n b)

-- an origin can be read
pub some_origin : (bytes : List ℕ) (op : Op) (n : ℕ) (e : CodecError) → BeginsWithOp bytes op n → behind_at (drop 4 bytes) ≡ Err e → ⊥
some_origin bytes op n e b read = let found = origin_behind bytes op n b in cc
