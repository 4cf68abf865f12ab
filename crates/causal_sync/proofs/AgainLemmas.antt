-- What is spelled of a frame is read again.
use Rattle.std.proofs.Common.{◌≡◌, ◌≢◌, ℕ, ◌+◌, ◌<◌, ◌≤◌, ◌^◌, Bool, true, false, eqb, ltb, List, [], ◌∷◌, ◌++◌, length, take, drop}
use Rattle.std.proofs.Common.{Some, Ok, refl, sym, ap, ◌∙◌, append_assoc, arith}
use Rattle.std.specs.Int.{w16, w32, w128, to_be_bytes, from_be_bytes, is_in_range}
use Rattle.std.proofs.lemmas.Bool.{le-ltb}
use Rattle.std.proofs.lemmas.Bool.Decides.{nat_tests}
use Rattle.std.proofs.lemmas.List.{append-nil, take_at, drop_at, length-append}
use Rattle.op_ids.specs.Clock.{is_clock}
use Rattle.op_pieces.specs.Pieces.{Run}
use Rattle.change_codec.specs.Fits.{HaveSixteen}
use Rattle.change_codec.specs.Reading.{number_at, replica_at, deps_at}
use Rattle.change_codec.specs.Record.{length_at}
use Rattle.change_codec.specs.Spelling.{number_bytes, deps_bytes}
use Rattle.change_codec.proofs.IdLaws.{deps_again}
use Rattle.change_codec.proofs.Lengths.{length-deps, length-bytes16, length-bytes128}
use Rattle.change_codec.proofs.Numbers.{wide16, wide32, wide128, number_again}
use Rattle.change_codec.specs.declared.format.Format.TheVariants.{Third}
use Rattle.piece_codec.specs.Fits.{IsWhole}
use Rattle.piece_codec.specs.Formats.{IsPieceOf}
use Rattle.piece_codec.specs.Spelling.{spelled_piece}
use Rattle.piece_codec.specs.Stream.{spelled_pieces, ArePiecesOf}
use Rattle.piece_codec.proofs.PieceLaws.{spelled_piece_taken}
use Rattle.causal_sync.specs.declared.heard.Heard.{Heard}
use Rattle.causal_sync.specs.declared.heard.Heard.TheVariants.{Hello, Have, Ops, Bye}
use Rattle.causal_sync.specs.Frames.{content_bytes, frame_bytes, IsFrame}
use Rattle.causal_sync.specs.Reading.{tag_at, greeting_at, name_at, other_at, hello_at, have_at, record_at, records_at, count_at, ops_at}
use Rattle.causal_sync.specs.Reading.{later_at, content_at, framed, frame_at}
use Rattle.causal_sync.proofs.Spellings.{few_bytes}
use Rattle.causal_sync.proofs.Steps.{done}

-- a name is read again
name_again : (replica : ℕ) → 0 < replica → replica < 2 ^ 128 → name_at (number_bytes w128 replica) ≡ Ok replica
unfolding name_at replica_at
name_again replica some sixteen =
    let test : eqb replica 0 ≡ false = grind (arith, nat_tests) in
    let read : number_at w128 (number_bytes w128 replica) ≡ Ok (replica, []) = ap (number_at w128) (sym (append-nil (number_bytes w128 replica))) ∙ number_again w128 (2 ^ 128) wide128 replica [] sixteen in
    rw (read, test) refl

-- a HELLO is read again
hello_again : (own replica : ℕ) → 0 < replica → replica < 2 ^ 128 → replica ≢ own → hello_at own (content_bytes (Hello replica)) ≡ Ok (Hello replica)
unfolding hello_at greeting_at tag_at other_at content_bytes
hello_again own replica some sixteen other =
    let test : eqb replica own ≡ false = grind (arith, nat_tests) in
    rw (number_again w16 (2 ^ 16) wide16 3 (number_bytes w128 replica) (omega arith), name_again replica some sixteen, test) refl

-- a HAVE is read again
have_again : (clock : List (ℕ × ℕ)) → is_clock clock ≡ true → HaveSixteen clock → have_at (deps_bytes clock) ≡ Ok (Have clock)
unfolding have_at
have_again clock is sixteen =
    let read : deps_at (deps_bytes clock) ≡ Ok (clock, []) = ap deps_at (sym (append-nil (deps_bytes clock))) ∙ deps_again clock [] is sixteen in
    rw read refl

-- a record is read again
record_again : (p : Run) (rest : List ℕ) → IsPieceOf Third p → IsWhole p → record_at (spelled_piece p ++ rest) ≡ Ok (p, rest)
unfolding record_at
record_again p rest of_third fits = rw (spelled_piece_taken Third p rest of_third fits, drop_at (spelled_piece p) rest (length (spelled_piece p)) refl) refl

-- records are read again
records_again : (ps : List Run) → ArePiecesOf Third ps → records_at (length ps) (spelled_pieces ps) ≡ Ok ps
unfolding records_at
records_again [] are = refl
records_again (p ∷ ps) are = rw (record_again p (spelled_pieces ps) are.1 are.0, records_again ps are.2) refl

-- an OPS is read again
ops_again : (ps : List Run) → 1 ≤ length ps → length ps ≤ 64 → ArePiecesOf Third ps → ops_at (number_bytes w16 (length ps) ++ spelled_pieces ps) ≡ Ok (Ops ps)
unfolding ops_at count_at
ops_again ps some most are =
    let test : is_in_range 1 64 (length ps) ≡ true = grind (arith, nat_tests) in
    rw (number_again w16 (2 ^ 16) wide16 (length ps) (spelled_pieces ps) (omega (arith, most)), test, records_again ps are) refl

-- what a frame says is read again
content_again : (own : ℕ) (first : Bool) (frame : Heard) → IsFrame own first frame → content_at own first (content_bytes frame) ≡ Ok frame
unfolding later_at content_bytes
content_again own true (Hello replica) is = hello_again own replica is.0 is.1 is.2
content_again own true (Have clock) is = absurd is
content_again own true (Ops ps) is = absurd is
content_again own true Bye is = absurd is
content_again own false (Hello replica) is = absurd is
content_again own false (Have clock) is = have_again clock is.0 is.1
content_again own false (Ops ps) is = ops_again ps is.0 is.1 is.2
content_again own false Bye is = refl

-- a clock has few entries
few_entries : (es : List (ℕ × ℕ)) → is_clock es ≡ true → length es ≤ 16
few_entries es is = grind (arith, nat_tests)

-- what a frame says has a length in its range
content_range : (own : ℕ) (first : Bool) (frame : Heard) → IsFrame own first frame → (1 ≤ length (content_bytes frame)) × (length (content_bytes frame) ≤ 131068)
unfolding content_bytes
content_range own true (Hello replica) is =
    let len = length-append (number_bytes w16 3) (number_bytes w128 replica) in
    (omega arith, omega (arith, len, length-bytes16 3, length-bytes128 replica))
content_range own true (Have clock) is = absurd is
content_range own true (Ops ps) is = absurd is
content_range own true Bye is = absurd is
content_range own false (Hello replica) is = absurd is
content_range own false (Have clock) is = (omega arith, omega (arith, length-deps clock, few_entries clock is.0))
content_range own false (Ops ps) is =
    let len = length-append (number_bytes w16 (length ps)) (spelled_pieces ps) in
    (omega arith, omega (arith, len, length-bytes16 (length ps), few_bytes Third ps is.2, is.1))
content_range own false Bye is = (omega arith, omega arith)

-- a length and content are read again
front_again : (own : ℕ) (first : Bool) (frame : Heard) (front content rest : List ℕ) → length front ≡ 4 → from_be_bytes w32 front ≡ length content
    → 1 ≤ length content → length content ≤ 131068 → content_at own first content ≡ Ok frame
    → frame_at own first (front ++ (content ++ rest)) ≡ Ok (Some (frame, 4 + length content))
unfolding frame_at framed
front_again own first frame front content rest four number some most read =
    let len = length content in
    let all = front ++ (content ++ rest) in
    let number_is : length_at all ≡ len = ap (from_be_bytes w32) (take_at front (content ++ rest) 4 four) ∙ number in
    let behind_is : drop 4 all ≡ content ++ rest = drop_at front (content ++ rest) 4 four in
    let there : ltb (length all) 4 ≡ false = le-ltb _ _ (omega (arith, length-append front (content ++ rest))) in
    let test : is_in_range 1 131068 len ≡ true = grind (arith, nat_tests) in
    let long : ltb (length (content ++ rest)) len ≡ false = le-ltb _ _ (omega (arith, length-append content rest)) in
    let cut : take len (content ++ rest) ≡ content = take_at content rest len refl in
    let whole : framed own first len (content ++ rest) ≡ Ok (Some (frame, 4 + len)) = rw (test, long, cut, read) refl in
    let opened : frame_at own first all ≡ framed own first (length_at all) (drop 4 all) = rw there refl in
    opened ∙ ap (λ (n : ℕ). framed own first n (drop 4 all)) number_is ∙ ap (framed own first len) behind_is ∙ whole

-- what is spelled is read
pub frame_again : (own : ℕ) (first : Bool) (frame : Heard) (rest : List ℕ) → IsFrame own first frame
    → frame_at own first (frame_bytes frame ++ rest) ≡ Ok (Some (frame, length (frame_bytes frame)))
unfolding frame_bytes number_bytes
frame_again own first frame rest is =
    let content = content_bytes frame in
    let range = content_range own first frame is in
    let front : List ℕ = to_be_bytes w32 (length content) in
    let size : 4 + length content ≡ length (front ++ content) = omega (arith, length-append front content) in
    ap (frame_at own first) (append_assoc front content rest)
    ∙ front_again own first frame front content rest refl (wide32.again (length content) (omega (arith, range.1))) range.0 range.1 (content_again own first frame is)
    ∙ ap (λ (k : ℕ). done (Some (frame, k))) size
