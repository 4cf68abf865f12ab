-- Pieces that were passed, from the first on.
use Rattle.std.proofs.Common.{◌≡◌, ℕ, ◌+◌, ◌-◌, ◌<◌, ◌≤◌, List, [], ◌++◌, length, drop}
use Rattle.std.proofs.Common.{refl, sym, ap, subst, ◌∙◌, append_assoc, arith, inl, inr, zero, suc, ◌⊎◌, ◌≢◌}
use Rattle.std.proofs.lemmas.List.{append-nil, length-append, length-take, take-append-drop, nil_from_length}
use Rattle.op_model.specs.declared.op.Op.{Op}
use Rattle.op_model.specs.Records.{stream_length}
use Rattle.model_laws.proofs.Limits.{stream_length-append}
use Rattle.op_pieces.specs.Pieces.{Run, ops_of}
use Rattle.change_codec.specs.declared.format.Format.{Format}
use Rattle.piece_codec.specs.Record.{BeginsWithPiece}
use Rattle.piece_codec.specs.Spelling.{spelled_piece}
use Rattle.piece_codec.specs.Stream.{SpellsList}
use Rattle.piece_codec.proofs.StreamLaws.{both_join, goes_on, no_list, nothing, one_list, one_piece}
use Rattle.change_codec.specs.declared.stream_error.StreamError.{StreamError}
use Rattle.change_codec.specs.declared.stream_error.StreamError.TheVariants as fault
use Rattle.stream_list.specs.ReadError.{of_stream}
use Rattle.stream_list.specs.declared.read_error.ReadError.TheVariants.{Stream}
use Rattle.stream_list.specs.declared.front.Front.{Front}
use Rattle.stream_list.specs.Fronts.{BeginsWithFront, BeginsWithNone, PutsFront}
use Rattle.stream_list.specs.declared.passing.Listed.{Listed}
use Rattle.stream_list.specs.Passing.{HasPassed, Passed, Reading}
use Rattle.stream_list.specs.Streams.{HasNone, NeverHas, SpellsSome}
use Rattle.stream_list.proofs.Unfinished.{front_stays, none_stays, nothing_begins}

pub passed_none : (f : Format) (stream : List ℕ) (list : List Op) (count : ℕ) → list ≡ [] → Passed f stream stream list count count 0
passed_none f stream list count none = record {
  before = [];
  all = refl;
  spells = subst (λ (empty : List Op). SpellsList f empty []) (sym none) (nothing f);
  counted = omega (arith, ap length none);
  measured = sym (ap stream_length none);
  within = omega arith;
}

-- more bytes came behind the rest
pub passed_before : (f : Format) (stream rest more : List ℕ) (list : List Op) (count left records : ℕ) → Passed f stream rest list count left records
    → Passed f (stream ++ more) (rest ++ more) list count left records
passed_before f stream rest more list count left records passed = record {
  before = passed.before;
  all = sym (append_assoc passed.before rest more) ∙ ap (λ (s : List ℕ). s ++ more) passed.all;
  spells = passed.spells;
  counted = passed.counted;
  measured = passed.measured;
  within = passed.within;
}

-- bytes that begin with a piece are its record and the bytes behind it
pub parts : (bytes : List ℕ) (p : Run) (n : ℕ) → BeginsWithPiece bytes p n → spelled_piece p ++ drop n bytes ≡ bytes
parts bytes p n begins = ap (λ (w : List ℕ). w ++ drop n bytes) (sym begins.spelled_so) ∙ take-append-drop n bytes

-- one piece more was passed
pub passed_more : (f : Format) (stream rest after : List ℕ) (list longer : List Op) (count left records : ℕ) (front : Front)
    → Passed f stream rest list count left records → PutsFront f rest front list longer → front.count ≤ left → after ≡ drop front.len rest
    → Passed f stream after longer count (left - front.count) (records + front.records)
passed_more f stream rest after list longer count left records front passed puts few after_is =
    let begins = puts.begins in
    let p = begins.piece in
    let whole = spelled_piece p in
    let there : whole ++ after ≡ rest = ap (λ (r : List ℕ). whole ++ r) after_is ∙ parts rest p front.len begins.begins in
    let bytes = length-append passed.before whole in
    let size : front.len ≤ length whole = omega (arith, ap length begins.begins.spelled_so, length-take front.len rest, begins.begins.whole) in
    record {
      before = passed.before ++ whole;
      all = append_assoc passed.before whole after ∙ ap (λ (r : List ℕ). passed.before ++ r) there ∙ passed.all;
      spells = subst (λ (ops : List Op). SpellsList f ops (passed.before ++ whole)) (sym puts.put)
          (both_join f list (ops_of p) passed.before whole passed.spells (one_piece f p begins.of_format begins.begins.fits));
      counted = omega (arith, passed.counted, ap length puts.put, length-append list (ops_of p), begins.counted, few);
      measured = omega (arith, passed.measured, ap stream_length puts.put, begins.measured, stream_length-append list (ops_of p));
      within = omega (arith, passed.within, begins.within, bytes, size);
    }

-- what stands behind those that were passed is no stream, so the whole is none
pub none_behind : (f : Format) (stream rest : List ℕ) (list : List Op) (count left records : ℕ) → Passed f stream rest list count left records
    → 0 < length rest → BeginsWithNone f rest → HasNone f stream count
none_behind f stream rest list count left records passed some none ops spells =
    let behind = goes_on f f list ops passed.before rest passed.spells (subst (λ (bytes : List ℕ). SpellsList f ops bytes) (sym passed.all) spells) in
    absurd (no_list f rest some none behind.0 behind.1)

-- so it is with any bytes behind, where the rest is longer than a piece
pub never_behind : (f : Format) (stream rest : List ℕ) (list : List Op) (count left records : ℕ) → Passed f stream rest list count left records
    → 1511 ≤ length rest → BeginsWithNone f rest → NeverHas f stream count
never_behind f stream rest list count left records passed long none more =
    none_behind f (stream ++ more) (rest ++ more) list count left records (passed_before f stream rest more list count left records passed)
    (omega (arith, length-append rest more, long)) (none_stays f rest more long none)

-- the next piece has too many operations
too_many : (f : Format) (stream rest : List ℕ) (list : List Op) (count left records : ℕ) (front : Front) → Passed f stream rest list count left records
    → BeginsWithFront f rest front → left < front.count → HasNone f stream count
too_many f stream rest list count left records front passed begins many ops spells =
    let p = begins.piece in
    let after = drop front.len rest in
    let behind = goes_on f f list ops passed.before rest passed.spells (subst (λ (bytes : List ℕ). SpellsList f ops bytes) (sym passed.all) spells) in
    let others = goes_on f f (ops_of p) behind.0 (spelled_piece p) after (one_piece f p begins.of_format begins.begins.fits)
    (subst (λ (bytes : List ℕ). SpellsList f behind.0 bytes) (sym (parts rest p front.len begins.begins)) behind.1) in
    λ is. absurd (omega (
      arith,
      is,
      many,
      passed.counted,
      begins.counted,
      ap length behind.2,
      length-append list behind.0,
      ap length others.2,
      length-append (ops_of p) others.0,
    ))

-- and it has them with any bytes behind
pub never_so_many : (f : Format) (stream rest : List ℕ) (list : List Op) (count left records : ℕ) (front : Front) → Passed f stream rest list count left records
    → BeginsWithFront f rest front → left < front.count → NeverHas f stream count
never_so_many f stream rest list count left records front passed begins many more =
    too_many f (stream ++ more) (rest ++ more) list count left records front (passed_before f stream rest more list count left records passed)
    (front_stays f rest more front begins) many

-- all were passed, and there are too few
pub too_few : (f : Format) (stream rest : List ℕ) (list : List Op) (count left records : ℕ) → Passed f stream rest list count left records
    → rest ≡ [] → 0 < left → HasNone f stream count
too_few f stream rest list count left records passed none some ops spells =
    let behind = goes_on f f list ops passed.before rest passed.spells (subst (λ (bytes : List ℕ). SpellsList f ops bytes) (sym passed.all) spells) in
    let nothing_more = one_list f f behind.0 [] rest behind.1 (subst (λ (bytes : List ℕ). SpellsList f [] bytes) (sym none) (nothing f)) in
    λ is. absurd (omega (arith, is, some, passed.counted, ap length behind.2, length-append list behind.0, ap length nothing_more))

-- all were passed, and there are as many as there should be
pub passed_all : (f : Format) (stream rest : List ℕ) (list : List Op) (count left records : ℕ) → Passed f stream rest list count left records
    → rest ≡ [] → left ≡ 0 → SpellsSome f list count stream
passed_all f stream rest list count left records passed none no_more =
    let whole : passed.before ≡ stream = sym (append-nil passed.before) ∙ ap (λ (r : List ℕ). passed.before ++ r) (sym none) ∙ passed.all in
    record { spells = subst (λ (bytes : List ℕ). SpellsList f list bytes) whole passed.spells; counted = omega (arith, passed.counted, no_more) }

-- what no bytes behind make a stream is none as it is
pub never_is_none : (f : Format) (stream : List ℕ) (count : ℕ) → NeverHas f stream count → HasNone f stream count
never_is_none f stream count never = subst (λ (bytes : List ℕ). HasNone f bytes count) (append-nil stream) (never [])

-- a stream of which nothing came
pub nothing_passed : (f : Format) (stream rest : List ℕ) (list : List Op) (count : ℕ) → stream ≡ [] → rest ≡ [] → list ≡ []
    → HasPassed (record { format = f; count = count; bytes = stream }) rest (record { list = list; left = count; records = 0 })
nothing_passed f stream rest list count no_stream no_rest no_list = record {
  passed = rw (no_rest, sym no_stream) (passed_none f stream list count no_list);
  unfinished = rw no_rest (nothing_begins f);
  short = omega (arith, ap length no_stream);
}

-- no more is expected, and nothing of a piece is left, or the stream has none
pub ends_early : (it : Reading) (rest : List ℕ) (listed : Listed) → HasPassed it rest listed → (length rest ≢ 0) ⊎ (0 < listed.left) → HasNone it.format it.bytes it.count
ends_early it rest listed has (inl some) =
    none_behind it.format it.bytes rest listed.list it.count listed.left listed.records has.passed (omega (arith, some)) has.unfinished
ends_early it rest listed has (inr more) =
    by_length (length rest) refl
  where
    by_length : (n : ℕ) → length rest ≡ n → HasNone it.format it.bytes it.count
    by_length zero none = too_few it.format it.bytes rest listed.list it.count listed.left listed.records has.passed (nil_from_length rest none) more
    by_length (suc n) some =
        none_behind it.format it.bytes rest listed.list it.count listed.left listed.records has.passed (omega (arith, some)) has.unfinished

-- the bytes are at fault, where the refusal says so
pub of_bytes : (e : StreamError) → of_stream e ≡ Stream → e ≡ fault.Stream
of_bytes fault.Memory is = absurd cc
of_bytes fault.Stream is = refl
