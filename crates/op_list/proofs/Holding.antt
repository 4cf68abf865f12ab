-- Records that hold a list.
use Rattle.std.proofs.Common.{◌≡◌, ℕ, zero, suc, ◌+◌, ◌-◌, ◌<◌, ◌≤◌, ◌^◌, List, [], ◌∷◌, ◌++◌}
use Rattle.std.proofs.Common.{length, get_or, take, drop, Ok, Some, refl, sym, ap, subst, ◌∙◌}
use Rattle.std.proofs.Common.{append_assoc, arith}
use Rattle.std.proofs.lemmas.List.{append-nil, take_at, drop_at, take-append-drop, length-append}
use Rattle.op_model.specs.declared.op.Op.{Op}
use Rattle.op_model.specs.Records.{stream_length}
use Rattle.change_codec.specs.Spelling.{spelled}
use Rattle.change_codec.specs.declared.format.Format.TheVariants.{Third}
use Rattle.change_codec.specs.Record.{taken}
use Rattle.change_codec.specs.Stream.{spelled_all, AreOperations}
use Rattle.change_codec.proofs.RecordLaws.{spelled_taken, of_third}
use Rattle.change_codec.proofs.StreamLaws.{spelled_all-append, length-spelled_all}
use Rattle.op_list.specs.Held.{found_then, ops_in, held, ends_of, HoldsRecords, IsHeld}
use Rattle.op_list.proofs.EndsOf.{end_at, length-ends_of, ends_of-take, ends_of-append, stream_length-append}

-- what is spelled is read, whatever follows it
pub ops_in-spelled : (ops : List Op) (rest : List ℕ) → AreOperations ops
    → ops_in (length ops) (spelled_all ops ++ rest) ≡ ops
unfolding ops_in
ops_in-spelled [] rest fits = refl
ops_in-spelled (op ∷ ops) rest fits =
    let tail = spelled_all ops ++ rest in
    let whole : (spelled op ++ spelled_all ops) ++ rest ≡ spelled op ++ tail =
    append_assoc (spelled op) (spelled_all ops) rest in
    let read : taken Third (spelled op ++ tail) ≡ Ok (Some (op, length (spelled op))) =
    spelled_taken Third op tail (of_third op) fits.0 in
    let cut : drop (length (spelled op)) (spelled op ++ tail) ≡ tail =
    drop_at (spelled op) tail (length (spelled op)) refl in
    ap (λ bytes. found_then (ops_in (length ops)) bytes (taken Third bytes)) whole
    ∙ ap (found_then (ops_in (length ops)) (spelled op ++ tail)) read
    ∙ ap (λ bytes. op ∷ ops_in (length ops) bytes) cut
    ∙ ap (λ others. op ∷ others) (ops_in-spelled ops rest fits.1)

-- what is held is what is read
pub held_is : (records ends : List ℕ) (ops : List Op) → HoldsRecords records ends ops
    → held records ends ≡ ops
held_is records ends ops holds =
    let count : length ends ≡ length ops = ap length holds.ends_so ∙ length-ends_of 0 ops in
    let bytes : records ≡ spelled_all ops ++ [] =
    sym holds.spelled_so ∙ sym (append-nil (spelled_all ops)) in
    ap (λ n. ops_in n records) count ∙ ap (ops_in (length ops)) bytes
    ∙ ops_in-spelled ops [] holds.fits

pub is_held : (records ends : List ℕ) (ops : List Op) → HoldsRecords records ends ops → IsHeld records ends
is_held records ends ops holds =
    subst (λ (read : List Op). HoldsRecords records ends read) (sym (held_is records ends ops holds)) holds

-- as many ends as operations
pub ends_count : (records ends : List ℕ) (ops : List Op) → HoldsRecords records ends ops
    → length ends ≡ length ops
ends_count records ends ops holds = ap length holds.ends_so ∙ length-ends_of 0 ops

-- the records are as long as the limit on a stream counts them
pub records_length : (records ends : List ℕ) (ops : List Op) → HoldsRecords records ends ops
    → length records ≡ stream_length ops
records_length records ends ops holds = ap length (sym holds.spelled_so) ∙ length-spelled_all ops

pub fits_take : (n : ℕ) (ops : List Op) → AreOperations ops → AreOperations (take n ops)
fits_take zero ops fits = tt
fits_take (suc n) [] fits = tt
fits_take (suc n) (op ∷ ops) fits = (fits.0, fits_take n ops fits.1)

pub fits_drop : (n : ℕ) (ops : List Op) → AreOperations ops → AreOperations (drop n ops)
fits_drop zero ops fits = fits
fits_drop (suc n) [] fits = tt
fits_drop (suc n) (op ∷ ops) fits = fits_drop n ops fits.1

pub fits_append : (a b : List Op) → AreOperations a → AreOperations b → AreOperations (a ++ b)
fits_append [] b fits_a fits_b = fits_b
fits_append (op ∷ ops) b fits_a fits_b = (fits_a.0, fits_append ops b fits_a.1 fits_b)

-- the records fall into those of the first operations, and of the others
records_parts : (n : ℕ) (ops : List Op)
    → spelled_all ops ≡ spelled_all (take n ops) ++ spelled_all (drop n ops)
records_parts n ops =
    ap spelled_all (sym (take-append-drop n ops)) ∙ spelled_all-append (take n ops) (drop n ops)

pub front_records : (n : ℕ) (ops : List Op)
    → take (stream_length (take n ops)) (spelled_all ops) ≡ spelled_all (take n ops)
front_records n ops =
    let len = stream_length (take n ops) in
    ap (take len) (records_parts n ops)
    ∙ take_at (spelled_all (take n ops)) (spelled_all (drop n ops)) len
    (length-spelled_all (take n ops))

back_records : (n : ℕ) (ops : List Op)
    → drop (stream_length (take n ops)) (spelled_all ops) ≡ spelled_all (drop n ops)
back_records n ops =
    let len = stream_length (take n ops) in
    ap (drop len) (records_parts n ops)
    ∙ drop_at (spelled_all (take n ops)) (spelled_all (drop n ops)) len
    (length-spelled_all (take n ops))

-- the first operations take no more than all of them
pub front_length : (n : ℕ) (ops : List Op) → stream_length (take n ops) ≤ stream_length ops
front_length n ops =
    omega (
      arith,
      ap stream_length (take-append-drop n ops),
      stream_length-append (take n ops) (drop n ops),
    )

-- the first operations, held
pub holds_front : (n : ℕ) (records ends : List ℕ) (ops : List Op) → HoldsRecords records ends ops
    → HoldsRecords (take (stream_length (take n ops)) records) (take n ends) (take n ops)
holds_front n records ends ops holds =
    let cut : spelled_all (take n ops) ≡ take (stream_length (take n ops)) records =
    sym (front_records n ops) ∙ ap (take (stream_length (take n ops))) holds.spelled_so in
    record {
      spelled_so = cut;
      fits = fits_take n ops holds.fits;
      ends_so = ap (take n) holds.ends_so ∙ ends_of-take n 0 ops;
      within =
          omega (
            arith,
            ap length cut,
            length-spelled_all (take n ops),
            front_length n ops,
            records_length records ends ops holds,
            holds.within,
          );
    }

-- the records of the others
pub records_behind : (n : ℕ) (records ends : List ℕ) (ops : List Op) → HoldsRecords records ends ops
    → drop (stream_length (take n ops)) records ≡ spelled_all (drop n ops)
records_behind n records ends ops holds =
    ap (drop (stream_length (take n ops))) (sym holds.spelled_so) ∙ back_records n ops

-- operations behind the others
pub holds_more : (records ends : List ℕ) (ops more : List Op) → HoldsRecords records ends ops
    → AreOperations more → stream_length ops + stream_length more < 2 ^ 32
    → HoldsRecords (records ++ spelled_all more) (ends ++ ends_of (length records) more) (ops ++ more)
holds_more records ends ops more holds fits small =
    let size = records_length records ends ops holds in
    let from_zero : stream_length ops ≡ 0 + stream_length ops = omega arith in
    record {
      spelled_so =
          spelled_all-append ops more ∙ ap (λ bytes. bytes ++ spelled_all more) holds.spelled_so;
      fits = fits_append ops more holds.fits fits;
      ends_so =
          ap (λ before. before ++ ends_of (length records) more) holds.ends_so
          ∙ ap (λ start. ends_of 0 ops ++ ends_of start more) (size ∙ from_zero)
          ∙ sym (ends_of-append 0 ops more);
      within =
          omega
          (arith, length-append records (spelled_all more), size, length-spelled_all more, small);
    }

-- nothing, held
pub holds_none : HoldsRecords [] [] []
holds_none = record { spelled_so = refl; fits = tt; ends_so = refl; within = omega arith }

-- the list that a value shows is held
pub shown : (records ends : List ℕ) (ops : List Op) → IsHeld records ends
    → held records ends ≡ ops → HoldsRecords records ends ops
shown records ends ops is_held is = subst (λ (read : List Op). HoldsRecords records ends read) is is_held

-- a cut of the records and of the ends, held
pub held_front : (n start : ℕ) (records ends front_records front_ends : List ℕ) (ops : List Op)
    → HoldsRecords records ends ops
    → start ≡ stream_length (take n ops) → front_records ≡ take start records → front_ends ≡ take n
    ends → HoldsRecords front_records front_ends (take n ops)
held_front n start records ends front_records front_ends ops holds start_is records_are ends_are =
    let cut : front_records ≡ take (stream_length (take n ops)) records =
    records_are ∙ ap (λ k. take k records) start_is in
    let front = holds_front n records ends ops holds in
    let len = stream_length (take n ops) in
    subst (λ (r : List ℕ). HoldsRecords r front_ends (take n ops)) (sym cut)
    (subst (λ (e : List ℕ). HoldsRecords (take len records) e (take n ops)) (sym ends_are) front)

-- no operation takes no bytes
pub few_ops : (ops : List Op) → length ops ≤ stream_length ops
few_ops [] = omega arith
few_ops (op ∷ ops) = omega (arith, few_ops ops)

pub few_ends : (records ends : List ℕ) (ops : List Op) → HoldsRecords records ends ops
    → length ends < 2 ^ 32
few_ends records ends ops holds =
    omega (
      arith,
      few_ops ops,
      ends_count records ends ops holds,
      records_length records ends ops holds,
      holds.within,
    )

-- where the n-th record begins, the end before it
pub end_before : (n : ℕ) (records ends : List ℕ) (ops : List Op) → HoldsRecords records ends ops
    → 0 < n → n ≤ length ops → get_or ends (n - 1) 0 ≡ stream_length (take n ops)
end_before n records ends ops holds some most =
    let back : suc (n - 1) ≡ n = omega (arith, some) in
    let at : get_or (ends_of 0 ops) (n - 1) 0 ≡ 0 + stream_length (take (suc (n - 1)) ops) =
    end_at 0 ops (n - 1) 0 (omega (arith, some, most)) in
    let front = take (suc (n - 1)) ops in
    let from_zero : 0 + stream_length front ≡ stream_length front = omega arith in
    ap (λ e. get_or e (n - 1) 0) holds.ends_so ∙ at ∙ from_zero
    ∙ ap (λ k. stream_length (take k ops)) back

-- records and ends behind the others, held
pub held_more : (records ends more_records more_ends : List ℕ) (ops more : List Op)
    → HoldsRecords records ends ops → AreOperations more
    → stream_length ops + stream_length more < 2 ^ 32 → more_records ≡ records ++ spelled_all more
    → more_ends ≡ ends ++ ends_of (length records) more → HoldsRecords more_records more_ends (ops ++ more)
held_more records ends more_records more_ends ops more holds fits small records_are ends_are =
    let whole = holds_more records ends ops more holds fits small in
    subst (λ (r : List ℕ). HoldsRecords r more_ends (ops ++ more)) (sym records_are)
    (subst (λ (e : List ℕ). HoldsRecords (records ++ spelled_all more) e (ops ++ more)) (sym ends_are)
    whole)
