-- A record that is put behind others.
use Rattle.std.proofs.Common.{◌≡◌, ℕ, ◌+◌, ◌<◌, ◌^◌, List, [], ◌∷◌, ◌++◌, length, refl, sym, ap, ◌∙◌, arith}
use Rattle.std.proofs.lemmas.List.{append-nil}
use Rattle.std.proofs.Math.Seq.{take-length}
use Rattle.op_model.specs.declared.op.Op.{Op}
use Rattle.op_model.specs.Records.{record_length, stream_length}
use Rattle.change_codec.specs.Spelling.{spelled}
use Rattle.change_codec.specs.Stream.{spelled_all}
use Rattle.change_codec.proofs.Lengths.{length_spelled}
use Rattle.op_list.specs.Held.{ends_of, HoldsRecords, IsRecord}
use Rattle.op_list.proofs.Holding.{held_more}

-- the record is as long as the limit on a stream counts it
is_spelled : (bytes : List ℕ) (op : Op) → IsRecord bytes op → bytes ≡ spelled op
is_spelled bytes op is = sym (take-length bytes) ∙ is.spelled_so

-- its bytes behind the records, and where it ends behind the ends, hold the operation too
pub holds_record : (records ends record_bytes more_records more_ends : List ℕ) (end : ℕ) (ops : List Op) (op : Op) → HoldsRecords records ends ops → IsRecord record_bytes op
    → stream_length ops + length record_bytes < 2 ^ 32 → more_records ≡ records ++ record_bytes → end ≡ length records + length record_bytes
    → more_ends ≡ ends ++ end ∷ [] → HoldsRecords more_records more_ends (ops ++ op ∷ [])
holds_record records ends record_bytes more_records more_ends end ops op holds is small records_are end_is ends_are =
    let whole = is_spelled record_bytes op is in
    let long : length record_bytes ≡ record_length op = ap length whole ∙ length_spelled op in
    held_more records ends more_records more_ends ops (op ∷ []) holds (is.fits, tt) (omega (arith, small, long))
    (records_are ∙ ap (λ (r : List ℕ). records ++ r) (whole ∙ sym (append-nil (spelled op))))
    (ends_are ∙ ap (λ (e : ℕ). ends ++ e ∷ []) (end_is ∙ ap (λ (l : ℕ). length records + l) long))
