-- What is put behind the records that wait.
use Rattle.std.proofs.Common.{◌≡◌, ℕ, ◌+◌, ◌-◌, ◌*◌, ◌<◌, ◌≤◌, true, List, [], ◌∷◌, ◌++◌, Result, Ok, Err}
use Rattle.std.proofs.Common.{length, take, drop, get_or, refl, ap, sym, ◌∙◌, arith, subst}
use Rattle.std.specs.Prelude.{OnOk}
use Rattle.std.proofs.lemmas.Bool.{leb-true, and_parts}
use Rattle.std.proofs.lemmas.List.{length-drop, take_all}
use Rattle.change_codec.specs.Fits.{IsOperation}
use Rattle.change_codec.specs.Spelling.{spelled}
use Rattle.change_codec.specs.Stream.{spelled_all, AreOperations}
use Rattle.change_codec.proofs.Lengths.{length_body, length_spelled}
use Rattle.change_codec.proofs.RecordLaws.{body_range}
use Rattle.change_codec.proofs.StreamLaws.{are_of_third, length-spelled_all}
use Rattle.group_commit.specs.Plan.{newest}
use Rattle.op_model.specs.declared.op.Op.{Op}
use Rattle.op_model.specs.declared.edit.Edit.{Edit}
use Rattle.op_model.specs.declared.edit.Change.TheVariants as change
use Rattle.op_model.specs.Causality.{is_insert}
use Rattle.op_model.specs.Made.{is_small, made}
use Rattle.op_model.specs.Records.{record_length, stream_length}
use Rattle.op_model.specs.Waiting.{text_length}
use Rattle.op_pieces.specs.Cutting.{value_of}
use Rattle.op_pieces.specs.Pieces.{Run, single, next_typed, typed_behind, fits_behind}
use Rattle.op_pieces.specs.Typed.{IsTyped}
use Rattle.op_pieces.proofs.LengthLemmas.{few_others}
use Rattle.op_pieces.proofs.PieceLemmas.{length-typed}
use Rattle.op_pieces.proofs.TypedLemmas.{typed_run}
use Rattle.piece_codec.specs.Fits.{AreScalars, IsWhole}
use Rattle.piece_codec.specs.Formats.{IsPieceOf}
use Rattle.piece_codec.specs.Spelling.{spelled_run, spelled_piece}
use Rattle.piece_codec.proofs.CutStreams.{are_valid}
use Rattle.piece_codec.proofs.LengthLaws.{run_has_length}
use Rattle.piece_codec.proofs.StreamLaws.{one_piece, single_records}
use Rattle.hub_parts.specs.Adding.{Adds}

-- what a success says, where more follows from it
pub on_ok : {T E : Type 0} (answer : Result T E) (P Q : Type 0) → OnOk answer P → (P → Q) → OnOk answer Q
on_ok (Ok x) P Q says more = more says
on_ok (Err e) P Q says more = tt

pub on_both : {T E : Type 0} (answer : Result T E) (P Q R : Type 0) → OnOk answer P → OnOk answer Q → (P → Q → R) → OnOk answer R
on_both (Ok x) P Q R says too more = more says too
on_both (Err e) P Q R says too more = tt

-- single records behind what waited
pub singles_add : (ops : List Op) (was now : List ℕ) → AreOperations ops → now ≡ was ++ spelled_all ops → Adds was now ops (stream_length ops)
singles_add ops was now fits behind = record {
  records = spelled_all ops;
  spells = single_records newest ops fits (are_of_third ops);
  long = length-spelled_all ops;
  behind = behind;
}

-- the record of one operation
pub one_adds : (op : Op) (was now : List ℕ) → IsOperation op → now ≡ was ++ spelled op → Adds was now (op ∷ []) (record_length op)
one_adds op was now fits behind = record {
  records = spelled op;
  spells = one_piece newest (single op) (record { runs = λ none. refl; tokens = (are_of_third (op ∷ [])).0 }) (record { first = fits; others = tt; piece = refl });
  long = length_spelled op;
  behind = behind;
}

-- what is typed behind an operation are scalar values
typed_scalars : (op : Op) (vs : List ℕ) → AreOperations (typed_behind op vs) → AreScalars vs
typed_scalars op [] fits = tt
typed_scalars op (v ∷ vs) fits = (fits.0.body.1, typed_scalars (next_typed op v) vs fits.1)

-- what the operations of a run add
run_text : (op : Op) (vs : List ℕ) → 0 < length vs → text_length (op ∷ typed_behind op vs) ≡ record_length op + 2 + 4 * length vs
run_text op [] some = absurd (omega arith)
run_text op (v ∷ vs) some = let behind = length-typed (next_typed op v) vs in omega (arith, behind)

-- the record of a run behind what waited
run_adds : (op : Op) (vs : List ℕ) (was now : List ℕ) → fits_behind op vs ≡ true → 0 < length vs → AreOperations (op ∷ typed_behind op vs)
    → now ≡ was ++ spelled_run op vs → Adds was now (op ∷ typed_behind op vs) (text_length (op ∷ typed_behind op vs))
run_adds op [] was now piece some fits behind = absurd (omega arith)
run_adds op (v ∷ vs) was now piece some fits behind =
    let run : Run = record { first = op; others = v ∷ vs } in
    let whole : IsWhole run = record { first = fits.0; others = typed_scalars op (v ∷ vs) fits.1; piece = piece } in
    let of_format : IsPieceOf newest run = record { runs = λ never. absurd (let no : ⊥ = cc in no); tokens = (are_of_third (op ∷ [])).0 } in
    record {
      records = spelled_piece run;
      spells = one_piece newest run of_format whole;
      long = run_has_length run piece some ∙ sym (run_text op (v ∷ vs) some);
      behind = behind;
    }

-- of several characters
more_others : (ops : List Op) (text : List ℕ) (t : IsTyped ops text) → 2 ≤ length text → 0 < length t.run.others
more_others ops text t more = omega (arith, ap length t.types, more)

-- the record of what was typed
pub typed_adds : (ops : List Op) (text was now : List ℕ) (t : IsTyped ops text) → AreOperations ops → 2 ≤ length text
    → now ≡ was ++ spelled_run t.run.first (drop 1 text) → Adds was now ops (text_length ops)
typed_adds ops text was now t fits more behind =
    let others : drop 1 text ≡ t.run.others = ap (drop 1) (sym t.types) in
    subst (λ (x : List Op). Adds was now x (text_length x)) t.makes
    (run_adds t.run.first t.run.others was now t.piece (more_others ops text t more) (rw (sym t.makes) at fits) (rw others at behind))

-- one character's record is its operation's
pub one_typed : (ops : List Op) (text : List ℕ) → IsTyped ops text → length text < 2 → text_length ops ≡ stream_length ops
one_typed ops text t few =
    let long = ap length t.types in
    subst (λ (x : List Op). text_length x ≡ stream_length x) t.makes (alone t.run.first t.run.others (omega (arith, long, few)))
  where
    alone : (op : Op) (vs : List ℕ) → length vs ≤ 0 → text_length (op ∷ typed_behind op vs) ≡ stream_length (op ∷ typed_behind op vs)
    alone op [] none = refl
    alone op (v ∷ vs) none = absurd (omega arith)

-- the record of the first operation of what was typed, and how many are typed behind it
pub record First (ops : List Op) (text bytes : List ℕ) (t : IsTyped ops text) : Type 0 where
  pub is : bytes ≡ spelled t.run.first
  pub whole : 9 ≤ length bytes
  pub short : length bytes ≤ 1511
  pub inserts : is_insert t.run.first.body ≡ true
  pub few : length (drop 1 text) < 256

piece_inserts : (op : Op) (vs : List ℕ) → fits_behind op vs ≡ true → 0 < length vs → is_insert op.body ≡ true
piece_inserts op [] piece some = absurd (omega arith)
piece_inserts op (v ∷ vs) piece some = (and_parts (is_insert op.body) _ piece).0

record_range : (op : Op) → IsOperation op → (9 ≤ record_length op) × (record_length op ≤ 1511)
record_range op fits =
    let range = body_range newest op (are_of_third (op ∷ [])).0 fits in
    let body = length_body op in
    let most = range.1 in
    let least = range.0 in
    (omega (arith, body, least), omega (arith, body, most))

pub typed_first : (ops : List Op) (text bytes : List ℕ) (op : Op) (t : IsTyped ops text) → AreOperations ops → 2 ≤ length text
    → op ≡ get_or ops 0 op → bytes ≡ spelled op → First ops text bytes t
typed_first ops text bytes op t fits more here is =
    let first = t.run.first in
    let others = t.run.others in
    let spelled_first : bytes ≡ spelled first = is ∙ ap spelled (here ∙ ap (λ (x : List Op). get_or x 0 op) (sym t.makes)) in
    let long : length bytes ≡ record_length first = ap length spelled_first ∙ length_spelled first in
    let range = record_range first (let these : AreOperations (first ∷ typed_behind first others) = rw (sym t.makes) at fits in these.0) in
    let least = range.0 in
    let most = range.1 in
    let rest : drop 1 text ≡ others = ap (drop 1) (sym t.types) in
    record {
      is = spelled_first;
      whole = omega (arith, long, least);
      short = omega (arith, long, most);
      inserts = piece_inserts first others t.piece (more_others ops text t more);
      few = rw rest (few_others first others t.piece);
    }

-- the characters behind the first one
pub others_are : (text : List ℕ) → take (length text - 1) (drop 1 text) ≡ drop 1 text
others_are text = take_all (length text - 1) (drop 1 text) (omega (arith, length-drop 1 text))

-- the first character
pub first_is : (ops : List Op) (text : List ℕ) (d : ℕ) (t : IsTyped ops text) → get_or text 0 d ≡ value_of t.run.first.body
first_is ops text d t = ap (λ (x : List ℕ). get_or x 0 d) (sym t.types)

-- what a small insert makes is typed
pub made_typed : (ops : List Op) (list : List Op) (replica : ℕ) (e : Edit) (at : ℕ) (text : List ℕ) → ops ≡ made list replica e → e.change ≡ change.Insert at text
    → is_small e.change ≡ true → 0 < length text → AreOperations ops → IsTyped ops text
made_typed ops list replica e at text is change_is small some fits =
    let few : length text ≤ 256 = leb-true _ _ (rw change_is at small) in
    rw is (typed_run list replica e at text change_is some few (are_valid (made list replica e) (rw is at fits)))
