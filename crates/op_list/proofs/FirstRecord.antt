-- The record that stands first.
use Rattle.std.proofs.Common.{◌≡◌, ℕ, zero, suc, ◌<◌, Bool, List, [], ◌∷◌, ◌++◌, length, map, get_or, drop, Ok, Some, Result, Option, refl, sym, ap, ◌∙◌, arith}
use Rattle.std.proofs.lemmas.List.{take_at, length-append, get_or-map}
use Rattle.op_model.specs.Causality.{is_insert}
use Rattle.op_model.specs.declared.op.Op.{Op}
use Rattle.op_model.specs.declared.op.Body.{Body}
use Rattle.op_model.specs.declared.op.Body.TheVariants.{Insert, Remove, AddMark, RemoveMark}
use Rattle.change_codec.specs.declared.codec_error.CodecError.{CodecError}
use Rattle.change_codec.specs.declared.format.Format.TheVariants.{Third}
use Rattle.change_codec.specs.declared.head.Head.{Head}
use Rattle.change_codec.specs.Fits.{IsOperation}
use Rattle.change_codec.specs.Heads.{kind_of, head_of as codec_head_of}
use Rattle.change_codec.specs.Record.{taken, BeginsWithOp, BeginsWithSome}
use Rattle.change_codec.specs.Spelling.{spelled}
use Rattle.change_codec.specs.Stream.{spelled_all, AreOperations}
use Rattle.change_codec.proofs.RecordLaws.{begins_taken, of_third}
use Rattle.op_list.specs.Heads.{head_of, heads, is_insert_kind, recorded}
use Rattle.op_list.specs.declared.head.OpHead.{OpHead}

-- the i-th operation, with which the records from it on begin
pub record First (bytes : List ℕ) (ops : List Op) (i : ℕ) : Type 0 where
  pub op : Op
  pub len : ℕ
  pub begins : BeginsWithOp bytes op len
  pub at : (d : Op) → get_or ops i d ≡ op

begins_first : (op : Op) (rest : List ℕ) → IsOperation op
    → BeginsWithOp (spelled op ++ rest) op (length (spelled op))
begins_first op rest fits =
    record {
      whole = omega (arith, length-append (spelled op) rest);
      spelled_so = take_at (spelled op) rest (length (spelled op)) refl;
      fits = fits;
    }

pub first_of : (bytes : List ℕ) (ops : List Op) (i : ℕ) → i < length ops
    → AreOperations (drop i ops) → bytes ≡ spelled_all (drop i ops) → First bytes ops i
first_of bytes [] i lt fits is = absurd (omega (arith, lt))
first_of bytes (op ∷ ops) zero lt fits is =
    record {
      op = op;
      len = length (spelled op);
      begins = rw is (begins_first op (spelled_all ops) fits.0);
      at = λ d. refl;
    }
first_of bytes (op ∷ ops) (suc i) lt fits is =
    let first = first_of bytes ops i (omega (arith, lt)) fits is in
    record { op = first.op; len = first.len; begins = first.begins; at = first.at }

same_reading : (r : Result (Option (Op × ℕ)) CodecError) (f g : Op × ℕ) → r ≡ Ok (Some f)
    → r ≡ Ok (Some g) → f.0 ≡ g.0
same_reading r f g a b = let c : Ok (Some f) ≡ r = sym a in let d = c ∙ b in cc

-- bytes begin with one operation
pub begins_one : (bytes : List ℕ) (a b : Op) (n m : ℕ) → BeginsWithOp bytes a n → BeginsWithOp bytes b m → a ≡ b
begins_one bytes a b n m one two =
    same_reading (taken Third bytes) (a, n) (b, m) (begins_taken Third bytes a n (of_third a) one)
    (begins_taken Third bytes b m (of_third b) two)

-- what begins the records from the i-th on is the i-th
pub is_at : (bytes : List ℕ) (ops : List Op) (i n : ℕ) (op d : Op) → First bytes ops i
    → BeginsWithOp bytes op n → op ≡ get_or ops i d
is_at bytes ops i n op d first begins =
    begins_one bytes op first.op n first.len begins first.begins ∙ sym (first.at d)

insert_kind : (body : Body) → is_insert_kind (kind_of body) ≡ is_insert body
insert_kind (Insert origin value) = refl
insert_kind (Remove target) = refl
insert_kind (AddMark mark start end) = refl
insert_kind (RemoveMark key start end) = refl

-- the head of the record is that of the operation
pub is_head : (head : Head) (op : Op) → head ≡ codec_head_of op
    → recorded head ≡ head_of op
is_head head op is =
    ap recorded is
    ∙ ap (λ (b : Bool). record { id = op.id; doc = op.doc; is_insert = b }) (insert_kind op.body)

-- and of the i-th
pub head_at : (bytes : List ℕ) (ops : List Op) (i : ℕ) (head d : OpHead) (first : First bytes ops i)
    → i < length ops → head ≡ head_of first.op → head ≡ get_or (heads ops) i d
head_at bytes ops i head d first lt is =
    is ∙ sym (ap head_of (first.at first.op)) ∙ sym (get_or-map head_of ops i first.op d lt)

-- the records from the i-th on begin with some operation
pub begins_some : (bytes : List ℕ) (ops : List Op) (i : ℕ) → i < length ops → AreOperations (drop i ops) → bytes ≡ spelled_all (drop i ops)
    → BeginsWithSome bytes
begins_some bytes ops i lt fits is = let first = first_of bytes ops i lt fits is in (first.op, first.len, first.begins)

-- the token of the record is that of the i-th
pub token_at : (bytes : List ℕ) (ops : List Op) (i : ℕ) (token d : Option ℕ) → i < length ops → AreOperations (drop i ops)
    → bytes ≡ spelled_all (drop i ops) → ((op : Op) (n : ℕ) → BeginsWithOp bytes op n → token ≡ op.token)
    → token ≡ get_or (map (λ op. op.token) ops) i d
token_at bytes ops i token d lt fits is says =
    let first = first_of bytes ops i lt fits is in
    says first.op first.len first.begins
    ∙ sym (ap (λ op. op.token) (first.at first.op)) ∙ sym (get_or-map (λ op. op.token) ops i first.op d lt)
