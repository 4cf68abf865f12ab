-- The one spelling of each piece in bytes: an operation as its record, a run as one record.
use Rattle.std.specs.Prelude.{ℕ, List, [], ◌∷◌, ◌++◌, length, Option, None, is_some}
use Rattle.std.specs.Int.{w16, w32}
use Rattle.op_ids.specs.Id.{Id}
use Rattle.op_model.specs.declared.op.Op.{Op}
use Rattle.op_model.specs.declared.op.Body.{Body}
use Rattle.op_model.specs.declared.op.Body.TheVariants.{Insert, Remove, AddMark, RemoveMark}
use Rattle.op_pieces.specs.Pieces.{Run}
use Rattle.op_pieces.specs.Cutting.{value_of}
use Rattle.change_codec.specs.Spelling.{number_bytes, id_bytes, deps_bytes, token_bytes, origin_bytes, tagged, spelled}

-- what an insert stands behind, if it has an origin
abbrev pub origin_of : Body → Option Id
origin_of (Insert origin value) = origin
origin_of (Remove target) = None
origin_of (AddMark mark start end) = None
origin_of (RemoveMark key start end) = None

-- the scalar values, in four bytes each
unfoldable pub scalars_bytes : List ℕ → List ℕ
scalars_bytes [] = []
scalars_bytes (v ∷ vs) = number_bytes w32 v ++ scalars_bytes vs

-- two bytes for the number of characters, and each of them
unfoldable pub text_bytes : List ℕ → List ℕ
text_bytes vs = number_bytes w16 (length vs) ++ scalars_bytes vs

-- behind its kind: as an insert up to the origin, and then the characters of all its operations
unfoldable pub run_fields : Op → List ℕ → List ℕ
run_fields op others =
    number_bytes w32 op.doc
    ++ (id_bytes op.id ++ (deps_bytes op.deps ++ (token_bytes op.token ++ (origin_bytes (origin_of op.body) ++ text_bytes (value_of op.body ∷ others)))))

-- the body of a run's record: kind 5, or 21 where it has a token, and its fields
unfoldable pub run_bytes : Op → List ℕ → List ℕ
run_bytes op others = tagged (is_some op.token) 5 ∷ run_fields op others

-- four bytes for the length of the body, and the body
unfoldable pub spelled_run : Op → List ℕ → List ℕ
spelled_run op others = number_bytes w32 (length (run_bytes op others)) ++ run_bytes op others

-- with no others, the record of the operation, else that of the run
abbrev pub spelled_with : Op → List ℕ → List ℕ
spelled_with op [] = spelled op
spelled_with op (v ∷ vs) = spelled_run op (v ∷ vs)

-- the record of a piece
abbrev pub spelled_piece : Run → List ℕ
spelled_piece p = spelled_with p.first p.others
