-- How long the spellings are.
use Rattle.std.proofs.Common.{◌≡◌, ℕ, ◌+◌, ◌*◌, List, [], ◌∷◌, ◌++◌, length, Option, Some, None, refl, arith}
use Rattle.std.proofs.lemmas.List.{length-append}
use Rattle.std.specs.Int.{w16, w32, w64, w128}
use Rattle.op_ids.specs.Id.{Id}
use Rattle.op_model.specs.Records.{origin_length, start_length, end_length, mark_length, key_length, body_length, token_length, record_length}
use Rattle.op_model.specs.declared.op.Op.{Op}
use Rattle.op_model.specs.declared.op.Body.{Body}
use Rattle.op_model.specs.declared.op.Body.TheVariants.{Insert, Remove, AddMark, RemoveMark}
use Rattle.op_model.specs.declared.anchor.Anchor.{Anchor}
use Rattle.op_model.specs.declared.anchor.Anchor.TheVariants.{Before, After}
use Rattle.op_model.specs.declared.anchor.Start.{Start}
use Rattle.op_model.specs.declared.anchor.Start.TheVariants as start
use Rattle.op_model.specs.declared.anchor.End.{End}
use Rattle.op_model.specs.declared.anchor.End.TheVariants as end
use Rattle.op_model.specs.declared.mark.Mark.{Mark}
use Rattle.op_model.specs.declared.mark.Mark.TheVariants as added
use Rattle.op_model.specs.declared.mark.MarkKey.{MarkKey}
use Rattle.op_model.specs.declared.mark.MarkKey.TheVariants as key
use Rattle.change_codec.specs.Spelling.{number_bytes, id_bytes, entry_bytes, entries_bytes}
use Rattle.change_codec.specs.Spelling.{deps_bytes, origin_bytes, url_bytes, mark_bytes, key_bytes}
use Rattle.change_codec.specs.Spelling.{anchor_bytes, start_bytes, end_bytes, content_bytes}
use Rattle.change_codec.specs.Spelling.{token_bytes, body_bytes, spelled}

pub length-bytes16 : (n : ℕ) → length (number_bytes w16 n) ≡ 2
unfolding number_bytes
length-bytes16 n = refl

pub length-bytes32 : (n : ℕ) → length (number_bytes w32 n) ≡ 4
unfolding number_bytes
length-bytes32 n = refl

pub length-bytes64 : (n : ℕ) → length (number_bytes w64 n) ≡ 8
unfolding number_bytes
length-bytes64 n = refl

pub length-bytes128 : (n : ℕ) → length (number_bytes w128 n) ≡ 16
unfolding number_bytes
length-bytes128 n = refl

pub length-id : (id : Id) → length (id_bytes id) ≡ 24
unfolding id_bytes
length-id id = omega (arith, length-append (number_bytes w64 id.counter) (number_bytes w128 id.replica), length-bytes64 id.counter, length-bytes128 id.replica)

pub length-entry : (entry : ℕ × ℕ) → length (entry_bytes entry) ≡ 24
unfolding entry_bytes
length-entry e = omega (arith, length-append (number_bytes w128 e.0) (number_bytes w64 e.1), length-bytes128 e.0, length-bytes64 e.1)

pub length-entries : (es : List (ℕ × ℕ)) → length (entries_bytes es) ≡ 24 * length es
length-entries [] = refl
length-entries (e ∷ es) = omega (arith, length-append (entry_bytes e) (entries_bytes es), length-entry e, length-entries es)

pub length-deps : (es : List (ℕ × ℕ)) → length (deps_bytes es) ≡ 1 + 24 * length es
unfolding deps_bytes
length-deps es = omega (arith, length-entries es)

pub length-token : (token : Option ℕ) → length (token_bytes token) ≡ token_length token
unfolding token_bytes
length-token None = refl
length-token (Some token) = length-bytes128 token

pub length-origin : (origin : Option Id) → length (origin_bytes origin) ≡ origin_length origin
unfolding origin_bytes
length-origin None = refl
length-origin (Some id) = omega (arith, length-id id)

pub length-url : (text : List ℕ) → length (url_bytes text) ≡ 2 + length text
unfolding url_bytes
length-url text = omega (arith, length-append (number_bytes w16 (length text)) text, length-bytes16 (length text))

pub length-mark : (mark : Mark) → length (mark_bytes mark) ≡ mark_length mark
unfolding mark_bytes
length-mark added.Strong = refl
length-mark added.Em = refl
length-mark (added.Link url) = omega (arith, length-url url)
length-mark (added.Comment id) = omega (arith, length-bytes128 id)

pub length-key : (key : MarkKey) → length (key_bytes key) ≡ key_length key
unfolding key_bytes
length-key key.Strong = refl
length-key key.Em = refl
length-key key.Link = refl
length-key (key.Comment id) = omega (arith, length-bytes128 id)

pub length-anchor : (anchor : Anchor) → length (anchor_bytes anchor) ≡ 25
unfolding anchor_bytes
length-anchor (Before id) = omega (arith, length-id id)
length-anchor (After id) = omega (arith, length-id id)

pub length-start : (s : Start) → length (start_bytes s) ≡ start_length s
unfolding start_bytes
length-start start.OfText = refl
length-start (start.From anchor) = length-anchor anchor

pub length-end : (e : End) → length (end_bytes e) ≡ end_length e
unfolding end_bytes
length-end (end.To anchor) = length-anchor anchor
length-end end.OfText = refl

pub length-content : (body : Body) → length (content_bytes body) ≡ body_length body
unfolding content_bytes
length-content (Insert origin value) = omega (arith, length-append (origin_bytes origin) (number_bytes w32 value), length-origin origin, length-bytes32 value)
length-content (Remove target) = length-id target
length-content (AddMark mark s e) = omega (arith, length-append (mark_bytes mark) (start_bytes s ++ end_bytes e), length-append (start_bytes s) (end_bytes e), length-mark mark, length-start s, length-end e)
length-content (RemoveMark key s e) = omega (arith, length-append (key_bytes key) (start_bytes s ++ end_bytes e), length-append (start_bytes s) (end_bytes e), length-key key, length-start s, length-end e)

-- what follows the length of a record
pub length_body : (op : Op) → length (body_bytes op) + 4 ≡ record_length op
unfolding body_bytes
length_body op =
    omega (
      arith,
      length-append (number_bytes w32 op.doc) (id_bytes op.id ++ (deps_bytes op.deps ++ (token_bytes op.token ++ content_bytes op.body))),
      length-append (id_bytes op.id) (deps_bytes op.deps ++ (token_bytes op.token ++ content_bytes op.body)),
      length-append (deps_bytes op.deps) (token_bytes op.token ++ content_bytes op.body),
      length-append (token_bytes op.token) (content_bytes op.body),
      length-bytes32 op.doc,
      length-id op.id,
      length-deps op.deps,
      length-token op.token,
      length-content op.body,
    )

pub length_spelled : (op : Op) → length (spelled op) ≡ record_length op
unfolding spelled
length_spelled op = omega (arith, length-append (number_bytes w32 (length (body_bytes op))) (body_bytes op), length-bytes32 (length (body_bytes op)), length_body op)
