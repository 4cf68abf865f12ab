-- The bytes of a root body are read as what they say.
use Rattle.std.proofs.Common.{◌≡◌, ℕ, zero, suc, ◌+◌, ◌-◌, ◌*◌, ◌<◌, ◌≤◌, ◌^◌, Bool, true, ◌&&◌}
use Rattle.std.proofs.Common.{◌==◌, nat_le, List, [], ◌∷◌, ◌++◌, All, length, take, drop, get_or}
use Rattle.std.proofs.Common.{replicate, refl, sym, ap, ◌∙◌, arith, append_assoc}
use Rattle.std.specs.Int.{w128, to_be_bytes, from_be_bytes}
use Rattle.std.proofs.lemmas.List.{take_all, drop_at, drop-drop, length-append, length-replicate}
use Rattle.std.proofs.lemmas.Grind.{get_or_default_zero}
use Rattle.std.proofs.lemmas.Bool.{eq-eqb, le-leb}
use Rattle.root_slots.proofs.HeadLemmas.{most_tables}
use Rattle.std.proofs.lemmas.Nat.{from_be_bytes-to_be_bytes_4, from_be_bytes-to_be_bytes_8}
use Rattle.fixed_numbers.specs.declared.sizes.TheConstants.{BODY_LENGTH}
use Rattle.change_codec.specs.declared.format.Format.{Format}
use Rattle.change_codec.specs.declared.format.Format.TheVariants.{First, Second, Third}
use Rattle.page_file.specs.Pages.{are_pages, is_zero, number_bytes}
use Rattle.page_file.proofs.NumberLemmas.{length-number_bytes, numbers_again}
use Rattle.root_slots.specs.Body.{Root, IsRoot, Spells, head_bytes, body_bytes, tables_for}
use Rattle.root_slots.specs.Root.{magic_of, is_magic, format_of, version_of, replica_of, stream_length_of, count_of, table_count, gap_of, tables_of}

-- what was put piece by piece
pub one_chain : (out a b c d e f g : List ℕ) → out ++ a ++ b ++ c ++ d ++ e ++ f ++ g ≡ out ++ (a ++ b ++ c ++ d ++ e ++ f ++ g)
one_chain [] a b c d e f g = refl
one_chain (x ∷ out) a b c d e f g = ap (λ xs. x ∷ xs) (one_chain out a b c d e f g)

pub is_zero-replicate : (n : ℕ) → is_zero (replicate n 0) ≡ true
is_zero-replicate zero = refl
is_zero-replicate (suc n) = is_zero-replicate n

pub length-head : (format : Format) (version replica stream operations n : ℕ) → length (head_bytes format version replica stream operations n) ≡ 56
unfolding head_bytes
length-head First version replica stream operations n = refl
length-head Second version replica stream operations n = refl
length-head Third version replica stream operations n = refl

-- all of the tests hold
all_ten : (a b c d e f g h i j : Bool) → a ≡ true → b ≡ true → c ≡ true → d ≡ true → e ≡ true → f ≡ true → g ≡ true → h ≡ true → i ≡ true → j ≡ true
    → (a && b && c && d && e && f && g && h && i && j) ≡ true
all_ten a b c d e f g h i j ya yb yc yd ye yf yg yh yi yj = rw (ya, yb, yc, yd, ye, yf, yg, yh, yi, yj) refl

-- the numbers fit in their bytes
pub record IsWide (root : Root) : Type 0 where
  pub version : root.version < 2 ^ 64
  pub not_nil : 1 ≤ root.replica
  pub replica : from_be_bytes w128 (to_be_bytes w128 root.replica) ≡ root.replica
  pub stream : root.stream_length < 2 ^ 64
  pub operations : root.operations < 2 ^ 64
  pub tables : All (λ n. n < 2 ^ 32) root.tables

-- each number of the head is read back
record Head (body : List ℕ) (f : Format) (v r s o n : ℕ) : Type 0 where
  pub start : is_magic (magic_of body) ≡ true
  pub format : format_of body ≡ f
  pub version : version_of body ≡ v
  pub replica : replica_of body ≡ r
  pub stream : stream_length_of body ≡ s
  pub operations : count_of body ≡ o
  pub tables : table_count body ≡ n
  pub gap : gap_of body ≡ 0

heads : (f : Format) (v r s o n : ℕ) (rest : List ℕ) → v < 2 ^ 64 → from_be_bytes w128 (to_be_bytes w128 r) ≡ r → s < 2 ^ 64 → o < 2 ^ 64 → n < 2 ^ 32
    → Head (head_bytes f v r s o n ++ rest) f v r s o n
unfolding head_bytes
heads f v r s o n rest fits-v fits-r fits-s fits-o fits-n =
    record {
      start = start f;
      format = format f;
      version = from_be_bytes-to_be_bytes_8 v fits-v;
      replica = fits-r;
      stream = from_be_bytes-to_be_bytes_8 s fits-s;
      operations = from_be_bytes-to_be_bytes_8 o fits-o;
      tables = from_be_bytes-to_be_bytes_4 n fits-n;
      gap = refl;
    }
  where
    start : (f : Format) → is_magic (magic_of (head_bytes f v r s o n ++ rest)) ≡ true
    start First = refl
    start Second = refl
    start Third = refl

    format : (f : Format) → format_of (head_bytes f v r s o n ++ rest) ≡ f
    format First = refl
    format Second = refl
    format Third = refl

drop_head : (f : Format) (v r s o n : ℕ) (rest : List ℕ) → drop 56 (head_bytes f v r s o n ++ rest) ≡ rest
drop_head f v r s o n rest = drop_at (head_bytes f v r s o n) rest 56 (length-head f v r s o n)

length-body : (root : Root) → IsRoot root → length (body_bytes root) ≡ 4088
unfolding body_bytes
length-body root is =
    let head = head_bytes root.format root.version root.replica root.stream_length root.operations (length root.tables) in
    let most = most_tables root.stream_length is.stream in
    omega (
      arith,
      length-append (head ++ number_bytes root.tables) (replicate (BODY_LENGTH - 56 - 4 * length root.tables) 0),
      length-append head (number_bytes root.tables),
      length-head root.format root.version root.replica root.stream_length root.operations (length root.tables),
      length-number_bytes root.tables,
      length-replicate {A = ℕ} (BODY_LENGTH - 56 - 4 * length root.tables) 0,
      is.tables,
      most,
    )

-- what is put, and zeros up to the end
pub body_is : (root : Root) (put : List ℕ) (len : ℕ) → len ≡ length put → IsRoot root
    → put ≡ head_bytes root.format root.version root.replica root.stream_length root.operations (length root.tables) ++ number_bytes root.tables
    → take 4088 put ++ replicate (4088 - len) 0 ≡ body_bytes root
unfolding body_bytes
body_is root put len len-is is put-is =
    let head = head_bytes root.format root.version root.replica root.stream_length root.operations (length root.tables) in
    let most = most_tables root.stream_length is.stream in
    let size : length put ≡ 56 + 4 * length root.tables =
    omega (arith, ap length put-is, length-append head (number_bytes root.tables), length-head root.format root.version root.replica root.stream_length root.operations (length root.tables), length-number_bytes root.tables) in
    let within : length put ≤ 4088 = omega (arith, size, is.tables, most) in
    let left : 4088 - len ≡ BODY_LENGTH - 56 - 4 * length root.tables = omega (arith, size, len-is) in
    rw (take_all 4088 put within, left, put-is) refl

-- what stands behind the head
tail_is : (root : Root) → drop 56 (body_bytes root) ≡ number_bytes root.tables ++ replicate (BODY_LENGTH - 56 - 4 * length root.tables) 0
unfolding body_bytes
tail_is root =
    let head = head_bytes root.format root.version root.replica root.stream_length root.operations (length root.tables) in
    let zeros : List ℕ = replicate (BODY_LENGTH - 56 - 4 * length root.tables) 0 in
    ap (drop 56) (append_assoc head (number_bytes root.tables) zeros) ∙ drop_head root.format root.version root.replica root.stream_length root.operations (length root.tables) (number_bytes root.tables ++ zeros)

-- the last bytes are zero
end_is_zero : (root : Root) → is_zero (drop (56 + 4 * length root.tables) (body_bytes root)) ≡ true
end_is_zero root =
    let zeros : List ℕ = replicate (BODY_LENGTH - 56 - 4 * length root.tables) 0 in
    let behind : drop (56 + 4 * length root.tables) (body_bytes root) ≡ zeros =
    sym (drop-drop (4 * length root.tables) 56 (body_bytes root)) ∙ ap (drop (4 * length root.tables)) (tail_is root)
    ∙ drop_at (number_bytes root.tables) zeros (4 * length root.tables) (length-number_bytes root.tables) in
    rw behind (is_zero-replicate (BODY_LENGTH - 56 - 4 * length root.tables))

-- the head of a body that was written
body_heads : (root : Root) → IsRoot root → IsWide root
    → Head (body_bytes root) root.format root.version root.replica root.stream_length root.operations (length root.tables)
unfolding body_bytes
body_heads root is wide =
    let head = head_bytes root.format root.version root.replica root.stream_length root.operations (length root.tables) in
    let zeros : List ℕ = replicate (BODY_LENGTH - 56 - 4 * length root.tables) 0 in
    let most = most_tables root.stream_length is.stream in
    let few : length root.tables < 2 ^ 32 = omega (arith, is.tables, most) in
    rw (append_assoc head (number_bytes root.tables) zeros)
    (heads root.format root.version root.replica root.stream_length root.operations (length root.tables) (number_bytes root.tables ++ zeros) wide.version wide.replica wide.stream wide.operations few)

-- a body that was written says what it was made of
pub spells : (root : Root) → IsRoot root → IsWide root → Spells (body_bytes root) root
spells root is wide =
    let body = body_bytes root in
    let zeros : List ℕ = replicate (BODY_LENGTH - 56 - 4 * length root.tables) 0 in
    let h = body_heads root is wide in
    let count = h.tables in
    let tables : tables_of body ≡ root.tables =
    rw (count, tail_is root) (numbers_again root.tables zeros wide.tables) in
    record {
      valid =
          all_ten (length body == 4088) (is_magic (magic_of body)) (nat_le 1 (version_of body)) (nat_le 1 (replica_of body))
          (nat_le (stream_length_of body) 1073741824) (nat_le (count_of body) 16777216) (table_count body == tables_for (stream_length_of body)) (gap_of body == 0)
          (are_pages (tables_of body)) (is_zero (drop (56 + 4 * table_count body) body))
          (eq-eqb _ _ (length-body root is))
          h.start
          (rw h.version (le-leb _ _ is.version))
          (rw h.replica (le-leb _ _ wide.not_nil))
          (rw h.stream (le-leb _ _ is.stream))
          (rw h.operations (le-leb _ _ is.operations))
          (rw (count, h.stream) (eq-eqb _ _ is.tables))
          (eq-eqb _ _ h.gap)
          (rw tables is.pages)
          (rw count (end_is_zero root));
      says = rw (h.format, h.version, h.replica, h.stream, h.operations, tables) refl;
    }

-- numbers below a limit at each place
pub all_words : (ns : List ℕ) → ((i : ℕ) → get_or ns i 0 < 2 ^ 32) → All (λ n. n < 2 ^ 32) ns
all_words ns below = λ k d there. rw (get_or_default_zero ns k d there) (below k)
