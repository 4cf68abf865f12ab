-- What the head of a root body says, and how the rest decides.
use Rattle.std.proofs.Common.{◌≡◌, ℕ, zero, suc, ◌+◌, ◌*◌, ◌≤◌, Bool, true, false, ◌&&◌, ◌==◌}
use Rattle.std.proofs.Common.{nat_le, List, length, drop, Option, Some, None, ◌↔◌, IsSome, IfSome}
use Rattle.std.proofs.Common.{if◌then◌else◌, refl, sym, ap, ◌∙◌, arith}
use Rattle.std.proofs.lemmas.Bool.Decides.{nat_tests}
use Rattle.std.proofs.lemmas.Bool.{and_parts, leb-true, eqb-true}
use Rattle.change_codec.specs.declared.format.Format.{Format}
use Rattle.page_file.specs.Pages.{are_pages, is_zero, numbers}
use Rattle.root_slots.specs.Body.{Root, IsRoot, Spells, root_in, root_of, tables_for}
use Rattle.root_slots.specs.Head.{is_head, is_named, are_counts}
use Rattle.root_slots.specs.Root.{magic_of, is_magic, format_of, version_of, replica_of, stream_length_of, count_of, table_count, gap_of, tables_of, is_root}

regroup : (a b c d e f g h i j : Bool) → (a && b && c && d && e && f && g && h && i && j) ≡ (a && (b && c && d) && (e && f && g && h) && (i && j))
regroup false b c d e f g h i j = refl
regroup true false c d e f g h i j = refl
regroup true true false d e f g h i j = refl
regroup true true true false e f g h i j = refl
regroup true true true true false f g h i j = refl
regroup true true true true true false g h i j = refl
regroup true true true true true true false h i j = refl
regroup true true true true true true true false i j = refl
regroup true true true true true true true true i j = refl

-- what stands behind the head keeps its rules
abbrev pub is_rest : List ℕ → Bool
is_rest body = are_pages (tables_of body) && is_zero (drop (56 + 4 * table_count body) body)

pub root_is_head : (body : List ℕ) → is_root body ≡ (is_head body && is_rest body)
unfolding is_head is_named are_counts
root_is_head body =
    regroup (length body == 4088) (is_magic (magic_of body)) (nat_le 1 (version_of body)) (nat_le 1 (replica_of body))
    (nat_le (stream_length_of body) 1073741824) (nat_le (count_of body) 16777216) (table_count body == tables_for (stream_length_of body)) (gap_of body == 0)
    (are_pages (tables_of body)) (is_zero (drop (56 + 4 * table_count body) body))

pub none_by_head : (body : List ℕ) → is_head body ≡ false → root_in body ≡ None
unfolding root_in
none_by_head body fails = rw (root_is_head body, fails) refl

pub none_by_rest : (body : List ℕ) → is_head body ≡ true → is_rest body ≡ false → root_in body ≡ None
unfolding root_in
none_by_rest body head fails = rw (root_is_head body, head, fails) refl

pub some_by_both : (body : List ℕ) → is_head body ≡ true → is_rest body ≡ true → root_in body ≡ Some (root_of body)
unfolding root_in
some_by_both body head rest = rw (root_is_head body, head, rest) refl

-- the numbers of a head
pub record Says (body : List ℕ) : Type 0 where
  pub size : length body ≡ 4088
  pub start : is_magic (magic_of body) ≡ true
  pub version : 1 ≤ version_of body
  pub replica : 1 ≤ replica_of body
  pub stream : stream_length_of body ≤ 1073741824
  pub operations : count_of body ≤ 16777216
  pub tables : table_count body ≡ tables_for (stream_length_of body)
  pub gap : gap_of body ≡ 0

pub head_says : (body : List ℕ) → is_head body ≡ true → Says body
unfolding is_head is_named are_counts
head_says body holds =
    let parts = and_parts _ _ holds in
    let front = and_parts _ _ parts.0 in
    let named = and_parts _ _ front.1 in
    let names = and_parts _ _ named.0 in
    let counts = and_parts _ _ parts.1 in
    let most = and_parts _ _ counts.0 in
    let limits = and_parts _ _ most.0 in
    record {
      size = eqb-true _ _ front.0;
      start = names.0;
      version = leb-true _ _ names.1;
      replica = leb-true _ _ named.1;
      stream = leb-true _ _ limits.0;
      operations = leb-true _ _ limits.1;
      tables = eqb-true _ _ most.1;
      gap = eqb-true _ _ counts.1;
    }

pub most_tables : (n : ℕ) → n ≤ 1073741824 → tables_for n ≤ 256
most_tables n most = omega (arith, most)

-- the numbers of the table pages lie within the body
pub tables_within : (body : List ℕ) → is_head body ≡ true → 56 + 4 * table_count body ≤ length body
tables_within body holds =
    let says = head_says body holds in
    let most = most_tables (stream_length_of body) says.stream in
    omega (arith, says.size, says.tables, most)

pub length-numbers : (n : ℕ) (bytes : List ℕ) → length (numbers n bytes) ≡ n
length-numbers zero bytes = refl
length-numbers (suc n) bytes = ap suc (length-numbers n (drop 4 bytes))

pub length-tables : (body : List ℕ) → length (tables_of body) ≡ table_count body
length-tables body = length-numbers (table_count body) (drop 56 body)

-- the numbers that are left decide
pub rest_is : (body numbered after : List ℕ) (n : ℕ) → numbered ≡ tables_of body → after ≡ drop (56 + 4 * n) body → n ≡ length numbered
    → (are_pages numbered && is_zero after) ≡ is_rest body
rest_is body numbered after n is-tables is-after is-n =
    let count : n ≡ table_count body = is-n ∙ ap length is-tables ∙ length-tables body in
    rw (is-after, is-tables, count) refl

-- the numbers that were read keep the rules of a root
pub root_from : (body : List ℕ) (format : Format) (version replica stream operations : ℕ) (numbered : List ℕ) → format ≡ format_of body → version ≡ version_of body → replica ≡ replica_of body
    → stream ≡ stream_length_of body → operations ≡ count_of body → numbered ≡ tables_of body → is_head body ≡ true → is_rest body ≡ true
    → IsRoot (record { format = format; version = version; replica = replica; stream_length = stream; operations = operations; tables = numbered })
root_from body format version replica stream operations numbered is-format is-version is-replica is-stream is-operations is-tables head rest =
    let says = head_says body head in
    let both = and_parts (are_pages (tables_of body)) (is_zero (drop (56 + 4 * table_count body) body)) rest in
    record {
      version = rw is-version says.version;
      stream = rw is-stream says.stream;
      operations = rw is-operations says.operations;
      tables = rw (is-tables, is-stream) (length-tables body ∙ says.tables);
      pages = rw is-tables both.0;
    }

-- the numbers that were read are those of the root
pub some_root : (body : List ℕ) (format : Format) (version replica stream operations : ℕ) (numbered : List ℕ) → format ≡ format_of body → version ≡ version_of body → replica ≡ replica_of body
    → stream ≡ stream_length_of body → operations ≡ count_of body → numbered ≡ tables_of body → is_head body ≡ true → is_rest body ≡ true
    → Some (record { format = format; version = version; replica = replica; stream_length = stream; operations = operations; tables = numbered }) ≡ root_in body
some_root body format version replica stream operations numbered is-format is-version is-replica is-stream is-operations is-tables head rest =
    rw (is-format, is-version, is-replica, is-stream, is-operations, is-tables) (sym (some_by_both body head rest))

-- a root is found exactly where the bytes are one
pub found_valid : (body : List ℕ) (found : Option Root) → found ≡ root_in body → IsSome found ↔ (is_root body ≡ true)
unfolding root_in
found_valid body found is = rw is (by_test (is_root body) (root_of body))
  where
    by_test : (b : Bool) (root : Root) → IsSome (if b then Some root else None) ↔ (b ≡ true)
    by_test true root = (λ some. refl, λ e. refl)
    by_test false root = (λ some. absurd cc, λ e. absurd cc)

-- and it is the one that they say
pub found_says : (body : List ℕ) (found : Option Root) → found ≡ root_in body → IfSome found (λ root. root_of body ≡ root)
unfolding root_in
found_says body found is = rw is (by_test (is_root body) (root_of body))
  where
    by_test : (b : Bool) (root : Root) → IfSome (if b then Some root else None) (λ r. root ≡ r)
    by_test true root = refl
    by_test false root = tt

-- a root body has the rules of its fields
pub root_rules : (body : List ℕ) (head : Root) → Spells body head → IsRoot head
root_rules body head spells =
    let both = sym (root_is_head body) ∙ spells.valid in
    let says = head_says body (first (is_head body) (is_rest body) both) in
    let rest = second (is_head body) (is_rest body) both in
    rw (sym spells.says) (record {
      version = says.version;
      stream = says.stream;
      operations = says.operations;
      tables = length-tables body ∙ says.tables;
      pages = first (are_pages (tables_of body)) _ rest;
    })
  where
    first : (a b : Bool) → (a && b) ≡ true → a ≡ true
    first a b both = grind (arith, nat_tests)

    second : (a b : Bool) → (a && b) ≡ true → b ≡ true
    second a b both = grind (arith, nat_tests)
