-- A root body is the bytes that its root is written as.
use Rattle.std.proofs.Common.{◌≡◌, ℕ, zero, suc, ◌+◌, ◌-◌, ◌*◌, ◌<◌, ◌≤◌, Bool, true, false, ◌||◌, ◌==◌}
use Rattle.std.proofs.Common.{List, [], ◌∷◌, ◌++◌, length, get_or, take, drop, replicate, refl, sym}
use Rattle.std.proofs.Common.{ap, ◌∙◌, arith, length-drop, append_assoc, Option, Some, None, IfSome, if◌then◌else◌}
use Rattle.std.specs.Int.{w32, w64, from_be_bytes, to_be_bytes}
use Rattle.std.proofs.lemmas.Bool.{and_parts, eqb-true}
use Rattle.std.proofs.lemmas.Bool.Decides.{nat_tests}
use Rattle.std.proofs.lemmas.List.{drop-drop, get_or-drop, length-take-le, take-append-drop}
use Rattle.std.proofs.Math.Seq.{take-append-add}
use Rattle.std.proofs.lemmas.Nat.{be_bytes_4, be_bytes_8}
use Rattle.op_ids.proofs.ByteLemmas.{to_be_bytes-from_be_bytes_16}
use Rattle.fixed_numbers.specs.declared.sizes.TheConstants.{BODY_LENGTH}
use Rattle.disk_trait.specs.File.{part}
use Rattle.page_file.specs.Pages.{is_zero, are_pages, numbers, number_bytes}
use Rattle.change_codec.specs.declared.format.Format.TheVariants.{First, Second, Third}
use Rattle.root_slots.specs.Body.{Root, root_in, root_of, head_bytes, body_bytes}
use Rattle.root_slots.specs.Head.{is_head}
use Rattle.root_slots.specs.Root.{is_root, magic_of, magic, is_magic, named_format, format_of, version_of, replica_of}
use Rattle.root_slots.specs.Root.{stream_length_of, count_of, table_count, gap_of, tables_of}
use Rattle.root_slots.proofs.HeadLemmas.{head_says, is_rest, length-tables, root_is_head, tables_within}
use Rattle.root_slots.proofs.SlotReads.{small_part, small_take}

abbrev Small : List ℕ → Type 0
Small bytes = (i : ℕ) → get_or bytes i 0 < 256

small_drop : (at : ℕ) (x : List ℕ) → Small x → Small (drop at x)
small_drop at x small = λ i. rw (get_or-drop at x i 0) (small (at + i))

length-part : (x : List ℕ) (at n : ℕ) → at + n ≤ length x → length (part x at n) ≡ n
length-part x at n within = length-take-le n (drop at x) (omega (arith, within, length-drop at x))

-- the bytes up to a place, and some behind it
take_more : (at n : ℕ) (x front back : List ℕ) → at ≤ length x → take at x ≡ front → part x at n ≡ back → take (at + n) x ≡ front ++ back
take_more at n x front back within is-front is-back =
    let long : length (take at x) ≡ at = length-take-le at x within in
    ap (take (at + n)) (sym (take-append-drop at x))
    ∙ ap (λ (k : ℕ). take (k + n) (take at x ++ drop at x)) (sym long)
    ∙ take-append-add (take at x) (drop at x) n
    ∙ ap (λ f. f ++ part x at n) is-front
    ∙ ap (λ b. front ++ b) is-back

-- numbers that were read are written as they stood
numbers_written : (n : ℕ) (x : List ℕ) → Small x → 4 * n ≤ length x → x ≡ number_bytes (numbers n x) ++ drop (4 * n) x
numbers_written zero x small long = refl
numbers_written (suc n) x small long =
    let one : 4 ≤ length x = omega (arith, long) in
    let first = be_bytes_4 (take 4 x) (from_be_bytes w32 (take 4 x)) (length-take-le 4 x one) (small_take 4 x small) refl in
    let more : 4 * suc n ≡ 4 + 4 * n = omega arith in
    let others = numbers_written n (drop 4 x) (small_drop 4 x small) (omega (arith, long, length-drop 4 x)) in
    let tail = drop-drop (4 * n) 4 x ∙ ap (λ k. drop k x) (sym more) in
    sym (take-append-drop 4 x) ∙ ap (λ f. f ++ drop 4 x) (sym first)
    ∙ ap (λ r. to_be_bytes w32 (from_be_bytes w32 (take 4 x)) ++ r) (others ∙ ap (λ t. number_bytes (numbers n (drop 4 x)) ++ t) tail)
    ∙ sym (append_assoc (to_be_bytes w32 (from_be_bytes w32 (take 4 x))) (number_bytes (numbers n (drop 4 x))) (drop (4 * suc n) x))

zeros_written : (x : List ℕ) → is_zero x ≡ true → x ≡ replicate (length x) 0
zeros_written [] zeros = refl
zeros_written (k ∷ x) zeros = ap (λ n. n ∷ x) (first k x zeros) ∙ ap (λ r. 0 ∷ r) (zeros_written x (others k x zeros))
  where
    first : (k : ℕ) (x : List ℕ) → is_zero (k ∷ x) ≡ true → k ≡ 0
    first k x is = grind (arith, nat_tests)

    others : (k : ℕ) (x : List ℕ) → is_zero (k ∷ x) ≡ true → is_zero x ≡ true
    others k x is = grind (arith, nat_tests)

-- a magic is that of the format that it names
magic_named : (n : ℕ) → is_magic n ≡ true → n ≡ magic (named_format n)
magic_named n is = first (n == magic First) refl
  where
    third : (a b c : Bool) → (a || b || c) ≡ true → a ≡ false → b ≡ false → c ≡ true
    third a b c some not_a not_b = grind (arith, nat_tests)

    second : (t : Bool) → (n == magic Second) ≡ t → (n == magic First) ≡ false → n ≡ magic (named_format n)
    second true at other =
        let named : named_format n ≡ Second = rw (other, at) refl in
        eqb-true n (magic Second) at ∙ sym (ap magic named)
    second false at other =
        let named : named_format n ≡ Third = rw (other, at) refl in
        eqb-true n (magic Third) (third (n == magic First) (n == magic Second) (n == magic Third) is other at) ∙ sym (ap magic named)

    first : (t : Bool) → (n == magic First) ≡ t → n ≡ magic (named_format n)
    first true at =
        let named : named_format n ≡ First = rw at refl in
        eqb-true n (magic First) at ∙ sym (ap magic named)
    first false at = second (n == magic Second) refl at

-- the head of a root body is written as it stands
head_written : (body : List ℕ) → Small body → length body ≡ 4088 → is_magic (magic_of body) ≡ true → gap_of body ≡ 0
    → take 56 body ≡ head_bytes (format_of body) (version_of body) (replica_of body) (stream_length_of body) (count_of body) (table_count body)
unfolding head_bytes
head_written body small long start gap =
    take_more 52 4 body _ _ (omega (arith, long))
    (take_more 48 4 body _ _ (omega (arith, long))
    (take_more 40 8 body _ _ (omega (arith, long))
    (take_more 32 8 body _ _ (omega (arith, long))
    (take_more 16 16 body _ _ (omega (arith, long))
    (take_more 8 8 body _ _ (omega (arith, long)) (of_8 0 (magic (format_of body)) (omega arith) (sym (magic_named (magic_of body) start)))
    (of_8 8 (version_of body) (omega arith) refl))
    (sym (to_be_bytes-from_be_bytes_16 (part body 16 16) (length-part body 16 16 (omega (arith, long))) (small_part body 16 16 small))))
    (of_8 32 (stream_length_of body) (omega arith) refl))
    (of_8 40 (count_of body) (omega arith) refl))
    (of_4 48 (table_count body) (omega arith) refl))
    (of_4 52 0 (omega arith) (sym gap))
  where
    of_8 : (at n : ℕ) → at + 8 ≤ 4088 → n ≡ from_be_bytes w64 (part body at 8) → part body at 8 ≡ to_be_bytes w64 n
    of_8 at n within is = sym (be_bytes_8 (part body at 8) n (length-part body at 8 (omega (arith, within, long))) (small_part body at 8 small) is)

    of_4 : (at n : ℕ) → at + 4 ≤ 4088 → n ≡ from_be_bytes w32 (part body at 4) → part body at 4 ≡ to_be_bytes w32 n
    of_4 at n within is = sym (be_bytes_4 (part body at 4) n (length-part body at 4 (omega (arith, within, long))) (small_part body at 4 small) is)

-- bytes that are a root body are those that their root is written as
pub written : (body : List ℕ) → Small body → is_root body ≡ true → body ≡ body_bytes (root_of body)
unfolding body_bytes
written body small valid =
    let both = and_parts (is_head body) (is_rest body) (sym (root_is_head body) ∙ valid) in
    let says = head_says body both.0 in
    let rest = and_parts (are_pages (tables_of body)) (is_zero (drop (56 + 4 * table_count body) body)) both.1 in
    let few : 56 + 4 * table_count body ≤ length body = tables_within body both.0 in
    let head = head_written body small says.size says.start says.gap in
    let listed = numbers_written (table_count body) (drop 56 body) (small_drop 56 body small) (omega (arith, few, length-drop 56 body)) in
    let count : length (tables_of body) ≡ table_count body = length-tables body in
    let left : length (drop (56 + 4 * table_count body) body) ≡ BODY_LENGTH - 56 - 4 * table_count body =
    omega (arith, length-drop (56 + 4 * table_count body) body, says.size) in
    let zeros : drop (56 + 4 * table_count body) body ≡ replicate (BODY_LENGTH - 56 - 4 * table_count body) 0 =
    zeros_written _ rest.1 ∙ ap (λ n. replicate n 0) left in
    sym (take-append-drop 56 body)
    ∙ ap (λ f. f ++ drop 56 body) head
    ∙ ap (λ r. head_bytes (format_of body) (version_of body) (replica_of body) (stream_length_of body) (count_of body) (table_count body) ++ r)
    (listed ∙ ap (λ r. number_bytes (tables_of body) ++ r) (drop-drop (4 * table_count body) 56 body ∙ zeros))
    ∙ sym (append_assoc (head_bytes (format_of body) (version_of body) (replica_of body) (stream_length_of body) (count_of body) (table_count body)) (number_bytes (tables_of body))
    (replicate (BODY_LENGTH - 56 - 4 * table_count body) 0))
    ∙ ap (λ n. head_bytes (format_of body) (version_of body) (replica_of body) (stream_length_of body) (count_of body) n ++ number_bytes (tables_of body)
    ++ replicate (BODY_LENGTH - 56 - 4 * n) 0) (sym count)

-- a root that is found is written as the bytes in which it was found
pub found_written : (body : List ℕ) (found : Option Root) → Small body → found ≡ root_in body → IfSome found (λ root. body ≡ body_bytes root)
unfolding root_in
found_written body found small is = rw is (by_test (is_root body) (written body small))
  where
    by_test : (b : Bool) → (b ≡ true → body ≡ body_bytes (root_of body)) → IfSome (if b then Some (root_of body) else None) (λ root. body ≡ body_bytes root)
    by_test true same = same refl
    by_test false same = tt
