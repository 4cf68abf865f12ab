-- The marks of a character are those that the mark operations give it that cover it.
use Rattle.std.proofs.Common.{◌≡◌, ℕ, Bool, true, false, inl, inr, ◌&&◌, ◌||◌, List, [], ◌∷◌, refl, sym, ◌∙◌, ap}
use Rattle.std.specs.Prelude.{filter, filter_map, is_some, option_and_then}
use Rattle.std.specs.List.{list_any}
use Rattle.std.proofs.lemmas.Bool.{cases_Bool, both_ways, or_parts, or_from}
use Rattle.op_model.specs.declared.character.Character.{Character}
use Rattle.op_model.specs.declared.mark.MarkKey.{MarkKey}
use Rattle.op_model.specs.declared.mark.MarkKey.TheVariants as key
use Rattle.op_model.specs.declared.marking.Marking.{Marking}
use Rattle.op_model.specs.Marks.{is_key, greatest}
use Rattle.op_model.specs.Places.{covers}
use Rattle.op_model.specs.Spans.{comment_ids, comment_of, decided as decided_at, marks_of}
use Rattle.op_model.proofs.RisingLemmas.{rising_up}
use Rattle.model_laws.proofs.Up.{has, has-filter, has-rising, same_members, up_filter}
use Rattle.comment_marks.specs.Standing.{decided, standing}
use Rattle.span_flatten.specs.Formatting.{marks_in}

-- some of them, and some of these
filter_both : (p q r : Marking → Bool) → ((m : Marking) → r m ≡ p m) → (ms : List Marking)
    → filter q (filter r ms) ≡ filter (λ m. q m && p m) ms
filter_both p q r same [] = refl
filter_both p q r same (m ∷ ms) =
    elim (cases_Bool (p m)) [
      | inl e ↦ elim (cases_Bool (q m)) [
        | inl f ↦ rw (same m, e, f) (ap (λ rest. m ∷ rest) (filter_both p q r same ms))
        | inr f ↦ rw (same m, e, f) (filter_both p q r same ms)
      ]
      | inr e ↦ elim (cases_Bool (q m)) [
        | inl f ↦ rw (same m, e, f) (filter_both p q r same ms)
        | inr f ↦ rw (same m, e, f) (filter_both p q r same ms)
      ]
    ]

decided_same : (cs : List Character) (ms : List Marking) (k : ℕ) (r : Marking → Bool) → ((m : Marking) → r m ≡ covers cs k m) → (key : MarkKey)
    → decided (filter r ms) key ≡ decided_at cs ms k key
decided_same cs ms k r same key =
    ap (λ found. option_and_then (λ (m : Marking). m.mark) (greatest found)) (filter_both (λ m. covers cs k m) (λ m. is_key m.key key) r same ms)

-- a mark operation about a comment
abbrev is_about : ℕ → Marking → Bool
is_about n m = is_key m.key (key.Comment n)

one_more : (n : ℕ) (m : Marking) (ms : List Marking) (key : MarkKey) → m.key ≡ key
    → has n (filter_map (λ o. comment_of o.key) (m ∷ ms)) ≡ (is_about n m || has n (filter_map (λ o. comment_of o.key) ms))
one_more n m ms key.Strong e = rw e refl
one_more n m ms key.Em e = rw e refl
one_more n m ms key.Link e = rw e refl
one_more n m ms (key.Comment a) e = rw e refl

named_by_some : (n : ℕ) (ms : List Marking) → has n (filter_map (λ o. comment_of o.key) ms) ≡ list_any (λ m. is_about n m) ms
named_by_some n [] = refl
named_by_some n (m ∷ ms) = one_more n m ms m.key refl ∙ ap (λ rest. is_about n m || rest) (named_by_some n ms)

-- a comment is named where some mark operation is about it
has_comment : (n : ℕ) (ms : List Marking) → has n (comment_ids ms) ≡ list_any (λ m. is_about n m) ms
has_comment n ms = has-rising n (filter_map (λ o. comment_of o.key) ms) ∙ named_by_some n ms

none_about : (n : ℕ) (ms : List Marking) → list_any (λ m. is_about n m) ms ≡ false → filter (λ m. is_about n m) ms ≡ []
none_about n [] none = refl
none_about n (m ∷ ms) none =
    let both = or_parts (is_about n m) (list_any (λ o. is_about n o) ms) none in rw (both.0) (none_about n ms both.1)

-- a comment is decided only where some mark operation is about it
decided_about : (n : ℕ) (set : List Marking) → is_some (decided set (key.Comment n)) ≡ true → list_any (λ m. is_about n m) set ≡ true
decided_about n set stands =
    elim (cases_Bool (list_any (λ m. is_about n m) set)) [
      | inl some ↦ some
      | inr none ↦
          let no_mark : is_some (decided set (key.Comment n)) ≡ false =
          ap (λ found. is_some (option_and_then (λ (m : Marking). m.mark) (greatest found))) (none_about n set none) in
          absurd (both_ways (is_some (decided set (key.Comment n))) no_mark stands)
    ]

fewer : (n : ℕ) (r : Marking → Bool) (ms : List Marking) → list_any (λ m. is_about n m) ms ≡ false
    → list_any (λ m. is_about n m) (filter r ms) ≡ false
fewer n r [] none = refl
fewer n r (m ∷ ms) none =
    let both = or_parts (is_about n m) (list_any (λ o. is_about n o) ms) none in
    elim (cases_Bool (r m)) [
      | inl e ↦ rw e (or_from (is_about n m) (list_any (λ o. is_about n o) (filter r ms)) both.0 (fewer n r ms both.1))
      | inr e ↦ rw e (fewer n r ms both.1)
    ]

about_more : (n : ℕ) (r : Marking → Bool) (ms : List Marking) → list_any (λ m. is_about n m) (filter r ms) ≡ true
    → list_any (λ m. is_about n m) ms ≡ true
about_more n r ms some =
    elim (cases_Bool (list_any (λ m. is_about n m) ms)) [
      | inl all ↦ all
      | inr none ↦ absurd (both_ways (list_any (λ m. is_about n m) (filter r ms)) (fewer n r ms none) some)
    ]

-- the comments that stand are the same, whether those of other characters are looked at or not
standing_same : (ms : List Marking) (r : Marking → Bool) (stands : ℕ → Bool) → ((n : ℕ) → is_some (decided (filter r ms) (key.Comment n)) ≡ stands n)
    → standing (filter r ms) ≡ filter stands (comment_ids ms)
standing_same ms r stands same =
    same_members (standing (filter r ms)) (filter stands (comment_ids ms))
    (up_filter (λ n. is_some (decided (filter r ms) (key.Comment n))) (comment_ids (filter r ms))
    (rising_up (filter_map (λ o. comment_of o.key) (filter r ms))))
    (up_filter stands (comment_ids ms) (rising_up (filter_map (λ o. comment_of o.key) ms)))
    (λ n. has-filter (λ i. is_some (decided (filter r ms) (key.Comment i))) n (comment_ids (filter r ms))
    ∙ (both n ∙ sym (has-filter stands n (comment_ids ms))))
  where
    both : (n : ℕ) → (is_some (decided (filter r ms) (key.Comment n)) && has n (comment_ids (filter r ms))) ≡ (stands n && has n (comment_ids ms))
    both n =
        elim (cases_Bool (stands n)) [
          | inl e ↦ let here = same n ∙ e in
              let some = decided_about n (filter r ms) here in
              rw (here, e) (has_comment n (filter r ms) ∙ (some ∙ sym (has_comment n ms ∙ about_more n r ms some)))
          | inr e ↦ let here = same n ∙ e in rw (here, e) refl
        ]

-- the marks of the k-th character
pub marks_same : (cs : List Character) (ms : List Marking) (k : ℕ) (r : Marking → Bool) → ((m : Marking) → r m ≡ covers cs k m)
    → marks_in (filter r ms) ≡ marks_of cs ms k
marks_same cs ms k r same =
    rw (
      decided_same cs ms k r same key.Strong,
      decided_same cs ms k r same key.Em,
      decided_same cs ms k r same key.Link,
      standing_same ms r (λ n. is_some (decided_at cs ms k (key.Comment n))) (λ n. ap (λ d. is_some d) (decided_same cs ms k r same (key.Comment n))),
    ) refl
