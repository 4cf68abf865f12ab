-- Lists that are said item by item.
use Rattle.std.proofs.Common.{◌≡◌, ℕ, zero, suc, ◌+◌, ◌<◌, List, ◌∷◌, ◌++◌, Bool, true, length, get_or, drop, append_assoc}
use Rattle.std.proofs.Common.{add-one, drop-cons, sym, ap, ◌∙◌, ◌≤◌, [], false, true≢false, eqb, codes, refl, arith, length-drop}
use Rattle.std.proofs.lemmas.List.{nil_from_length}
use Rattle.session_lines.specs.Saying.{said_id, said_comments}
use Rattle.session_lines.specs.Words.{comma_after, said_list}

-- a piece moves from what is still to be said to what is said
moved : (before comma item rest whole : List ℕ) → before ++ (comma ++ (item ++ rest)) ≡ whole
    → (before ++ (comma ++ item)) ++ rest ≡ whole
moved before comma item rest whole so_far = rw (append_assoc, append_assoc) so_far

-- one more item is said
pub said_more : {A : Type 0} (said : A → List ℕ) (before : List ℕ) (xs : List A) (i : ℕ) (later : Bool) (x : A) (whole : List ℕ)
    → i < length xs → x ≡ get_or xs i x → before ++ said_list said later (drop i xs) ≡ whole
    → (before ++ (comma_after later ++ said x)) ++ said_list said true (drop (i + 1) xs) ≡ whole
said_more said before xs i later x whole within is so_far =
    let split : drop i xs ≡ x ∷ drop (suc i) xs = drop-cons xs i x within ∙ ap (λ y. y ∷ drop (suc i) xs) (sym is) in
    rw add-one (moved before (comma_after later) (said x) _ whole (rw split at so_far))

-- no more item is left
pub said_end : {A : Type 0} (said : A → List ℕ) (before : List ℕ) (xs : List A) (i : ℕ) (later : Bool) (whole : List ℕ) → length xs ≤ i
    → before ++ said_list said later (drop i xs) ≡ whole → whole ≡ before ++ codes "]"
said_end said before xs i later whole past so_far = sym (rw (nil_from_length (drop i xs) (omega (arith, length-drop i xs))) at so_far)

-- some comments are said with the name of their member
pub said_some_comments : (ids : List ℕ) → eqb (length ids) 0 ≡ false
    → said_comments ids ≡ codes "\"comments\":[" ++ (said_list said_id false ids ++ codes ",")
said_some_comments [] none = absurd (true≢false none)
said_some_comments (id ∷ ids) some = refl

-- an item is the same whatever stands for one that isn't there
pub same_at : {A : Type 0} (xs : List A) (i : ℕ) (a b : A) → i < length xs → get_or xs i a ≡ get_or xs i b
same_at [] i a b within = absurd (omega (arith, within))
same_at (x ∷ xs) zero a b within = refl
same_at (x ∷ xs) (suc i) a b within = same_at xs i a b (omega (arith, within))
