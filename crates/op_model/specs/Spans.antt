-- Which marks a character has, and the spans of a document.
use Rattle.std.specs.Prelude.{ℕ, ◌+◌, ◌==◌, Bool, true, false, not, ◌&&◌, nat_lt, if◌then◌else◌}
use Rattle.std.specs.Prelude.{List, [], ◌∷◌, filter, filter_map, is_some, Option, Some, None}
use Rattle.std.specs.Prelude.{option_and_then}
use Rattle.op_model.specs.declared.op.Op.{Op}
use Rattle.op_model.specs.declared.mark.Mark.{Mark}
use Rattle.op_model.specs.declared.mark.Mark.TheVariants as added
use Rattle.op_model.specs.declared.mark.MarkKey.{MarkKey}
use Rattle.op_model.specs.declared.mark.MarkKey.TheVariants as key
use Rattle.op_model.specs.declared.mark.Marks.{Marks}
use Rattle.op_model.specs.declared.span.Span.{Span}
use Rattle.op_model.specs.declared.character.Character.{Character}
use Rattle.op_model.specs.Walk.{walk}
use Rattle.op_model.specs.Text.{is_removed}
use Rattle.op_model.specs.declared.marking.Marking.{Marking}
use Rattle.op_model.specs.Marks.{markings, is_key, greatest}
use Rattle.op_model.specs.Places.{covers}

-- of the mark operations of a key that cover the k-th character, the one with the greatest id
abbrev pub deciding : List Character → List Marking → ℕ → MarkKey → Option Marking
deciding cs ms k key = greatest (filter (λ m. is_key m.key key && covers cs k m) ms)

-- the mark that the k-th character has for a key: the deciding operation has to add it
abbrev pub decided : List Character → List Marking → ℕ → MarkKey → Option Mark
decided cs ms k key = option_and_then (λ m. m.mark) (deciding cs ms k key)

-- where a link leads
abbrev pub url_of : Mark → Option (List ℕ)
url_of (added.Link url) = Some url
url_of added.Strong = None
url_of added.Em = None
url_of (added.Comment id) = None

-- the comment that a key is about
abbrev pub comment_of : MarkKey → Option ℕ
comment_of (key.Comment id) = Some id
comment_of key.Strong = None
comment_of key.Em = None
comment_of key.Link = None

-- a rising list of numbers, with one more
abbrev pub with_number : ℕ → List ℕ → List ℕ
with_number n [] = n ∷ []
with_number n (x ∷ xs) = if nat_lt n x then n ∷ x ∷ xs else if n == x then x ∷ xs else x ∷ with_number n xs

-- these numbers in rising order, each once
abbrev pub rising : List ℕ → List ℕ
rising [] = []
rising (x ∷ xs) = with_number x (rising xs)

-- the comments that mark operations name, in rising order
abbrev pub comment_ids : List Marking → List ℕ
comment_ids ms = rising (filter_map (λ m. comment_of m.key) ms)

-- the marks of the k-th character
abbrev pub marks_of : List Character → List Marking → ℕ → Marks
marks_of cs ms k = record {
  strong = is_some (decided cs ms k key.Strong);
  em = is_some (decided cs ms k key.Em);
  link = option_and_then url_of (decided cs ms k key.Link);
  comments = filter (λ id. is_some (decided cs ms k (key.Comment id))) (comment_ids ms);
}

abbrev pub is_same_list : List ℕ → List ℕ → Bool
is_same_list [] [] = true
is_same_list (x ∷ xs) (y ∷ ys) = x == y && is_same_list xs ys
is_same_list _ _ = false

abbrev pub is_same_link : Option (List ℕ) → Option (List ℕ) → Bool
is_same_link None None = true
is_same_link (Some a) (Some b) = is_same_list a b
is_same_link _ _ = false

abbrev pub is_same_bool : Bool → Bool → Bool
is_same_bool a b = if a then b else not b

-- equal marks: links are equal where their URLs are
abbrev pub is_same_marks : Marks → Marks → Bool
is_same_marks a b =
    is_same_bool a.strong b.strong && is_same_bool a.em b.em && is_same_link a.link b.link
    && is_same_list a.comments b.comments

-- spans with a character before them: it joins the first one, if that has its marks
abbrev pub with_front : ℕ → Marks → List Span → List Span
with_front value marks [] = record { text = value ∷ []; marks = marks } ∷ []
with_front value marks (s ∷ ss) =
    if is_same_marks marks s.marks then record s { text = value ∷ s.text } ∷ ss
    else record { text = value ∷ []; marks = marks } ∷ s ∷ ss

-- the greatest runs with equal marks of the visible ones among characters that begin at the k-th
abbrev pub runs : (Character → Bool) → (ℕ → Marks) → ℕ → List Character → List Span
runs hidden marks k [] = []
runs hidden marks k (c ∷ cs) =
    if hidden c then runs hidden marks (k + 1) cs else with_front c.value (marks k) (runs hidden marks (k + 1) cs)

-- the greatest runs of visible characters of a document with equal marks
abbrev pub spans : List Op → ℕ → List Span
spans ops doc = runs (is_removed ops doc) (marks_of (walk ops doc) (markings ops doc)) 0 (walk ops doc)
