-- What a session holds of a line, and which lines bytes end.
use Rattle.std.proofs.Common.{◌≡◌, ◌==◌, ℕ, List, [], ◌∷◌, ◌++◌, Bool, true, false, cond}
use Rattle.std.proofs.Common.{Option, Some, None, map, length, refl, sym, ap, ◌∙◌, arith}
use Rattle.std.proofs.Common.{append_assoc, append-nil, length-append}
use Rattle.std.proofs.lemmas.Bool.Decides.{nat_tests}
use Rattle.std.specs.Prelude.{nat_lt}
use Rattle.session_threads.specs.Lines.{onto_first, lines_of, fitting_in, fitting, lines_read}
use Rattle.session_threads.specs.Held.{longer, FitsALine, lines_after, held_after, HasNoFeed}

-- what is behind a line that is too long doesn't make it shorter
too_long : (most : ℕ) (line bytes : List ℕ) → nat_lt most (length line) ≡ true → nat_lt most (length (line ++ bytes)) ≡ true
too_long most line bytes h = rw length-append (grind (arith, nat_tests))

fitting_more : (most : ℕ) (line bytes : List ℕ) → nat_lt most (length line) ≡ true → fitting_in most (line ++ bytes) ≡ None
fitting_more most line bytes h = rw (too_long most line bytes h) refl

-- a line grows as it would if all of it were held
pub longer-fitting : (line bytes : List ℕ) → longer (fitting line) bytes ≡ fitting (line ++ bytes)
longer-fitting line bytes = cases (nat_lt 65536 (length line)) refl where
  cases : (b : Bool) → nat_lt 65536 (length line) ≡ b → longer (cond b None (Some line)) bytes ≡ fitting (line ++ bytes)
  cases true e = sym (fitting_more 65536 line bytes e)
  cases false e = refl

pub longer-longer : (held : Option (List ℕ)) (xs ys : List ℕ) → longer (longer held xs) ys ≡ longer held (xs ++ ys)
longer-longer None xs ys = refl
longer-longer (Some line) xs ys = longer-fitting (line ++ xs) ys ∙ ap fitting (append_assoc line xs ys)

pub longer-fits : (held : Option (List ℕ)) (bytes : List ℕ) → FitsALine (longer held bytes)
longer-fits held bytes = longer-longer held bytes [] ∙ ap (longer held) (append-nil bytes)

-- ---- bytes up to a line feed

-- a line feed ends the line that is held, with what stands before the line feed
pub lines_after-feed : (held : Option (List ℕ)) (xs ys : List ℕ) → FitsALine held → HasNoFeed xs
    → lines_after held (xs ++ 10 ∷ ys) ≡ longer held xs ∷ lines_after (Some []) ys
lines_after-feed held [] ys fits none = ap (λ line. line ∷ lines_after (Some []) ys) (sym fits)
lines_after-feed held (b ∷ xs) ys fits none =
    rw (none.0)
    (lines_after-feed (longer held (b ∷ [])) xs ys (longer-fits held (b ∷ [])) none.1
    ∙ ap (λ line. line ∷ lines_after (Some []) ys) (longer-longer held (b ∷ []) xs))

pub held_after-feed : (held : Option (List ℕ)) (xs ys : List ℕ) → HasNoFeed xs
    → held_after held (xs ++ 10 ∷ ys) ≡ held_after (Some []) ys
held_after-feed held [] ys none = refl
held_after-feed held (b ∷ xs) ys none = rw (none.0) (held_after-feed (longer held (b ∷ [])) xs ys none.1)

-- no line ends without a line feed
pub lines_after-none : (held : Option (List ℕ)) (xs : List ℕ) → HasNoFeed xs → lines_after held xs ≡ []
lines_after-none held [] none = refl
lines_after-none held (b ∷ xs) none = rw (none.0) (lines_after-none (longer held (b ∷ [])) xs none.1)

pub held_after-none : (held : Option (List ℕ)) (xs : List ℕ) → FitsALine held → HasNoFeed xs → held_after held xs ≡ longer held xs
held_after-none held [] fits none = sym fits
held_after-none held (b ∷ xs) fits none =
    rw (none.0)
    (held_after-none (longer held (b ∷ [])) xs (longer-fits held (b ∷ [])) none.1 ∙ longer-longer held (b ∷ []) xs)

-- of bytes that end these lines, the next up to a line feed end one more
pub lines_after-more : (lines done : List (Option (List ℕ))) (held next : Option (List ℕ)) (rest end later : List ℕ)
    → lines ≡ done ++ lines_after held rest → FitsALine held → HasNoFeed end → rest ≡ end ++ 10 ∷ later → next ≡ longer held end
    → lines ≡ (done ++ next ∷ []) ++ lines_after (Some []) later
lines_after-more lines done held next rest end later split fits none parts is =
    let more : lines_after held rest ≡ next ∷ lines_after (Some []) later =
    ap (lines_after held) parts ∙ lines_after-feed held end later fits none
    ∙ ap (λ line. line ∷ lines_after (Some []) later) (sym is) in
    split ∙ ap (λ l. done ++ l) more ∙ sym (append_assoc done (next ∷ []) (lines_after (Some []) later))

pub held_after-more : (last held : Option (List ℕ)) (rest end later : List ℕ)
    → last ≡ held_after held rest → HasNoFeed end → rest ≡ end ++ 10 ∷ later → last ≡ held_after (Some []) later
held_after-more last held rest end later is none parts =
    is ∙ ap (held_after held) parts ∙ held_after-feed held end later none

-- ---- bytes in pieces

pub held_after-append : (held : Option (List ℕ)) (xs ys : List ℕ) → held_after held (xs ++ ys) ≡ held_after (held_after held xs) ys
held_after-append held [] ys = refl
held_after-append held (b ∷ xs) ys =
    step (b == 10) (held_after-append (Some []) xs ys) (held_after-append (longer held (b ∷ [])) xs ys) where
      step : (is : Bool)
          → held_after (Some []) (xs ++ ys) ≡ held_after (held_after (Some []) xs) ys
          → held_after (longer held (b ∷ [])) (xs ++ ys) ≡ held_after (held_after (longer held (b ∷ [])) xs) ys
          → cond is (held_after (Some []) (xs ++ ys)) (held_after (longer held (b ∷ [])) (xs ++ ys))
          ≡ held_after (cond is (held_after (Some []) xs) (held_after (longer held (b ∷ [])) xs)) ys
      step true feed other = feed
      step false feed other = other

pub lines_after-append : (held : Option (List ℕ)) (xs ys : List ℕ)
    → lines_after held (xs ++ ys) ≡ lines_after held xs ++ lines_after (held_after held xs) ys
lines_after-append held [] ys = refl
lines_after-append held (b ∷ xs) ys =
    step (b == 10) (lines_after-append (Some []) xs ys) (lines_after-append (longer held (b ∷ [])) xs ys) where
      step : (is : Bool)
          → lines_after (Some []) (xs ++ ys) ≡ lines_after (Some []) xs ++ lines_after (held_after (Some []) xs) ys
          → lines_after (longer held (b ∷ [])) (xs ++ ys)
          ≡ lines_after (longer held (b ∷ [])) xs ++ lines_after (held_after (longer held (b ∷ [])) xs) ys
          → cond is (held ∷ lines_after (Some []) (xs ++ ys)) (lines_after (longer held (b ∷ [])) (xs ++ ys))
          ≡ cond is (held ∷ lines_after (Some []) xs) (lines_after (longer held (b ∷ [])) xs)
          ++ lines_after (cond is (held_after (Some []) xs) (held_after (longer held (b ∷ [])) xs)) ys
      step true feed other = ap (λ lines. held ∷ lines) feed
      step false feed other = other

-- ---- the lines of a whole stream

-- bytes in front of the first of these lines
abbrev onto : List ℕ → List (List ℕ) → List (List ℕ)
onto part [] = []
onto part (line ∷ lines) = (part ++ line) ∷ lines

onto-none : (lines : List (List ℕ)) → onto [] lines ≡ lines
onto-none [] = refl
onto-none (line ∷ lines) = refl

onto-first : (part : List ℕ) (b : ℕ) (lines : List (List ℕ)) → onto (part ++ b ∷ []) lines ≡ onto part (onto_first b lines)
onto-first part b [] = refl
onto-first part b (line ∷ lines) = ap (λ l. l ∷ lines) (append_assoc part (b ∷ []) line)

lines_behind : (part bytes : List ℕ) → lines_after (fitting part) bytes ≡ map fitting (onto part (lines_of bytes))
lines_behind part [] = refl
lines_behind part (b ∷ bytes) = step (b == 10) (lines_behind [] bytes) (lines_behind (part ++ b ∷ []) bytes) where
  step : (is : Bool)
      → lines_after (Some []) bytes ≡ map fitting (onto [] (lines_of bytes))
      → lines_after (fitting (part ++ b ∷ [])) bytes ≡ map fitting (onto (part ++ b ∷ []) (lines_of bytes))
      → cond is (fitting part ∷ lines_after (Some []) bytes) (lines_after (longer (fitting part) (b ∷ [])) bytes)
      ≡ map fitting (onto part (cond is ([] ∷ lines_of bytes) (onto_first b (lines_of bytes))))
  step true feed other =
      let first : fitting part ≡ fitting (part ++ []) = ap fitting (sym (append-nil part)) in
      let later : lines_after (Some []) bytes ≡ map fitting (lines_of bytes) =
      feed ∙ ap (map fitting) (onto-none (lines_of bytes)) in
      rw (first, later) refl
  step false feed other =
      ap (λ held. lines_after held bytes) (longer-fitting part (b ∷ []))
      ∙ other
      ∙ ap (map fitting) (onto-first part b (lines_of bytes))

-- the lines of a stream are those that its bytes end
pub lines_after-all : (bytes : List ℕ) → lines_after (Some []) bytes ≡ lines_read bytes
lines_after-all bytes = lines_behind [] bytes ∙ ap (map fitting) (onto-none (lines_of bytes))
