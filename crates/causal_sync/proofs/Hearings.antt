-- What is heard of a stream, piece by piece.
use Rattle.std.specs.Int.{w32}
use Rattle.std.proofs.Common.{◌≡◌, ℕ, ◌+◌, ◌-◌, ◌<◌, ◌≤◌, Bool, true, false, ◌&&◌, ◌||◌, List, [], ◌∷◌, ◌++◌, length, drop, Option, None}
use Rattle.std.proofs.Common.{refl, sym, ap, ◌∙◌, append_assoc, arith}
use Rattle.std.proofs.lemmas.List.{drop_at, length-append, length-drop}
use Rattle.change_codec.specs.Spelling.{number_bytes}
use Rattle.change_codec.proofs.Lengths.{length-bytes32}
use Rattle.causal_sync.specs.declared.heard.Heard.{Heard}
use Rattle.causal_sync.specs.declared.link_error.LinkError.{LinkError}
use Rattle.causal_sync.specs.Frames.{content_bytes, frame_bytes, frames_bytes, is_bye, is_over, IsFrame, AreFrames}
use Rattle.causal_sync.specs.Hearing.{HearsFrom, is_none}
use Rattle.causal_sync.specs.Reading.{frame_at}

-- the spellings of two lists, one behind the other
pub frames_join : (a b : List Heard) → frames_bytes (a ++ b) ≡ frames_bytes a ++ frames_bytes b
frames_join [] b = refl
frames_join (f ∷ fs) b = ap (λ (x : List ℕ). frame_bytes f ++ x) (frames_join fs b) ∙ sym (append_assoc (frame_bytes f) (frames_bytes fs) (frames_bytes b))

-- a BYE is in one of two lists
pub over_join : (a b : List Heard) → is_over a ≡ false → is_over (a ++ b) ≡ is_over b
over_join [] b going = refl
over_join (f ∷ fs) b going = split (is_bye f) (is_over fs) (is_over (fs ++ b)) going (over_join fs b)
  where
    split : (x y z : Bool) → (x || y) ≡ false → (y ≡ false → z ≡ is_over b) → (x || z) ≡ is_over b
    split true y z e h = absurd cc
    split false y z e h = h e

-- there are none in both lists
pub none_join : (a b : List Heard) → is_none (a ++ b) ≡ (is_none b && is_none a)
none_join [] b = sym (and_true (is_none b))
  where
    and_true : (x : Bool) → (x && true) ≡ x
    and_true true = refl
    and_true false = refl
none_join (f ∷ fs) b = sym (and_false (is_none b))
  where
    and_false : (x : Bool) → (x && false) ≡ false
    and_false true = refl
    and_false false = refl

-- a list of frames and a further one behind it
pub are_join : (own : ℕ) (first : Bool) (a b : List Heard) → AreFrames own first a → is_over a ≡ false → AreFrames own (is_none a && first) b → AreFrames own first (a ++ b)
are_join own first [] b are over more = more
are_join own first (f ∷ fs) b are over more =
    (are.0, λ bye. absurd (never (is_bye f) (is_over fs) over bye), are_join own false fs b are.2 (rest (is_bye f) (is_over fs) over) (still (is_none fs) more))
  where
    never : (x y : Bool) → (x || y) ≡ false → x ≡ true → ⊥
    never true y e is = absurd cc
    never false y e is = absurd cc

    rest : (x y : Bool) → (x || y) ≡ false → y ≡ false
    rest true y e = absurd cc
    rest false y e = e

    still : (x : Bool) → AreFrames own false b → AreFrames own (x && false) b
    still true h = h
    still false h = h

-- one frame
pub are_one : (own : ℕ) (first : Bool) (frame : Heard) → IsFrame own first frame → AreFrames own first (frame ∷ [])
are_one own first frame is = (is, λ bye. refl, tt)

-- what is heard of the bytes behind the frames of a stream is heard of the stream
pub hears_on : (own : ℕ) (stream : List ℕ) (frames : List Heard) (left bytes : List ℕ) (more : List Heard) (rest : List ℕ) (fault : Option LinkError)
    → HearsFrom own true stream frames left None → is_over frames ≡ false → HearsFrom own (is_none frames) (left ++ bytes) more rest fault
    → HearsFrom own true (stream ++ bytes) (frames ++ more) rest fault
hears_on own stream frames left bytes more rest fault before going behind =
    record {
      spelled_so =
          ap (λ (x : List ℕ). x ++ rest) (frames_join frames more) ∙ append_assoc (frames_bytes frames) (frames_bytes more) rest
          ∙ ap (λ (x : List ℕ). frames_bytes frames ++ x) behind.spelled_so
          ∙ sym (append_assoc (frames_bytes frames) left bytes) ∙ ap (λ (x : List ℕ). x ++ bytes) before.spelled_so;
      are = are_join own true frames more before.are going (placed (is_none frames) behind.are);
      unread = λ over.
          ap (λ (b : Bool). frame_at own b rest) (ap (λ (b : Bool). b && true) (none_join frames more) ∙ and_true (is_none more && is_none frames))
          ∙ behind.unread (sym (over_join frames more going) ∙ over);
      over = λ over. behind.over (sym (over_join frames more going) ∙ over);
    }
  where
    and_true : (x : Bool) → (x && true) ≡ x
    and_true true = refl
    and_true false = refl

    placed : (x : Bool) → AreFrames own x more → AreFrames own (x && true) more
    placed true h = h
    placed false h = h

-- one frame more at the front of bytes
pub one_more : (frames : List Heard) (frame : Heard) (bytes all rest : List ℕ) → frames_bytes frames ++ bytes ≡ all → bytes ≡ frame_bytes frame ++ rest → frames_bytes (frames ++ frame ∷ []) ++ rest ≡ all
one_more frames frame bytes all rest so_far is =
    ap (λ (x : List ℕ). x ++ rest) (frames_join frames (frame ∷ [])) ∙ append_assoc (frames_bytes frames) (frame_bytes frame ++ []) rest
    ∙ ap (λ (x : List ℕ). frames_bytes frames ++ x) (append_assoc (frame_bytes frame) [] rest ∙ sym is) ∙ so_far

-- the bytes behind the first ones
pub rest_behind : (front rest all : List ℕ) → front ++ rest ≡ all → drop (length all - length rest) all ≡ rest
rest_behind front rest all is =
    let long : length all ≡ length front + length rest = sym (ap (λ (x : List ℕ). length x) is) ∙ length-append front rest in
    let cut : length front ≡ length all - length rest = omega (arith, long) in
    ap (drop (length all - length rest)) (sym is) ∙ drop_at front rest (length all - length rest) cut

-- some bytes fewer are behind a further frame
pub shorter : (used : ℕ) (bytes rest : List ℕ) (frame : Heard) → used ≤ length bytes → drop used bytes ≡ frame_bytes frame ++ rest
    → length bytes - (length bytes - length rest) < length bytes - used
unfolding frame_bytes
shorter used bytes rest frame within is =
    let head = number_bytes w32 (length (content_bytes frame)) in
    omega (arith, within, ap (λ (x : List ℕ). length x) is, length-append (head ++ content_bytes frame) rest, length-append head (content_bytes frame), length-bytes32 (length (content_bytes frame)), length-drop used bytes)

-- whether a list with one more frame has a BYE
pub over_more : (frames : List Heard) (frame : Heard) → is_over frames ≡ false → is_bye frame ≡ is_over (frames ++ frame ∷ [])
over_more frames frame going = sym (over_join frames (frame ∷ []) going ∙ or_false (is_bye frame))
  where
    or_false : (x : Bool) → (x || false) ≡ x
    or_false true = refl
    or_false false = refl

-- a list with one more frame has some
pub some_more : (frames : List Heard) (frame : Heard) (first : Bool) → false ≡ (is_none (frames ++ frame ∷ []) && first)
some_more frames frame first = sym (ap (λ (b : Bool). b && first) (none_join frames (frame ∷ [])))
