-- What follows a fault or a BYE isn't heard.
use Rattle.std.proofs.Common.{◌≡◌, ℕ, ◌+◌, ◌≤◌, Bool, true, false, cond, ltb, List, ◌++◌, length, take, drop, Option, Some, None, Result}
use Rattle.std.proofs.Common.{Ok, Err, refl, sym, ap, ◌∙◌, append_assoc, arith}
use Rattle.std.specs.Int.{is_in_range}
use Rattle.std.proofs.lemmas.Bool.{le-ltb, ltb-false}
use Rattle.std.proofs.lemmas.List.{take-append-le, drop-append-le, length-append}
use Rattle.change_codec.specs.Record.{length_at}
use Rattle.causal_sync.specs.declared.heard.Heard.{Heard}
use Rattle.causal_sync.specs.declared.link_error.LinkError.{LinkError}
use Rattle.causal_sync.specs.declared.link_error.LinkError.TheVariants.{BadFrame}
use Rattle.causal_sync.specs.Frames.{frames_bytes, is_over}
use Rattle.causal_sync.specs.Hearing.{Hears}
use Rattle.causal_sync.specs.Reading.{◌>>=◌, content_at, framed, frame_at}

-- a whole frame's content, read
abbrev pub content_read : ℕ → Bool → ℕ → List ℕ → Result (Option (Heard × ℕ)) LinkError
content_read own first len content = content_at own first content >>= λ frame. Ok (Some (frame, 4 + len))

-- a fault isn't waited for
not_waited : (b : Bool) (r : Result (Option (Heard × ℕ)) LinkError) (e : LinkError) → cond b (Ok None) r ≡ Err e → (b ≡ false) × (r ≡ Err e)
not_waited true r e is = absurd cc
not_waited false r e is = (refl, is)

-- the fault of a length and its content stays
framed_stays : (own : ℕ) (first : Bool) (len : ℕ) (rest more : List ℕ) (e : LinkError) → framed own first len rest ≡ Err e → framed own first len (rest ++ more) ≡ Err e
unfolding framed
framed_stays own first len rest more e is = ranged (is_in_range 1 131068 len) is
  where
    whole : cond (ltb (length rest) len) (Ok None) (content_read own first len (take len rest)) ≡ Err e → cond (ltb (length (rest ++ more)) len) (Ok None) (content_read own first len (take len (rest ++ more))) ≡ Err e
    whole is =
        let a = not_waited (ltb (length rest) len) (content_read own first len (take len rest)) e is in
        let long : len ≤ length rest = ltb-false _ _ a.0 in
        let longer : ltb (length (rest ++ more)) len ≡ false = le-ltb _ _ (omega (arith, long, length-append rest more)) in
        rw (longer, take-append-le len rest more long) a.1

    ranged : (b : Bool) → cond b (cond (ltb (length rest) len) (Ok None) (content_read own first len (take len rest))) (Err BadFrame) ≡ Err e
        → cond b (cond (ltb (length (rest ++ more)) len) (Ok None) (content_read own first len (take len (rest ++ more)))) (Err BadFrame) ≡ Err e
    ranged true is = whole is
    ranged false is = is

-- the fault of a frame stays
fault_stays : (own : ℕ) (first : Bool) (bytes more : List ℕ) (e : LinkError) → frame_at own first bytes ≡ Err e → frame_at own first (bytes ++ more) ≡ Err e
unfolding frame_at
fault_stays own first bytes more e is =
    let a = not_waited (ltb (length bytes) 4) (framed own first (length_at bytes) (drop 4 bytes)) e is in
    let long : 4 ≤ length bytes = ltb-false _ _ a.0 in
    let longer : ltb (length (bytes ++ more)) 4 ≡ false = le-ltb _ _ (omega (arith, long, length-append bytes more)) in
    rw (longer, take-append-le 4 bytes more long, drop-append-le 4 bytes more long) (framed_stays own first (length_at bytes) (drop 4 bytes) more e a.1)

-- behind a fault
pub behind_a_fault : (own : ℕ) (stream more : List ℕ) (frames : List Heard) (e : LinkError) → Hears own stream frames (Some e) → Hears own (stream ++ more) frames (Some e)
behind_a_fault own stream more frames e h = (
  h.0 ++ more,
  record {
    spelled_so = sym (append_assoc (frames_bytes frames) h.0 more) ∙ ap (λ (x : List ℕ). x ++ more) h.1.spelled_so;
    are = h.1.are;
    unread = λ going. fault_stays own _ h.0 more e (h.1.unread going);
    over = h.1.over;
  },
)

-- behind a BYE
pub behind_a_bye : (own : ℕ) (stream more : List ℕ) (frames : List Heard) (fault : Option LinkError) → is_over frames ≡ true → Hears own stream frames fault → Hears own (stream ++ more) frames fault
behind_a_bye own stream more frames fault over h = (
  h.0 ++ more,
  record {
    spelled_so = sym (append_assoc (frames_bytes frames) h.0 more) ∙ ap (λ (x : List ℕ). x ++ more) h.1.spelled_so;
    are = h.1.are;
    unread = λ going. absurd (both over going);
    over = h.1.over;
  },
)
  where
    both : is_over frames ≡ true → is_over frames ≡ false → ⊥
    both is not = absurd cc
