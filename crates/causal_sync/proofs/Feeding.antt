-- A stream that is fed further bytes.
use Rattle.std.proofs.Common.{◌≡◌, ℕ, ◌+◌, ◌<◌, ◌≤◌, Bool, true, false, cond, ltb, ◌&&◌, ◌||◌, List, [], ◌++◌, length, take, drop, Option}
use Rattle.std.proofs.Common.{Some, None, Result, Ok, Err, refl, sym, ap, subst, ◌∙◌, append_assoc, arith}
use Rattle.std.specs.Int.{is_in_range}
use Rattle.std.proofs.lemmas.Bool.Decides.{nat_tests}
use Rattle.std.proofs.lemmas.List.{append-nil, length-append, length-drop}
use Rattle.change_codec.specs.Record.{length_at}
use Rattle.causal_sync.specs.declared.heard.Heard.{Heard}
use Rattle.causal_sync.specs.declared.link_error.LinkError.{LinkError}
use Rattle.causal_sync.specs.declared.link_error.LinkError.TheVariants.{BadFrame}
use Rattle.causal_sync.specs.Buffer.{IsHeard}
use Rattle.causal_sync.specs.Frames.{frames_bytes, is_over}
use Rattle.causal_sync.specs.Hearing.{Hears, HearsFrom, is_none, unread}
use Rattle.causal_sync.specs.Reading.{◌>>=◌, content_at, framed, frame_at}
use Rattle.causal_sync.specs.State.{Incoming, has_ended, is_fault}
use Rattle.causal_sync.proofs.Hearings.{hears_on, none_join, over_join}

-- what hasn't ended has no fault and no BYE
parts : (fault : Option LinkError) (over : Bool) → false ≡ (is_fault fault || over) → (fault ≡ None) × (over ≡ false)
parts None over e = (refl, sym e)
parts (Some f) over e = absurd cc

-- what is heard of further bytes is heard of the stream
pub heard_on : (s : Incoming) (rest buffer : List ℕ) (first : Bool) → IsHeard s rest buffer first false → (bytes : List ℕ) (frames : List Heard) (left : List ℕ) (fault : Option LinkError)
    → HearsFrom s.own first (buffer ++ bytes) frames left fault → (after : List ℕ) (next over ended : Bool) → next ≡ (is_none frames && first) → over ≡ is_over frames
    → ended ≡ (is_fault fault || over) → (ended ≡ false → after ≡ left) → (ended ≡ true → after ≡ [])
    → IsHeard (record { own = s.own; stream = s.stream ++ bytes; given = s.given; waiting = s.waiting ++ frames; fault = fault }) left after next ended
heard_on s rest buffer first before bytes frames left fault more after next over ended is_next is_over_so is_ended going closed =
    let was = parts s.fault (is_over (s.given ++ s.waiting)) before.over in
    let hears : HearsFrom s.own true s.stream (s.given ++ s.waiting) rest None = subst (λ f. HearsFrom s.own true s.stream (s.given ++ s.waiting) rest f) was.0 before.hears in
    let placed : HearsFrom s.own (is_none (s.given ++ s.waiting)) (buffer ++ bytes) frames left fault = subst (λ b. HearsFrom s.own b (buffer ++ bytes) frames left fault) before.none more in
    let behind : HearsFrom s.own (is_none (s.given ++ s.waiting)) (rest ++ bytes) frames left fault = subst (λ b. HearsFrom s.own (is_none (s.given ++ s.waiting)) (b ++ bytes) frames left fault) (before.going refl) placed in
    let all = hears_on s.own s.stream (s.given ++ s.waiting) rest bytes frames left fault hears was.1 behind in
    let list : (s.given ++ s.waiting) ++ frames ≡ s.given ++ (s.waiting ++ frames) = append_assoc s.given s.waiting frames in
    record {
      hears = subst (λ fs. HearsFrom s.own true (s.stream ++ bytes) fs left fault) list all;
      going = going;
      closed = closed;
      none = is_next ∙ ap (λ b. is_none frames && b) before.none ∙ sym (none_join (s.given ++ s.waiting) frames) ∙ ap is_none list;
      over = is_ended ∙ ap (λ b. is_fault fault || b) (is_over_so ∙ sym (over_join (s.given ++ s.waiting) frames was.1) ∙ ap is_over list);
    }

-- nothing was heard so far
pub heard_nothing : (own : ℕ) → IsHeard (record { own = own; stream = []; given = []; waiting = []; fault = None }) [] [] true false
unfolding frame_at
heard_nothing own =
    record {
      hears = record { spelled_so = refl; are = tt; unread = λ going. refl; over = λ over. absurd cc };
      going = λ going. refl;
      closed = λ closed. absurd cc;
      none = refl;
      over = refl;
    }

-- bytes of an unfinished frame
pub unfinished : (own : ℕ) (first : Bool) (bytes : List ℕ) → frame_at own first bytes ≡ Ok None → length bytes < 131072
unfolding frame_at framed
unfinished own first bytes e = few (ltb (length bytes) 4) refl e
  where
    few : (b : Bool) → ltb (length bytes) 4 ≡ b → cond b (Ok None) (framed own first (length_at bytes) (drop 4 bytes)) ≡ Ok None → length bytes < 131072
    few true test e = let short : length bytes < 4 = grind (arith, nat_tests) in omega (arith, short)
    few false test e = ranged (is_in_range 1 131068 (length_at bytes)) refl e
      where
        missing : (b : Bool) (r : Result Heard LinkError) → (k : ℕ) → cond {A = Result (Option (Heard × ℕ)) LinkError} b (Ok None) (r >>= λ frame. Ok (Some (frame, k))) ≡ Ok None → b ≡ true
        missing true r k e = refl
        missing false (Ok x) k e = absurd cc
        missing false (Err x) k e = absurd cc

        ranged : (b : Bool) → is_in_range 1 131068 (length_at bytes) ≡ b
            → cond b (cond {A = Result (Option (Heard × ℕ)) LinkError} (ltb (length (drop 4 bytes)) (length_at bytes)) (Ok None) (content_at own first (take (length_at bytes) (drop 4 bytes)) >>= λ frame. Ok (Some (frame, 4 + length_at bytes)))) (Err BadFrame) ≡ Ok None
            → length bytes < 131072
        ranged true range e =
            let test : ltb (length (drop 4 bytes)) (length_at bytes) ≡ true = missing (ltb (length (drop 4 bytes)) (length_at bytes)) (content_at own first (take (length_at bytes) (drop 4 bytes))) (4 + length_at bytes) e in
            let most : length_at bytes ≤ 131068 = grind (arith, nat_tests) in
            let short : length (drop 4 bytes) < length_at bytes = grind (arith, nat_tests) in
            omega (arith, most, short, length-drop 4 bytes)
        ranged false range e = absurd cc

-- how much is held
pub held_little : (s : Incoming) (rest buffer : List ℕ) (first ended : Bool) → IsHeard s rest buffer first ended → length buffer < 131072
held_little s rest buffer first true h = omega (arith, ap length (h.closed refl))
held_little s rest buffer first false h =
    let was = parts s.fault (is_over (s.given ++ s.waiting)) h.over in
    let read : frame_at s.own (is_none (s.given ++ s.waiting) && true) rest ≡ Ok None = subst (λ f. frame_at s.own (is_none (s.given ++ s.waiting) && true) rest ≡ unread f) was.0 (h.hears.unread was.1) in
    rw (h.going refl) (unfinished s.own (is_none (s.given ++ s.waiting) && true) rest read)

-- once nothing waits, what was given is what is heard
pub given_all : (s : Incoming) (rest buffer : List ℕ) (first ended : Bool) → IsHeard s rest buffer first ended → s.waiting ≡ [] → Hears s.own s.stream s.given s.fault
given_all s rest buffer first ended h none =
    let list : s.given ++ s.waiting ≡ s.given = ap (λ fs. s.given ++ fs) none ∙ append-nil s.given in
    (rest, subst (λ fs. HearsFrom s.own true s.stream fs rest s.fault) list h.hears)

-- what is held is behind the frames
pub held_is : (s : Incoming) (rest buffer : List ℕ) (first ended : Bool) → IsHeard s rest buffer first ended → has_ended s ≡ false
    → length (frames_bytes (s.given ++ s.waiting)) + length buffer ≡ length s.stream
held_is s rest buffer first ended h going =
    let is : buffer ≡ rest = h.going (h.over ∙ going) in
    omega (arith, ap (λ (x : List ℕ). length x) is, length-append (frames_bytes (s.given ++ s.waiting)) rest, ap (λ (x : List ℕ). length x) h.hears.spelled_so)

-- nothing is held once the stream has ended
pub held_none : (s : Incoming) (rest buffer : List ℕ) (first ended : Bool) → IsHeard s rest buffer first ended → has_ended s ≡ true → length buffer ≡ 0
held_none s rest buffer first ended h over = ap (λ (x : List ℕ). length x) (h.closed (h.over ∙ over))
