-- What is read of a frame is spelled so.
use Rattle.std.proofs.Common.{◌≡◌, ◌≢◌, ℕ, zero, suc, ◌+◌, ◌<◌, ◌≤◌, ◌^◌, Bool, true, false, cond, eqb, ltb, List, [], ◌∷◌, ◌++◌, length}
use Rattle.std.proofs.Common.{subst, take, drop, Option, Some, None, Result, Ok, Err, refl, sym, ap, ◌∙◌, arith}
use Rattle.std.proofs.lemmas.Bool.Decides.{nat_tests}
use Rattle.std.specs.Int.{w16, w32, w128, is_in_range}
use Rattle.std.proofs.lemmas.List.{append-nil, take-append-drop, length-take, length-drop}
use Rattle.std.proofs.Math.Seq.{take-add}
use Rattle.std.proofs.lemmas.Bool.{ltb-false}
use Rattle.op_pieces.specs.Pieces.{Run}
use Rattle.change_codec.specs.declared.codec_error.CodecError.{CodecError}
use Rattle.change_codec.specs.declared.codec_error.CodecError.TheVariants.{Number}
use Rattle.change_codec.specs.Reading.{number_at, replica_at, deps_at}
use Rattle.change_codec.specs.declared.format.Format.TheVariants.{Third}
use Rattle.change_codec.specs.Record.{length_at}
use Rattle.change_codec.specs.Spelling.{number_bytes, deps_bytes}
use Rattle.change_codec.proofs.IdLaws.{deps_take}
use Rattle.change_codec.proofs.Numbers.{wide16, wide32, wide128, number_takes}
use Rattle.change_codec.proofs.Steps.{IsBytes, IsBytes-drop, IsBytes-take, Takes, guard_ok}
use Rattle.change_codec.proofs.Steps as codec
use Rattle.piece_codec.specs.Fits.{IsWhole}
use Rattle.piece_codec.specs.Formats.{IsPieceOf}
use Rattle.piece_codec.specs.Record.{taken_piece, BeginsWithPiece}
use Rattle.piece_codec.specs.Spelling.{spelled_piece}
use Rattle.piece_codec.specs.Stream.{spelled_pieces, ArePiecesOf}
use Rattle.piece_codec.proofs.PieceLaws.{piece_begins}
use Rattle.causal_sync.specs.declared.heard.Heard.{Heard}
use Rattle.causal_sync.specs.declared.heard.Heard.TheVariants.{Hello, Have, Ops, Bye}
use Rattle.causal_sync.specs.declared.link_error.LinkError.{LinkError}
use Rattle.causal_sync.specs.declared.link_error.LinkError.TheVariants.{BadFrame, BadHello}
use Rattle.causal_sync.specs.Frames.{content_bytes, frame_bytes, IsFrame}
use Rattle.causal_sync.specs.Reading.{◌>>=◌, or_fault, ended, tag_at, greeting_at, name_at, other_at, hello_at, have_at, behind, record_at}
use Rattle.causal_sync.specs.Reading.{records_at, count_at, ops_at, later_at, content_at, framed, frame_at}
use Rattle.causal_sync.proofs.Steps.{bind_ok, field_ok, passed, guarded, ok_is, no_bytes, ended_ok}

-- a HAVE that was read
have_takes : (payload : List ℕ) (frame : Heard) → IsBytes payload → have_at payload ≡ Ok frame → (2 ∷ payload ≡ content_bytes frame) × ((own : ℕ) → IsFrame own false frame)
unfolding have_at content_bytes
have_takes payload frame fits e =
    let a = bind_ok (or_fault BadFrame (deps_at payload)) (λ found. ended BadFrame found >>= λ clock. Ok (Have clock)) frame e in
    let b = bind_ok (ended BadFrame a.0) (λ clock. Ok (Have clock)) frame a.2 in
    let whole = ended_ok BadFrame a.0 b.0 b.1 in
    let read = deps_take payload a.0 fits (field_ok BadFrame (deps_at payload) a.0 a.1) in
    let is : Have b.0 ≡ frame = ok_is (Have b.0) frame b.2 in
    let parts : payload ≡ deps_bytes a.0.0 ++ a.0.1 = read.0.parts in
    subst (λ (f : Heard). (2 ∷ payload ≡ content_bytes f) × ((own : ℕ) → IsFrame own false f)) is
    (rw (← whole.0) (ap (λ (b : List ℕ). 2 ∷ b) (parts ∙ rw whole.1 (append-nil (deps_bytes a.0.0))), λ own. (read.1, read.2)))

-- a record that was read
record_takes : (bytes : List ℕ) (x : Run × List ℕ) → IsBytes bytes → record_at bytes ≡ Ok x → (bytes ≡ spelled_piece x.0 ++ x.1) × IsWhole x.0 × IsPieceOf Third x.0 × IsBytes x.1
unfolding record_at
record_takes bytes x fits e = behind_takes bytes (taken_piece Third bytes) x fits (λ p n is. piece_begins Third bytes p n fits is) e
  where
    behind_takes : (bytes : List ℕ) (r : Result (Option (Run × ℕ)) CodecError) (x : Run × List ℕ) → IsBytes bytes
        → ((p : Run) (n : ℕ) → r ≡ Ok (Some (p, n)) → IsPieceOf Third p × BeginsWithPiece bytes p n) → behind bytes r ≡ Ok x → (bytes ≡ spelled_piece x.0 ++ x.1) × IsWhole x.0 × IsPieceOf Third x.0 × IsBytes x.1
    behind_takes bytes (Ok (Some found)) x fits begins e =
        let both = begins found.0 found.1 refl in
        let b = both.1 in
        subst (λ (y : Run × List ℕ). (bytes ≡ spelled_piece y.0 ++ y.1) × IsWhole y.0 × IsPieceOf Third y.0 × IsBytes y.1) (ok_is (found.0, drop found.1 bytes) x e)
        (rw (← b.spelled_so) (sym (take-append-drop found.1 bytes)), b.fits, both.0, IsBytes-drop found.1 bytes fits)
    behind_takes bytes (Ok None) x fits begins e = absurd cc
    behind_takes bytes (Err d) x fits begins e = absurd cc

-- records that were read
records_take : (n : ℕ) (bytes : List ℕ) (ps : List Run) → IsBytes bytes → records_at n bytes ≡ Ok ps → (bytes ≡ spelled_pieces ps) × ArePiecesOf Third ps × (length ps ≡ n)
unfolding records_at
records_take zero bytes ps fits e =
    let p = passed (eqb (length bytes) 0) BadFrame (Ok []) ps e in
    let none : bytes ≡ [] = no_bytes bytes (grind (arith, nat_tests)) in
    subst (λ (qs : List Run). (bytes ≡ spelled_pieces qs) × ArePiecesOf Third qs × (length qs ≡ 0)) (ok_is [] ps p.1) (none, tt, refl)
records_take (suc n) bytes ps fits e =
    let a = bind_ok (record_at bytes) (λ first. records_at n first.1 >>= λ others. Ok (first.0 ∷ others)) ps e in
    let b = bind_ok (records_at n a.0.1) (λ others. Ok (a.0.0 ∷ others)) ps a.2 in
    let first = record_takes bytes a.0 fits a.1 in
    let others = records_take n a.0.1 b.0 first.3 b.1 in
    subst (λ (qs : List Run). (bytes ≡ spelled_pieces qs) × ArePiecesOf Third qs × (length qs ≡ suc n)) (ok_is (a.0.0 ∷ b.0) ps b.2)
    (first.0 ∙ ap (λ (t : List ℕ). spelled_piece a.0.0 ++ t) others.0, (first.1, first.2, others.1), ap suc others.2)

-- an OPS that was read
ops_take : (payload : List ℕ) (frame : Heard) → IsBytes payload → ops_at payload ≡ Ok frame → (3 ∷ payload ≡ content_bytes frame) × ((own : ℕ) → IsFrame own false frame)
unfolding ops_at count_at content_bytes
ops_take payload frame fits e =
    let a = bind_ok (count_at payload) (λ count. records_at count.0 count.1 >>= λ pieces. Ok (Ops pieces)) frame e in
    let b = bind_ok (records_at a.0.0 a.0.1) (λ pieces. Ok (Ops pieces)) frame a.2 in
    let c = bind_ok (or_fault BadFrame (number_at w16 payload)) (λ count. cond (is_in_range 1 64 count.0) (Ok count) (Err BadFrame)) a.0 a.1 in
    let p = passed (is_in_range 1 64 c.0.0) BadFrame (Ok c.0) a.0 c.2 in
    let same : c.0 ≡ a.0 = ok_is c.0 a.0 p.1 in
    let read : number_at w16 payload ≡ Ok a.0 = field_ok BadFrame (number_at w16 payload) c.0 c.1 ∙ ap (λ (x : ℕ × List ℕ). Ok x) same in
    let t = number_takes w16 (2 ^ 16) wide16 payload a.0 fits read in
    let range : is_in_range 1 64 a.0.0 ≡ true = rw (← same) p.0 in
    let some : 1 ≤ a.0.0 = grind (arith, nat_tests) in
    let most : a.0.0 ≤ 64 = grind (arith, nat_tests) in
    let rs = records_take a.0.0 a.0.1 b.0 t.0.rest_fits b.1 in
    subst (λ (f : Heard). (3 ∷ payload ≡ content_bytes f) × ((own : ℕ) → IsFrame own false f)) (ok_is (Ops b.0) frame b.2)
    (ap (λ (x : List ℕ). 3 ∷ x) (t.0.parts ∙ ap (λ (k : ℕ). number_bytes w16 k ++ a.0.1) (sym rs.2) ∙ ap (λ (x : List ℕ). number_bytes w16 (length b.0) ++ x) rs.0), λ own. (omega (arith, rs.2, some), omega (arith, rs.2, most), rs.1))

-- a frame behind the first that was read
later_takes : (own : ℕ) (content : List ℕ) (frame : Heard) → IsBytes content → later_at content ≡ Ok frame → (content ≡ content_bytes frame) × IsFrame own false frame
unfolding later_at content_bytes
later_takes own [] frame fits e = absurd cc
later_takes own (zero ∷ payload) frame fits e = absurd cc
later_takes own (suc zero ∷ payload) frame fits e = absurd cc
later_takes own (suc (suc zero) ∷ payload) frame fits e = let t = have_takes payload frame (λ i. fits (suc i)) e in (t.0, t.1 own)
later_takes own (suc (suc (suc zero)) ∷ payload) frame fits e = let t = ops_take payload frame (λ i. fits (suc i)) e in (t.0, t.1 own)
later_takes own (suc (suc (suc (suc zero))) ∷ payload) frame fits e =
    let p = passed (eqb (length payload) 0) BadFrame (Ok Bye) frame e in
    let none : payload ≡ [] = no_bytes payload (grind (arith, nat_tests)) in
    subst (λ (f : Heard). (4 ∷ payload ≡ content_bytes f) × IsFrame own false f) (ok_is Bye frame p.1) (ap (λ (x : List ℕ). 4 ∷ x) none, tt)
later_takes own (suc (suc (suc (suc (suc b)))) ∷ payload) frame fits e = absurd cc

-- a replica that was read
replica_takes : (bytes : List ℕ) (x : ℕ × List ℕ) → IsBytes bytes → replica_at bytes ≡ Ok x → Takes bytes (number_bytes w128 x.0) x.1 × (0 < x.0) × (x.0 < 2 ^ 128)
unfolding replica_at
replica_takes bytes x fits e =
    let a = codec.bind_ok (number_at w128 bytes) (λ n. cond (eqb n.0 0) (Err Number) (Ok n)) x e in
    let g = guard_ok (eqb a.0.0 0) Number a.0 x a.2 in
    let read : number_at w128 bytes ≡ Ok x = a.1 ∙ ap (λ (n : ℕ × List ℕ). Ok n) g.1 in
    let t = number_takes w128 (2 ^ 128) wide128 bytes x fits read in
    let test : eqb x.0 0 ≡ false = rw (← g.1) g.0 in
    let some : 0 < x.0 = grind (arith, nat_tests) in
    (t.0, some, t.1)

-- a tag that was read
tag_takes : (tag : ℕ) (bytes rest : List ℕ) → IsBytes bytes → tag_at tag BadHello bytes ≡ Ok rest → (bytes ≡ tag ∷ rest) × IsBytes rest
unfolding tag_at
tag_takes tag [] rest fits e = absurd cc
tag_takes tag (b ∷ bs) rest fits e =
    let p = passed (eqb b tag) BadHello (Ok bs) rest e in
    let same : b ≡ tag = grind (arith, nat_tests) in
    let is : bs ≡ rest = ok_is bs rest p.1 in
    (rw (same, is) refl, rw (← is) (λ i. fits (suc i)))

-- a type and a format that were read
greeting_takes : (content rest : List ℕ) → IsBytes content → greeting_at content ≡ Ok rest → (content ≡ 1 ∷ (number_bytes w16 3 ++ rest)) × IsBytes rest
unfolding greeting_at
greeting_takes content rest fits e =
    let a = bind_ok (tag_at 1 BadHello content) (λ behind. or_fault BadHello (number_at w16 behind) >>= λ format. cond (eqb format.0 3) (Ok format.1) (Err BadHello)) rest e in
    let b = bind_ok (or_fault BadHello (number_at w16 a.0)) (λ format. cond (eqb format.0 3) (Ok format.1) (Err BadHello)) rest a.2 in
    let tag = tag_takes 1 content a.0 fits a.1 in
    let format = number_takes w16 (2 ^ 16) wide16 a.0 b.0 tag.1 (field_ok BadHello (number_at w16 a.0) b.0 b.1) in
    let p = passed (eqb b.0.0 3) BadHello (Ok b.0.1) rest b.2 in
    let test : eqb b.0.0 3 ≡ true = p.0 in
    let third : b.0.0 ≡ 3 = grind (arith, nat_tests) in
    let is : b.0.1 ≡ rest = ok_is b.0.1 rest p.1 in
    (tag.0 ∙ ap (λ (x : List ℕ). 1 ∷ x) (format.0.parts ∙ rw (third, is) refl), rw (← is) format.0.rest_fits)

-- a name that was read
name_takes : (bytes : List ℕ) (replica : ℕ) → IsBytes bytes → name_at bytes ≡ Ok replica → (bytes ≡ number_bytes w128 replica) × (0 < replica) × (replica < 2 ^ 128)
unfolding name_at
name_takes bytes replica fits e =
    let a = bind_ok (or_fault BadHello (replica_at bytes)) (ended BadHello) replica e in
    let name = replica_takes bytes a.0 fits (field_ok BadHello (replica_at bytes) a.0 a.1) in
    let whole = ended_ok BadHello a.0 replica a.2 in
    (name.0.parts ∙ rw (whole.1, whole.0) (append-nil (number_bytes w128 replica)), rw (← whole.0) name.1, rw (← whole.0) name.2)

-- the name of another replica that was read
other_takes : (own : ℕ) (bytes : List ℕ) (frame : Heard) → IsBytes bytes → other_at own bytes ≡ Ok frame → (1 ∷ (number_bytes w16 3 ++ bytes) ≡ content_bytes frame) × IsFrame own true frame
unfolding other_at content_bytes
other_takes own bytes frame fits e =
    let b = bind_ok (name_at bytes) (λ replica. cond (eqb replica own) (Err BadHello) (Ok (Hello replica))) frame e in
    let name = name_takes bytes b.0 fits b.1 in
    let g = guarded (eqb b.0 own) BadHello (Ok (Hello b.0)) frame b.2 in
    let test : eqb b.0 own ≡ false = g.0 in
    let other : b.0 ≢ own = λ same. absurd (grind (arith, nat_tests)) in
    subst (λ (f : Heard). (1 ∷ (number_bytes w16 3 ++ bytes) ≡ content_bytes f) × IsFrame own true f) (ok_is (Hello b.0) frame g.1)
    (ap (λ (x : List ℕ). 1 ∷ (number_bytes w16 3 ++ x)) name.0, (name.1, name.2, other))

-- a HELLO that was read
hello_takes : (own : ℕ) (content : List ℕ) (frame : Heard) → IsBytes content → hello_at own content ≡ Ok frame → (content ≡ content_bytes frame) × IsFrame own true frame
unfolding hello_at
hello_takes own content frame fits e =
    let a = bind_ok (greeting_at content) (other_at own) frame e in
    let greeting = greeting_takes content a.0 fits a.1 in
    let other = other_takes own a.0 frame greeting.1 a.2 in
    (greeting.0 ∙ other.0, other.1)

-- what a frame says that was read
content_takes : (own : ℕ) (first : Bool) (content : List ℕ) (frame : Heard) → IsBytes content → content_at own first content ≡ Ok frame → (content ≡ content_bytes frame) × IsFrame own first frame
content_takes own true content frame fits e = hello_takes own content frame fits e
content_takes own false content frame fits e = later_takes own content frame fits e

-- the bytes of a length
number_back : (bytes : List ℕ) → 4 ≤ length bytes → IsBytes bytes → number_bytes w32 (length_at bytes) ≡ take 4 bytes
unfolding number_bytes
number_back bytes long fits = wide32.back (take 4 bytes) (omega (arith, length-take 4 bytes)) (IsBytes-take 4 bytes fits)

-- something was found, and no more bytes were waited for
found : (b : Bool) (r : Result (Option (Heard × ℕ)) LinkError) (x : Heard × ℕ) → cond b (Ok None) r ≡ Ok (Some x) → (b ≡ false) × (r ≡ Ok (Some x))
found true r x e = absurd cc
found false r x e = (refl, e)

-- a frame that was read is spelled so
pub frame_takes : (own : ℕ) (first : Bool) (bytes : List ℕ) (frame : Heard) (n : ℕ) → IsBytes bytes → frame_at own first bytes ≡ Ok (Some (frame, n))
    → (n ≤ length bytes) × (take n bytes ≡ frame_bytes frame) × IsFrame own first frame
unfolding frame_at framed frame_bytes
frame_takes own first bytes frame n fits e =
    let len = length_at bytes in
    let rest = drop 4 bytes in
    let a = found (ltb (length bytes) 4) (framed own first len rest) (frame, n) e in
    let b = found_in_range (is_in_range 1 131068 len) (cond (ltb (length rest) len) (Ok None) (content_at own first (take len rest) >>= λ frame. Ok (Some (frame, 4 + len)))) (frame, n) a.1 in
    let c = found (ltb (length rest) len) (content_at own first (take len rest) >>= λ frame. Ok (Some (frame, 4 + len))) (frame, n) b in
    let d = bind_frame (content_at own first (take len rest)) (4 + len) (frame, n) c.1 in
    let long : 4 ≤ length bytes = ltb-false _ _ a.0 in
    let whole : len ≤ length rest = ltb-false _ _ c.0 in
    let content = content_takes own first (take len rest) frame (IsBytes-take len rest (IsBytes-drop 4 bytes fits)) d.0 in
    let size : length (content_bytes frame) ≡ len = rw (← content.0) (omega (arith, length-take len rest)) in
    let front : number_bytes w32 len ≡ take 4 bytes = number_back bytes long fits in
    (omega (arith, d.1, length-drop 4 bytes), rw (← d.1, take-add 4 len bytes, size, front, ← content.0) refl, content.1)
  where
    found_in_range : (b : Bool) (r : Result (Option (Heard × ℕ)) LinkError) (x : Heard × ℕ) → cond b r (Err BadFrame) ≡ Ok (Some x) → r ≡ Ok (Some x)
    found_in_range true r x e = e
    found_in_range false r x e = absurd cc

    bind_frame : (r : Result Heard LinkError) (m : ℕ) (x : Heard × ℕ) → (r >>= λ frame. Ok (Some (frame, m))) ≡ Ok (Some x) → (r ≡ Ok x.0) × (m ≡ x.1)
    bind_frame (Ok f) m x e = let same : (f, m) ≡ x = cc in (ap (λ (y : Heard × ℕ). Ok y.0) same, ap (λ (y : Heard × ℕ). y.1) same)
    bind_frame (Err d) m x e = absurd cc
