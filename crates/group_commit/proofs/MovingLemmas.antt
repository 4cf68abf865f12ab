-- A list that is written anew.
use Rattle.std.proofs.Common.{◌≡◌, ℕ, ◌+◌, ◌<◌, ◌≤◌, ◌==◌, Bool, true, false, not, List, [], ◌∷◌, ◌++◌, length}
use Rattle.std.proofs.Common.{length-append, refl, sym, ap, subst, ◌∙◌, arith, Option, Some, Result, Ok}
use Rattle.std.proofs.lemmas.Bool.{le-leb, lt-ltb}
use Rattle.std.proofs.lemmas.Bool.Decides.{nat_tests}
use Rattle.op_model.specs.declared.op.Op.{Op}
use Rattle.op_model.specs.Records.{stream_length}
use Rattle.op_pieces.specs.Pieces.{Run, joined, typed_behind}
use Rattle.change_codec.specs.declared.format.Format.{Format}
use Rattle.change_codec.specs.declared.format.Format.TheVariants.{First, Second, Third}
use Rattle.change_codec.proofs.Lengths.{length_spelled}
use Rattle.piece_codec.specs.Formats.{has_runs}
use Rattle.piece_codec.specs.Spelling.{spelled_with, spelled_piece}
use Rattle.piece_codec.specs.Stream.{spelled_pieces, ArePiecesOf, SpellsList}
use Rattle.piece_codec.proofs.StreamLaws.{first_is_second, second_is_third, both_join}
use Rattle.root_slots.specs.Root.{format_of, count_of}
use Rattle.stream_list.specs.Streams.{SpellsShort}
use Rattle.group_commit.specs.Moving.{moves, CanMove, SpellsAnew}
use Rattle.group_commit.specs.Plan.{newest}
use Rattle.group_commit.specs.Begin.{begin_due, due_on, has_room_for, AreWritten, IsAnswer}
use Rattle.group_commit.specs.Held.{StoreHeld}
use Rattle.group_commit.specs.Saved.{Saved, emptied}
use Rattle.group_commit.specs.declared.error.StoreError.{StoreError}
use Rattle.group_commit.proofs.BeginLemmas.{IsDue}

-- a root of the newest format doesn't move
pub stays_put : (root : Saved) (bytes : List ℕ) → format_of root.body ≡ newest → CanMove root bytes
stays_put root bytes is = λ way. let never = rw is at way in absurd (cc)

-- the record of a piece without others is as long as its operation's
single_long : (op : Op) (vs : List ℕ) (rest : List Op) → vs ≡ []
    → length (spelled_with op vs) + stream_length rest ≡ stream_length ((op ∷ typed_behind op vs) ++ rest)
single_long op vs rest none = rw none (omega (arith, length_spelled op))

-- a stream of a format without runs is as long as the records of its operations
pieces_long : (f : Format) (ps : List Run) → has_runs f ≡ false → ArePiecesOf f ps → length (spelled_pieces ps) ≡ stream_length (joined ps)
pieces_long f [] none of_f = refl
pieces_long f (p ∷ ps) none of_f =
    let first = single_long p.first p.others (joined ps) (of_f.1.runs none) in
    let rest = pieces_long f ps none of_f.2 in
    omega (arith, length-append (spelled_piece p) (spelled_pieces ps), first, rest)

stream_long : (f : Format) (ops : List Op) (bytes : List ℕ) → has_runs f ≡ false → SpellsList f ops bytes → length bytes ≡ stream_length ops
stream_long f ops bytes none spells =
    ap length (sym spells.spelled_so) ∙ pieces_long f spells.pieces none spells.of_format ∙ ap stream_length spells.joined_so

-- what the operations of a root are spelled as, where it moves
pub can_move : (root : Saved) (ops : List Op) (anew : List ℕ) → SpellsShort (format_of root.body) ops (count_of root.body) root.stream
    → (has_runs (format_of root.body) ≡ false → SpellsList newest ops anew) → (has_runs (format_of root.body) ≡ false → length anew ≤ stream_length ops)
    → CanMove root anew
can_move root ops anew had spells short = λ way.
    let none : has_runs (format_of root.body) ≡ false = not_runs (has_runs (format_of root.body)) way in
    let long = stream_long (format_of root.body) ops root.stream none had.some.spells in
    let fewer = short none in
    record { ops = ops; had = had.some; anew = spells none; short = omega (arith, fewer, long) }
  where
    not_runs : (t : Bool) → not t ≡ true → t ≡ false
    not_runs true is = absurd (cc)
    not_runs false is = refl

-- a stream of any format is one of the newest
pub in_newest : (f : Format) (ops : List Op) (bytes : List ℕ) → SpellsList f ops bytes → SpellsList newest ops bytes
in_newest First ops bytes spells = second_is_third ops bytes (first_is_second ops bytes spells)
in_newest Second ops bytes spells = second_is_third ops bytes spells
in_newest Third ops bytes spells = spells

-- the answer that is due where nothing refuses
due_is : {D : Type 0} (base : Saved) (held : StoreHeld D) (count bytes : ℕ) → IsDue base held count bytes → has_room_for base count bytes ≡ true
    → due_on base held count bytes ≡ Ok (Some (count_of held.current.body + count))
due_is base held count bytes due room = rw (due.works, due.idle, some count due.some, room) refl
  where
    some : (n : ℕ) → 0 < n → (n == 0) ≡ false
    some n more = grind (arith, nat_tests)

-- where there is room for records behind a stream, there is room for all that is written anew, which is no longer
pub due_anew : {D : Type 0} (held : StoreHeld D) (count bytes all : ℕ) (answer : Result (Option ℕ) StoreError) → IsDue held.current held count bytes
    → all ≤ length held.current.stream + bytes → IsAnswer (due_on (emptied held.current) held count all) answer → IsAnswer (begin_due held count bytes) answer
due_anew held count bytes all answer due within is =
    subst (λ d. IsAnswer d answer)
    (due_is (emptied held.current) held count all due' room' ∙ sym (due_is held.current held count bytes due room)) is
  where
    room : has_room_for held.current count bytes ≡ true
    room = rw (lt-ltb _ _ due.version, le-leb _ _ due.room, le-leb _ _ due.stream) refl

    fits : all ≤ 1073741824
    fits = let long = due.stream in omega (arith, long, within)

    room' : has_room_for (emptied held.current) count all ≡ true
    room' = rw (lt-ltb _ _ due.version, le-leb _ _ due.room, le-leb (length (emptied held.current).stream + all) 1073741824 (omega (arith, fits))) refl

    due' : IsDue (emptied held.current) held count all
    due' = record { works = due.works; idle = due.idle; some = due.some; version = due.version; room = due.room; stream = omega (arith, fits) }

-- what a store keeps of a root that moves
pub kept_front : (inside root : Saved) (anew : List ℕ) → inside ≡ root → CanMove inside anew → moves root ≡ true → SpellsAnew root anew
kept_front inside root anew same kept way = (rw same at kept) way

-- behind what is written anew the records of more operations spell these
pub written_anew : (root : Saved) (anew records all : List ℕ) (m : SpellsAnew root anew) (ops : List Op) (count : ℕ) → AreWritten ops count records
    → all ≡ anew ++ records → SpellsList newest (m.ops ++ ops) all
written_anew root anew records all m ops count are is = rw is (both_join newest m.ops ops anew records m.anew are.spells)
