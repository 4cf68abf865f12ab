use Rattle.std.proofs.Common.{◌≡◌, ◌++◌, ◌+◌, List, ℕ, option_to_list, drop, sym, ap, ◌∙◌, refl, arith}
use Rattle.op_pieces.specs.Cutting.{cut}
use Rattle.change_codec.specs.declared.format.Format.TheVariants.{Third}
use Rattle.change_codec.proofs.StreamLaws.{are_of_third}
use Rattle.piece_codec.specs.Spelling.{spelled_piece}
use Rattle.piece_codec.specs.Stream.{spelled_pieces, SpellsList}
use Rattle.piece_codec.proofs.CutStreams.{cut_spells}
use Rattle.piece_codec.proofs.StreamLaws.{no_longer}
use Rattle.stream_list.proofs.PackLemmas.{none_written, one_written, packs_more, packs_all, Packs}
use Rattle.stream_list.proofs.packing.packed.Goals.{in-Some+in_ok-put_piece, in_default}
use Rattle.stream_list.proofs.packing.packed.Goals as goal

more : (c : goal.Joined-branch-5) (now : List ℕ) → now ≡ c.loop-i.out.items ++ spelled_pieces (option_to_list c.in_ok-piece.field-0)
    → Packs c.args.list.now now c.take.new.self (drop (c.loop-i.i + 1) c.args.list.now)
more c now written =
    packs_more c.args.list.now c.loop-i.i c.in_ok-get-2.field-0 c.loop-i.out.items now c.loop-i.cutter c.take.new.self c.in_ok-piece.field-0
    (omega (arith, c.loop-i-test.true)) c.in_ok-get-2.ensures c.loop-i.invariant c.in_ok-piece.ensures written

pub loop-i-preserved : goal.loop-i-preserved
loop-i-preserved c =
    elim c.match-branch-5.branch [
      | in-Some+in_ok-put_piece w ↦ more c c.match-branch-5.out.items
          (rw (w.in-Some.is, w.out-is) (one_written c.loop-i.out.items w.put_piece.new.out.items w.in-Some.piece w.in_ok-put_piece.ensures.ok))
      | in_default w ↦ more c c.match-branch-5.out.items (rw (w.in_default.is, w.out-is) (none_written c.loop-i.out.items c.loop-i.out.items refl))
    ]

bytes : (c : goal.After-drop-finish-4) → c.put_piece-2.new.out.items ≡ spelled_pieces (cut c.args.list.now)
bytes c = sym (packs_all c.args.list.now c.loop-i.i c.loop-i.out.items c.put_piece-2.new.out.items c.loop-i.cutter (omega (arith, c.loop-i-test.false)) c.loop-i.invariant
    (c.in_ok-put_piece-2.ensures.ok ∙ ap (λ p. c.loop-i.out.items ++ spelled_piece p) c.finish.ensures))

spells : (c : goal.After-drop-finish-4) → SpellsList Third c.args.list.now c.put_piece-2.new.out.items
spells c = rw (bytes c) (cut_spells Third c.args.list.now refl c.kept.ensures.fits (are_of_third c.args.list.now))

pub returns-clause-bytes : goal.returns-clause-bytes
returns-clause-bytes c = bytes c

pub returns-clause-spells : goal.returns-clause-spells
returns-clause-spells c = spells c

pub returns-clause-short : goal.returns-clause-short
returns-clause-short c = no_longer Third c.args.list.now c.put_piece-2.new.out.items (spells c)
