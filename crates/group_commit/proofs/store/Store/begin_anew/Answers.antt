use Rattle.std.proofs.Common.{◌++◌, length, Ok, sym, ap, ◌∙◌, arith, length-append}
use Rattle.std.proofs.lemmas.Bool.{true≢false}
use Rattle.piece_codec.specs.Stream.{SpellsList}
use Rattle.piece_codec.proofs.StreamLaws.{one_list}
use Rattle.root_slots.specs.Root.{format_of}
use Rattle.group_commit.specs.Moving.{SpellsAnew}
use Rattle.group_commit.specs.Plan.{newest}
use Rattle.group_commit.specs.Saved.{with_stream}
use Rattle.group_commit.proofs.BaseLemmas.{all_new}
use Rattle.group_commit.proofs.BeginLemmas.{IsDue, is_due, some_written}
use Rattle.group_commit.proofs.MovingLemmas.{due_anew, kept_front, written_anew}
use Rattle.group_commit.proofs.store.Store.begin_anew.Goals as goal

pub begin-requires : goal.begin-requires
begin-requires g c = λ some.
    let m : SpellsAnew c.args.self.now.current c.self.inside.anew.items =
    kept_front (with_stream c.self.inside.current c.self.inside.stream) c.args.self.now.current c.self.inside.anew.items (ap (λ h. h.current) c.self.view_is) c.self.invariant.1.moving c.requires.moves in
    let ops = c.requires.written.0 in
    let are = c.requires.written.1 in
    some_written (m.ops ++ ops) c.args.count c.deref.result.now
    (written_anew c.args.self.now.current c.self.inside.anew.items c.args.records.now c.deref.result.now m ops c.args.count are (c.deref.ensures.value ∙ c.in_ok-all.ensures))
    (omega (arith, are.counted, length-append m.ops ops)) some

pub returns-clause-answer : goal.returns-clause-answer
returns-clause-answer g c =
    let m : SpellsAnew c.args.self.now.current c.self.inside.anew.items =
    kept_front (with_stream c.self.inside.current c.self.inside.stream) c.args.self.now.current c.self.inside.anew.items (ap (λ h. h.current) c.self.view_is) c.self.invariant.1.moving c.requires.moves in
    let due : IsDue c.args.self.now.current c.args.self.now c.args.count (length c.args.records.now) = is_due c.args.self.now.current c.args.self.now _ _ _ _ c.answer_due-due.ensures (c.in-Ok-Some.is ∙ ap Ok (rw c.in-Ok-Some.is at c.in-Ok-Some.field-0-is)) in
    let short = m.short in
    due_anew c.args.self.now c.args.count (length c.args.records.now) (length c.deref.result.now) c.begin.result due
    (omega (arith, ap length (c.deref.ensures.value ∙ c.in_ok-all.ensures), length-append c.self.inside.anew.items c.args.records.now, short)) c.begin.ensures.answer

pub returns-clause-began : goal.returns-clause-began
returns-clause-began g c = λ ops are n is.
    let root = c.args.self.now.current in
    let m : SpellsAnew root c.self.inside.anew.items =
    kept_front (with_stream c.self.inside.current c.self.inside.stream) root c.self.inside.anew.items (ap (λ h. h.current) c.self.view_is) c.self.invariant.1.moving c.requires.moves in
    let all = c.deref.ensures.value ∙ c.in_ok-all.ensures in
    let written : SpellsList newest (m.ops ++ ops) c.deref.result.now =
    written_anew root c.self.inside.anew.items c.args.records.now c.deref.result.now m ops c.args.count are all in
    let begins = c.begin.ensures.began (m.ops ++ ops) written n is in
    record {
      before = c.self.inside.anew.items;
      written = m.ops ++ ops;
      begins = rw (c.requires.moves, are.counted, ← all) begins;
      stays = λ none. absurd (true≢false (sym c.requires.moves ∙ none));
      all_new = λ way. all_new root c.deref.result.now _ _ begins.numbers begins.pages;
      spells = λ list had. rw (one_list (format_of root.body) (format_of root.body) list m.ops root.stream had m.had.spells, begins.follows.stream) written;
    }
