use Rattle.std.proofs.Common.{◌++◌, ◌∷◌, [], None, ap, ◌∙◌}
use Rattle.run_list.specs.Runs.{last_behind}
use Rattle.run_list.proofs.Parts.{last-more}
use Rattle.run_list.specs.Writer.{IsSpelledNext}
use Rattle.run_list.proofs.NextRecord.{typed_next}
use Rattle.run_list.proofs.run_writer.RunWriter.type_record.Goals as goal

pub type_on-requires : goal.type_on-requires
type_on-requires c =
    let it : IsSpelledNext c.with_told_token-told.result c.args.format c.args.bytes.now c.in-Some-2.next = rw c.in-Some-2.is at c.in_ok-next.ensures in (
      c.in-Some-2.next,
      typed_next c.self.inside.list c.self.inside.last c.in-Some.last _ _ _ _ _ c.self.invariant c.in-Some.ensures.value c.with_told_token-told.ensures it c.value_of.ensures,
    )

pub invariant_of-self-2 : goal.invariant_of-self-2
invariant_of-self-2 c =
    let it : IsSpelledNext c.with_told_token-told.result c.args.format c.args.bytes.now c.in-Some-2.next = rw c.in-Some-2.is at c.in_ok-next.ensures in
    let typed = typed_next c.self.inside.list c.self.inside.last c.in-Some.last _ _ _ _ _ c.self.invariant c.in-Some.ensures.value c.with_told_token-told.ensures it c.value_of.ensures in
    ap (last_behind None) (c.in_ok-type_on.ensures.ok c.in-Some-2.next typed) ∙ last-more None c.self.inside.list c.in-Some-2.next

pub returns-clause-typed : goal.returns-clause-typed
returns-clause-typed c =
    let it : IsSpelledNext c.with_told_token-told.result c.args.format c.args.bytes.now c.in-Some-2.next = rw c.in-Some-2.is at c.in_ok-next.ensures in
    let typed = typed_next c.self.inside.list c.self.inside.last c.in-Some.last _ _ _ _ _ c.self.invariant c.in-Some.ensures.value c.with_told_token-told.ensures it c.value_of.ensures in (
      c.in-Some-2.next,
      it.of_format,
      rw c.record_length-len.ensures.value it.begins,
      c.in_ok-type_on.ensures.ok c.in-Some-2.next typed ∙ ap (λ ops. ops ++ c.in-Some-2.next ∷ []) c.self.view_is,
    )
