use Rattle.std.proofs.Common.{◌≡◌, ◌∙◌, length, refl, sym}
use Rattle.std.proofs.lemmas.List.{length-map}
use Rattle.op_model.specs.Text.{text, visible}
use Rattle.op_model.specs.declared.character.Character.{Character}
use Rattle.replica_core.specs.Docs.{doc_number}
use Rattle.replica_core.proofs.doc_counts.counts_of.Goals as goal

pub returns : goal.returns
returns c =
    let doc = doc_number c.args.doc.now in
    let chars : c.shown.result ≡ length (text c.args.list.now doc) =
    c.shown.ensures.shown c.args.list.now c.requires.stands ∙ sym (length-map (visible c.args.list.now doc) (λ (x : Character). x.value)) in
    rw (c.number.ensures, chars, c.count.ensures, c.in_ok-writers_of.ensures) refl
