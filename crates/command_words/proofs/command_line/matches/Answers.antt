use Rattle.std.proofs.Common.{◌≡◌, ◌∙◌, sym, ap, subst, true, true≢false, inl, inr}
use Rattle.clap.specs.Simple.{App, is_simple, subcommand_of}
use Rattle.clap.specs.Kinds.{HasKind}
use Rattle.clap.specs.Faults.{fault_of, is_simple_and_free}
use Rattle.clap.specs.declared.error.kind.ErrorKind.TheVariants.{OutOfMemory}
use Rattle.command_words.specs.Asked.{texts}
use Rattle.command_words.proofs.command_line.matches.Goals as goal

pub returns-in-Ok-clause-taken : goal.returns-in-Ok-clause-taken
returns-in-Ok-clause-taken c =
    let words = texts c.args.words.now in
    let kinds = λ (app : App). fault_of app words in
    sym (ap kinds c.in_ok-commands.ensures) ∙ c.in-Ok.ensures.kinds (ap is_simple_and_free c.in_ok-commands.ensures)

pub returns-in-Ok-clause-ok : goal.returns-in-Ok-clause-ok
returns-in-Ok-clause-ok c =
    let words = texts c.args.words.now in
    let rows = λ (app : App). subcommand_of app words in
    (c.in-Ok.ensures.matches (ap is_simple c.in_ok-commands.ensures)).1 ∙ ap rows c.in_ok-commands.ensures

pub returns-in-Err-2-clause-refused : goal.returns-in-Err-2-clause-refused
returns-in-Err-2-clause-refused c =
    let words = texts c.args.words.now in
    let Has : App → Type 0 = λ app. HasKind (fault_of app words) c.in-Err.error in
    let kinds = subst Has c.in_ok-commands.ensures (c.in-Err.ensures.kinds (ap is_simple_and_free c.in_ok-commands.ensures)) in
    elim kinds [
      | inl memory ↦
          let kind : c.kind.result ≡ OutOfMemory = c.kind.ensures ∙ memory in
          let same : c.eq.result ≡ true = rw kind at c.eq.ensures in
          absurd (true≢false (sym same ∙ c.if-eq.false))
      | inr among ↦ among
    ]
