-- What the operations of an edit are made from, and what they are.
use Rattle.std.specs.Prelude.{◌≡◌, ◌<◌, ◌+◌, ℕ, List, length}
use Rattle.op_model.specs.declared.author.Author.{Author}
use Rattle.op_model.specs.declared.edit.Change.{Change}
use Rattle.op_model.specs.declared.edit.Change.TheVariants.{Insert}
use Rattle.op_model.specs.declared.edit.Edit.{Edit}
use Rattle.op_model.specs.declared.op.Op.{Op}
use Rattle.op_model.specs.Causality.{clock_of}
use Rattle.op_model.specs.Made.{greatest_counter, made}
use Rattle.char_sequence.specs.Content.{AreRemoves, IsRun}
use Rattle.model_laws.specs.Changed.{EndedMarksStay}
use Rattle.doc_core.specs.Standing.{Document, StandsFor}
use Rattle.doc_core.specs.declared.made.Part.{Part}
use Rattle.doc_core.specs.declared.made.Part.TheVariants.{Run, Removes, One}

-- the next operation after these has this counter, and depends on this clock
pub record AreNextNumbers (ops : List Op) (counter : ℕ) (clock : List (ℕ × ℕ)) : Type 0 where
  pub counted : counter ≡ greatest_counter ops + 1
  pub depends : clock ≡ clock_of ops

-- these are the defined operations of a change of the document with the author's token, whichever operations it stands for, where they are
-- the author's next ones
abbrev pub AreMade : Document → Author → Change → List Op → Type 0
AreMade d author change found = (ops : List Op) (edit : Edit) → StandsFor d ops → AreNextNumbers ops author.counter author.clock.now
    → edit.doc ≡ d.number → edit.token ≡ author.token → edit.change ≡ change → found ≡ made ops author.replica edit

-- where the change is an insert, no mark that ends just before its index covers a character that these operations insert, whichever
-- operations the document stands for, where these are the author's next ones
abbrev pub LeaveEndedMarks : Document → Author → Change → List Op → Type 0
LeaveEndedMarks d author change found = (ops : List Op) (at : ℕ) (added : List ℕ) → StandsFor d ops → AreNextNumbers ops author.counter author.clock.now
    → change ≡ Insert at added → EndedMarksStay ops d.number at found

-- what is known of an edit's operations is so: they are a run of inserts, or removes of these characters, or there is one alone
abbrev pub IsPart : Part → List Op → Type 0
IsPart (Run origin run) ops = IsRun origin run.items ops × (0 < length ops)
IsPart (Removes targets) ops = AreRemoves targets.items ops
IsPart One ops = length ops ≡ 1
