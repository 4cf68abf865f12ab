-- Worked rows: small documents, and what changed in them.
use Rattle.std.specs.Prelude.{ℕ, true, false, List, [], ◌∷◌, Some, None}
use Rattle.op_ids.specs.Id.{Id}
use Rattle.op_model.specs.declared.op.Op.{Op}
use Rattle.op_model.specs.declared.op.Body.{Body}
use Rattle.op_model.specs.declared.op.Body.TheVariants.{Insert, Remove, AddMark, RemoveMark}
use Rattle.op_model.specs.declared.anchor.Anchor.TheVariants.{Before}
use Rattle.op_model.specs.declared.anchor.Start.TheVariants as start
use Rattle.op_model.specs.declared.anchor.End.TheVariants as end
use Rattle.op_model.specs.declared.mark.Mark.TheVariants as mark
use Rattle.op_model.specs.declared.mark.MarkKey.TheVariants as key
use Rattle.op_model.specs.declared.mark.Marks.{Marks}
use Rattle.op_model.specs.declared.change_step.ChangeStep.{ChangeStep}
use Rattle.op_model.specs.declared.change_step.ChangeStep.TheVariants.{Put}

-- letters by their codes
abbrev pub a : ℕ
a = 97

abbrev pub b : ℕ
b = 98

abbrev pub c : ℕ
c = 99

abbrev pub d : ℕ
d = 100

abbrev pub x : ℕ
x = 120

abbrev pub y : ℕ
y = 121

abbrev pub z : ℕ
z = 122

-- the id with a counter, of the first replica
abbrev pub id : ℕ → Id
id counter = record { counter = counter; replica = 1 }

-- the same of the second replica
abbrev pub other_id : ℕ → Id
other_id counter = record { counter = counter; replica = 2 }

-- an operation of the first document
abbrev pub op : Id → Body → Op
op id body = record { id = id; doc = 1; token = None; deps = []; body = body }

-- the text 'abc', in which a, b and c have the ids 1, 2 and 3
abbrev pub abc : List Op
abc = op (id 1) (Insert None a) ∷ op (id 2) (Insert (Some (id 1)) b) ∷ op (id 3) (Insert (Some (id 2)) c) ∷ []

-- no marks, and strong alone
abbrev pub plain : Marks
plain = record { strong = false; em = false; link = None; comments = [] }

abbrev pub strong : Marks
strong = record { strong = true; em = false; link = None; comments = [] }

-- these characters come with these marks
abbrev pub put : List ℕ → Marks → ChangeStep
put text marks = Put (record { text = text; marks = marks })

-- x comes after a, and c goes
abbrev pub typed_and_removed : List Op
typed_and_removed = op (id 4) (Insert (Some (id 1)) x) ∷ op (id 5) (Remove (id 3)) ∷ []

-- b and all after it are made strong, and d is typed at the end
abbrev pub marked_and_typed : List Op
marked_and_typed =
    op (id 4) (AddMark mark.Strong (start.From (Before (id 2))) end.OfText) ∷ op (id 5) (Insert (Some (id 3)) d) ∷ []

-- b goes
abbrev pub b_removed : List Op
b_removed = op (id 4) (Remove (id 2)) ∷ []

-- b is removed once more, and c
abbrev pub removed_again : List Op
removed_again = op (other_id 4) (Remove (id 2)) ∷ op (id 5) (Remove (id 3)) ∷ []

-- x comes after a
abbrev pub x_typed : List Op
x_typed = op (id 4) (Insert (Some (id 1)) x) ∷ []

-- another replica types yz after a
abbrev pub typed_elsewhere : List Op
typed_elsewhere = op (other_id 4) (Insert (Some (id 1)) y) ∷ op (other_id 5) (Insert (Some (other_id 4)) z) ∷ []

-- the whole text is made strong
abbrev pub all_strong : List Op
all_strong = op (id 4) (AddMark mark.Strong start.OfText end.OfText) ∷ []

-- x comes after a and goes, b goes, y comes after b, and c isn't strong any more
abbrev pub all_at_once : List Op
all_at_once =
    op (id 5) (Insert (Some (id 1)) x) ∷ op (id 6) (Remove (id 5)) ∷ op (id 7) (Remove (id 2))
    ∷ op (id 8) (Insert (Some (id 2)) y) ∷ op (id 9) (RemoveMark key.Strong (start.From (Before (id 3))) end.OfText) ∷ []
