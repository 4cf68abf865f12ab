-- How far a list was read.
use Rattle.std.proofs.Common.{◌≡◌, ◌∙◌, ℕ, ◌+◌, ◌-◌, List, ap, arith}
use Rattle.std.specs.Prelude.{slice_index_or}
use Rattle.op_model.specs.declared.op.Op.{Op}
use Rattle.run_list.specs.Reader.{ReaderHeld}

-- a reader that read one more read so many
pub read_more : (list : List Op) (i : ℕ) (before after : ReaderHeld) → before ≡ record { list = list; at = i } → after ≡ record before { at = before.at + 1 }
    → after ≡ record { list = list; at = i + 1 }
read_more list i before after was more = more ∙ ap (λ (r : ReaderHeld). record r { at = r.at + 1 }) was

-- and what it read last is the operation there
pub read_there : (list : List Op) (i : ℕ) (before after : ReaderHeld) (op : Op) → before ≡ record { list = list; at = i } → after ≡ record before { at = before.at + 1 }
    → op ≡ slice_index_or after.list (after.at - 1) op → op ≡ slice_index_or list i op
read_there list i before after op was more last =
    let same : (i + 1) - 1 ≡ i = omega arith in
    rw same at (rw (read_more list i before after was more) at last)
