-- How a session ends, from what it did so far.
use Rattle.std.proofs.Common.{◌≡◌, ℕ, List, [], ◌++◌, Option, Some, sym, ap, ◌∙◌, subst, append_assoc, append-nil, take}
use Rattle.std.specs.Io.KnownBytes.{Appends, Consumes, IsAtEnd}
use Rattle.std.proofs.KnownBytes.{Consumes-trans}
use Rattle.session_lines.specs.declared.command.Command.{Command}
use Rattle.session_lines.specs.declared.answer.Answer.{Answer}
use Rattle.session_threads.specs.Lines.{lines_read}
use Rattle.session_threads.specs.Held.{lines_after, held_after}
use Rattle.session_threads.specs.Exchanges.{Exchanges}
use Rattle.byte_streams.specs.Fronts.{BeginsWith}
use Rattle.session_threads.specs.Outcomes.{CutOff, Served, CutShort}
use Rattle.session_threads.proofs.ExchangeLemmas.{begins_with_itself, Exchanges-append, CutOff-append, CutOff-whole}
use Rattle.session_threads.proofs.LineLemmas.{lines_after-all, lines_after-append}

-- the lines of a read before a piece, and a beginning of those of the piece, are a beginning of all
begins_with_both : (read piece : List ℕ) (lines : List (Option (List ℕ)))
    → BeginsWith (lines_after (held_after (Some []) read) piece) lines
    → BeginsWith (lines_read (read ++ piece)) (lines_after (Some []) read ++ lines)
begins_with_both read piece lines (rest, is) = (
  rest,
  sym (lines_after-all (read ++ piece)) ∙ lines_after-append (Some []) read piece
      ∙ ap (λ l. lines_after (Some []) read ++ l) is ∙ sym (append_assoc (lines_after (Some []) read) lines rest),
)

-- a read of no bytes consumes none
pub Consumes-end : (a b c : Option (List ℕ)) (read : List ℕ) (count : ℕ) (piece : List ℕ)
    → Consumes a b read → Consumes b c (take count piece) → count ≡ 0 → Consumes a c read
Consumes-end a b c read count piece consumed last none =
    let nothing : Consumes b c [] = rw none at last in
    subst (Consumes a c) (append-nil read) (Consumes-trans a b c read [] consumed nothing)

-- the lines of a piece are answered after those that were read before
pub exchanged : {D : Type 0} (serves : D → Command → Answer → D → Type 0) (old between new : D) (held : Option (List ℕ))
    (read piece text next : List ℕ) → held ≡ held_after (Some []) read
    → Exchanges serves old (lines_after (Some []) read) text between
    → Exchanges serves between (lines_after held piece) next new
    → Exchanges serves old (lines_after (Some []) (read ++ piece)) (text ++ next) new
exchanged serves old between new held read piece text next is answered said =
    rw (lines_after-append (Some []) read piece, ← is)
    (Exchanges-append serves old between new (lines_after (Some []) read) (lines_after held piece) text next answered said)

module _ {D : Type 0} (serves : D → Command → Answer → D → Type 0) (input_old input_new output_old output_new : Option (List ℕ)) where
  pub served : (old new : D) (read text : List ℕ) → Consumes input_old input_new read → IsAtEnd input_new
      → Exchanges serves old (lines_after (Some []) read) text new → Appends output_old output_new text
      → Served serves old new input_old input_new output_old output_new
  served old new read text consumed ended answered written = record {
    read = read;
    text = text;
    consumed = consumed;
    ended = ended;
    answered = subst (λ lines. Exchanges serves old lines text new) (lines_after-all read) answered;
    written = written;
  }

  pub cut_between : (old new : D) (read text : List ℕ) → Consumes input_old input_new read
      → Exchanges serves old (lines_after (Some []) read) text new → Appends output_old output_new text
      → CutShort serves old new input_old input_new output_old output_new
  cut_between old new read text consumed answered written = record {
    read = read;
    lines = lines_after (Some []) read;
    text = text;
    consumed = consumed;
    first = rw (lines_after-all read) (begins_with_itself (lines_read read));
    answered = CutOff-whole serves old new (lines_after (Some []) read) text answered;
    written = written;
  }

  pub cut_within : (old between new : D) (read piece text front : List ℕ) (lines : List (Option (List ℕ)))
      → Consumes input_old input_new (read ++ piece)
      → Exchanges serves old (lines_after (Some []) read) text between
      → BeginsWith (lines_after (held_after (Some []) read) piece) lines → CutOff serves between lines front new
      → Appends output_old output_new (text ++ front)
      → CutShort serves old new input_old input_new output_old output_new
  cut_within old between new read piece text front lines consumed answered begins cut written = record {
    read = read ++ piece;
    lines = lines_after (Some []) read ++ lines;
    text = text ++ front;
    consumed = consumed;
    first = begins_with_both read piece lines begins;
    answered = CutOff-append serves old between new (lines_after (Some []) read) lines text front answered cut;
    written = written;
  }
