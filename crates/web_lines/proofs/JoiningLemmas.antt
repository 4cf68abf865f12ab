-- What two calls bring together.
use Rattle.std.proofs.Common.{◌≡◌, ℕ, List, [], ◌∷◌, ◌++◌, Option, refl, sym, ap, ◌∙◌, append_assoc, append-nil}
use Rattle.tungstenite.specs.Socket.{Socket, Flushed}
use Rattle.web_lines.proofs.TurnLemmas.{flushed-then}
use Rattle.web_lines.specs.Reading.{Given, lines_read, lines_given, ending_given, last_ending, FoundOpen, ReadsInTurn, Brings}
use Rattle.web_lines.specs.declared.ending.Ending.{Ending}
use Rattle.web_lines.specs.declared.ending.Ending.TheVariants.{NotYet}
use Rattle.web_lines.specs.declared.message_lines.MessageLines.{MessageLines}

lines_given-append : (first second : Given) → lines_given (first ++ second) ≡ lines_given first ++ lines_given second
lines_given-append [] second = refl
lines_given-append (one ∷ first) second =
    ap (λ l. lines_read one ++ l) (lines_given-append first second) ∙ sym (append_assoc (lines_read one) (lines_given first) (lines_given second))

last_ending-append : (ending : Ending) (first second : Given) → last_ending ending (first ++ second) ≡ last_ending (last_ending ending first) second
last_ending-append ending [] second = refl
last_ending-append ending (one ∷ first) second = last_ending-append (ending_given one) first second

FoundOpen-append : (ending : Ending) (first second : Given) → FoundOpen ending first → FoundOpen (last_ending ending first) second → FoundOpen ending (first ++ second)
FoundOpen-append ending [] second x y = y
FoundOpen-append ending (one ∷ first) second x y = (x.0, FoundOpen-append (ending_given one) first second x.1 y)

module _ {S : Type 0} where
  reads-append : (contents remaining : S → Option (List ℕ)) (a b c : Socket S) (first second : Given)
      → ReadsInTurn contents remaining a first b → ReadsInTurn contents remaining b second c → ReadsInTurn contents remaining a (first ++ second) c
  reads-append contents remaining a b c [] second x y = rw x at y
  reads-append contents remaining a b c (one ∷ first) second x y =
      (x.0, x.1, x.2, x.3, x.4, reads-append contents remaining x.1 b c first second x.5 y)

  -- the second call's reads follow the first one's: where it read, the connection was open
  joins : (contents remaining : S → Option (List ℕ)) (a b c : MessageLines S) (first second : List ℕ) (given : Given) (last : Socket S)
      → Brings contents remaining a b first → ReadsInTurn contents remaining b.socket given last → FoundOpen b.ending given
      → b.held ++ lines_given given ≡ second ++ c.held → c.ending ≡ last_ending b.ending given → (c.ending ≡ NotYet → Flushed contents last c.socket)
      → Brings contents remaining a c (first ++ second)
  joins contents remaining a b c first second [] last x reads found lines ending goes_on = record {
    given = x.given;
    last = x.last;
    reads = x.reads;
    found = x.found;
    lines = x.lines ∙ ap (λ l. first ++ l) (sym (append-nil b.held) ∙ lines) ∙ sym (append_assoc first second c.held);
    ending = ending ∙ x.ending;
    goes_on = λ o. flushed-then contents x.last b.socket c.socket (x.goes_on (sym ending ∙ o)) (rw (sym reads) (goes_on o));
  }
  joins contents remaining a b c first second (one ∷ given) last x reads found lines ending goes_on = record {
    given = x.given ++ one ∷ given;
    last = last;
    reads =
        reads-append contents remaining a.socket x.last last x.given (one ∷ given) x.reads
        (reads.0, reads.1, flushed-then contents x.last b.socket reads.0 (x.goes_on found.0) reads.2, reads.3, reads.4, reads.5);
    found = FoundOpen-append a.ending x.given (one ∷ given) x.found (sym x.ending ∙ found.0, found.1);
    lines =
        ap (λ l. a.held ++ l) (lines_given-append x.given (one ∷ given))
        ∙ sym (append_assoc a.held (lines_given x.given) (lines_given (one ∷ given))) ∙ ap (λ l. l ++ lines_given (one ∷ given)) x.lines
        ∙ append_assoc first b.held (lines_given (one ∷ given)) ∙ ap (λ l. first ++ l) lines ∙ sym (append_assoc first second c.held);
    ending = ending ∙ sym (last_ending-append a.ending x.given (one ∷ given));
    goes_on = goes_on;
  }

  pub joined : (contents remaining : S → Option (List ℕ)) (a b c : MessageLines S) (first second : List ℕ)
      → Brings contents remaining a b first → Brings contents remaining b c second → Brings contents remaining a c (first ++ second)
  joined contents remaining a b c first second x y =
      joins contents remaining a b c first second y.given y.last x y.reads y.found y.lines y.ending y.goes_on
