-- Why words give no order.
use Rattle.std.specs.Prelude.{ℕ, List, Option, ◌≡◌, [], None, Some}
use Rattle.clap.specs.Kinds.{Kinds, IsAmong}
use Rattle.clap.specs.Values.{kind_of}
use Rattle.command_words.specs.declared.order_fault.OrderFault.{OrderFault}
use Rattle.command_words.specs.declared.order_fault.OrderFault.TheVariants.{Usage, Port, Field, Memory}
use Rattle.command_words.specs.Asked.{asked, bad_port, told}

-- the fault of words that `clap` refuses for one of these kinds: its error has one of them; the values are read only where there is
-- none, and memory may be refused at any time
abbrev pub RefusedBy : Kinds → OrderFault → Type 0
RefusedBy kinds (Usage error) = IsAmong (kind_of error) kinds
RefusedBy kinds (Port port) = kinds ≡ []
RefusedBy kinds Field = kinds ≡ []
RefusedBy kinds Memory = Unit {0}

-- the fault tells of this port that breaks its rule, or where there is none of another value
abbrev pub TellsOf : Option (List ℕ × List ℕ) → OrderFault → Type 0
TellsOf bad (Port port) = bad ≡ Some (told port)
TellsOf bad Field = bad ≡ None
TellsOf bad fault = ⊥

-- the fault of words that `clap` takes: they ask for nothing, and the fault tells of the first port that breaks its
-- rule, or of no port where none does
abbrev pub BreaksRule : List (List ℕ) → OrderFault → Type 0
BreaksRule words (Port port) = (asked words ≡ None) × (bad_port words ≡ Some (told port))
BreaksRule words Field = (asked words ≡ None) × (bad_port words ≡ None)
BreaksRule words fault = Unit {0}
