-- The numbers of what ends a session.
use Rattle.std.specs.Prelude.{ℕ}
use Rattle.fixed_numbers.specs.declared.refusals.TheConstants.{MEMORY, STREAM}
use Rattle.session_threads.specs.declared.fault.SessionFault.{SessionFault}
use Rattle.session_threads.specs.declared.fault.SessionFault.TheVariants.{Memory, Stream}

-- the number of a fault
abbrev pub number_of : SessionFault → ℕ
number_of Memory = MEMORY
number_of (Stream error) = STREAM
