-- What was said so far is what the spans so far say.
use Rattle.std.specs.Prelude.{take}
use Rattle.websocket.specs.Headers.{fields_of}
use Rattle.web_guests.specs.Stating.{States, values_of}
use Rattle.web_guests.proofs.stated.Stated.of.Given as goal

abbrev pub invariant-loop-span : goal.invariant-loop-span
invariant-loop-span l = States l.stated (values_of (fields_of l.head (take l.span-index l.spans)) l.name)
