-- How the refusals of a line are called.
use Rattle.causal_sync.specs.declared.link_error.LinkError.{LinkError}
use Rattle.causal_sync.specs.declared.link_error.LinkError.TheVariants as link
use Rattle.link_speaker.specs.declared.speak_error.SpeakError.{SpeakError}
use Rattle.link_speaker.specs.declared.speak_error.SpeakError.TheVariants.{Memory, Link}

-- out of memory is one thing, wherever it comes
abbrev pub speak_error : LinkError → SpeakError
speak_error link.Memory = Memory
speak_error link.Limit = Link link.Limit
speak_error link.BadFrame = Link link.BadFrame
speak_error link.BadHello = Link link.BadHello
speak_error link.Closed = Link link.Closed
speak_error (link.Record fault) = Link (link.Record fault)
