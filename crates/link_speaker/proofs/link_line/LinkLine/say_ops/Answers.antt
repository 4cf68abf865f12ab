use Rattle.link_speaker.proofs.Saying.{said_so, refused_so}
use Rattle.link_speaker.proofs.link_line.LinkLine.say_ops.Goals as goal

pub returns-clause-ok : goal.returns-clause-ok
returns-clause-ok c = said_so c.args.self.now c.say_ops.new.self c.args.ops.now c.say_ops.result c.say_ops.ensures.ok

pub returns-clause-refused : goal.returns-clause-refused
returns-clause-refused c = refused_so c.args.self.now c.args.ops.now c.say_ops.result c.say_ops.ensures.closed c.say_ops.ensures.kinds
