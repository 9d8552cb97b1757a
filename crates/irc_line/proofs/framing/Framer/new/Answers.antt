use Rattle.irc_line.proofs.Streams.{begins_anew, begins_anew_real}
use Rattle.irc_line.proofs.framing.Framer.new.Goals as goal

pub invariant_of-result : goal.invariant_of-result
invariant_of-result c = begins_anew_real c.new.result.items c.new.ensures

pub returns-clause-start : goal.returns-clause-start
returns-clause-start c = begins_anew c.new.result.items c.new.ensures
