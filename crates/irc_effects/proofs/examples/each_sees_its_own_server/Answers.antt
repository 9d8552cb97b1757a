use Rattle.irc_effects.proofs.ExamplesProved.{each_sees_its_own_server}
use Rattle.irc_effects.proofs.examples.each_sees_its_own_server.Goals as goal

pub returns : goal.returns
returns c = each_sees_its_own_server
