use Rattle.std.proofs.Common.{rules}
use Rattle.irc_link_reader.proofs.arrival.server.Goals as goal

pub returns : goal.returns
returns c = search rules
