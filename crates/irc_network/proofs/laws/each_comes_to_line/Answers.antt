use Rattle.irc_network.proofs.Going.{each_comes_to_line}
use Rattle.irc_network.proofs.laws.each_comes_to_line.Goals as goal

pub returns : goal.returns
returns c = each_comes_to_line
