use Rattle.irc_overlaps.proofs.LinesBehind.{lines_go_behind}
use Rattle.irc_overlaps.proofs.laws.lines_go_behind.Goals as goal

pub returns : goal.returns
returns c = lines_go_behind
