use Rattle.irc_merge.proofs.Sides.{side_read_is_merge}
use Rattle.irc_merge.proofs.laws.side_read_is_merge.Goals as goal

pub returns : goal.returns
returns c = side_read_is_merge
