use Rattle.irc_overlaps.proofs.AtAnyTime.{lost_at_any_time}
use Rattle.irc_overlaps.proofs.laws.lost_at_any_time.Goals as goal

pub returns : goal.returns
returns c = lost_at_any_time
