use Rattle.irc_overlaps.proofs.AtAnyTime.{given_at_any_time}
use Rattle.irc_overlaps.proofs.laws.given_at_any_time.Goals as goal

pub returns : goal.returns
returns c = given_at_any_time
