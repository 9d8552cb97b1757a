use Rattle.irc_crossed_edits.specs.Lemmas.CrossedStands.{crossed_stands}
use Rattle.irc_crossed_edits.proofs.laws.crossed_stands.Goals as goal

pub returns : goal.returns
returns c = crossed_stands
