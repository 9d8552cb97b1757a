use Rattle.irc_modes.specs.Lemmas.RaisedJoined.{raised_in_turn}
use Rattle.irc_modes.specs.RaisedLaws.{raised_is_joined}
use Rattle.irc_modes.proofs.laws.raised_is_joined.Goals as goal

pub returns-clause-in_turn : goal.returns-clause-in_turn
returns-clause-in_turn c = raised_in_turn

pub returns-clause-joined : goal.returns-clause-joined
returns-clause-joined c = raised_is_joined
