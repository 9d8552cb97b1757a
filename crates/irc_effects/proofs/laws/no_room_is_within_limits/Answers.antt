use Rattle.irc_effects.specs.Lemmas.LimitsKept.{no_room_is_within_limits}
use Rattle.irc_effects.proofs.laws.no_room_is_within_limits.Goals as goal

pub returns : goal.returns
returns c = no_room_is_within_limits
