use Rattle.irc_follow.specs.Lemmas.SideAtRest.{side_at_rest_is_sound}
use Rattle.irc_follow.proofs.laws.side_at_rest_is_sound.Goals as goal

pub returns : goal.returns
returns c = side_at_rest_is_sound
