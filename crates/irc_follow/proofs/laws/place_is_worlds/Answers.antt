use Rattle.irc_follow.proofs.PlacesFit.{place_is_worlds}
use Rattle.irc_follow.proofs.laws.place_is_worlds.Goals as goal

pub returns : goal.returns
returns c = place_is_worlds
