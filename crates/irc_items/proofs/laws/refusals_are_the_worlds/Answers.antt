use Rattle.irc_items.proofs.Refusals.{refusals_are_the_worlds}
use Rattle.irc_items.proofs.laws.refusals_are_the_worlds.Goals as goal

pub returns : goal.returns
returns c = refusals_are_the_worlds c.rest_is_one_room.ensures c.world_is_sound.ensures
