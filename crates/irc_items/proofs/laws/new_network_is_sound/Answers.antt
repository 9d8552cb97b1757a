use Rattle.irc_items.proofs.NewNetwork.{new_network_is_sound}
use Rattle.irc_items.proofs.laws.new_network_is_sound.Goals as goal

pub returns : goal.returns
returns c = new_network_is_sound c.taken_make_world.ensures c.side_at_rest_is_sound.ensures
