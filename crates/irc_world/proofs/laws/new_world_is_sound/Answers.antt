use Rattle.irc_world.proofs.StaysSound.{new_world_is_sound}
use Rattle.irc_world.proofs.laws.new_world_is_sound.Goals as goal

pub returns : goal.returns
returns c = new_world_is_sound
