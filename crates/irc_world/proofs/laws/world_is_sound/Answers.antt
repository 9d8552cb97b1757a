use Rattle.irc_world.proofs.StaysSound.{world_is_sound}
use Rattle.irc_world.proofs.laws.world_is_sound.Goals as goal

pub returns : goal.returns
returns c = world_is_sound c.step_stays_sound.ensures
