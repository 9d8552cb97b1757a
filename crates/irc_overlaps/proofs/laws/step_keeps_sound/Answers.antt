use Rattle.irc_overlaps.proofs.SoundSteps.{step_keeps_sound}
use Rattle.irc_overlaps.proofs.laws.step_keeps_sound.Goals as goal

pub returns : goal.returns
returns c = step_keeps_sound
