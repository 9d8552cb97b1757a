use Rattle.irc_overlaps.proofs.SoundSteps.{runs_are_sound}
use Rattle.irc_overlaps.proofs.laws.runs_are_sound.Goals as goal

pub returns : goal.returns
returns c = runs_are_sound
