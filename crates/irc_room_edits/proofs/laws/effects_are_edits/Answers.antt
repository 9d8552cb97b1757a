use Rattle.irc_room_edits.specs.Lemmas.EffectsAreEdits.{effects_are_edits}
use Rattle.irc_room_edits.proofs.laws.effects_are_edits.Goals as goal

pub returns : goal.returns
returns c = effects_are_edits
