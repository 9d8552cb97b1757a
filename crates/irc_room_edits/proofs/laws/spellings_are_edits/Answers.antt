use Rattle.irc_room_edits.specs.Lemmas.EffectsAreEdits.{spellings_are_edits}
use Rattle.irc_room_edits.proofs.laws.spellings_are_edits.Goals as goal

pub returns : goal.returns
returns c = spellings_are_edits
