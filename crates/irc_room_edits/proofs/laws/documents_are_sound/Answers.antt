use Rattle.irc_room_edits.specs.Lemmas.SoundDocuments.{documents_are_sound}
use Rattle.irc_room_edits.proofs.laws.documents_are_sound.Goals as goal

pub returns : goal.returns
returns c = documents_are_sound
