use Rattle.irc_room_edits.proofs.ComputedExamples.{privacies_cross}
use Rattle.irc_room_edits.proofs.laws.privacies_cross.Goals as goal

pub returns : goal.returns
returns c = privacies_cross
