use Rattle.irc_room_edits.specs.Lemmas.AllNicks.{all_nicks_are_listed}
use Rattle.irc_room_edits.proofs.laws.all_nicks_are_listed.Goals as goal

pub returns : goal.returns
returns c = all_nicks_are_listed
