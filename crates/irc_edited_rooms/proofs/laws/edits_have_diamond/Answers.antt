use Rattle.irc_edited_rooms.specs.Lemmas.RoomsGoWell.{rooms_have_diamond}
use Rattle.irc_edited_rooms.proofs.laws.edits_have_diamond.Goals as goal

pub returns : goal.returns
returns g c = rooms_have_diamond
