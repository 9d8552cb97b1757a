use Rattle.irc_documents.specs.Lemmas.CrossingLists.{pieces_meet}
use Rattle.irc_documents.proofs.laws.pieces_meet.Goals as goal

pub returns : goal.returns
returns g c = pieces_meet g.Doc.Edited.editing
