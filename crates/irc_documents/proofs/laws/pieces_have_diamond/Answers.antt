use Rattle.irc_documents.specs.Lemmas.CrossingLists.{pieces_have_diamond}
use Rattle.irc_documents.proofs.laws.pieces_have_diamond.Goals as goal

pub returns : goal.returns
returns g c = pieces_have_diamond g.Doc.Edited.editing
