use Rattle.irc_documents.specs.Lemmas.CrossingLists.{lists_meet}
use Rattle.irc_documents.proofs.laws.lists_meet.Goals as goal

pub returns : goal.returns
returns g c = lists_meet g.Doc.Edited.editing
