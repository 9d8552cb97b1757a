use Rattle.irc_documents.specs.Lemmas.CrossingLists.{grid_turns}
use Rattle.irc_documents.proofs.laws.grid_turns.Goals as goal

pub returns : goal.returns
returns g c = grid_turns g.Doc.Edited.editing
