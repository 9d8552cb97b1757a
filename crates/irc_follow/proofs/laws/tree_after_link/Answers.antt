use Rattle.irc_follow.specs.Lemmas.NewLink.{tree_after_link}
use Rattle.irc_follow.proofs.laws.tree_after_link.Goals as goal

pub returns : goal.returns
returns c = tree_after_link
