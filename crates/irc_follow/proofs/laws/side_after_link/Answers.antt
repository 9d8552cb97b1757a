use Rattle.irc_follow.specs.Lemmas.NewLink.{side_after_link}
use Rattle.irc_follow.proofs.laws.side_after_link.Goals as goal

pub returns : goal.returns
returns c = side_after_link
