use Rattle.irc_items.proofs.Link.Given.{new_link_is_open}
use Rattle.irc_items.proofs.laws.new_link_is_open.Goals as goal

pub returns : goal.returns
returns c = new_link_is_open
