use Rattle.irc_secrets.proofs.FromTheStart.{outside_from_the_start}
use Rattle.irc_secrets.proofs.laws.outside_from_the_start.Goals as goal

pub returns : goal.returns
returns c = outside_from_the_start c.after_is_well_formed.ensures
