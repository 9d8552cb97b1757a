use Rattle.irc_merge.specs.Lemmas.DeedsAlike.{home_follows_deed}
use Rattle.irc_merge.proofs.laws.home_follows_deed.Goals as goal

pub returns : goal.returns
returns c = home_follows_deed c.home_follows.ensures
