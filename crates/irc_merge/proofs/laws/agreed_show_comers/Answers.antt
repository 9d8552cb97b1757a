use Rattle.irc_merge.proofs.Rejoined.{agreed_show_comers}
use Rattle.irc_merge.proofs.laws.agreed_show_comers.Goals as goal

pub returns : goal.returns
returns c = agreed_show_comers
