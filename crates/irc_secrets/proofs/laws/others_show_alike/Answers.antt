use Rattle.irc_secrets.proofs.OthersShown.{shares_alike, others_show_alike}
use Rattle.irc_secrets.proofs.laws.others_show_alike.Goals as goal

pub returns-clause-shared : goal.returns-clause-shared
returns-clause-shared c = shares_alike

pub returns-clause-shown : goal.returns-clause-shown
returns-clause-shown c = others_show_alike
