use Rattle.irc_secrets.proofs.Shown.{invited_is_shown, joiner_is_shown}
use Rattle.irc_secrets.proofs.laws.invited_and_joiner_are_shown.Goals as goal

pub returns-clause-invited : goal.returns-clause-invited
returns-clause-invited c = invited_is_shown

pub returns-clause-joiner : goal.returns-clause-joiner
returns-clause-joiner c = joiner_is_shown
