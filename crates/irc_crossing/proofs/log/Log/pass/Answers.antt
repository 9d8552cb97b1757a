use Rattle.irc_crossing.proofs.Passing.{still_none, still_there}
use Rattle.irc_crossing.proofs.log.Log.pass.Goals as goal

pub returns-in_default-clause-became : goal.returns-in_default-clause-became
returns-in_default-clause-became c = still_none c.args.theirs c.args.self.now c.in_default.is

pub returns-in_default-clause-behind : goal.returns-in_default-clause-behind
returns-in_default-clause-behind c = still_there c.args.theirs c.args.self.now c.in_default.is
