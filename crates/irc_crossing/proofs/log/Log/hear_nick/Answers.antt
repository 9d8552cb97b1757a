use Rattle.std.proofs.Common.{◌∙◌, sym}
use Rattle.irc_line.specs.MessageViews.{parsed}
use Rattle.irc_crossing.specs.Lines.{change_of}
use Rattle.irc_crossing.proofs.Passing.{still_there}
use Rattle.irc_crossing.proofs.log.Log.hear_nick.Goals as goal

pub returns-in_default-clause-behind : goal.returns-in_default-clause-behind
returns-in_default-clause-behind c =
    still_there (change_of (parsed c.args.message.now)) c.args.self.now
    (sym c.change_of.ensures ∙ c.in_default.is)
