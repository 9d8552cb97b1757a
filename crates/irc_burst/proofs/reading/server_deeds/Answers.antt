use Rattle.std.proofs.Common.{rules}
use Rattle.irc_line.specs.MessageViews.{parsed}
use Rattle.irc_burst.proofs.EffectsRead.{server-want, wants}
use Rattle.irc_burst.proofs.reading.server_deeds.Goals as goal

pub returns-in_err-deed-clause-memory : goal.returns-in_err-deed-clause-memory
returns-in_err-deed-clause-memory c =
    wants c.from_residual.result c.in_err-deed.ensures.memory

pub returns-in_err-listed-in-Ok-clause-memory : goal.returns-in_err-listed-in-Ok-clause-memory
returns-in_err-listed-in-Ok-clause-memory c =
    wants c.from_residual-in_err-listed-in-Ok.result
    (server-want c.args.at c.args.command (parsed c.args.message.now).prefix
    (parsed c.args.message.now).params c.in-Ok.deed (search rules))
