use Rattle.std.proofs.Common.{rules}
use Rattle.irc_burst.proofs.EffectsRead.{njoin-want, wants}
use Rattle.irc_burst.proofs.njoin_line.njoin_line.Goals as goal

pub returns-in_err-members-clause-memory : goal.returns-in_err-members-clause-memory
returns-in_err-members-clause-memory c =
    wants c.from_residual.result
    (njoin-want c.args.at c.args.server.now c.args.params c.in-Ok.words (search rules))
