use Rattle.irc_burst.proofs.EffectsRead.{wants}
use Rattle.irc_burst.proofs.handshake.read_handshake_line.Goals as goal

pub returns-in_err-closed_for-in-None-clause-memory :
    goal.returns-in_err-closed_for-in-None-clause-memory
returns-in_err-closed_for-in-None-clause-memory c =
    wants c.from_residual.result c.in_err-closed_for-in-None.ensures.memory
