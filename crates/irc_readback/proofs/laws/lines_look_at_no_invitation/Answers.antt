use Rattle.irc_readback.proofs.LinesAlike.{alike_mean_alike, alike_write_alike}
use Rattle.irc_readback.proofs.laws.lines_look_at_no_invitation.Goals as goal

pub returns-clause-written : goal.returns-clause-written
returns-clause-written c = alike_write_alike

pub returns-clause-read : goal.returns-clause-read
returns-clause-read c = alike_mean_alike
