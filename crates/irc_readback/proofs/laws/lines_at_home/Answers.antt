use Rattle.irc_readback.proofs.LinesAlike.{read_at_home, written_at_home}
use Rattle.irc_readback.proofs.laws.lines_at_home.Goals as goal

pub returns-clause-written : goal.returns-clause-written
returns-clause-written c =
    written_at_home c.home_is_alike.ensures c.lines_look_at_no_invitation.ensures.written

pub returns-clause-read : goal.returns-clause-read
returns-clause-read c =
    read_at_home c.home_is_alike.ensures c.lines_look_at_no_invitation.ensures.read
