use Rattle.irc_crossing.proofs.Examples.{gone_is_left_out, invite_is_left_out, kick_is_followed}
use Rattle.irc_crossing.proofs.Examples.{kick_is_left_out, kill_is_followed, next_is_spared}
use Rattle.irc_crossing.proofs.Examples.{part_is_left_out}
use Rattle.irc_crossing.proofs.Examples.{text_is_left_out}
use Rattle.irc_crossing.proofs.laws.crossing_lines.Goals as goal

pub returns-clause-kick : goal.returns-clause-kick
returns-clause-kick c = kick_is_followed

pub returns-clause-kill : goal.returns-clause-kill
returns-clause-kill c = kill_is_followed

pub returns-clause-gone : goal.returns-clause-gone
returns-clause-gone c = gone_is_left_out

pub returns-clause-part : goal.returns-clause-part
returns-clause-part c = part_is_left_out

pub returns-clause-kick_twice : goal.returns-clause-kick_twice
returns-clause-kick_twice c = kick_is_left_out

pub returns-clause-text : goal.returns-clause-text
returns-clause-text c = text_is_left_out

pub returns-clause-invite : goal.returns-clause-invite
returns-clause-invite c = invite_is_left_out

pub returns-clause-next : goal.returns-clause-next
returns-clause-next c = next_is_spared
