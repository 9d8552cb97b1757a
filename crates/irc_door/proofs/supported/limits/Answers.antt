use Rattle.std.specs.Fmt.{digits}
use Rattle.irc_line.specs.Bytes.{cut}
use Rattle.irc_door.proofs.supported.limits.Goals as goal

pub returns-clause-modes : goal.returns-clause-modes
unfolding cut digits
returns-clause-modes c = c.limit.ensures.word

pub returns-clause-nick : goal.returns-clause-nick
unfolding cut digits
returns-clause-nick c = c.limit-2.ensures.word

pub returns-clause-channel : goal.returns-clause-channel
unfolding cut digits
returns-clause-channel c = c.limit-3.ensures.word

pub returns-clause-topic : goal.returns-clause-topic
unfolding cut digits
returns-clause-topic c = c.limit-4.ensures.word

pub returns-clause-kick : goal.returns-clause-kick
unfolding cut digits
returns-clause-kick c = c.limit-5.ensures.word

pub returns-clause-away : goal.returns-clause-away
unfolding cut digits
returns-clause-away c = c.limit-6.ensures.word

pub returns-clause-bans : goal.returns-clause-bans
unfolding cut digits
returns-clause-bans c = c.limit-7.ensures.word

pub returns-clause-joined : goal.returns-clause-joined
unfolding cut digits
returns-clause-joined c = c.limit-8.ensures.word

pub returns-clause-targets : goal.returns-clause-targets
unfolding cut digits
returns-clause-targets c = c.targets.ensures
