use Rattle.irc_world.proofs.LimitsHold.{step_keeps_limits}
use Rattle.irc_world.proofs.laws.step_keeps_limits.Goals as goal

pub returns : goal.returns
returns c =
    step_keeps_limits c.words_are_of_the_line.ensures.words c.after_is_within_limits.ensures.all
    c.after_is_within_limits.ensures.sent
    c.decided_is_sendable.ensures c.registering_is_sendable.ensures c.merge_is_within_limits.ensures
    c.split_is_within_limits.ensures
