use Rattle.irc_turns.proofs.PaceKept.{pace_kept}
use Rattle.irc_turns.proofs.allowance.pace_is_kept.Goals as goal

pub returns : goal.returns
returns c = pace_kept
