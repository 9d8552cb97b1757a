use Rattle.std.proofs.Common.{◌-◌, length}
use Rattle.irc_sockets.proofs.calls.Calls.next.Given as goal

-- each call that was looked at is under way, or not there any more
abbrev pub decreases-loop-at : goal.decreases-loop-at
decreases-loop-at l = length l.self.under_way.items - l.at
