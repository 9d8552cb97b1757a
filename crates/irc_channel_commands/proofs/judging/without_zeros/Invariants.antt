use Rattle.std.proofs.Common.{◌≡◌, drop}
use Rattle.irc_channel_commands.specs.Judging.{without_zeros}
use Rattle.irc_channel_commands.proofs.judging.without_zeros.Given as goal

abbrev pub invariant-loop-i : goal.invariant-loop-i
invariant-loop-i l = without_zeros (drop l.i l.digits) ≡ without_zeros l.digits
