use Rattle.std.proofs.Common.{◌≡◌, take}
use Rattle.irc_modes.specs.ModesSet.{ban_changes}
use Rattle.irc_burst_lines.proofs.set_modes.ban_changes.Given as goal

abbrev pub invariant-loop-mask : goal.invariant-loop-mask
invariant-loop-mask l = l.changes.items ≡ ban_changes (take l.mask-index l.bans)
