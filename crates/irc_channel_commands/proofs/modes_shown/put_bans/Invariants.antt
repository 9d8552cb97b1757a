use Rattle.std.proofs.Common.{◌≡◌, ◌++◌, map, take}
use Rattle.irc_channel_commands.specs.ModesShown.{ban_shown}
use Rattle.irc_channel_commands.proofs.modes_shown.put_bans.Given as goal

abbrev pub invariant-loop-mask : goal.invariant-loop-mask
invariant-loop-mask l = l.steps.items ≡ l.initial.steps.items
    ++ map (ban_shown l.channel.name) (take l.mask-index l.mask-items)
