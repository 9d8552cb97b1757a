use Rattle.std.proofs.Common.{◌≡◌, ◌++◌, drop}
use Rattle.irc_modes.specs.ModeViews.{all_asked}
use Rattle.irc_channel_commands.specs.ChannelMode.{denied}
use Rattle.irc_channel_commands.specs.Loops.Denied.{denied_left}
use Rattle.irc_channel_commands.proofs.channel_mode.deny.Given as goal

-- the replies so far, and those to the letters that are left, are those to all letters
abbrev pub invariant-loop-item : goal.invariant-loop-item
invariant-loop-item l = l.steps.items ++ denied_left l.refused l.channel
    (all_asked (drop l.item-index l.items)) ≡ denied l.channel (all_asked l.items)
