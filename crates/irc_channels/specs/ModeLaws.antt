-- Channels have modes within limits, whatever is changed.
use Rattle.std.specs.Prelude.{ℕ, List}
use Rattle.irc_channels.specs.declared.channel.Channel.{Channel}
use Rattle.irc_modes.specs.declared.modes.ModeChange.{ModeChange}
use Rattle.irc_channels.specs.Channels.{new_channel, all_changed}
use Rattle.irc_modes.specs.ModesSet.{AreWithinLimits}

-- a channel that somebody makes has modes within limits
abbrev pub NewIsWithinLimits : Type 0
NewIsWithinLimits = (name : List ℕ) → AreWithinLimits (new_channel name).modes

-- whatever the changes, they leave modes within limits
abbrev pub ChangedIsWithinLimits : Type 0
ChangedIsWithinLimits = (changes : List ModeChange) (channel : Channel)
    → AreWithinLimits channel.modes → AreWithinLimits (all_changed changes channel).modes
