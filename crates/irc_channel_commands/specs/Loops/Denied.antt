-- What the loop over the letters of one who is no operator is at: whether a change was refused
-- already.
use Rattle.std.specs.Prelude.{Bool, true, false, not, ◌&&◌, List, [], ◌∷◌, if◌then◌else◌}
use Rattle.std.specs.List.{flat_map}
use Rattle.irc_channels.specs.declared.channel.Channel.{Channel}
use Rattle.irc_modes.specs.ModeWords.{Asked, change}
use Rattle.irc_numerics.specs.declared.replies.Reply.TheVariants.{ChanOPrivsNeeded}
use Rattle.irc_acts.specs.declared.act.Act.{Act}
use Rattle.irc_acts.specs.declared.act.Act.TheVariants.{Answer}
use Rattle.irc_channel_commands.specs.ChannelMode.{letter_replies, denied}

abbrev pub is_change : Asked → Bool
is_change (change plus which word) = true
is_change other = false

-- what one letter is answered
abbrev pub denied_one : Bool → Channel → Asked → List Act
denied_one refused start item = if is_change item && not refused
    then Answer (ChanOPrivsNeeded start.name) ∷ [] else letter_replies start item

-- what the letters that are left are answered
abbrev pub denied_left : Bool → Channel → List Asked → List Act
denied_left true start items = flat_map (letter_replies start) items
denied_left false start items = denied start items
