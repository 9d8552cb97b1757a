-- MODE.
use Rattle.std.specs.Prelude.{ℕ, List, if◌then◌else◌}
use Rattle.irc_users.specs.declared.user.User.{User}
use Rattle.irc_room.specs.Room.{Room}
use Rattle.irc_acts.specs.declared.act.Act.{Act}
use Rattle.irc_acts.specs.Words.{names_channel}
use Rattle.irc_channel_commands.specs.UserMode.{user_mode}
use Rattle.irc_channel_commands.specs.ChannelMode.{channel_mode_named}

-- what a MODE of a target does (RFC 2812 sections 3.1.5 and 3.2.3)
unfoldable pub mode_steps : Room → User → List ℕ → List (List ℕ) → List Act
mode_steps room me target more =
    if names_channel target then channel_mode_named room me target more
    else user_mode me target more
