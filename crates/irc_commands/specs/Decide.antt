-- What a line of a registered user does: the row of the command table that it fits.
use Rattle.std.specs.Prelude.{ℕ, Option, Some, None, List, if◌then◌else◌}
use Rattle.irc_names.specs.Fold.{key}
use Rattle.irc_names.specs.Tables.{row}
use Rattle.irc_line.specs.Messages.{Parsed}
use Rattle.irc_users.specs.declared.user.User.{User}
use Rattle.irc_room.specs.Room.{Room}
use Rattle.irc_routes.specs.Place.{Place}
use Rattle.irc_commands.specs.Decisions.{Decided, nothing}
use Rattle.irc_commands.specs.Table.{row_for}
use Rattle.irc_commands.specs.OwnLines.{is_from}

-- who is a user of the room
abbrev pub decide_for : Room → Place → Parsed → Option User → Decided
decide_for room place message None = nothing
decide_for room place message (Some me) =
    if is_from message.prefix (Some me.nick) then row_for room place me message else nothing

-- what comes of a line of the user with this nickname; nothing where there is no such user
unfoldable pub decide : Room → Place → List ℕ → Parsed → Decided
decide room place who message = decide_for room place message (row room.users (key who))
