-- A room as a document that servers edit: all that both ends of a link have. Invitations are not
-- in it, which each user's own server keeps.
use Rattle.std.specs.Prelude.{Option}
use Rattle.std.specs.Option.{option_and_then, option_map, option_map_or}
use Rattle.irc_names.specs.Tables.{row}
use Rattle.irc_channels.specs.declared.channel.Channel.{Channel}
use Rattle.irc_effects.specs.Room.{Room}
use Rattle.irc_edited_rooms.specs.Writes.{Row, blank_row}
use Rattle.irc_edited_rooms.specs.Documents.{Nick, Document}
use Rattle.irc_room_edits.specs.Places.{Place, channel_row, member_row, user_row}

abbrev pub member_in : Nick → Channel → Option (Row Place)
member_in nick channel = option_map member_row (row channel.members nick)

abbrev pub document : Room → Document Place
document room = record {
  user = λ nick. option_map user_row (row room.users nick);
  member = λ name nick. option_and_then (member_in nick) (row room.channels name);
  channel = λ name. option_map_or channel_row (row room.channels name) blank_row;
}
