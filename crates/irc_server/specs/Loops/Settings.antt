-- What the code makes of lines by which a server sets.
use Rattle.std.specs.Prelude.{ℕ, Option, Some, None, List, true, ◌&&◌}
use Rattle.std.specs.FinMap.{get}
use Rattle.std.specs.Option.{option_map}
use Rattle.irc_modes.specs.declared.modes.ModeChange.{ModeChange}
use Rattle.irc_names.specs.Names.{is_channel}
use Rattle.irc_room.specs.Room.{Room}
use Rattle.irc_link_words.specs.Words.{are_members_named}
use Rattle.irc_link_reader.specs.Reader.{Reader, may_come}
use Rattle.irc_stage.specs.View.{View}
use Rattle.irc_server.specs.declared.event.ServerFault.{ServerFault}
use Rattle.irc_server.specs.declared.event.ServerFault.TheVariants.{Failed}
use Rattle.irc_server.specs.Served.{no_link}
use Rattle.irc_server.specs.declared.setting.Setting.{Setting}
use Rattle.irc_server.specs.declared.setting.Setting.TheVariants as setting
use Rattle.irc_server.specs.LinesThatSet.{SettingRead, if_channel, member_nick, unless_wrong}

-- a line of changes of a channel, once these are read
abbrev pub changes_read : Room → Reader → (server channel : List ℕ) → List ModeChange → SettingRead
changes_read room reader server channel changes =
    unless_wrong true (may_come reader server) (is_channel channel && are_members_named changes)
    (if_channel room channel (setting.Modes server channel changes))

-- who is taken out of a channel, where it is a member
abbrev pub removal_of : Room → (server channel nick text : List ℕ) → Option Setting
removal_of room server channel nick text =
    option_map (λ member. setting.Removal server channel member text)
    (member_nick room channel nick)

-- why a line of a link is refused, if it is
abbrev pub fault_at : Option View → ℕ → Option ServerFault
fault_at None link = Some Failed
fault_at (Some view) link = no_link (get view.ends link)
