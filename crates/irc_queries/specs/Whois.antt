-- WHOIS.
use Rattle.std.specs.Prelude.{ℕ, Option, Some, None, List, [], ◌∷◌, ◌++◌, map, if◌then◌else◌}
use Rattle.std.specs.List.{filter_map, flat_map}
use Rattle.std.specs.Option.{option_map, option_map_or}
use Rattle.irc_names.specs.Fold.{key}
use Rattle.irc_names.specs.Tables.{row}
use Rattle.irc_users.specs.declared.user.User.{User}
use Rattle.irc_channels.specs.declared.flags.Flags.{Flags}
use Rattle.irc_channels.specs.declared.channel.Channel.{Channel}
use Rattle.irc_numerics.specs.Limits.{max_whois_channels}
use Rattle.irc_numerics.specs.declared.replies.OnChannel.{OnChannel}
use Rattle.irc_numerics.specs.declared.replies.Reply.TheVariants.{NoNicknameGiven, NoSuchNick}
use Rattle.irc_numerics.specs.declared.replies.Reply.TheVariants.{WhoisUser, WhoisServer}
use Rattle.irc_numerics.specs.declared.replies.Reply.TheVariants.{WhoisChannels, EndOfWhois}
use Rattle.irc_room.specs.Room.{Room}
use Rattle.irc_routes.specs.Place.{Place, server_named}
use Rattle.irc_acts.specs.declared.act.Act.{Act}
use Rattle.irc_acts.specs.declared.act.Act.TheVariants.{Answer}
use Rattle.irc_acts.specs.Acts.{bytes_kept, client_words}
use Rattle.irc_acts.specs.Away.{away_told}
use Rattle.irc_acts.specs.CommaLists.{entries}
use Rattle.irc_acts.specs.Moves.{own_channels}
use Rattle.irc_acts.specs.Standing.{is_listed, mark_of}
use Rattle.irc_acts.specs.Names.{in_lines}

-- how the server of a name describes itself
abbrev pub info_of : Place → List ℕ → List ℕ
info_of place home = option_map_or (λ server. server.info) (server_named place home) []

-- a channel of a user, with what the user is there
abbrev pub placed_in : Channel → Flags → OnChannel
placed_in channel flags = record { mark = mark_of flags; channel = channel.name }

-- such a channel, where it is listed for the asker
abbrev pub place_in : User → User → Channel → Option OnChannel
place_in me user channel = if is_listed me channel
    then option_map (placed_in channel) (row channel.members (key user.nick)) else None

-- the channels of a user that are listed for the asker, in folded order
abbrev pub places : Room → User → User → List OnChannel
places room me user = filter_map (place_in me user) (own_channels room user)

-- one line of a user's channels, which may take several
abbrev pub channels_line : User → List OnChannel → Act
channels_line user channels = Answer (WhoisChannels user.nick (record { items = channels }))

-- what a user says of itself, its server, that it is away where that is shown, and its channels;
-- where none is listed there is no line of them
abbrev pub whois_replies : Room → Place → User → User → List Act
whois_replies room place me user =
    Answer (WhoisUser user.nick user.user user.host user.real)
    ∷ Answer (WhoisServer user.nick user.home (bytes_kept (info_of place user.home)))
    ∷ away_told place.about.programs user
    ++ map (channels_line user) (in_lines max_whois_channels (places room me user))

-- what is told of the user that was found under a nickname, if one was
abbrev pub told_if_there : Room → Place → User → List ℕ → Option User → List Act
told_if_there room place me name None = Answer (NoSuchNick (client_words name)) ∷ []
told_if_there room place me name (Some user) = whois_replies room place me user

-- what is told of one nickname that is asked for
abbrev pub told_of_one : Room → Place → User → List ℕ → List Act
told_of_one room place me name = told_if_there room place me name (row room.users (key name))

-- of each nickname of a comma list; one end stands behind all
abbrev pub told_of_list : Room → Place → User → List ℕ → List Act
told_of_list room place me list = flat_map (told_of_one room place me) (entries list)
    ++ Answer (EndOfWhois (client_words list)) ∷ []

-- what a WHOIS does (RFC 2812 section 3.6.2); of two parameters the first names a server, which
-- makes no difference
unfoldable pub whois_steps : Room → Place → User → List (List ℕ) → List Act
whois_steps room place me [] = Answer NoNicknameGiven ∷ []
whois_steps room place me (list ∷ []) = told_of_list room place me list
whois_steps room place me (server ∷ list ∷ more) = told_of_list room place me list
