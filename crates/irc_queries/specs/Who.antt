-- WHO.
use Rattle.std.specs.Prelude.{ℕ, Bool, false, ◌&&◌, ◌||◌, Option, Some, None, List, [], ◌∷◌, ◌++◌}
use Rattle.std.specs.Prelude.{codes, map, filter, nat_eq, if◌then◌else◌}
use Rattle.std.specs.Cmp.Lexicographic.{pointwise}
use Rattle.std.specs.List.{filter_map}
use Rattle.std.specs.Option.{option_and_then, option_map_or}
use Rattle.std.specs.FinMap.{entries, values}
use Rattle.irc_names.specs.Fold.{key}
use Rattle.irc_names.specs.Tables.{row}
use Rattle.irc_users.specs.declared.user.User.{User}
use Rattle.irc_users.specs.UserTable.{is_found_by}
use Rattle.irc_channels.specs.declared.flags.Flags.{Flags}
use Rattle.irc_channels.specs.declared.channel.Channel.{Channel}
use Rattle.irc_numerics.specs.declared.replies.MemberMark.{MemberMark}
use Rattle.irc_numerics.specs.declared.replies.MemberMark.TheVariants.{Plain}
use Rattle.irc_numerics.specs.declared.replies.Reply.TheVariants.{WhoReply, EndOfWho}
use Rattle.irc_room.specs.Room.{Room}
use Rattle.irc_routes.specs.Place.{Place, server_named}
use Rattle.irc_acts.specs.declared.act.Act.{Act}
use Rattle.irc_acts.specs.declared.act.Act.TheVariants.{Answer}
use Rattle.irc_acts.specs.Acts.{client_words}
use Rattle.irc_acts.specs.Away.{is_shown_away}
use Rattle.irc_acts.specs.Marks.{asterisk}
use Rattle.irc_acts.specs.Standing.{is_known, is_seen, mark_of}
use Rattle.irc_acts.specs.Words.{names_channel}

-- how many links away the server of a name is
abbrev pub hops_to : Place → List ℕ → ℕ
hops_to place home = option_map_or (λ server. server.distance) (server_named place home) 0

-- a user, whether it is shown as being away, and what it is in the channel that was asked for, if
-- one was
abbrev pub user_line : Place → Option (List ℕ) → MemberMark → User → Act
user_line place channel mark user =
    Answer (WhoReply channel user.user user.host user.home user.nick
    (is_shown_away place.about.programs user) mark (hops_to place user.home) user.real)

-- a member of a channel, where it is seen
abbrev pub member_if_seen : Place → (User → Bool) → Channel → Flags → User → Option Act
member_if_seen place seen channel flags user =
    if seen user then Some (user_line place (Some channel.name) (mark_of flags) user) else None

-- a row of a channel's members, by the user whose it is
abbrev pub member_line : Room → Place → (User → Bool) → Channel → List ℕ × Flags → Option Act
member_line room place seen channel member =
    option_and_then (member_if_seen place seen channel member.1) (row room.users member.0)

-- the members of a channel that is there and known, in folded order
abbrev pub replies_of_members : Room → Place → (User → Bool) → User → Option Channel → List Act
replies_of_members room place seen me None = []
replies_of_members room place seen me (Some channel) =
    if is_known me channel
    then filter_map (member_line room place seen channel) (entries channel.members)
    else []

-- all users, or those whose nickname, host, server or real name a mask matches
abbrev pub is_asked_for : List ℕ → User → Bool
is_asked_for mask user = pointwise nat_eq mask (codes "0") || is_found_by mask user

-- those of some users that are asked for and seen
abbrev pub replies_of_users : Place → (User → Bool) → List ℕ → List User → List Act
replies_of_users place seen mask users =
    map (user_line place None Plain) (filter (λ user. is_asked_for mask user && seen user) users)

-- what is told to one who sees these users
abbrev pub replies_of_seen : Room → Place → (User → Bool) → User → List ℕ → List Act
replies_of_seen room place seen me asked =
    if names_channel asked
    then replies_of_members room place seen me (row room.channels (key asked))
    else replies_of_users place seen asked (values room.users)

abbrev pub who_replies : Room → Place → User → List ℕ → List Act
who_replies room place me asked = replies_of_seen room place (λ user. is_seen room me user) me asked

-- whether operators of the network alone are asked for; there are none
abbrev pub asks_for_operators : List (List ℕ) → Bool
asks_for_operators [] = false
asks_for_operators (word ∷ more) = pointwise nat_eq word (codes "o")

-- the end names what was asked for
abbrev pub end_of_who : List ℕ → Act
end_of_who asked = Answer (EndOfWho (client_words asked))

-- What a WHO does (RFC 2812 section 3.6.1): a 0, or no parameter, asks for all users.
unfoldable pub who_steps : Room → Place → User → List (List ℕ) → List Act
who_steps room place me [] =
    who_replies room place me (codes "0") ++ end_of_who (asterisk ∷ []) ∷ []
who_steps room place me (asked ∷ more) = (if asks_for_operators more then []
    else who_replies room place me asked) ++ end_of_who asked ∷ []
