-- What is written on a link of an effect (RFC 2813 section 4). Users and channels that are there
-- are written as stored, and the line is from a nickname or from a server alone. It is the same
-- line for every link.
--
-- What a.net writes; bo is a user of b.net, one link away, to which a.net has given the number 2:
--   a user comes    `NICK bo 2 u b.example 2 + :Bo`    the distance is the reader's, one more than
--                                                      a.net's own; the number is a.net's
--                   `NICK al 1 u a.example 1 +i :Al`   a user of a.net itself, whose number is
--                                                      always 1, with mode i
--   of a user       `:bo NICK by`, `:bo QUIT :gone`    from the nickname alone, where clients see
--                                                      nick!user@host
--                   `:bo MODE bo -i`
--   of a channel    `:bo JOIN #c^Go`                   the byte 7 and `o` behind the name: bo
--                                                      becomes an operator
--                   `:bo PART #c :gone`, `:bo KICK #c al :out`
--                   `:bo MODE #c +o-v al cy`           letters, then words; `AL` would be written
--                                                      `al`, as that user is stored
--                   `:bo TOPIC #c :x`                  of a.net itself it is `:a.net TOPIC #c :x`
--   a text          `:bo PRIVMSG #c :hi`, `:bo NOTICE al :hi`
--                   `:bo INVITE al #c`
use Rattle.std.specs.Prelude.{ℕ, suc, Option, Some, None, List, [], ◌∷◌, codes, decimal, unwrap_or}
use Rattle.std.specs.Prelude.{if◌then◌else◌}
use Rattle.irc_line.specs.Messages.{Written, nobody, named}
use Rattle.irc_users.specs.declared.user.User.{User}
use Rattle.irc_users.specs.declared.user_change.UserChange.{UserChange}
use Rattle.irc_room.specs.effect.By.{By}
use Rattle.irc_room.specs.effect.By.TheVariants as by
use Rattle.irc_room.specs.effect.Effect.{Effect}
use Rattle.irc_room.specs.effect.Effect.TheVariants.{AddUser, Rename, Quit, Join, Part, Kick}
use Rattle.irc_room.specs.effect.Effect.TheVariants.{ChangeModes, SetTopic, Say, Invite, ChangeUser}
use Rattle.irc_room.specs.Room.{Room}
use Rattle.irc_room.specs.Seen.{stored_nick, stored_channel, target_name, changes_words}
use Rattle.irc_routes.specs.Known.{Known, distance_of, token_out}
use Rattle.irc_link_words.specs.UserChanges.{change_letters, change_text}
use Rattle.irc_link_words.specs.Words.{with_i, no_mode, marked}

-- a line from a nickname or from a server
abbrev pub from : List ℕ → List ℕ → List (List ℕ) → Option (List ℕ) → Written
from name command middle last =
    record { sender = named name; command = command; middle = middle; last = last }

-- who changes a channel: a user, or the server itself
abbrev pub by_name : Room → Known → By → List ℕ
by_name room known (by.User nick) = stored_nick room nick
by_name room known by.Home = known.name

-- how far away a reader is that is one link further from a server than the writer
abbrev pub next_distance : Known → List ℕ → ℕ
next_distance known home = suc (unwrap_or (distance_of known home) 0)

-- The number that stands for a server. One that is not known has the number 0, which is nobody's,
-- and which every reader refuses.
abbrev pub written_token : Known → List ℕ → ℕ
written_token known home = unwrap_or (token_out known home) 0

-- a user is introduced (RFC 2813 section 4.1.3)
abbrev pub introduction : Known → User → Written
introduction known user = record {
  sender = nobody;
  command = codes "NICK";
  middle =
      user.nick ∷ decimal (next_distance known user.home) ∷ user.user ∷ user.host ∷ decimal
      (written_token known user.home)
      ∷ (if user.invisible then with_i else no_mode) ∷ [];
  last = Some user.real;
}

-- what the user of a nickname changes of itself
abbrev pub wire_change : List ℕ → UserChange → Written
wire_change nick change =
    from nick (codes "MODE") (nick ∷ change_letters change ∷ []) (change_text change)

abbrev pub wire : Room → Known → Effect → Written
wire room known (AddUser user) = introduction known user
wire room known (Rename nick new) = from (stored_nick room nick) (codes "NICK") (new ∷ []) None
wire room known (Quit nick text) = from (stored_nick room nick) (codes "QUIT") [] (Some text)
wire room known (Join nick channel op) =
    from (stored_nick room nick) (codes "JOIN") (marked (stored_channel room channel) op ∷ []) None
wire room known (Part nick channel text) =
    from (stored_nick room nick) (codes "PART") (stored_channel room channel ∷ []) (Some text)
wire room known (Kick by channel nick text) =
    from (stored_nick room by) (codes "KICK")
    (stored_channel room channel ∷ stored_nick room nick ∷ []) (Some text)
wire room known (ChangeModes by channel changes) =
    from (by_name room known by) (codes "MODE")
    (stored_channel room channel ∷ changes_words room changes) None
wire room known (SetTopic by channel topic) =
    from (by_name room known by) (codes "TOPIC") (stored_channel room channel ∷ []) (Some topic)
wire room known (Say by notice to text) =
    from (stored_nick room by) (if notice then codes "NOTICE" else codes "PRIVMSG")
    (target_name room to ∷ []) (Some (text.items))
wire room known (Invite by nick channel) =
    from (stored_nick room by) (codes "INVITE")
    (stored_nick room nick ∷ stored_channel room channel ∷ []) None
wire room known (ChangeUser nick change) = wire_change (stored_nick room nick) change
