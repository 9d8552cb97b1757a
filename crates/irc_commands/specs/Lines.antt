-- Lines of a client, and what they do, in small rooms (RFC 2812 section 3).
use Rattle.std.specs.Prelude.{◌≡◌, ℕ, true, false, Option, Some, None, List, [], ◌∷◌, codes}
use Rattle.std.specs.FinMap.{empty}
use Rattle.irc_names.specs.Fold.{key}
use Rattle.irc_names.specs.Tables.{alter}
use Rattle.irc_line.specs.Messages.{Parsed}
use Rattle.irc_users.specs.declared.user.User.{User}
use Rattle.irc_users.specs.UserTable.{new_user}
use Rattle.irc_channels.specs.declared.channel.Channel.{Channel}
use Rattle.irc_modes.specs.Modes.{no_modes}
use Rattle.irc_numerics.specs.declared.replies.Reply.TheVariants.{NoSuchNick, CannotSendToChan}
use Rattle.irc_numerics.specs.declared.replies.Reply.TheVariants.{TooManyTargets, UnknownCommand}
use Rattle.irc_numerics.specs.declared.replies.Reply.TheVariants.{NotRegistered, NicknameInUse}
use Rattle.irc_numerics.specs.declared.replies.Reply.TheVariants.{Away}
use Rattle.irc_room.specs.effect.Target.TheVariants as target
use Rattle.irc_room.specs.effect.Effect.TheVariants.{Quit, Say}
use Rattle.irc_room.specs.Room.{Room}
use Rattle.irc_routes.specs.About.{says, serves}
use Rattle.irc_routes.specs.declared.programs.Programs.TheVariants as programs
use Rattle.irc_routes.specs.Place.{Place, alone}
use Rattle.irc_acts.specs.declared.act.Act.{Act}
use Rattle.irc_acts.specs.declared.act.Act.TheVariants.{Answer, Raw, Do}
use Rattle.irc_commands.specs.declared.pending.Pending.{Pending}
use Rattle.irc_acts.specs.Acts.{bytes_kept, client_words}
use Rattle.irc_commands.specs.Decisions.{nothing, does}
use Rattle.irc_commands.specs.Decide.{decide}
use Rattle.irc_commands.specs.Register.{register, replies}

-- al on a.net, alone
abbrev pub al : User
al = new_user (codes "al") (codes "u") (codes "h") (codes "Al") (codes "a.net")

abbrev pub al_alone : Room
al_alone = record { users = alter (key (codes "al")) (λ _. Some al) empty; channels = empty }

abbrev pub a_net : Place
a_net = alone (codes "a.net") (says (codes "Test server") (codes "2024-01-01"))

abbrev pub line : List ℕ → List (List ℕ) → Parsed
line command params = record { prefix = None; command = command; params = params }

-- al says something to itself
abbrev pub to_itself : Act
to_itself = Do (Say (codes "al") false (target.User (codes "al")) (bytes_kept (codes "x")))

abbrev pub bo : User
bo = new_user (codes "bo") (codes "u") (codes "h") (codes "Bo") (codes "a.net")

-- a channel with mode n, whose only member is al
abbrev pub als_channel : Channel
als_channel = record {
  name = codes "#Rust";
  modes = record no_modes { no_outside = true };
  topic = [];
  members = alter (key (codes "al")) (λ _. Some (record { op = false; voice = false })) empty;
  invited = empty;
}

-- al and bo on a.net, and that channel
abbrev pub with_channel : Room
with_channel = record {
  users = alter (key (codes "bo")) (λ _. Some bo) al_alone.users;
  channels = alter (key (codes "#Rust")) (λ _. Some als_channel) empty;
}

abbrev pub to_channel_line : Parsed
to_channel_line = line (codes "PRIVMSG") (codes "#RUST" ∷ codes "hi" ∷ [])

-- what a member says to its channel is said to the channel as stored
abbrev pub MemberIsHeard : Type 0
MemberIsHeard = decide with_channel a_net (codes "al") to_channel_line
    ≡ does (Do (Say (codes "al") false (target.Channel (codes "#Rust")) (bytes_kept (codes "hi")))
    ∷ [])

-- an outsider is kept out under mode n
abbrev pub OutsiderIsKeptOut : Type 0
OutsiderIsKeptOut = decide with_channel a_net (codes "bo") to_channel_line
    ≡ does (Answer (CannotSendToChan (codes "#Rust")) ∷ [])

-- whoever is not there is named as it was given
abbrev pub UnknownTarget : Type 0
UnknownTarget =
    decide al_alone a_net (codes "al") (line (codes "PRIVMSG") (codes "bo" ∷ codes "hi" ∷ []))
    ≡ does (Answer (NoSuchNick (client_words (codes "bo"))) ∷ [])

-- four targets are served, and a fifth is too many
abbrev pub FifthTarget : Type 0
FifthTarget = decide al_alone a_net (codes "al")
    (line (codes "privmsg") (codes "al,al,al,al,zz" ∷ codes "x" ∷ []))
    ≡ does (to_itself ∷ to_itself ∷ to_itself ∷ to_itself ∷ Answer
    (TooManyTargets (client_words (codes "zz"))) ∷ [])

-- a NOTICE to nobody is not answered
abbrev pub SilentNotice : Type 0
SilentNotice = decide al_alone a_net (codes "al")
    (line (codes "NOTICE") (codes "bo" ∷ codes "hi" ∷ [])) ≡ nothing

-- a QUIT ends with an ERROR line and closes the client
abbrev pub QuitWithText : Type 0
QuitWithText = decide al_alone a_net (codes "al") (line (codes "QUIT") (codes "bye" ∷ []))
    ≡ record {
      steps = Do (Quit (codes "al") (codes "bye")) ∷ Raw
          (bytes_kept (codes "ERROR :Closing link (bye)\r\n")) ∷ [];
      close = true;
    }

-- an unknown command is named as it was given
abbrev pub UnknownWord : Type 0
UnknownWord = decide al_alone a_net (codes "al") (line (codes "FOO") [])
    ≡ does (Answer (UnknownCommand (client_words (codes "FOO"))) ∷ [])

-- a line with the prefix of another is ignored
abbrev pub ForeignPrefix : Type 0
ForeignPrefix = decide al_alone a_net (codes "al") (record {
  prefix = Some (codes "zz");
  command = codes "PING";
  params = codes "x" ∷ [];
}) ≡ nothing

-- a connection that has given nothing
abbrev pub newcomer : Option (List ℕ) → Pending
newcomer nick = record { nick = nick; user = None; real = []; host = codes "h" }

-- other commands have to wait for registration
abbrev pub EarlyJoin : Type 0
EarlyJoin = register al_alone a_net (newcomer None) (line (codes "JOIN") (codes "#c" ∷ []))
    ≡ replies (newcomer None) (Answer NotRegistered ∷ [])

-- a nickname is taken in any case of letters
abbrev pub TakenByFold : Type 0
TakenByFold = register al_alone a_net (newcomer None) (line (codes "NICK") (codes "AL" ∷ []))
    ≡ replies (newcomer None) (Answer (NicknameInUse (codes "AL")) ∷ [])

-- Who chose a nickname before somebody registered with it has none when it completes its own
-- registration.
abbrev pub TakenMeanwhile : Type 0
TakenMeanwhile = register al_alone a_net (newcomer (Some (codes "al")))
    (line (codes "USER") (codes "u" ∷ codes "0" ∷ codes "*" ∷ codes "Xy" ∷ []))
    ≡ replies (record { nick = None; user = Some (codes "u"); real = codes "Xy"; host = codes "h" })
    (Answer (NicknameInUse (codes "al")) ∷ [])

-- a.net with what programs expect, and al alone on it, who is away
abbrev pub a_net_serves : Place
a_net_serves = alone (codes "a.net")
    (serves programs.On (says (codes "Test server") (codes "2024-01-01")))

abbrev pub al_away : User
al_away = record al { set = record { away = Some (codes "at lunch") } }

abbrev pub al_away_alone : Room
al_away_alone =
    record { users = alter (key (codes "al")) (λ _. Some al_away) empty; channels = empty }

-- that a user is away is told behind the text to it
abbrev pub AwayIsTold : Type 0
AwayIsTold = decide al_away_alone a_net_serves (codes "al")
    (line (codes "PRIVMSG") (codes "al" ∷ codes "x" ∷ []))
    ≡ does (to_itself ∷ Answer (Away (codes "al") (codes "at lunch")) ∷ [])

-- a NOTICE is not answered so
abbrev pub NoticeIsNotTold : Type 0
NoticeIsNotTold = decide al_away_alone a_net_serves (codes "al")
    (line (codes "NOTICE") (codes "al" ∷ codes "x" ∷ []))
    ≡ does (Do (Say (codes "al") true (target.User (codes "al")) (bytes_kept (codes "x"))) ∷ [])

-- a server that has not what programs expect has no AWAY, and tells nobody who is away
abbrev pub AwayIsUnknown : Type 0
AwayIsUnknown = decide al_alone a_net (codes "al") (line (codes "AWAY") (codes "at lunch" ∷ []))
    ≡ does (Answer (UnknownCommand (client_words (codes "AWAY"))) ∷ [])

abbrev pub AwayIsHidden : Type 0
AwayIsHidden = decide al_away_alone a_net (codes "al")
    (line (codes "PRIVMSG") (codes "al" ∷ codes "x" ∷ [])) ≡ does (to_itself ∷ [])
