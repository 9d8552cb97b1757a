-- What a line of a connection does that is not registered (RFC 2812 section 3.1).
use Rattle.std.specs.Prelude.{ℕ, true, false, not, Option, Some, None, List, [], ◌∷◌, codes}
use Rattle.std.specs.Prelude.{unwrap_or, if◌then◌else◌, Bool}
use Rattle.irc_names.specs.Names.{is_nick}
use Rattle.irc_line.specs.Messages.{Parsed}
use Rattle.irc_names.specs.UserTexts.{clean_user, cut_real}
use Rattle.irc_users.specs.declared.user.User.{User}
use Rattle.irc_users.specs.UserTable.{new_user}
use Rattle.irc_numerics.specs.declared.replies.Reply.TheVariants.{Welcome, YourHost, Created}
use Rattle.irc_numerics.specs.declared.replies.Reply.TheVariants.{MyInfo, NoMotd, NoNicknameGiven}
use Rattle.irc_numerics.specs.declared.replies.Reply.TheVariants.{ErroneousNickname, NicknameInUse}
use Rattle.irc_numerics.specs.declared.replies.Reply.TheVariants.{NotRegistered, NeedMoreParams}
use Rattle.irc_room.specs.effect.Effect.TheVariants.{AddUser}
use Rattle.irc_room.specs.Room.{Room}
use Rattle.irc_room.specs.Effects.{has_user}
use Rattle.irc_routes.specs.Place.{Place}
use Rattle.irc_acts.specs.declared.act.Act.{Act}
use Rattle.irc_acts.specs.declared.act.Act.TheVariants.{Answer, Raw, Do}
use Rattle.irc_commands.specs.declared.pending.Pending.{Pending}
use Rattle.irc_commands.specs.declared.command_names.Command.{Command}
use Rattle.irc_commands.specs.declared.command_names.Command.TheVariants as command
use Rattle.irc_acts.specs.Acts.{bytes_kept, client_words}
use Rattle.irc_acts.specs.Marks.{asterisk}
use Rattle.irc_commands.specs.Ping.{ping_steps}
use Rattle.irc_acts.specs.Words.{reason_given}
use Rattle.irc_commands.specs.CommandNames.{command_of}
use Rattle.irc_commands.specs.OwnLines.{is_from}
use Rattle.irc_commands.specs.Closing.{error_line}

-- What comes of a line of a connection that is not registered: what it has given so far, the steps
-- that are taken, whether it is registered by this, and whether it is closed behind these steps.
pub record Registered : Type 0 where
  pub pending : Pending
  pub steps : List Act
  pub registered : Bool
  pub close : Bool

-- the name that replies are sent to: the nickname chosen so far, or `*`
abbrev pub reply_name : Pending → List ℕ
reply_name pending = unwrap_or pending.nick (asterisk ∷ [])

-- these steps, and nothing else changes
abbrev pub replies : Pending → List Act → Registered
replies pending steps =
    record { pending = pending; steps = steps; registered = false; close = false }

-- the user that a connection becomes, at home here
abbrev pub user_of : Place → Pending → List ℕ → List ℕ → User
user_of place pending nickname username =
    new_user nickname username pending.host pending.real place.name

-- what a new user is told of the server
abbrev pub server_told : Place → List Act
server_told place = Answer (YourHost place.name) ∷ Answer (Created (bytes_kept place.about.created))
    ∷ Answer (MyInfo place.name) ∷ Answer NoMotd ∷ []

-- the user is added, and welcomed (RFC 2812 section 5.1)
abbrev pub welcomed : Place → User → List Act
welcomed place member =
    Do (AddUser member) ∷ Answer (Welcome member.nick member.user member.host) ∷ server_told place

-- Once nickname and user name are there the connection is registered, unless a registered user has
-- the nickname by now: then it has none.
abbrev pub completed : Room → Place → Pending → Option (List ℕ) → Option (List ℕ) → Registered
completed room place pending (Some nickname) (Some username) =
    if has_user room nickname
    then replies (record pending { nick = None }) (Answer (NicknameInUse nickname) ∷ [])
    else record {
      pending = pending;
      steps = welcomed place
          (user_of place pending nickname username);
      registered = true;
      close = false;
    }
completed room place pending nickname username = replies pending []

abbrev pub complete : Room → Place → Pending → Registered
complete room place pending = completed room place pending pending.nick pending.user

-- a nickname is in use only by a registered user
abbrev pub nick_chosen : Room → Place → Pending → List ℕ → Registered
nick_chosen room place pending nickname =
    if not (is_nick nickname)
    then replies pending (Answer (ErroneousNickname (client_words nickname)) ∷ [])
    else if has_user room nickname then replies pending (Answer (NicknameInUse nickname) ∷ [])
    else complete room place (record pending { nick = Some nickname })

-- a NICK that gives no nickname, or an empty one, chooses none (RFC 2812 section 3.1.2)
abbrev pub nick_row : Room → Place → Pending → List (List ℕ) → Registered
nick_row room place pending [] = replies pending (Answer NoNicknameGiven ∷ [])
nick_row room place pending ([] ∷ more) = replies pending (Answer NoNicknameGiven ∷ [])
nick_row room place pending ((b ∷ bytes) ∷ more) = nick_chosen room place pending (b ∷ bytes)

-- an earlier USER is replaced
abbrev pub user_row : Room → Place → Pending → List (List ℕ) → Registered
user_row room place pending (username ∷ mode ∷ unused ∷ real ∷ more) =
    complete room place (record pending { user = Some (clean_user username); real = cut_real real })
user_row room place pending fewer =
    replies pending (Answer (NeedMoreParams (client_words (codes "USER"))) ∷ [])

-- whoever is not registered yet may leave, and no user hears of it
abbrev pub quit_row : Pending → List (List ℕ) → Registered
quit_row pending params =
    record {
      pending = pending;
      steps = Raw (bytes_kept (error_line (reason_given params (reply_name pending)))) ∷ [];
      registered = false;
      close = true;
    }

-- by the command: these alone are served before registration
abbrev pub pending_row_of : Room → Place → Pending → List (List ℕ) → Option Command → Registered
pending_row_of room place pending params (Some command.Pass) = replies pending []
pending_row_of room place pending params (Some command.Pong) = replies pending []
pending_row_of room place pending params (Some command.Nick) = nick_row room place pending params
pending_row_of room place pending params (Some command.User) = user_row room place pending params
pending_row_of room place pending params (Some command.Ping) =
    replies pending (ping_steps place params)
pending_row_of room place pending params (Some command.Quit) = quit_row pending params
pending_row_of room place pending params other = replies pending (Answer NotRegistered ∷ [])

-- the row that a line fits
abbrev pub pending_row : Room → Place → Pending → Parsed → Registered
pending_row room place pending message =
    pending_row_of room place pending message.params
    (command_of place.about.programs message.command)

-- what comes of a line before registration; one that names another sender is ignored
unfoldable pub register : Room → Place → Pending → Parsed → Registered
register room place pending message = if is_from message.prefix pending.nick
    then pending_row room place pending message else replies pending []
