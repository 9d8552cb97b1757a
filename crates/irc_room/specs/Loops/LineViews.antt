-- What the code's lines say.
use Rattle.std.specs.Prelude.{◌≡◌, ⊤, if◌then◌else◌, ℕ, Bool, true, false, Option, Some, None, List}
use Rattle.std.specs.Prelude.{◌∷◌, codes}
use Rattle.std.specs.Option.{option_copied, option_map}
use Rattle.arrayvec.specs.ArrayVec.{ArrayVec}
use Rattle.irc_line.specs.Messages.{Sender, Written}
use Rattle.irc_line.specs.declared.writing.Prefix.{Prefix}
use Rattle.irc_line.specs.PartViews.{sender}
use Rattle.irc_modes.specs.declared.modes.ModeChange.{ModeChange}
use Rattle.irc_names.specs.Fold.{key}
use Rattle.irc_names.specs.Tables.{row}
use Rattle.irc_room.specs.declared.named.Named.{Named}
use Rattle.irc_effects.specs.declared.effect.Target.{Target}
use Rattle.irc_effects.specs.declared.effect.Target.TheVariants as target
use Rattle.irc_effects.specs.Room.{Room}
use Rattle.irc_effects.specs.Seen.{changes_words, line_from, shown_line}
use Rattle.irc_users.specs.declared.user.User.{User}
use Rattle.irc_effects.specs.declared.effect.Effect.{Effect}
use Rattle.irc_effects.specs.declared.effect.Effect.TheVariants.{Join, Part, Kick, ChangeModes}
use Rattle.irc_effects.specs.declared.effect.Effect.TheVariants.{SetTopic}
use Rattle.irc_effects.specs.declared.effect.Effect.TheVariants.{Invite}

-- the bytes of a line, if it was written
abbrev pub line_if : Bool → ArrayVec ℕ → Option (List ℕ)
line_if true line = Some line.items
line_if false line = None

-- the parameters of a line of changes of a channel's modes
abbrev pub mode_params : Room → List ℕ → List ModeChange → List (List ℕ)
mode_params room channel changes = channel ∷ changes_words room changes

-- the parts of a line of changes of a channel's modes
abbrev pub mode_parts : Room → Sender → List ℕ → List ModeChange → Written
mode_parts room sender channel changes = record {
  sender = sender;
  command = codes "MODE";
  middle = mode_params room channel changes;
  last = None;
}

-- the line with these parts is written, where there is somebody who sends it
abbrev pub Writes : Bool → ArrayVec ℕ → Option Prefix → List ℕ → List (List ℕ) → Option (List ℕ)
    → Type 0
Writes there line doer command middle last =
    line_if there line ≡ line_from command middle last (option_map sender doer)

-- the command of a text that is said, and the word of a change of mode i
abbrev pub say_command : Bool → List ℕ
say_command notice = if notice then codes "NOTICE" else codes "PRIVMSG"

abbrev pub invisible_word : Bool → List ℕ
invisible_word invisible = if invisible then codes "+i" else codes "-i"

-- the line that an effect shows to each viewer of one server
abbrev pub ShowsAt : Room → Effect → List ℕ → Option (List ℕ) → Type 0
ShowsAt room effect home line =
    (viewer : User) → viewer.home ≡ home → shown_line room effect viewer ≡ line

-- the line that an effect shows to each viewer
abbrev pub ShowsAll : Room → Effect → Option (List ℕ) → Type 0
ShowsAll room effect line = (viewer : User) → shown_line room effect viewer ≡ line

-- an effect that only a user brings about
abbrev pub IsByUser : Effect → Type 0
IsByUser (ChangeModes by channel changes) = ⊥
IsByUser (SetTopic by channel text) = ⊥
IsByUser effect = ⊤

-- one that names no channel, but for what is said in it
abbrev pub IsOfUsers : Effect → Type 0
IsOfUsers (Join nick channel op) = ⊥
IsOfUsers (Part nick channel text) = ⊥
IsOfUsers (Kick by channel nick text) = ⊥
IsOfUsers (Invite by nick channel) = ⊥
IsOfUsers effect = IsByUser effect

-- whom a text is for was found, where it is there
abbrev pub IsTargeted : Room → Target → Named → Type 0
IsTargeted room (target.User nick) named = option_copied named.other ≡ row room.users (key nick)
IsTargeted room (target.Channel channel) named =
    option_copied named.channel ≡ row room.channels (key channel)
