-- What is decided can be sent: each server that reads the line that tells of an effect gets just
-- this effect (RFC 2813 section 4).
use Rattle.std.specs.Prelude.{ℕ, ◌≤◌, ⊤, Bool, List, length}
use Rattle.std.specs.List.{AllByRecursion}
use Rattle.std.specs.Option.{IfSome}
use Rattle.irc_line.specs.Carried.{IsCarried}
use Rattle.irc_line.specs.Limits.{max_line}
use Rattle.irc_line.specs.Messages.{joined_text}
use Rattle.irc_names.specs.Fold.{key}
use Rattle.irc_names.specs.Tables.{row}
use Rattle.irc_modes.specs.Readable.{AreReadable}
use Rattle.irc_modes.specs.declared.modes.ModeChange.{ModeChange}
use Rattle.irc_room.specs.effect.Target.{Target}
use Rattle.irc_room.specs.effect.Effect.{Effect}
use Rattle.irc_room.specs.effect.Effect.TheVariants.{Part, Kick, ChangeModes, SetTopic, Say}
use Rattle.irc_room.specs.effect.Effect.TheVariants.{ChangeUser}
use Rattle.irc_room.specs.InTurn.{EachInTurn}
use Rattle.irc_room.specs.Limits.{IsCarriedText, IsChangeWithin}
use Rattle.irc_room.specs.Room.{Room}
use Rattle.irc_room.specs.Sendable.{IsSendable, IsSentChange, said_parts}
use Rattle.irc_acts.specs.declared.act.Act.{Act}
use Rattle.irc_acts.specs.Acts.{effects_among}

-- each effect of these steps can be sent in the room that those before it have left
abbrev pub AreSendable : Room → List Act → Type 0
AreSendable room acts = EachInTurn IsSendable room (effects_among acts)

-- ---- what such an effect carries beside the names of who is there

-- a text that is so short that its line is cut nowhere
pub record IsShortText (room : Room) (by : List ℕ) (notice : Bool) (to : Target)
    (text : List ℕ) : Type 0 where
  pub text_carried : IsCarried text
  pub line_fits : IfSome (row room.users (key by))
      (λ user. length (joined_text (said_parts user notice to text)) ≤ max_line)

-- changes that are read again as they are written
pub record AreSentWhole (room : Room) (changes : List ModeChange) : Type 0 where
  pub changes_readable : AreReadable changes
  pub words_sent : AllByRecursion (IsSentChange room) changes

-- the texts and the changes that an effect carries can be sent, and what a user sets of itself
-- keeps its limit
abbrev pub CarriesSendable : Room → Effect → Type 0
CarriesSendable room (Part nick channel text) = IsCarriedText text
CarriesSendable room (Kick by channel nick text) = IsCarriedText text
CarriesSendable room (ChangeModes by channel changes) = AreSentWhole room changes
CarriesSendable room (SetTopic by channel text) = IsCarriedText text
CarriesSendable room (Say by notice to text) = IsShortText room by notice to (text.items)
CarriesSendable room (ChangeUser nick change) = IsChangeWithin change
CarriesSendable room other = ⊤

abbrev pub CarrySendable : Room → List Act → Type 0
CarrySendable room acts = EachInTurn CarriesSendable room (effects_among acts)
