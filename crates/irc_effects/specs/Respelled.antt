-- A room in which the name of a channel was spelled in the greater of two ways: that name is all
-- that is another.
use Rattle.std.specs.Prelude.{◌≡◌, ◌≢◌, ℕ, List, []}
use Rattle.std.specs.Option.{option_map}
use Rattle.irc_names.specs.Fold.{key}
use Rattle.irc_names.specs.Names.{IsChannel}
use Rattle.irc_names.specs.Tables.{row}
use Rattle.irc_channels.specs.declared.channel.Channel.{Channel}
use Rattle.irc_channels.specs.Channels.{respelled}
use Rattle.irc_effects.specs.declared.effect.Effect.{Effect}
use Rattle.irc_effects.specs.Room.{Room, IsWellFormed}
use Rattle.irc_effects.specs.Effects.{IsPossible}
use Rattle.irc_effects.specs.After.{titled_by}
use Rattle.irc_effects.specs.Readers.{flags_at, is_invited_at}
use Rattle.irc_effects.specs.Limits.{IsWithinLimits}
use Rattle.irc_effects.specs.Invitations.{of_home}
use Rattle.irc_effects.specs.OtherInvitations.{AreAlike, HaveAlike}

abbrev pub RespelledIsWellFormed : Type 0
RespelledIsWellFormed = (name : List ℕ) (room : Room) → IsWellFormed room
    → IsWellFormed (titled_by name room)

-- it stays within its limits by a spelling that keeps the rule of names
abbrev pub RespelledIsWithinLimits : Type 0
RespelledIsWithinLimits = (name : List ℕ) (room : Room) → IsChannel name → IsWithinLimits room
    → IsWithinLimits (titled_by name room)

-- what is in the row of the channel, where there is one, and that every other row stays
pub record RowsRespelled (name : List ℕ) (room : Room) : Type 0 where
  pub here : row (titled_by name room).channels (key name)
      ≡ option_map (respelled name) (row room.channels (key name))
  pub elsewhere : (fold : List ℕ) → fold ≢ key name
      → row (titled_by name room).channels fold ≡ row room.channels fold

abbrev pub OneRowRespelled : Type 0
OneRowRespelled = (name : List ℕ) (room : Room) → RowsRespelled name room

-- a channel as it is but for its name
abbrev pub unnamed : Channel → Channel
unnamed channel = record channel { name = [] }

-- Users, and all of each channel but its name, are as they were: so is who is a member, with its
-- flags, and who is invited; and what was possible is so.
pub record StaysButForName (name : List ℕ) (room : Room) : Type 0 where
  pub users : (titled_by name room).users ≡ room.users
  pub channels : (fold : List ℕ)
      → option_map unnamed (row (titled_by name room).channels fold)
      ≡ option_map unnamed (row room.channels fold)
  pub there : HaveAlike (titled_by name room) room
  pub flags : (nick fold : List ℕ)
      → flags_at (titled_by name room) nick fold ≡ flags_at room nick fold
  pub invited : (nick fold : List ℕ)
      → is_invited_at (titled_by name room) nick fold ≡ is_invited_at room nick fold
  pub possible : (effect : Effect) → IsPossible room effect
      → IsPossible (titled_by name room) effect

abbrev pub AllElseStays : Type 0
AllElseStays = (name : List ℕ) (room : Room) → StaysButForName name room

-- the same spelling once more changes nothing
abbrev pub RespelledOnce : Type 0
RespelledOnce = (name : List ℕ) (room : Room)
    → titled_by name (titled_by name room) ≡ titled_by name room

-- what a server has of the room then is what it had, spelled so
abbrev pub HomeIsRespelled : Type 0
HomeIsRespelled = (home name : List ℕ) (room : Room)
    → of_home home (titled_by name room) ≡ titled_by name (of_home home room)

-- two rooms that are alike but for who is invited are so then
abbrev pub AlikeAreRespelledAlike : Type 0
AlikeAreRespelledAlike = (name : List ℕ) (room other : Room) → AreAlike room other
    → AreAlike (titled_by name room) (titled_by name other)
