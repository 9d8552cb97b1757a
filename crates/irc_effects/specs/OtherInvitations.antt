-- Rooms that are alike but for who is invited. Nothing else in them, and nothing that an effect
-- shows or does, differs.
use Rattle.std.specs.Prelude.{◌≡◌, ◌↔◌, ℕ, Bool, List}
use Rattle.std.specs.Option.{option_map}
use Rattle.std.specs.FinMap.{empty}
use Rattle.irc_names.specs.Tables.{row}
use Rattle.irc_channels.specs.declared.channel.Channel.{Channel}
use Rattle.irc_effects.specs.declared.effect.Effect.{Effect}
use Rattle.irc_effects.specs.Room.{Room}
use Rattle.irc_effects.specs.Effects.{has_user, has_channel, is_member, is_idle, brings_free}
use Rattle.irc_effects.specs.Effects.{IsPossible}
use Rattle.irc_effects.specs.After.{after}
use Rattle.irc_effects.specs.Seen.{seen}
use Rattle.irc_effects.specs.Applying.{missing_fault, room_fault, does}
use Rattle.irc_effects.specs.Invitations.{of_home}
use Rattle.irc_effects.specs.Viewers.{shows_to}

-- a channel as it is but for its invitations
abbrev pub uninviting : Channel → Channel
uninviting channel = record channel { invited = empty }

pub record AreAlike (room other : Room) : Type 0 where
  pub users : room.users ≡ other.users
  pub channels : (fold : List ℕ) → option_map uninviting (row room.channels fold)
      ≡ option_map uninviting (row other.channels fold)

-- a room is such with the invitations of one server's users alone
abbrev pub HomeIsAlike : Type 0
HomeIsAlike = (home : List ℕ) (room : Room) → AreAlike (of_home home room) room

-- who and what is there
pub record HaveAlike (room other : Room) : Type 0 where
  pub user : (nick : List ℕ) → has_user room nick ≡ has_user other nick
  pub channel : (name : List ℕ) → has_channel room name ≡ has_channel other name
  pub member : (nick name : List ℕ) → is_member room nick name ≡ is_member other nick name

abbrev pub AlikeHaveAlike : Type 0
AlikeHaveAlike = (room other : Room) → AreAlike room other → HaveAlike room other

-- what an effect is there: possible, idle, refused, doing something, and what it shows
pub record IsTakenAlike (room other : Room) (effect : Effect) : Type 0 where
  pub free : brings_free room effect ≡ brings_free other effect
  pub possible : IsPossible room effect ↔ IsPossible other effect
  pub idle : is_idle room effect ≡ is_idle other effect
  pub missing : missing_fault room effect ≡ missing_fault other effect
  pub fault : (own : List ℕ) (failed : Bool)
      → room_fault (record { own = own; failed = failed; room = room }) effect
      ≡ room_fault (record { own = own; failed = failed; room = other }) effect
  pub does : does room effect ≡ does other effect
  pub seen : seen room effect ≡ seen other effect
  pub shows : (nick : List ℕ) → shows_to room effect nick ≡ shows_to other effect nick

abbrev pub AlikeTakeAlike : Type 0
AlikeTakeAlike = (room other : Room) (effect : Effect) → AreAlike room other
    → IsTakenAlike room other effect

-- whatever an effect makes of two such rooms, they are alike then
abbrev pub AlikeStayAlike : Type 0
AlikeStayAlike = (room other : Room) (effect : Effect) → AreAlike room other
    → AreAlike (after room effect) (after other effect)
