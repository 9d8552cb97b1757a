-- What looks at no invitation: agreement, a burst, what is read of it, and what the lines of a link
-- do and show. So each server may ask it of what it has of the room, where invitations of other
-- servers' users are missing.
use Rattle.std.specs.Prelude.{◌≡◌, ℕ, Bool, true, ⊤, List}
use Rattle.irc_room.specs.Room.{Room, IsWellFormed}
use Rattle.irc_room.specs.Effects.{IsPossible, brings_free}
use Rattle.irc_room.specs.InTurn.{EachInTurn}
use Rattle.irc_room.specs.Invitations.{of_home, after_at}
use Rattle.irc_room.specs.OtherInvitations.{AreAlike as AreAlikeRooms}
use Rattle.irc_merge.specs.Agreeing.{agree}
use Rattle.irc_merge.specs.Bursts.{burst}
use Rattle.irc_merge.specs.BurstRead.{read_deed, read_all}
use Rattle.irc_merge.specs.Deeds.{Deed, does, brings, titled, effects_of, after_deed, shown_by}

-- two servers, of two halves, find out by what they have whether the halves agree
abbrev pub AgreeLooksAtNoInvitation : Type 0
AgreeLooksAtNoInvitation = (home theirs : List ℕ) (one other : Room) → IsWellFormed one
    → IsWellFormed other
    → agree (of_home home one) (of_home theirs other) ≡ agree one other

-- what a server has of a room is told as all of the room
abbrev pub BurstTellsNoInvitation : Type 0
BurstTellsNoInvitation =
    (server home : List ℕ) (room : Room) → burst server (of_home home room) ≡ burst server room

-- a line of a burst, and all its lines, are read alike in two rooms that differ in who is invited
pub record AreReadAlike (own : List ℕ) (far : List ℕ → Bool) (room other : Room) : Type 0 where
  pub one : (deed : Deed) → read_deed own far room deed ≡ read_deed own far other deed
  pub all : (deeds : List Deed) → read_all own far room deeds ≡ read_all own far other deeds

abbrev pub AlikeReadAlike : Type 0
AlikeReadAlike = (own : List ℕ) (far : List ℕ → Bool) (room other : Room) → AreAlikeRooms room other
    → AreReadAlike own far room other

-- and a deed does and shows the same in both
pub record IsDoneAlike (room other : Room) (deed : Deed) : Type 0 where
  pub effects : effects_of room deed ≡ effects_of other deed
  pub stays : AreAlikeRooms (after_deed room deed) (after_deed other deed)
  pub shown : (viewer : List ℕ) → shown_by viewer room deed ≡ shown_by viewer other deed

abbrev pub AlikeDoAlike : Type 0
AlikeDoAlike = (room other : Room) (deed : Deed) → AreAlikeRooms room other
    → IsDoneAlike room other deed

-- what a server makes of its part of the room by a deed: of somebody else's invitation it takes no
-- note
abbrev pub after_deed_at : List ℕ → Room → Deed → Room
after_deed_at home room (does effect) = after_at home room effect
after_deed_at home room deed = after_deed room deed

-- a nickname that a user brings is free, and who is brought to a channel is there
abbrev pub CanComeOf : Room → Deed → Type 0
CanComeOf room (does effect) = brings_free room effect ≡ true
CanComeOf room (brings server channel members) =
    EachInTurn IsPossible (titled room (brings server channel members))
    (effects_of room (brings server channel members))
CanComeOf room other = ⊤

-- What a server has of the room after a deed is what the deed makes of what it had.
abbrev pub HomeFollowsDeed : Type 0
HomeFollowsDeed = (home : List ℕ) (room : Room) (deed : Deed) → IsWellFormed room
    → CanComeOf room deed
    → of_home home (after_deed room deed) ≡ after_deed_at home (of_home home room) deed
