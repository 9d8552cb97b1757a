-- Rooms that are alike but for who is invited. What is decided without a look at invitations is
-- the same in both, and what is decided by those of one user is where they are the same.
use Rattle.std.specs.Prelude.{◌≡◌, ℕ, List}
use Rattle.irc_names.specs.Fold.{key}
use Rattle.irc_room.specs.effect.Effect.{Effect}
use Rattle.irc_room.specs.Room.{Room}
use Rattle.irc_room.specs.Readers.{is_invited_at}
use Rattle.irc_room.specs.After.{after}
pub use Rattle.irc_room.specs.OtherInvitations.{uninviting, AreAlike}

-- but for the invitations of others than the user of this nickname, who is invited to the same
-- channels in both
pub record AreAlikeFor (nick : List ℕ) (room other : Room) : Type 0 where
  pub alike : AreAlike room other
  pub invited : (fold : List ℕ)
      → is_invited_at room (key nick) fold ≡ is_invited_at other (key nick) fold

-- whatever an effect makes of two rooms that are so to each other, they are so then
abbrev pub Keeps : (Room → Room → Type 0) → Effect → Type 0
Keeps R effect = (room other : Room) → R room other → R (after room effect) (after other effect)
