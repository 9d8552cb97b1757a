-- What effects show of a channel to a user outside of it. An effect is shown to members: so what is
-- said here of who is no member holds of each channel, secret or not.
use Rattle.std.specs.Prelude.{◌≡◌, ◌↔◌, ℕ, Bool, true, false, Some, None, List, [], ◌∷◌, codes}
use Rattle.irc_names.specs.Fold.{key}
use Rattle.irc_names.specs.Tables.{row}
use Rattle.irc_line.specs.Messages.{text}
use Rattle.irc_users.specs.declared.user.User.{User}
use Rattle.irc_effects.specs.declared.effect.Effect.{Effect}
use Rattle.irc_effects.specs.declared.effect.Effect.TheVariants.{Join, Invite}
use Rattle.irc_effects.specs.Room.{Room, IsWellFormed}
use Rattle.irc_effects.specs.Effects.{IsPossible, has_user, is_idle}
use Rattle.irc_effects.specs.After.{after}
use Rattle.irc_effects.specs.Seen.{full_sender, share_channel, stored_channel}
use Rattle.irc_effects.specs.Viewers.{shows_to}
use Rattle.irc_secrets.specs.ButForOne.{AreAlikeButFor, without, IsNoMember, IsOutsider}
use Rattle.irc_secrets.specs.Outside.{is_in, is_for, nick_after, lines_seen, lines_to}
use Rattle.irc_secrets.specs.Outside.{StaysOutside, LeaveOutside, others_than}

-- A room is alike to itself but for a channel, and so is it to the room without that channel; two
-- rooms are so whichever is named first, and two that are so with a third.
pub record ButForIsEquivalence : Type 0 where
  pub itself : (channel : List ℕ) (room : Room) → AreAlikeButFor channel room room
  pub turned : (channel : List ℕ) (one other : Room) → AreAlikeButFor channel one other
      → AreAlikeButFor channel other one
  pub joined : (channel : List ℕ) (one other third : Room) → AreAlikeButFor channel one other
      → AreAlikeButFor channel other third → AreAlikeButFor channel one third
  pub taken_out : (channel : List ℕ) (room : Room)
      → AreAlikeButFor channel room (without channel room)

-- an effect in a channel shows nothing to one who is no member, but for a Join its doer, and for an
-- Invite the invited
abbrev pub ChannelShowsNothing : Type 0
ChannelShowsNothing = (channel viewer : List ℕ) (room : Room) (effect : Effect) → IsWellFormed room
    → IsNoMember viewer channel room → is_in channel effect ≡ true → is_for viewer effect ≡ false
    → shows_to room effect viewer ≡ None

-- The first exception: an invitation shows the invited who invites it, and the channel's name as it
-- is stored, be it secret and whoever is in it.
abbrev pub InvitedIsShown : Type 0
InvitedIsShown = (room : Room) (by nick channel : List ℕ) (sender invited : User)
    → IsWellFormed room → row room.users (key by) ≡ Some sender
    → row room.users (key nick) ≡ Some invited → shows_to room (Invite by nick channel) nick
    ≡ Some (text (record {
      sender = full_sender sender;
      command = codes "INVITE";
      middle = invited.nick ∷ stored_channel room channel ∷ [];
      last = None;
    }))

-- The second: who joins is shown the channel's name as it is stored.
abbrev pub JoinerIsShown : Type 0
JoinerIsShown = (room : Room) (nick channel : List ℕ) (op : Bool) (joiner : User)
    → IsWellFormed room → IsNoMember nick channel room → row room.users (key nick) ≡ Some joiner
    → shows_to room (Join nick channel op) nick ≡ Some (text (record {
      sender = full_sender joiner;
      command = codes "JOIN";
      middle = stored_channel room channel ∷ [];
      last = None;
    }))

-- Who is a member in neither shares a channel with somebody in both or in none.
abbrev pub SharesAlike : Type 0
SharesAlike = (channel viewer : List ℕ) (one other : Room) → AreAlikeButFor channel one other
    → IsNoMember viewer channel one → IsNoMember viewer channel other → (nick : List ℕ)
    → share_channel one nick viewer ≡ share_channel other nick viewer

-- what one effect, which is not in the channel, is in both rooms, and shows one user there
pub record IsShownAlike (viewer : List ℕ) (one other : Room) (effect : Effect) : Type 0 where
  pub possible : IsPossible one effect ↔ IsPossible other effect
  pub idle : is_idle one effect ≡ is_idle other effect
  pub shows : shows_to one effect viewer ≡ shows_to other effect viewer

-- Any other effect, Rename and Quit too, is possible and idle alike in two rooms that are alike but
-- for the channel, and shows the same line to one who is a member in neither.
abbrev pub OthersShowAlike : Type 0
OthersShowAlike = (channel viewer : List ℕ) (one other : Room) (effect : Effect)
    → IsWellFormed one → AreAlikeButFor channel one other → IsNoMember viewer channel one
    → IsNoMember viewer channel other → is_in channel effect ≡ false
    → IsShownAlike viewer one other effect

-- It is so of a user's lines among all that is seen: none of what is in the channel, and the same
-- of what is not.
pub record AreSeenSo : Type 0 where
  pub channel_not : (channel viewer : List ℕ) (room : Room) (effect : Effect) → IsWellFormed room
      → IsNoMember viewer channel room → is_in channel effect ≡ true → is_for viewer effect ≡ false
      → lines_seen viewer room effect ≡ []
  pub others_alike : (channel viewer : List ℕ) (one other : Room) (effect : Effect)
      → IsWellFormed one → IsWellFormed other → AreAlikeButFor channel one other
      → IsNoMember viewer channel one → IsNoMember viewer channel other
      → is_in channel effect ≡ false
      → lines_seen viewer one effect ≡ lines_seen viewer other effect

-- two rooms stay alike but for a channel, whatever is done in both
abbrev pub BothStayAlike : Type 0
BothStayAlike = (channel : List ℕ) (one other : Room) (effect : Effect)
    → AreAlikeButFor channel one other
    → AreAlikeButFor channel (after one effect) (after other effect)

-- and whatever is done in that channel in one of them
abbrev pub OneStaysAlike : Type 0
OneStaysAlike = (channel : List ℕ) (one other : Room) (effect : Effect)
    → AreAlikeButFor channel one other → is_in channel effect ≡ true
    → AreAlikeButFor channel (after one effect) other

-- no effect but those in a channel ends that one of the users is outside of it
abbrev pub OutsiderStaysOutside : Type 0
OutsiderStaysOutside = (viewer channel : List ℕ) (room : Room) (effect : Effect)
    → IsWellFormed room → IsPossible room effect → has_user room viewer ≡ true
    → IsOutsider viewer channel room → is_in channel effect ≡ false
    → IsOutsider (nick_after viewer effect) channel (after room effect)

-- One of the users who is no member at the start, and then neither joins, nor is invited, nor
-- leaves, stays outside of the channel, whatever else is done in it.
abbrev pub OutsideFromTheStart : Type 0
OutsideFromTheStart = (viewer channel : List ℕ) (room : Room) (effects : List Effect)
    → IsWellFormed room → has_user room viewer ≡ true → IsNoMember viewer channel room
    → LeaveOutside viewer channel room effects → StaysOutside viewer channel room effects

-- Two lists of effects that are one list once those in the channel are left out show the same
-- lines, in order, to one who is outside of it all along.
abbrev pub ListsShowAlike : Type 0
ListsShowAlike = (channel viewer : List ℕ) (one other : Room) (effects others : List Effect)
    → IsWellFormed one → IsWellFormed other → AreAlikeButFor channel one other
    → StaysOutside viewer channel one effects → StaysOutside viewer channel other others
    → others_than channel effects ≡ others_than channel others
    → lines_to viewer one effects ≡ lines_to viewer other others

-- So one of the users who is a member in neither room at the start, and then neither joins, nor is
-- invited, nor leaves, is shown the same lines by both.
abbrev pub OutsidersAreShownAlike : Type 0
OutsidersAreShownAlike =
    (channel viewer : List ℕ) (one other : Room) (effects others : List Effect) → IsWellFormed one
    → IsWellFormed other → AreAlikeButFor channel one other → has_user one viewer ≡ true
    → IsNoMember viewer channel one → IsNoMember viewer channel other
    → LeaveOutside viewer channel one effects → LeaveOutside viewer channel other others
    → others_than channel effects ≡ others_than channel others
    → lines_to viewer one effects ≡ lines_to viewer other others
