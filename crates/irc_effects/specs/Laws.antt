-- What holds of a room and the effects on it.
use Rattle.std.specs.Prelude.{◌≡◌, ◌≢◌, ℕ, ◌≤◌, Bool, true, false, Option, Some, None, List, []}
use Rattle.std.specs.Prelude.{◌∷◌, ◌++◌, length, codes, map, filter}
use Rattle.std.specs.Option.{option_map, IfSome}
use Rattle.std.specs.List.Sorted.{IsStrictlySortedBy}
use Rattle.std.specs.FinMap.{empty, insert, keys}
use Rattle.irc_names.specs.Fold.{key, same, name_cmp}
use Rattle.irc_names.specs.Tables.{row}
use Rattle.arrayvec.specs.ArrayVec.{ArrayVec}
use Rattle.irc_line.specs.Limits.{max_line}
use Rattle.irc_line.specs.Bytes.{crlf}
use Rattle.irc_line.specs.Carried.{IsCarried}
use Rattle.irc_line.specs.Messages.{IsPlainWord, Written, named, joined_text, text}
use Rattle.irc_names.specs.Names.{IsNick, IsChannel, IsHost, IsServer, IsBanMask, IsKey}
use Rattle.irc_names.specs.UserTexts.{IsUserName}
use Rattle.irc_users.specs.declared.user.User.{User}
use Rattle.irc_users.specs.declared.user_change.UserChange.TheVariants.{Invisible}
use Rattle.irc_channels.specs.declared.channel.Channel.{Channel}
use Rattle.irc_modes.specs.Modes.{no_modes}
use Rattle.irc_effects.specs.declared.effect.Effect.{Effect}
use Rattle.irc_effects.specs.declared.effect.Effect.TheVariants.{Quit, Join, Part, Kick, Say}
use Rattle.irc_effects.specs.declared.effect.Effect.TheVariants.{ChangeUser}
use Rattle.irc_effects.specs.declared.effect.Target.TheVariants as target
use Rattle.irc_effects.specs.Room.{Room, IsWellFormed}
use Rattle.irc_effects.specs.Effects.{is_idle, IsPossible}
use Rattle.irc_effects.specs.After.{after}
use Rattle.irc_effects.specs.Readers.{is_invited_at}
use Rattle.irc_effects.specs.Limits.{IsWithinLimits, KeepsLimits}
use Rattle.irc_effects.specs.Sendable.{IsSendable}
use Rattle.irc_effects.specs.Seen.{Showing, seen, full_sender, share_channel, shown_parts}
use Rattle.irc_effects.specs.Seen.{shown_line}

-- the room with nobody in it
abbrev pub no_room : Room
no_room = record { users = empty; channels = empty }

abbrev pub NoRoomIsWellFormed : Type 0
NoRoomIsWellFormed = IsWellFormed no_room

-- a possible effect leaves a room well formed
abbrev pub AfterIsWellFormed : Type 0
AfterIsWellFormed = (room : Room) (effect : Effect) → IsWellFormed room → IsPossible room effect
    → IsWellFormed (after room effect)

-- a room stays within its limits
abbrev pub NoRoomIsWithinLimits : Type 0
NoRoomIsWithinLimits = IsWithinLimits no_room

abbrev pub AfterIsWithinLimits : Type 0
AfterIsWithinLimits = (room : Room) (effect : Effect) → IsWithinLimits room → KeepsLimits effect
    → IsWithinLimits (after room effect)

-- and each effect that can be sent keeps it so
abbrev pub SentKeepsLimits : Type 0
SentKeepsLimits = (room : Room) (effect : Effect) → IsWithinLimits room → IsSendable room effect
    → KeepsLimits effect

-- a word that a line can carry, and that is read again as it was written
pub record IsLineWord (word : List ℕ) : Type 0 where
  pub plain : IsPlainWord word
  pub carried : IsCarried word

-- each name that keeps its rule is such a word; the mask of a ban is where a line can carry its
-- bytes
pub record NamesAreLineWords : Type 0 where
  pub nick : (word : List ℕ) → IsNick word → IsLineWord word
  pub channel : (word : List ℕ) → IsChannel word → IsLineWord word
  pub host : (word : List ℕ) → IsHost word → IsLineWord word
  pub server : (word : List ℕ) → IsServer word → IsLineWord word
  pub key : (word : List ℕ) → IsKey word → IsLineWord word
  pub ban : (word : List ℕ) → IsBanMask word → IsCarried word → IsLineWord word
  pub user : (word : List ℕ) → IsUserName word → word ≢ [] → IsLineWord word

-- the parts of a line that is not cut
abbrev pub IsWhole : Written → Type 0
IsWhole parts = length (joined_text parts) ≤ max_line

-- the line that they are then
abbrev pub whole_text : Written → List ℕ
whole_text parts = joined_text parts ++ crlf

-- what an effect shows that can be sent fits into a line
abbrev pub SentFitsItsLine : Type 0
SentFitsItsLine = (room : Room) (effect : Effect) (viewer : User) → IsWithinLimits room
    → IsSendable room effect
    → IfSome (shown_parts room effect viewer) IsWhole

-- so nothing of the line that a viewer is shown was cut
abbrev pub SentIsShownWhole : Type 0
SentIsShownWhole = (room : Room) (effect : Effect) (viewer : User) → IsWithinLimits room
    → IsSendable room effect
    → shown_line room effect viewer ≡ option_map whole_text (shown_parts room effect viewer)

-- with the nickname alone for its prefix, as between servers, it is shorter still
abbrev pub NamedIsWholeToo : Type 0
NamedIsWholeToo = (user : User) (command : List ℕ) (middle : List (List ℕ)) (last : Option (List ℕ))
    → IsWhole
    (record { sender = full_sender user; command = command; middle = middle; last = last })
    → IsWhole (record { sender = named user.nick; command = command; middle = middle; last = last })

-- what does nothing leaves the room as it is
abbrev pub IdleChangesNothing : Type 0
IdleChangesNothing = (room : Room) (effect : Effect) → is_idle room effect ≡ true
    → after room effect ≡ room

-- each viewer is below those after it, in folded order: so it stands there once
abbrev pub EachViewerOnce : Type 0
EachViewerOnce = (room : Room) (effect : Effect) → IsWellFormed room
    → IsStrictlySortedBy name_cmp (map (λ (s : Showing). s.viewer) (seen room effect))

-- the line that a user's leaving is
abbrev pub quit_line : User → List ℕ → List ℕ
quit_line user reason = text
    (record { sender = full_sender user; command = codes "QUIT"; middle = []; last = Some reason })

-- one who shares channels with a user that quits, however many, is shown the Quit once
abbrev pub QuitSeenOnce : Type 0
QuitSeenOnce = (room : Room) (nick reason viewer : List ℕ) (user other : User) → IsWellFormed room
    → row room.users (key nick) ≡ Some user → row room.users (key viewer) ≡ Some other
    → same nick viewer ≡ false → share_channel room nick viewer ≡ true
    → filter (λ (s : Showing). same viewer s.viewer) (seen room (Quit nick reason))
    ≡ record { viewer = other.nick; line = quit_line user reason } ∷ []

-- one user is shown an effect, and nobody else is
abbrev pub IsShownAlone : Room → Effect → User → Type 0
IsShownAlone room effect user = map (λ (s : Showing). s.viewer) (seen room effect) ≡ user.nick ∷ []

-- a user's own mode is shown to that user alone, whomever it shares channels with
abbrev pub OwnModeSeenAlone : Type 0
OwnModeSeenAlone = (room : Room) (nick : List ℕ) (invisible : Bool) (user : User)
    → IsWellFormed room
    → row room.users (key nick) ≡ Some user → IsShownAlone room
    (ChangeUser nick (Invisible invisible)) user

-- a text for a user is shown to that user alone: to its sender just where it is for its sender
abbrev pub PrivateTextSeenAlone : Type 0
PrivateTextSeenAlone = (room : Room) (by nick : List ℕ) (notice : Bool) (words : ArrayVec ℕ)
    (sender user : User) → IsWellFormed room
    → row room.users (key by) ≡ Some sender → row room.users (key nick) ≡ Some user
    → IsShownAlone room (Say by notice (target.User nick) words) user

-- who has joined a channel is invited to it no more
abbrev pub InvitationUsedUp : Type 0
InvitationUsedUp =
    (room : Room) (nick name : List ℕ) (op : Bool) → is_idle room (Join nick name op) ≡ false
    → is_invited_at (after room (Join nick name op)) (key nick) (key name) ≡ false

-- whether there is no such channel after an effect
abbrev pub EndsChannel : Room → List ℕ → Effect → Type 0
EndsChannel room name effect = row (after room effect).channels (key name) ≡ None

-- the ways in which a user leaves a channel, or all of them, however the two are spelled
abbrev pub Leaves : List ℕ → List ℕ → Effect → Type 0
Leaves nick name (Part who channel reason) = (key who ≡ key nick) × (key channel ≡ key name)
Leaves nick name (Kick by channel who reason) = (key who ≡ key nick) × (key channel ≡ key name)
Leaves nick name (Quit who reason) = key who ≡ key nick
Leaves nick name other = ⊥

-- a channel ends with its only member's leaving, with its modes, topic and invitations
abbrev pub LastMemberEndsChannel : Type 0
LastMemberEndsChannel = (room : Room) (nick name : List ℕ) (channel : Channel) (effect : Effect)
    → row room.channels (key name) ≡ Some channel → keys channel.members ≡ key nick ∷ []
    → Leaves nick name effect → EndsChannel room name effect

-- a Join of a channel that is not there makes one in which nothing is set, with its maker for its
-- only member
abbrev pub JoinMakesChannel : Type 0
JoinMakesChannel = (room : Room) (nick name : List ℕ) (op : Bool)
    → row room.channels (key name) ≡ None
    → row (after room (Join nick name op)).channels (key name) ≡ Some (record {
      name = name;
      modes = no_modes;
      topic = [];
      members = insert empty (key nick) (record { op = op; voice = false });
      invited = empty;
    })
