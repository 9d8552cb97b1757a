-- What can be asked of a room, and when it does nothing.
use Rattle.std.specs.Prelude.{◌≡◌, ℕ, Bool, true, false, not, ◌&&◌, ◌||◌, is_some, Option, Some}
use Rattle.std.specs.Prelude.{None, List, [], ◌∷◌, option_to_list}
use Rattle.std.specs.List.{list_all}
use Rattle.std.specs.Option.{option_map_or}
use Rattle.irc_names.specs.Fold.{key, same}
use Rattle.irc_names.specs.Tables.{Table, row}
use Rattle.irc_channels.specs.Channels.{has_member}
use Rattle.irc_effects.specs.declared.effect.By.{By}
use Rattle.irc_effects.specs.declared.effect.By.TheVariants as by
use Rattle.irc_effects.specs.declared.effect.Target.{Target}
use Rattle.irc_effects.specs.declared.effect.Target.TheVariants as target
use Rattle.irc_effects.specs.declared.effect.Effect.{Effect}
use Rattle.irc_effects.specs.declared.effect.Effect.TheVariants.{AddUser, Rename, Quit, Join, Part}
use Rattle.irc_effects.specs.declared.effect.Effect.TheVariants.{Kick, ChangeModes, SetTopic, Say}
use Rattle.irc_effects.specs.declared.effect.Effect.TheVariants.{Invite, ChangeUser}
use Rattle.irc_effects.specs.Room.{Room}

-- whether a table has a row under a name, as spelled
abbrev pub has_row : {V : Type 0} → Table V → List ℕ → Bool
has_row table name = is_some (row table (key name))

-- the user of a nickname, and the channel of a name, as spelled
abbrev pub has_user : Room → List ℕ → Bool
has_user room nick = has_row room.users nick

abbrev pub has_channel : Room → List ℕ → Bool
has_channel room channel = has_row room.channels channel

-- whether the user of a nickname is a member of the channel of a name
abbrev pub is_member : Room → List ℕ → List ℕ → Bool
is_member room nick channel =
    option_map_or (has_member (key nick)) (row room.channels (key channel)) false

-- A Part or a Kick of one who is no member of a channel that is there does nothing, nor does a Join
-- of one who is a member.
abbrev pub is_idle : Room → Effect → Bool
is_idle room (Join nick channel op) = is_member room nick channel
is_idle room (Part nick channel text) =
    has_channel room channel && not (is_member room nick channel)
is_idle room (Kick by channel nick text) =
    has_channel room channel && not (is_member room nick channel)
is_idle room other = false

-- the nickname of whoever does it; a server has none
abbrev pub by_nick : By → Option (List ℕ)
by_nick (by.User nick) = Some nick
by_nick by.Home = None

-- the nickname that a text is for, if it is for a user
abbrev pub target_user : Target → Option (List ℕ)
target_user (target.User nick) = Some nick
target_user (target.Channel channel) = None

abbrev pub target_users : Target → List (List ℕ)
target_users (target.User nick) = nick ∷ []
target_users (target.Channel channel) = []

-- the nickname of the user that does an effect; a server has none, and who is only now a user has
-- done nothing yet
abbrev pub doer_of : Effect → Option (List ℕ)
doer_of (AddUser user) = None
doer_of (Rename nick new) = Some nick
doer_of (Quit nick text) = Some nick
doer_of (Join nick channel op) = Some nick
doer_of (Part nick channel text) = Some nick
doer_of (Kick by channel nick text) = Some by
doer_of (ChangeModes by channel changes) = by_nick by
doer_of (SetTopic by channel text) = by_nick by
doer_of (Say by notice to text) = Some by
doer_of (Invite by nick channel) = Some by
doer_of (ChangeUser nick change) = Some nick

-- the nickname of the user that must be there besides the doer
abbrev pub needs_other : Effect → Option (List ℕ)
needs_other (Kick by channel nick text) = Some nick
needs_other (Say by notice to text) = target_user to
needs_other (Invite by nick channel) = Some nick
needs_other other = None

-- the nicknames that must be there for the effect to be one
abbrev pub needs_users : Effect → List (List ℕ)
needs_users (AddUser user) = []
needs_users (Rename nick new) = nick ∷ []
needs_users (Quit nick text) = nick ∷ []
needs_users (Join nick channel op) = nick ∷ []
needs_users (Part nick channel text) = nick ∷ []
needs_users (Kick by channel nick text) = by ∷ nick ∷ []
needs_users (ChangeModes by channel changes) = option_to_list (by_nick by)
needs_users (SetTopic by channel text) = option_to_list (by_nick by)
needs_users (Say by notice to text) = by ∷ target_users to
needs_users (Invite by nick channel) = by ∷ nick ∷ []
needs_users (ChangeUser nick change) = nick ∷ []

-- the channel that must be there; a Join makes it, and an Invite to none is only told
abbrev pub needs_channel : Effect → Option (List ℕ)
needs_channel (Part nick channel text) = Some channel
needs_channel (Kick by channel nick text) = Some channel
needs_channel (ChangeModes by channel changes) = Some channel
needs_channel (SetTopic by channel text) = Some channel
needs_channel (Say by notice (target.Channel channel) text) = Some channel
needs_channel other = None

-- the nickname that the effect brings, and whose it may be: nobody's, or its own user's
abbrev pub brings_free : Room → Effect → Bool
brings_free room (AddUser user) = not (has_user room user.nick)
brings_free room (Rename nick new) = not (has_user room new) || same nick new
brings_free room other = true

-- whom and what the effect names is there, and the nickname that it brings is free
pub record IsPossible (room : Room) (effect : Effect) : Type 0 where
  pub users_there : list_all (has_user room) (needs_users effect) ≡ true
  pub channel_there : option_map_or (has_channel room) (needs_channel effect) true ≡ true
  pub nick_free : brings_free room effect ≡ true
