-- Which effects are in one channel, and what effects show to a user, one after another.
use Rattle.std.specs.Prelude.{◌≡◌, ℕ, Bool, true, false, not, Option, Some, None, List, [], ◌∷◌}
use Rattle.std.specs.Prelude.{◌++◌, ⊤, map, filter, option_to_list, if◌then◌else◌}
use Rattle.std.specs.Option.{option_map_or}
use Rattle.irc_names.specs.Fold.{same}
use Rattle.irc_effects.specs.declared.effect.Effect.{Effect}
use Rattle.irc_effects.specs.declared.effect.Effect.TheVariants.{Rename, Quit, Join, Part, Kick}
use Rattle.irc_effects.specs.declared.effect.Effect.TheVariants.{ChangeModes, SetTopic, Say, Invite}
use Rattle.irc_effects.specs.declared.effect.Target.TheVariants as target
use Rattle.irc_effects.specs.Room.{Room}
use Rattle.irc_effects.specs.Effects.{IsPossible}
use Rattle.irc_effects.specs.After.{after}
use Rattle.irc_effects.specs.InTurn.{IsSoFirst}
use Rattle.irc_effects.specs.Seen.{Showing, seen}
use Rattle.irc_effects.specs.Viewers.{shows_to}
use Rattle.irc_secrets.specs.ButForOne.{IsNoMember}

-- the channel that an effect is in; a Rename and a Quit are in none, whoever does it
abbrev pub channel_of : Effect → Option (List ℕ)
channel_of (Join nick channel op) = Some channel
channel_of (Part nick channel text) = Some channel
channel_of (Kick by channel nick text) = Some channel
channel_of (ChangeModes by channel changes) = Some channel
channel_of (SetTopic by channel text) = Some channel
channel_of (Say by notice (target.Channel channel) text) = Some channel
channel_of (Invite by nick channel) = Some channel
channel_of other = None

-- whether it is in this one, however that is spelled
abbrev pub is_in : List ℕ → Effect → Bool
is_in channel effect = option_map_or (same channel) (channel_of effect) false

-- the two exceptions: who joins a channel, and who is invited to one, is shown that effect without
-- being a member
abbrev pub is_for : List ℕ → Effect → Bool
is_for viewer (Join nick channel op) = same nick viewer
is_for viewer (Invite by nick channel) = same nick viewer
is_for viewer other = false

-- the lines of one user among all that is seen
abbrev pub lines_seen : List ℕ → Room → Effect → List (List ℕ)
lines_seen viewer room effect = map (λ (s : Showing). s.line)
    (filter (λ (s : Showing). same s.viewer viewer) (seen room effect))

-- a user's nickname after an effect
abbrev pub nick_after : List ℕ → Effect → List ℕ
nick_after viewer (Rename nick new) = if same nick viewer then new else viewer
nick_after viewer other = viewer

-- The lines that effects show to a user, in order, whatever nicknames it takes meanwhile.
abbrev pub lines_to : List ℕ → Room → List Effect → List (List ℕ)
lines_to viewer room [] = []
lines_to viewer room (effect ∷ effects) =
    option_to_list (shows_to room effect viewer)
    ++ lines_to (nick_after viewer effect) (after room effect) effects

-- one effect while a user is no member of a channel, and which does not make it one nor invite it
pub record IsOutsideAt (viewer channel : List ℕ) (room : Room) (effect : Effect) : Type 0 where
  pub possible : IsPossible room effect
  pub no_member : IsNoMember viewer channel room
  pub not_for_it : is_in channel effect ≡ true → is_for viewer effect ≡ false

-- and so all along some effects, under whatever nickname it has
abbrev pub StaysOutside : List ℕ → List ℕ → Room → List Effect → Type 0
StaysOutside viewer channel room [] = ⊤
StaysOutside viewer channel room (effect ∷ effects) =
    IsSoFirst (IsOutsideAt viewer channel room effect)
    (StaysOutside (nick_after viewer effect) channel (after room effect) effects)

-- whether a user leaves by it
abbrev pub ends : List ℕ → Effect → Bool
ends viewer (Quit nick text) = same nick viewer
ends viewer other = false

-- one effect by which a user neither joins a channel, nor is invited to it, nor leaves
pub record LeavesOutside (viewer channel : List ℕ) (room : Room) (effect : Effect) : Type 0 where
  pub possible : IsPossible room effect
  pub not_for_it : is_in channel effect ≡ true → is_for viewer effect ≡ false
  pub not_its_end : ends viewer effect ≡ false

-- and each of some effects, under whatever nickname it has
abbrev pub LeaveOutside : List ℕ → List ℕ → Room → List Effect → Type 0
LeaveOutside viewer channel room [] = ⊤
LeaveOutside viewer channel room (effect ∷ effects) =
    IsSoFirst (LeavesOutside viewer channel room effect)
    (LeaveOutside (nick_after viewer effect) channel (after room effect) effects)

-- the effects that are not in a channel
abbrev pub others_than : List ℕ → List Effect → List Effect
others_than channel effects = filter (λ effect. not (is_in channel effect)) effects
