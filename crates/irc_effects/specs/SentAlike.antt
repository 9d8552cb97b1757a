-- What can be sent, and what is within limits, in rooms that are alike but for who is invited; and
-- whose invitations a server knows.
use Rattle.std.specs.Prelude.{◌≡◌, ◌↔◌, ℕ, true, List}
use Rattle.irc_effects.specs.declared.effect.Effect.{Effect}
use Rattle.irc_effects.specs.Room.{Room}
use Rattle.irc_effects.specs.Readers.{is_invited_at}
use Rattle.irc_effects.specs.Limits.{IsWithinLimits}
use Rattle.irc_effects.specs.Sendable.{IsSendable}
use Rattle.irc_effects.specs.Invitations.{is_at, of_home}
use Rattle.irc_effects.specs.OtherInvitations.{AreAlike}

-- an effect can be sent in both, or in neither
abbrev pub AlikeSendAlike : Type 0
AlikeSendAlike = (room other : Room) (effect : Effect) → AreAlike room other
    → IsSendable room effect ↔ IsSendable other effect

-- both keep to their limits, or neither does
abbrev pub AlikeKeepLimits : Type 0
AlikeKeepLimits =
    (room other : Room) → AreAlike room other → IsWithinLimits room ↔ IsWithinLimits other

-- who is connected to a server is invited there to just those channels that it is invited to
abbrev pub HomeKnowsItsInvited : Type 0
HomeKnowsItsInvited = (home : List ℕ) (room : Room) (nick channel : List ℕ)
    → is_at home room.users nick ≡ true
    → is_invited_at (of_home home room) nick channel ≡ is_invited_at room nick channel
