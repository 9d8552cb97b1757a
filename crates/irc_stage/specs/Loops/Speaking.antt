-- Whose words are said: a client's by its own user, any others by a user who is no client here.
use Rattle.std.specs.Prelude.{ℕ, ⊤, Option, Some, None, List}
use Rattle.irc_names.specs.Fold.{key}
use Rattle.irc_room.specs.effect.Effect.{Effect}
use Rattle.irc_room.specs.effect.Effect.TheVariants.{Say}
use Rattle.irc_acts.specs.declared.act.Act.{Act}
use Rattle.irc_stage.specs.declared.origin.Origin.{Origin}
use Rattle.irc_stage.specs.declared.origin.Origin.TheVariants.{Client, Link, Own}
use Rattle.irc_stage.specs.RoomMachine.{RoomMachine, client_of}
use Rattle.irc_stage.specs.View.{View}
use Rattle.irc_stage.specs.Loops.Parts.{AreInTurn, AreInTurnAt, IsRegisteredAs}

-- the connection of who acts, where it is a client
abbrev pub conn_of : Origin → Option ℕ
conn_of (Client speaker) = Some (speaker.conn)
conn_of (Link link) = None
conn_of Own = None

-- the link by which it came, where it came by one
abbrev pub arrival_of : Origin → Option ℕ
arrival_of (Client speaker) = None
arrival_of (Link link) = Some link
arrival_of Own = None

-- what is said, if this says something, the user of this connection says
abbrev pub IsSaidByClient : ℕ → RoomMachine → Effect → Type 0
IsSaidByClient conn machine (Say by notice to words) =
    IsRegisteredAs (key by) (client_of machine conn)
IsSaidByClient conn machine effect = ⊤

-- no client says it
abbrev pub IsSaidElsewhere : RoomMachine → Effect → Type 0
IsSaidElsewhere machine (Say by notice to words) =
    (conn : ℕ) → IsRegisteredAs (key by) (client_of machine conn) → ⊥
IsSaidElsewhere machine effect = ⊤

-- who speaks by an effect is who acts
abbrev pub IsSpoken : Origin → RoomMachine → Effect → Type 0
IsSpoken (Client speaker) machine effect = IsSaidByClient speaker.conn machine effect
IsSpoken (Link link) machine effect = IsSaidElsewhere machine effect
IsSpoken Own machine effect = IsSaidElsewhere machine effect

-- the same of each of these steps of a client, in its turn
abbrev pub AreSpoken : ℕ → RoomMachine → List Act → Type 0
AreSpoken conn machine acts = AreInTurn (IsSaidByClient conn) machine acts

abbrev pub AreSpokenAt : ℕ → View → List Act → Type 0
AreSpokenAt conn view acts = AreInTurnAt (IsSaidByClient conn) view acts
