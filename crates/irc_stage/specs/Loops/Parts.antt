-- A server as its code has it while an event is handled.
use Rattle.std.specs.Prelude.{◌≡◌, ℕ, ⊤, false, Option, Some, None, List, [], ◌∷◌, ◌++◌, map}
use Rattle.std.specs.FinMap.{get}
use Rattle.irc_names.specs.Fold.{key}
use Rattle.irc_names.specs.Tables.{Table, row, alter}
use Rattle.irc_users.specs.declared.user.User.{User}
use Rattle.irc_room.specs.effect.Effect.{Effect}
use Rattle.irc_room.specs.effect.Effect.TheVariants.{Rename}
use Rattle.irc_room.specs.Room.{IsWellFormed}
use Rattle.irc_room.specs.Effects.{IsPossible}
use Rattle.irc_room.specs.Applying.{ServerRoom}
use Rattle.irc_room.specs.InTurn.{IsSoFirst}
use Rattle.irc_acts.specs.declared.act.Act.{Act}
use Rattle.irc_acts.specs.declared.act.Act.TheVariants.{Do}
use Rattle.irc_stage.specs.declared.clients.Client.{Client}
use Rattle.irc_stage.specs.declared.clients.Client.TheVariants.{Registered}
use Rattle.irc_stage.specs.declared.clients.ClientTable.{ClientTable}
use Rattle.irc_batch.specs.Batches.{Batch, Sent, line_on}
use Rattle.irc_stage.specs.declared.parts.ServerParts.{ServerParts}
use Rattle.irc_stage.specs.RoomMachine.{Clients, RoomMachine, client_of, each_client}
use Rattle.irc_stage.specs.View.{View, known_peer, machine_of}
use Rattle.irc_stage.specs.Ways.{AreEnds}
use Rattle.irc_stage.specs.Loops.Branching.{IsRightIn}
pub use Rattle.irc_stage.specs.Loops.Numbered.{numbered}
use Rattle.irc_stage.specs.Handle.{renamed_in, machine_after}
use Rattle.irc_stage.specs.Matched.{IsMatched}
use Rattle.irc_stage.specs.EffectTold.{Served, changed, changed_if, effect_came, effect_told}
use Rattle.irc_stage.specs.EffectTold.{quit_by, view_after}
use Rattle.irc_stage.specs.Loops.Listening.{AreSo}

abbrev pub clients_of : ClientTable → Clients
clients_of table = numbered table.by_number

-- the client that is the user of the first nickname has the second
abbrev pub all_renamed : List ℕ → List ℕ → Clients → Clients
all_renamed old new clients = each_client (renamed_in old new) clients

-- whether a client is registered by a nickname with this fold
abbrev pub IsRegisteredAs : List ℕ → Option Client → Type 0
IsRegisteredAs fold (Some (Registered nick)) = key nick ≡ fold
IsRegisteredAs fold other = ⊥

-- the index by nickname has each registered client, and nobody else
pub record IsIndex (clients : Clients) (by_nick : Table ℕ) : Type 0 where
  pub found : (conn : ℕ) (nick : List ℕ) → get clients conn ≡ Some (Registered nick)
      → row by_nick (key nick) ≡ Some conn
  pub there : (fold : List ℕ) (conn : ℕ) → row by_nick fold ≡ Some conn
      → IsRegisteredAs fold (get clients conn)

abbrev pub IsIndexed : ClientTable → Type 0
IsIndexed table = IsIndex (clients_of table) table.by_nick

-- the index after a client is seated, and after one has left
abbrev pub entered : ℕ → Client → Table ℕ → Table ℕ
entered conn (Registered nick) by_nick = alter (key nick) (λ _. Some conn) by_nick
entered conn client by_nick = by_nick

abbrev pub departed : Option Client → Table ℕ → Table ℕ
departed (Some (Registered nick)) by_nick = alter (key nick) (λ _. None) by_nick
departed client by_nick = by_nick

abbrev pub view_of : ServerParts → View
view_of stage = record {
  routes = stage.routes;
  peers = map known_peer stage.peers.items;
  ends = numbered stage.ends;
  clients = clients_of stage.clients;
  room = stage.room.room;
}

-- the room machine that it is to its clients
abbrev pub machine_at : ServerParts → RoomMachine
machine_at stage = machine_of (view_of stage)

-- the server now, and what has been put out
abbrev pub served_at : ServerParts → List Sent → Served
served_at stage out = record { state = view_of stage; out = out }

-- a line on each of these links
abbrev pub lines_on : List ℕ → List ℕ → List Sent
lines_on links line = map (λ link. line_on link line) links

-- From one moment of a server, and of what it has put out, to a later one: an effect changes the
-- room and is shown, but that an invitation of another server's user is not kept.
abbrev pub Changes : Effect → ServerParts → Batch → ServerParts → Batch → Type 0
Changes effect old out new out_after =
    served_at new out_after.outs ≡ changed effect (served_at old out.outs)

-- An effect is applied, and told on links.
abbrev pub Applies : Option ℕ → Effect → ServerParts → Batch → ServerParts → Batch → Type 0
Applies arrival effect old out new out_after =
    served_at new out_after.outs ≡ effect_told arrival effect (served_at old out.outs)

-- An effect comes by a link, to be told on or not.
abbrev pub ComesByLink : Option ℕ → Effect → ServerParts → Batch → ServerParts → Batch → Type 0
ComesByLink arrival effect old out new out_after =
    served_at new out_after.outs ≡ effect_came arrival effect (served_at old out.outs)

abbrev pub ChangesIf : Effect → ServerParts → Batch → ServerParts → Batch → Type 0
ChangesIf effect old out new out_after =
    served_at new out_after.outs ≡ changed_if effect (served_at old out.outs)

-- The user of a nickname quits with this text.
abbrev pub Quits : List ℕ → List ℕ → ServerParts → Batch → ServerParts → Batch → Type 0
Quits nick text old out new out_after =
    served_at new out_after.outs ≡ quit_by nick text (served_at old out.outs)

-- what was put out before stands in front
abbrev pub behind_sent : List Sent → Served → Served
behind_sent out s = record { state = s.state; out = out ++ s.out }

-- a room that serves
pub record IsSound (kept : ServerRoom) : Type 0 where
  pub serves : kept.failed ≡ false
  pub well_formed : IsWellFormed kept.room

-- The room is the server's own, and serves; it is known which of its clients listen in which
-- channel; behind which links somebody does is so where it is kept; each known server is behind a
-- link that counts.
pub record IsReady (stage : ServerParts) : Type 0 where
  pub own_is : stage.room.own ≡ stage.routes.name
  pub sound : IsSound stage.room
  pub indexed : IsIndexed stage.clients
  pub heard : AreSo stage.listeners.lists stage.room.room stage.clients.by_nick
  pub branches : IsRightIn stage.ways stage.room.room stage.routes
  pub met : AreEnds (numbered stage.ends) stage.routes

-- and clients and users are matched
pub record IsServing (stage : ServerParts) : Type 0 where
  pub ready : IsReady stage
  pub matched : IsMatched (machine_at stage)

-- a connection that is no client, or one that has not registered
abbrev pub IsNoUser : Option Client → Type 0
IsNoUser (Some (Registered nick)) = ⊥
IsNoUser other = ⊤

-- where this client is a user, no client is registered by its nickname
abbrev pub IsFreeOf : Client → Clients → Type 0
IsFreeOf (Registered nick) clients =
    (conn : ℕ) (name : List ℕ) → get clients conn ≡ Some (Registered name) → key name ≡ key nick → ⊥
IsFreeOf client clients = ⊤

-- no client but that of the first nickname is registered by the second
abbrev pub IsFreeFor : List ℕ → List ℕ → Clients → Type 0
IsFreeFor nick new clients = (conn : ℕ) (name : List ℕ) → get clients conn ≡ Some (Registered name)
    → key name ≡ key new → key name ≡ key nick

-- clients stay apart by their nicknames
abbrev pub LeavesApart : Effect → Clients → Type 0
LeavesApart (Rename nick new) clients = IsFreeFor nick new clients
LeavesApart effect clients = ⊤

-- An effect is possible; each client that is a user is at home here, and no two will be one user.
pub record IsFit (machine : RoomMachine) (effect : Effect) : Type 0 where
  pub possible : IsPossible machine.room effect
  pub at_home : (conn : ℕ) (nick : List ℕ) (user : User)
      → client_of machine conn ≡ Some (Registered nick)
      → row machine.room.users (key nick) ≡ Some user → user.home ≡ machine.place.name
  pub apart : LeavesApart effect machine.clients

-- each effect of these steps is so in its turn
abbrev pub AreInTurn : (RoomMachine → Effect → Type 0) → RoomMachine → List Act → Type 0
AreInTurn IsSo machine [] = ⊤
AreInTurn IsSo machine (Do effect ∷ acts) =
    IsSoFirst (IsSo machine effect) (AreInTurn IsSo (machine_after machine effect) acts)
AreInTurn IsSo machine (act ∷ acts) = AreInTurn IsSo machine acts

abbrev pub AreFit : RoomMachine → List Act → Type 0
AreFit machine acts = AreInTurn IsFit machine acts

-- The same at a server with links, where invitations of other servers' users are not kept.
abbrev pub AreInTurnAt : (RoomMachine → Effect → Type 0) → View → List Act → Type 0
AreInTurnAt IsSo view [] = ⊤
AreInTurnAt IsSo view (Do effect ∷ acts) =
    IsSoFirst (IsSo (machine_of view) effect) (AreInTurnAt IsSo (view_after view effect) acts)
AreInTurnAt IsSo view (act ∷ acts) = AreInTurnAt IsSo view acts

abbrev pub AreFitAt : View → List Act → Type 0
AreFitAt view acts = AreInTurnAt IsFit view acts
