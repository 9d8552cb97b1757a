-- What a server does that its clients or its room can tell, one thing after another; and the room
-- machine that does the same, which has no links.
--
-- a.net has al (connection 1) and the link 2 to b.net, whose user bo is. Both are in #c.
--   al says `TIME`                  an_answer 1 `:a.net 391 al ..`
--   al says `PART #c :x`            an_effect (Part al #c x): line_to 1 `:al!u@h PART #c :x`
--   al says `INVITE bo #d`          an_answer 1 `:a.net 341 ..`; bo's server keeps the invitation
--   `:bo PART #c :x` by link 2      an_effect (Part bo #c x): line_to 1 `:bo!u@h PART #c :x`
--   `:b.net NJOIN #C :@dy` by 2     a_spelling #C, an_effect (Join dy #C), and of its MODE
--   `:b.net KILL al :Nick collision` by 2
--                                   an_effect (Quit al ..), an_ending al: line_to 1 ERROR, end_of 1
--   `:b.net SERVER c.net 2 2 :C`    a_place: one server more is known
--   connection 3 connects           a_client 3, who has given nothing
--   connection 1 is gone            a_departure 1, an_effect (Quit al ..)
--   al says `QUIT`                  an_effect (Quit al ..), an_answer 1 ERROR, a_closing 1
use Rattle.std.specs.Prelude.{ℕ, ⊤, Bool, true, false, List, [], ◌∷◌, ◌++◌, nat_eq}
use Rattle.std.specs.FinMap.{retain_keys}
use Rattle.std.specs.List.{filter, flat_map}
use Rattle.irc_batch.specs.Batches.{Sent, line_to, end_of, line_on, end_of_link}
use Rattle.irc_room.specs.effect.Effect.{Effect}
use Rattle.irc_room.specs.After.{titled_by}
use Rattle.irc_room.specs.InTurn.{IsSoFirst}
use Rattle.irc_room.specs.Seen.{seen}
use Rattle.irc_routes.specs.Place.{Place}
use Rattle.irc_commands.specs.Closing.{error_line}
use Rattle.irc_stage.specs.declared.clients.Client.{Client}
use Rattle.irc_stage.specs.RoomMachine.{RoomMachine, with_client, without_client}
use Rattle.irc_stage.specs.Handle.{machine_after, to_viewer}
use Rattle.irc_stage.specs.EffectTold.{ends_of, is_another}

-- one thing that a server does
pub data Doing : Type 0 where
  -- an effect: the room changes, and it is shown
  an_effect : (effect : Effect) → Doing
  -- a channel has the greater spelling of two, which is shown to nobody
  a_spelling : (channel : List ℕ) → Doing
  -- a line to the client itself, by its own command
  an_answer : (conn : ℕ) (line : List ℕ) → Doing
  -- a connection is this client from now on: it connects, or gives what it is
  a_client : (conn : ℕ) (client : Client) → Doing
  -- a connection is nobody any more, and is told nothing
  a_departure : (conn : ℕ) → Doing
  -- nor is it then, and it is closed
  a_closing : (conn : ℕ) → Doing
  -- a user was taken out: the client that it was is told why, and closed
  an_ending : (nick text : List ℕ) → Doing
  -- other servers come or go: what decisions and answers may say of them
  a_place : (place : Place) → Doing

-- ---- the room machine

-- the room machine after it
abbrev pub machine_by : Doing → RoomMachine → RoomMachine
machine_by (an_effect effect) machine = machine_after machine effect
machine_by (a_spelling channel) machine =
    record machine { room = titled_by channel machine.room }
machine_by (an_answer conn line) machine = machine
machine_by (a_client conn client) machine = with_client machine conn client
machine_by (a_departure conn) machine = without_client machine conn
machine_by (a_closing conn) machine = without_client machine conn
machine_by (an_ending nick text) machine =
    record machine { clients = retain_keys machine.clients (is_another machine.clients nick) }
machine_by (a_place place) machine = record machine { place = place }

-- What it sends by it. An effect is shown to each client that sees it (`seen` of irc_effects);
-- answers are the client's own.
abbrev pub sent_by : Doing → RoomMachine → List Sent
sent_by (an_effect effect) machine =
    flat_map (to_viewer machine.clients) (seen machine.room effect)
sent_by (a_spelling channel) machine = []
sent_by (an_answer conn line) machine = line_to conn line ∷ []
sent_by (a_client conn client) machine = []
sent_by (a_departure conn) machine = []
sent_by (a_closing conn) machine = end_of conn ∷ []
sent_by (an_ending nick text) machine =
    to_viewer machine.clients (record { viewer = nick; line = error_line text })
    ++ ends_of nick machine.clients
sent_by (a_place place) machine = []

-- one after another
abbrev pub machine_along : RoomMachine → List Doing → RoomMachine
machine_along machine [] = machine
machine_along machine (doing ∷ doings) = machine_along (machine_by doing machine) doings

abbrev pub sent_along : RoomMachine → List Doing → List Sent
sent_along machine [] = []
sent_along machine (doing ∷ doings) =
    sent_by doing machine ++ sent_along (machine_by doing machine) doings

-- each is so where it is done
abbrev pub EachDoing : (RoomMachine → Doing → Type 0) → RoomMachine → List Doing → Type 0
EachDoing IsSo machine [] = ⊤
EachDoing IsSo machine (doing ∷ doings) =
    IsSoFirst (IsSo machine doing) (EachDoing IsSo (machine_by doing machine) doings)

-- ---- parts

-- the effects among what is done
abbrev pub effects_of : List Doing → List Effect
effects_of [] = []
effects_of (an_effect effect ∷ doings) = effect ∷ effects_of doings
effects_of (doing ∷ doings) = effects_of doings

-- whether a channel is spelled anew
abbrev pub is_spelling : Doing → Bool
is_spelling (a_spelling channel) = true
is_spelling doing = false

-- whether it is an answer to this client
abbrev pub is_answer_to : ℕ → Doing → Bool
is_answer_to conn (an_answer to line) = nat_eq to conn
is_answer_to conn doing = false

-- what of all that is put out goes to clients
abbrev pub is_to_client : Sent → Bool
is_to_client (line_to conn line) = true
is_to_client (end_of conn) = true
is_to_client (line_on link line) = false
is_to_client (end_of_link link reason) = false

abbrev pub to_clients : List Sent → List Sent
to_clients out = filter is_to_client out
