-- What one event of a client does to a room machine: the machine after it, and what is put out, in
-- order.
use Rattle.std.specs.Prelude.{ℕ, Bool, true, false, Option, Some, None, Result, Ok, Err, List, []}
use Rattle.std.specs.Prelude.{◌∷◌, ◌++◌, codes, if◌then◌else◌}
use Rattle.std.specs.List.{flat_map, filter_map}
use Rattle.std.specs.FinMap.{entries}
use Rattle.std.specs.Option.{option_map}
use Rattle.irc_names.specs.Fold.{key, same}
use Rattle.irc_line.specs.declared.reading.LineFault.{LineFault}
use Rattle.irc_line.specs.Messages.{Parsed}
use Rattle.irc_names.specs.Tables.{row}
use Rattle.irc_users.specs.declared.user.User.{User}
use Rattle.irc_numerics.specs.Replies.{reply_text}
use Rattle.irc_room.specs.effect.Effect.{Effect}
use Rattle.irc_room.specs.effect.Effect.TheVariants.{Quit, Rename}
use Rattle.irc_room.specs.Room.{Room}
use Rattle.irc_room.specs.After.{after}
use Rattle.irc_room.specs.Seen.{Showing, seen}
use Rattle.irc_acts.specs.declared.act.Act.{Act}
use Rattle.irc_acts.specs.declared.act.Act.TheVariants.{Answer, Raw, Do}
use Rattle.irc_commands.specs.Decisions.{Decided}
use Rattle.irc_commands.specs.Decide.{decide}
use Rattle.irc_commands.specs.Register.{register, Registered as Given}
use Rattle.irc_batch.specs.Batches.{Sent, end_of, line_to}
use Rattle.irc_stage.specs.declared.clients.Client.{Client}
use Rattle.irc_stage.specs.declared.clients.Client.TheVariants.{Registering, Registered}
use Rattle.irc_stage.specs.RoomMachine.{Clients, RoomMachine, client_of, with_client}
use Rattle.irc_stage.specs.RoomMachine.{without_client, each_client}

-- what happens to it; of a line, what it is read as
pub data ClientEvent : Type 0 where
  connects : (conn : ℕ) (host : List ℕ) → ClientEvent
  says : (conn : ℕ) (read : Result Parsed LineFault) → ClientEvent
  goes : (conn : ℕ) → ClientEvent

-- What has become of a state, and what has come of that on the way, in order: what a machine or a
-- server puts out, or what the clients of a network receive.
pub record WithOutput (State Out : Type 0) : Type 0 where
  pub state : State
  pub out : Out

-- a room machine, and what it has put out
abbrev pub Handled : Type 0
Handled = WithOutput RoomMachine (List Sent)

-- whether a client is the user with a nickname
abbrev pub is_client : List ℕ → Client → Bool
is_client nick (Registering pending) = false
is_client nick (Registered name) = same name nick

-- a line to the viewer, where it is a client of this server
abbrev pub to_viewer : Clients → Showing → List Sent
to_viewer clients showing =
    filter_map (λ (c : ℕ × Client). if is_client showing.viewer c.1
    then Some (line_to c.0 showing.line) else None) (entries clients)

-- a client whose user takes another nickname is that user still
abbrev pub renamed_in : List ℕ → List ℕ → Client → Client
renamed_in old new client = if is_client old client then Registered new else client

-- of all effects only a new nickname changes who a client is
abbrev pub clients_after : Effect → Clients → Clients
clients_after (Rename nick new) clients = each_client (renamed_in nick new) clients
clients_after effect clients = clients

-- the room changes, and the clients with it, so that each stays the user it was
abbrev pub machine_after : RoomMachine → Effect → RoomMachine
machine_after machine effect = record machine {
  room = after machine.room effect;
  clients = clients_after effect machine.clients;
}

-- An effect changes the room, and is shown to the viewers that are clients of this server.
abbrev pub with_effect : Effect → Handled → Handled
with_effect effect before = record {
  state = machine_after before.state effect;
  out = before.out ++ flat_map (to_viewer before.state.clients) (seen before.state.room effect);
}

-- One step: an answer and a line go to the client itself. Replies are sent to this name.
abbrev pub stepped : ℕ → Option (List ℕ) → Act → Handled → Handled
stepped conn name (Answer reply) before =
    record before {
      out = before.out
          ++ line_to conn (reply_text before.state.place.name name reply) ∷ [];
    }
stepped conn name (Raw line) before =
    record before { out = before.out ++ line_to conn line.items ∷ [] }
stepped conn name (Do effect) before = with_effect effect before

-- the steps, one after another
abbrev pub all_stepped : ℕ → Option (List ℕ) → List Act → Handled → Handled
all_stepped conn name [] before = before
all_stepped conn name (act ∷ acts) before =
    all_stepped conn name acts (stepped conn name act before)

-- nothing is put out yet
abbrev pub unchanged : RoomMachine → Handled
unchanged machine = record { state = machine; out = [] }

-- a client that is closed is one no more
abbrev pub closing : Bool → ℕ → Handled → Handled
closing true conn before =
    record { state = without_client before.state conn; out = before.out ++ end_of conn ∷ [] }
closing false conn before = before

-- the steps are done in order, and only then is a client closed that is to be
abbrev pub decided : RoomMachine → ℕ → Option (List ℕ) → Decided → Handled
decided machine conn name decision =
    closing decision.close conn (all_stepped conn name decision.steps (unchanged machine))

-- what a connection is after a line before registration
abbrev pub client_after : Given → Option (List ℕ) → Client
client_after registration None = Registering registration.pending
client_after registration (Some nick) =
    if registration.registered then Registered nick else Registering registration.pending

-- replies go to the nickname that the connection has then
abbrev pub pending_decided : RoomMachine → ℕ → Given → Handled
pending_decided machine conn registration =
    let name = registration.pending.nick in
    closing registration.close conn
    (all_stepped conn name registration.steps
    (unchanged (with_client machine conn (client_after registration name))))

-- a line of a registered client is decided as its user's; without a user it does nothing
abbrev pub user_decided : RoomMachine → ℕ → Option User → Parsed → Handled
user_decided machine conn None message = unchanged machine
user_decided machine conn (Some user) message =
    decided machine conn (Some user.nick) (decide machine.room machine.place user.nick message)

-- what a line does depends on whether its client has registered; from nobody it does nothing
abbrev pub said_by : RoomMachine → ℕ → Option Client → Parsed → Handled
said_by machine conn None message = unchanged machine
said_by machine conn (Some (Registering pending)) message =
    pending_decided machine conn (register machine.room machine.place pending message)
said_by machine conn (Some (Registered nick)) message =
    user_decided machine conn (row machine.room.users (key nick)) message

-- an empty line, and a prefix alone, are ignored (our own choice)
abbrev pub read_as : RoomMachine → ℕ → Result Parsed LineFault → Handled
read_as machine conn (Ok message) = said_by machine conn (client_of machine conn) message
read_as machine conn (Err fault) = unchanged machine

-- a registered user quits with this text (our own)
abbrev pub lost_text : List ℕ
lost_text = codes "Connection closed"

-- the nickname, as it is stored, of the user that a client is
abbrev pub user_of : Room → Option Client → Option (List ℕ)
user_of room None = None
user_of room (Some (Registering pending)) = None
user_of room (Some (Registered nick)) =
    option_map (λ (user : User). user.nick) (row room.users (key nick))

-- who was a user quits; who was none leaves the room as it is
abbrev pub quits : Option (List ℕ) → Handled → Handled
quits None before = before
quits (Some nick) before = with_effect (Quit nick lost_text) before

-- the client is one no more, and it is told nothing
abbrev pub gone : RoomMachine → ℕ → Option Client → Handled
gone machine conn client =
    quits (user_of machine.room client) (unchanged (without_client machine conn))

-- a connection that has given nothing
abbrev pub fresh : List ℕ → Client
fresh host = Registering (record { nick = None; user = None; real = []; host = host })

unfoldable pub handled : RoomMachine → ClientEvent → Handled
handled machine (connects conn host) = unchanged (with_client machine conn (fresh host))
handled machine (says conn read) = read_as machine conn read
handled machine (goes conn) = gone machine conn (client_of machine conn)
