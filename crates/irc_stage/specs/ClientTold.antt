-- What happens by a client of a server that has links. It is what it does to the room machine that
-- the server is to its clients (in `Handle`), but that each effect also goes on the links, and
-- invitations of other servers' users are not kept.
use Rattle.std.specs.Prelude.{ℕ, Bool, true, false, Option, Some, None, Result, Ok, Err, List}
use Rattle.std.specs.Prelude.{[], ◌∷◌}
use Rattle.std.specs.FinMap.{insert, remove}
use Rattle.irc_names.specs.Fold.{key}
use Rattle.irc_names.specs.Tables.{row}
use Rattle.irc_line.specs.declared.reading.LineFault.{LineFault}
use Rattle.irc_line.specs.Messages.{Parsed}
use Rattle.irc_users.specs.declared.user.User.{User}
use Rattle.irc_numerics.specs.Replies.{reply_text}
use Rattle.irc_room.specs.effect.Effect.TheVariants.{Quit}
use Rattle.irc_routes.specs.Known.{place_of}
use Rattle.irc_acts.specs.declared.act.Act.{Act}
use Rattle.irc_acts.specs.declared.act.Act.TheVariants.{Answer, Raw, Do}
use Rattle.irc_commands.specs.Decisions.{Decided}
use Rattle.irc_commands.specs.Decide.{decide}
use Rattle.irc_commands.specs.Register.{register, Registered as Given}
use Rattle.irc_batch.specs.Batches.{end_of, line_to}
use Rattle.irc_stage.specs.declared.clients.Client.{Client}
use Rattle.irc_stage.specs.declared.clients.Client.TheVariants.{Registering, Registered}
use Rattle.irc_stage.specs.RoomMachine.{client_of}
use Rattle.irc_stage.specs.View.{View, machine_of}
use Rattle.irc_stage.specs.Handle.{ClientEvent, connects, says, goes, client_after, fresh}
use Rattle.irc_stage.specs.Handle.{lost_text}
use Rattle.irc_stage.specs.Handle.{user_of}
use Rattle.irc_stage.specs.EffectTold.{Served, effect_told, in_silence, with_sent}

-- One step: an answer and a line go to the client itself. Replies are sent to this name.
abbrev pub step_told : ℕ → Option (List ℕ) → Act → Served → Served
step_told conn name (Answer reply) s =
    with_sent (line_to conn (reply_text s.state.routes.name name reply) ∷ []) s
step_told conn name (Raw line) s = with_sent (line_to conn line.items ∷ []) s
step_told conn name (Do effect) s = effect_told None effect s

-- the steps, one after another
abbrev pub steps_told : ℕ → Option (List ℕ) → List Act → Served → Served
steps_told conn name [] s = s
steps_told conn name (act ∷ acts) s = steps_told conn name acts (step_told conn name act s)

-- a connection is this client from now on, or is none
abbrev pub seated : ℕ → Client → View → View
seated conn client view = record view { clients = insert view.clients conn client }

abbrev pub unseated : ℕ → View → View
unseated conn view = record view { clients = remove view.clients conn }

-- a client that is closed is one no more
abbrev pub closed_told : Bool → ℕ → Served → Served
closed_told true conn s = with_sent (end_of conn ∷ []) (record s { state = unseated conn s.state })
closed_told false conn s = s

-- the steps are done in order, and only then is a client closed that is to be
abbrev pub decision_told : ℕ → Option (List ℕ) → Decided → Served → Served
decision_told conn name decision s =
    closed_told decision.close conn (steps_told conn name decision.steps s)

-- a line before registration; replies go to the nickname that the connection has then
abbrev pub given_told : ℕ → Given → View → Served
given_told conn registration view =
    let name = registration.pending.nick in
    closed_told registration.close conn (steps_told conn name registration.steps
    (in_silence (seated conn (client_after registration name) view)))

-- a line of a user
abbrev pub user_told : View → ℕ → Option User → Parsed → Served
user_told view conn None message = in_silence view
user_told view conn (Some user) message =
    decision_told conn (Some user.nick) (decide view.room (place_of view.routes) user.nick message)
    (in_silence view)

-- what a line does depends on whether its client has registered; from nobody it does nothing
abbrev pub message_told : View → ℕ → Option Client → Parsed → Served
message_told view conn None message = in_silence view
message_told view conn (Some (Registering pending)) message =
    given_told conn (register view.room (place_of view.routes) pending message) view
message_told view conn (Some (Registered nick)) message =
    user_told view conn (row view.room.users (key nick)) message

-- an empty line, and a prefix alone, are ignored (our own choice)
abbrev pub line_told : View → ℕ → Result Parsed LineFault → Served
line_told view conn (Ok message) = message_told view conn (client_of (machine_of view) conn) message
line_told view conn (Err fault) = in_silence view

-- a client that is gone: the user that it is quits, and it is told nothing
abbrev pub quit_told : Option (List ℕ) → Served → Served
quit_told None s = s
quit_told (Some nick) s = effect_told None (Quit nick lost_text) s

-- its seat is empty before its user quits, so that nothing is put out to it
abbrev pub gone_told : View → ℕ → Served
gone_told view conn = quit_told (user_of view.room (client_of (machine_of view) conn))
    (in_silence (unseated conn view))

-- what a server does when something happens to one of its clients
unfoldable pub client_told : View → ClientEvent → Served
client_told view (connects conn host) = in_silence (seated conn (fresh host) view)
client_told view (says conn read) = line_told view conn read
client_told view (goes conn) = gone_told view conn
