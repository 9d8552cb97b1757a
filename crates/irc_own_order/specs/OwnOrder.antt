-- What a server does by each thing that it is given, and that it is just what one room machine does
-- by the same: at every moment each client has received what that machine sends it, in the order of
-- effects of its own server.
use Rattle.std.specs.Prelude.{◌≡◌, ℕ, ⊤, Option, Some, None, Result, Ok, Err, List, [], ◌∷◌}
use Rattle.std.specs.Prelude.{◌++◌, if◌then◌else◌}
use Rattle.std.specs.FinMap.{get}
use Rattle.std.specs.List.{flat_map}
use Rattle.std.specs.Option.{option_map_or}
use Rattle.irc_names.specs.Fold.{key}
use Rattle.irc_names.specs.Tables.{row}
use Rattle.irc_line.specs.declared.reading.LineFault.{LineFault}
use Rattle.irc_line.specs.Messages.{Parsed}
use Rattle.irc_batch.specs.Batches.{Sent}
use Rattle.irc_users.specs.declared.user.User.{User}
use Rattle.irc_room.specs.effect.Effect.{Effect}
use Rattle.irc_room.specs.effect.Effect.TheVariants.{Quit}
use Rattle.irc_room.specs.Effects.{IsPossible, doer_of}
use Rattle.irc_room.specs.InTurn.{IsSoFirst}
use Rattle.irc_room.specs.Room.{IsWellFormed}
use Rattle.irc_routes.specs.Known.{place_of}
use Rattle.irc_acts.specs.Acts.{effects_among}
use Rattle.irc_commands.specs.Decide.{decide}
use Rattle.irc_commands.specs.Register.{register}
use Rattle.irc_stage.specs.declared.clients.Client.{Client}
use Rattle.irc_stage.specs.declared.clients.Client.TheVariants.{Registering, Registered}
use Rattle.irc_stage.specs.RoomMachine.{RoomMachine, client_of}
use Rattle.irc_stage.specs.Handle.{ClientEvent, connects, says, goes, lost_text, user_of}
use Rattle.irc_stage.specs.EffectTold.{Served, is_elsewhere, view_after}
use Rattle.irc_stage.specs.View.{View, machine_of}
use Rattle.irc_server.specs.Served.{ReadEvent, of_client, served}
use Rattle.irc_server.specs.LinesThatSet.{line_set}
use Rattle.irc_server.specs.Owed.{lines_to}
use Rattle.irc_own_order.specs.Doings.{Doing, an_effect, a_spelling, an_answer, a_client}
use Rattle.irc_own_order.specs.Doings.{a_departure, a_closing, an_ending, a_place, machine_along}
use Rattle.irc_own_order.specs.Doings.{sent_along, EachDoing, effects_of, to_clients}

-- ---- what a server is given

-- an event, or a line of a link by which a server sets
pub data Given : Type 0 where
  an_event : (read_event : ReadEvent) → Given
  a_line_that_sets : (link : ℕ) (read : Result Parsed LineFault) → Given

abbrev pub given_served : View → Given → Served
given_served view (an_event read_event) = served view read_event
given_served view (a_line_that_sets link read) = line_set view link read (get view.ends link)

-- the client of the server whose doing it is; what comes by a link is none's
abbrev pub giver_of : Given → Option ℕ
giver_of (an_event (of_client (connects conn host))) = Some conn
giver_of (an_event (of_client (says conn read))) = Some conn
giver_of (an_event (of_client (goes conn))) = Some conn
giver_of other = None

-- ---- what may be done by it

-- An effect by a client is done by the user that it is; who registers is none yet.
abbrev pub IsOfItsUser : RoomMachine → Option ℕ → Effect → Type 0
IsOfItsUser start None effect = ⊤
IsOfItsUser start (Some conn) effect = doer_of effect ≡ user_of start.room (client_of start conn)

abbrev pub IsOfGiver : RoomMachine → Option ℕ → Doing → Type 0
IsOfGiver start giver (an_effect effect) = IsOfItsUser start giver effect
IsOfGiver start giver (an_answer conn line) = giver ≡ Some conn
IsOfGiver start giver (a_client conn client) = giver ≡ Some conn
IsOfGiver start giver (a_departure conn) = giver ≡ Some conn
IsOfGiver start giver (a_closing conn) = giver ≡ Some conn
IsOfGiver start giver (a_spelling channel) = giver ≡ None
IsOfGiver start giver (an_ending nick text) = giver ≡ None
IsOfGiver start giver (a_place place) = giver ≡ None

-- whom and what an effect names is there
abbrev pub CanBeDone : RoomMachine → Doing → Type 0
CanBeDone machine (an_effect effect) = IsPossible machine.room effect
CanBeDone machine other = ⊤

pub record IsDue (start : RoomMachine) (giver : Option ℕ) (machine : RoomMachine)
    (doing : Doing) : Type 0 where
  pub of_giver : IsOfGiver start giver doing
  pub can_be : CanBeDone machine doing

-- ---- the effects of a client

-- an invitation that is another server's to keep is not done here
abbrev pub done_here : View → Effect → List Effect
done_here view effect = if is_elsewhere view effect then [] else effect ∷ []

abbrev pub all_done_here : View → List Effect → List Effect
all_done_here view [] = []
all_done_here view (effect ∷ effects) =
    done_here view effect ++ all_done_here (view_after view effect) effects

-- by a line of a user: those that are decided
abbrev pub effects_of_user : View → Option User → Parsed → List Effect
effects_of_user view None message = []
effects_of_user view (Some user) message = all_done_here view
    (effects_among (decide view.room (place_of view.routes) user.nick message).steps)

-- by a line of a connection; by it somebody may become a user
abbrev pub effects_of_line : View → Option Client → Parsed → List Effect
effects_of_line view None message = []
effects_of_line view (Some (Registering pending)) message =
    effects_among (register view.room (place_of view.routes) pending message).steps
effects_of_line view (Some (Registered nick)) message =
    effects_of_user view (row view.room.users (key nick)) message

-- by whatever a client does; who is gone quits, if it was a user
abbrev pub effects_of_client : View → ClientEvent → List Effect
effects_of_client view (connects conn host) = []
effects_of_client view (says conn (Ok message)) =
    effects_of_line view (client_of (machine_of view) conn) message
effects_of_client view (says conn (Err why)) = []
effects_of_client view (goes conn) = option_map_or (λ nick. Quit nick lost_text ∷ [])
    (user_of view.room (client_of (machine_of view) conn)) []

abbrev pub AreItsEffects : View → Given → List Effect → Type 0
AreItsEffects view (an_event (of_client client_event)) effects =
    effects ≡ effects_of_client view client_event
AreItsEffects view other effects = ⊤

-- ---- one thing that is given

-- These are done by it, in order. The room machine that the server is to its clients is after it
-- what these make of it; all that clients are sent by it is what the machine sends by these, in the
-- same order; each is the doing of the client that gave it, or of none, and can be done in its
-- turn. By a client just the effects are done that are decided of its line.
pub record IsDoneBy (view : View) (given : Given) (doings : List Doing) : Type 0 where
  pub machine : machine_of (given_served view given).state
      ≡ machine_along (machine_of view) doings
  pub sent : to_clients (given_served view given).out ≡ sent_along (machine_of view) doings
  pub each : EachDoing (IsDue (machine_of view) (giver_of given)) (machine_of view) doings
  pub effects : AreItsEffects view given (effects_of doings)

pub record IsOneMachine (view : View) (given : Given) : Type 0 where
  pub doings : List Doing
  pub is_done : IsDoneBy view given doings

-- ---- all that is given

abbrev pub after_given : View → List Given → View
after_given view [] = view
after_given view (given ∷ later) = after_given (given_served view given).state later

abbrev pub put_out : View → List Given → List Sent
put_out view [] = []
put_out view (given ∷ later) =
    (given_served view given).out ++ put_out (given_served view given).state later

-- these are done by each, in order
abbrev pub AreDoneBy : View → List Given → List (List Doing) → Type 0
AreDoneBy view [] [] = ⊤
AreDoneBy view (given ∷ later) (doings ∷ more) =
    IsSoFirst (IsDoneBy view given doings) (AreDoneBy (given_served view given).state later more)
AreDoneBy view other more = ⊥

-- all of them
abbrev pub all_of : List (List Doing) → List Doing
all_of doings = flat_map (λ each. each) doings

-- Over all that is given the server is one room machine, by what is done of each thing in turn. The
-- lines that a client has received are those that the machine sends it.
pub record AreOneMachine (view : View) (givens : List Given) : Type 0 where
  pub doings : List (List Doing)
  pub are_done : AreDoneBy view givens doings
  pub machine : machine_of (after_given view givens)
      ≡ machine_along (machine_of view) (all_of doings)
  pub sent : to_clients (put_out view givens) ≡ sent_along (machine_of view) (all_of doings)
  pub received : (conn : ℕ) → lines_to conn (put_out view givens)
      ≡ lines_to conn (sent_along (machine_of view) (all_of doings))
  pub can_be : EachDoing CanBeDone (machine_of view) (all_of doings)
  pub well_formed : IsWellFormed (after_given view givens).room
