-- A server with links and a room machine that does all the same: they differ in who is invited
-- alone, for invitations of other servers' users are theirs to keep.
use Rattle.std.proofs.Common.{◌≡◌, ℕ, Bool, true, false, cond, Option, Some, None, Ok, Err}
use Rattle.std.proofs.Common.{List, [], ◌∷◌, refl, sym, ◌∙◌, ap, subst, option_map, if◌then◌else◌}
use Rattle.std.specs.FinMap.{get, insert, remove}
use Rattle.irc_line.specs.Messages.{Parsed}
use Rattle.irc_names.specs.Fold.{key}
use Rattle.irc_names.specs.Tables.{Table, row}
use Rattle.irc_names.specs.TableLaws.{same_fold, one_fold, row-alter}
use Rattle.irc_channels.specs.declared.channel.Channel.{Channel}
use Rattle.irc_channels.specs.Channels.{invited_too}
use Rattle.irc_users.specs.declared.user.User.{User}
use Rattle.irc_room.specs.effect.Effect.{Effect}
use Rattle.irc_room.specs.effect.Effect.TheVariants.{AddUser, Rename, Quit, Join, Part, Kick}
use Rattle.irc_room.specs.effect.Effect.TheVariants.{ChangeModes, SetTopic, Say, Invite, ChangeUser}
use Rattle.irc_room.specs.After.{after}
use Rattle.irc_room.specs.OtherInvitations.{uninviting, AlikeStayAlike, AlikeTakeAlike, AreAlike}
use Rattle.irc_room.specs.Room.{Room}
use Rattle.irc_routes.specs.Known.{place_of}
use Rattle.irc_acts.specs.declared.act.Act.{Act}
use Rattle.irc_acts.specs.declared.act.Act.TheVariants.{Answer, Raw, Do}
use Rattle.irc_commands.specs.Decide.{decide}
use Rattle.irc_commands.specs.Register.{register}
use Rattle.irc_stage.specs.declared.clients.Client.{Client}
use Rattle.irc_stage.specs.declared.clients.Client.TheVariants.{Registering, Registered}
use Rattle.irc_stage.specs.RoomMachine.{Clients, RoomMachine, client_of}
use Rattle.irc_stage.specs.Handle.{Handled, ClientEvent, connects, says, goes, all_stepped}
use Rattle.irc_stage.specs.Handle.{clients_after, client_after, closing, handled}
use Rattle.irc_stage.specs.Handle.{lost_text, machine_after, quits, said_by, stepped, unchanged}
use Rattle.irc_stage.specs.Handle.{user_decided, user_of}
use Rattle.irc_stage.specs.Matched.{IsMatched}
use Rattle.irc_stage.specs.View.{View, machine_of}
use Rattle.irc_stage.specs.EffectTold.{Served, in_silence, is_elsewhere, room_after, view_after}
use Rattle.irc_stage.specs.ClientTold.{client_told, closed_told, message_told, quit_told}
use Rattle.irc_stage.specs.ClientTold.{step_told, steps_told, unseated, user_told}
use Rattle.irc_stage.specs.Loops.Speaking.{AreSpoken, AreSpokenAt, IsSaidByClient}
use Rattle.irc_stage.specs.Loops.Parts.{AreFit, AreFitAt, AreInTurn, AreInTurnAt, IsFit}
use Rattle.irc_stage.specs.Loops.Parts.{IsRegisteredAs, LeavesApart}

pub record AreTwins (one other : RoomMachine) : Type 0 where
  pub place : one.place ≡ other.place
  pub clients : one.clients ≡ other.clients
  pub room : AreAlike one.room other.room

pub are_its_twins : (machine : RoomMachine) → AreTwins machine machine
are_its_twins machine =
    record { place = refl; clients = refl; room = record { users = refl; channels = λ fold. refl } }

-- ---- an invitation that is not kept

-- who is invited is no part of what is compared
invited_aside : (nick : List ℕ) (o : Option Channel)
    → option_map uninviting (option_map (invited_too nick) o) ≡ option_map uninviting o
invited_aside nick None = refl
invited_aside nick (Some channel) = refl

module _ (room : Room) (by nick name : List ℕ) where
  one_channel : (q : List ℕ) (b : Bool) → same_fold q (key name) ≡ b → option_map uninviting (cond b
      (option_map (invited_too (key nick)) (row room.channels (key name))) (row room.channels q))
      ≡ option_map uninviting (row room.channels q)
  one_channel q true one =
      invited_aside (key nick) (row room.channels (key name))
      ∙ ap (λ f. option_map uninviting (row room.channels f)) (sym (one_fold q (key name) one))
  one_channel q false two = refl

  invited_alike : AreAlike (after room (Invite by nick name)) room
  unfolding after
  invited_alike = record {
    users = refl;
    channels = λ q.
        ap (option_map uninviting)
        (row-alter (key name) (option_map (invited_too (key nick))) room.channels q)
        ∙ one_channel q (same_fold q (key name)) refl;
  }

alike_through : (a b c : Room) → AreAlike a b → AreAlike b c → AreAlike a c
alike_through a b c one other =
    record { users = one.users ∙ other.users; channels = λ q. one.channels q ∙ other.channels q }

-- ---- an effect

module _ (stay : AlikeStayAlike) where
  room_alike : (room : Room) (view : View) (effect : Effect) → AreAlike room view.room
      → AreAlike (after room effect) (room_after view effect)
  room_alike room view effect alike = by (is_elsewhere view effect) refl
    where
      elsewhere : (effect : Effect) → is_elsewhere view effect ≡ true
          → AreAlike (after room effect) view.room
      elsewhere (Invite by nick name) is =
          alike_through _ room view.room (invited_alike room by nick name) alike
      elsewhere (AddUser user) is = absurd (cc is)
      elsewhere (Rename nick new) is = absurd (cc is)
      elsewhere (Quit nick text) is = absurd (cc is)
      elsewhere (Join nick channel op) is = absurd (cc is)
      elsewhere (Part nick channel text) is = absurd (cc is)
      elsewhere (Kick by channel nick text) is = absurd (cc is)
      elsewhere (ChangeModes by channel changes) is = absurd (cc is)
      elsewhere (SetTopic by channel text) is = absurd (cc is)
      elsewhere (Say by notice target text) is = absurd (cc is)
      elsewhere (ChangeUser nick change) is = absurd (cc is)

      by : (b : Bool) → is_elsewhere view effect ≡ b
          → AreAlike (after room effect) (if b then view.room else after view.room effect)
      by true is = elsewhere effect is
      by false is = stay room view.room effect alike

  pub effect_twins : (machine : RoomMachine) (view : View) (effect : Effect)
      → AreTwins machine (machine_of view)
      → AreTwins (machine_after machine effect) (machine_of (view_after view effect))
  effect_twins machine view effect twins = record {
    place = twins.place;
    clients = ap (clients_after effect) twins.clients;
    room = room_alike machine.room view effect twins.room;
  }

  -- what holds of each step in its turn at the one does at the other
  along : (IsSo : RoomMachine → Effect → Type 0) → ((one other : RoomMachine) (effect : Effect)
      → AreTwins one other → IsSo one effect → IsSo other effect)
      → (machine : RoomMachine) (view : View) (acts : List Act) → AreTwins machine (machine_of view)
      → AreInTurn IsSo machine acts → AreInTurnAt IsSo view acts
  along IsSo moves machine view [] twins all = tt
  along IsSo moves machine view (Answer reply ∷ acts) twins all =
      along IsSo moves machine view acts twins all
  along IsSo moves machine view (Raw line ∷ acts) twins all =
      along IsSo moves machine view acts twins all
  along IsSo moves machine view (Do effect ∷ acts) twins all = record {
    now = moves machine (machine_of view) effect twins all.now;
    later = along IsSo moves (machine_after machine effect) (view_after view effect) acts
        (effect_twins machine view effect twins) all.later;
  }

  fit_there : AlikeTakeAlike → (one other : RoomMachine) (effect : Effect) → AreTwins one other
      → IsFit one effect → IsFit other effect
  fit_there take one other effect twins fit = record {
    possible = (take one.room other.room effect twins.room).possible.0 fit.possible;
    at_home = λ conn nick user is there.
        fit.at_home conn nick user (ap (λ (cs : Clients). get cs conn) twins.clients ∙ is)
        (ap (λ (us : Table User). row us (key nick)) twins.room.users ∙ there)
        ∙ ap (λ p. p.name) twins.place;
    apart = subst (LeavesApart effect) twins.clients fit.apart;
  }

  said_there : (conn : ℕ) (one other : RoomMachine) (effect : Effect) → AreTwins one other
      → IsSaidByClient conn one effect → IsSaidByClient conn other effect
  said_there conn one other (Say by notice to words) twins said =
      subst (λ (cs : Clients). IsRegisteredAs (key by) (get cs conn)) twins.clients said
  said_there conn one other effect twins said = tt

  pub fit_along : AlikeTakeAlike → (view : View) (acts : List Act) → AreFit (machine_of view) acts
      → AreFitAt view acts
  fit_along take view acts fit =
      along IsFit (fit_there take) (machine_of view) view acts (are_its_twins (machine_of view)) fit

  pub spoken_along : (conn : ℕ) (view : View) (acts : List Act)
      → AreSpoken conn (machine_of view) acts → AreSpokenAt conn view acts
  spoken_along conn view acts spoken =
      along (IsSaidByClient conn) (said_there conn) (machine_of view) view acts
      (are_its_twins (machine_of view)) spoken

  -- ---- whatever happens by a client

  steps_twins : (conn : ℕ) (name : Option (List ℕ)) (acts : List Act) (h : Handled) (s : Served)
      → AreTwins h.state (machine_of s.state) → AreTwins (all_stepped conn name acts h).state
      (machine_of (steps_told conn name acts s).state)
  steps_twins conn name [] h s twins = twins
  steps_twins conn name (Answer reply ∷ acts) h s twins = steps_twins conn name acts
      (stepped conn name (Answer reply) h) (step_told conn name (Answer reply) s) twins
  steps_twins conn name (Raw line ∷ acts) h s twins = steps_twins conn name acts
      (stepped conn name (Raw line) h) (step_told conn name (Raw line) s) twins
  steps_twins conn name (Do effect ∷ acts) h s twins =
      steps_twins conn name acts (stepped conn name (Do effect) h)
      (step_told conn name (Do effect) s) (effect_twins h.state s.state effect twins)

  close_twins : (close : Bool) (conn : ℕ) (h : Handled) (s : Served)
      → AreTwins h.state (machine_of s.state)
      → AreTwins (closing close conn h).state (machine_of (closed_told close conn s).state)
  close_twins true conn h s twins = record {
    place = twins.place;
    clients = ap (λ (cs : Clients). remove cs conn) twins.clients;
    room = twins.room;
  }
  close_twins false conn h s twins = twins

  user_twins : (view : View) (conn : ℕ) (user : Option User) (message : Parsed)
      → AreTwins (user_decided (machine_of view) conn user message).state
      (machine_of (user_told view conn user message).state)
  user_twins view conn None message = are_its_twins (machine_of view)
  user_twins view conn (Some user) message =
      let decision = decide view.room (place_of view.routes) user.nick message in
      close_twins decision.close conn
      (all_stepped conn (Some user.nick) decision.steps (unchanged (machine_of view)))
      (steps_told conn (Some user.nick) decision.steps (in_silence view))
      (steps_twins conn (Some user.nick) decision.steps (unchanged (machine_of view))
      (in_silence view) (are_its_twins (machine_of view)))

  message_twins : (view : View) (conn : ℕ) (client : Option Client) (message : Parsed)
      → AreTwins (said_by (machine_of view) conn client message).state
      (machine_of (message_told view conn client message).state)
  message_twins view conn None message = are_its_twins (machine_of view)
  message_twins view conn (Some (Registering pending)) message =
      let given = register view.room (place_of view.routes) pending message in
      let seated =
      record view { clients = insert view.clients conn (client_after given given.pending.nick) }
      in
      close_twins given.close conn
      (all_stepped conn given.pending.nick given.steps (unchanged (machine_of seated)))
      (steps_told conn given.pending.nick given.steps (in_silence seated))
      (steps_twins conn given.pending.nick given.steps (unchanged (machine_of seated))
      (in_silence seated) (are_its_twins (machine_of seated)))
  message_twins view conn (Some (Registered nick)) message =
      user_twins view conn (row view.room.users (key nick)) message

  quit_twins : (view : View) (user : Option (List ℕ)) → AreTwins (quits user
      (unchanged (machine_of view))).state (machine_of (quit_told user (in_silence view)).state)
  quit_twins view None = are_its_twins (machine_of view)
  quit_twins view (Some nick) =
      effect_twins (machine_of view) view (Quit nick lost_text) (are_its_twins (machine_of view))

  pub told_twins : (view : View) (client_event : ClientEvent) → AreTwins
      (handled (machine_of view) client_event).state
      (machine_of (client_told view client_event).state)
  unfolding handled client_told
  told_twins view (connects conn host) = are_its_twins _
  told_twins view (says conn (Ok message)) =
      message_twins view conn (client_of (machine_of view) conn) message
  told_twins view (says conn (Err fault)) = are_its_twins (machine_of view)
  told_twins view (goes conn) =
      quit_twins (unseated conn view) (user_of view.room (client_of (machine_of view) conn))

-- ---- clients and users are matched at both or at neither

pub matched_there : (one other : RoomMachine) → AreTwins one other → IsMatched one → IsMatched other
matched_there one other twins matched =
    record {
      registered_is_user = moved.registered_is_user;
      user_has_one = moved.user_has_one;
      spelled = moved.spelled;
      user_has_client = moved.user_has_client;
    }
  where
    moved : IsMatched (record {
      place = other.place;
      clients = other.clients;
      room = record one.room { users = other.room.users };
    })
    moved =
        subst (λ users. IsMatched (record {
          place = other.place;
          clients = other.clients;
          room = record one.room { users = users };
        })) twins.room.users
        (subst (λ clients. IsMatched
        (record { place = other.place; clients = clients; room = one.room })) twins.clients
        (subst (λ place. IsMatched (record {
          place = place;
          clients = one.clients;
          room = one.room;
        })) twins.place matched))
