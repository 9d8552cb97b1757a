-- What happens by a client of two servers that are alike: they stay so, and put out the same to
-- each client and on each link.
use Rattle.std.proofs.Common.{◌≡◌, ℕ, Bool, true, false, nat_eq, Option, Some, None, Result, Ok}
use Rattle.std.proofs.Common.{Err, List, [], ◌∷◌, ◌++◌, refl, sym, ◌∙◌, ap, subst, if◌then◌else◌}
use Rattle.std.proofs.lemmas.Bool.{eqb-true}
use Rattle.std.specs.FinMap.{get}
use Rattle.irc_line.specs.declared.reading.LineFault.{LineFault}
use Rattle.irc_line.specs.Messages.{Parsed}
use Rattle.irc_names.specs.Fold.{key}
use Rattle.irc_names.specs.Tables.{row}
use Rattle.irc_users.specs.declared.user.User.{User}
use Rattle.irc_numerics.specs.Replies.{reply_text}
use Rattle.irc_room.specs.effect.Effect.TheVariants.{Quit}
use Rattle.irc_room.specs.Room.{Room}
use Rattle.irc_routes.specs.Known.{place_of}
use Rattle.irc_acts.specs.declared.act.Act.{Act}
use Rattle.irc_acts.specs.declared.act.Act.TheVariants.{Answer, Raw, Do}
use Rattle.irc_commands.specs.Decisions.{Decided}
use Rattle.irc_commands.specs.Decide.{decide}
use Rattle.irc_commands.specs.Register.{register, Registered as Given}
use Rattle.irc_batch.specs.Batches.{end_of, line_to}
use Rattle.irc_stage.specs.declared.clients.Client.{Client}
use Rattle.irc_stage.specs.declared.clients.Client.TheVariants.{Registering, Registered}
use Rattle.irc_stage.specs.ClientTold.{client_told, closed_told, decision_told, given_told}
use Rattle.irc_stage.specs.ClientTold.{gone_told, line_told, message_told, quit_told, seated}
use Rattle.irc_stage.specs.ClientTold.{step_told, steps_told, unseated, user_told}
use Rattle.irc_stage.specs.EffectTold.{in_silence, with_sent}
use Rattle.irc_stage.specs.Handle.{client_after, connects, fresh, goes, lost_text, says, user_of}
use Rattle.irc_stage.specs.RoomMachine.{client_of}
use Rattle.irc_stage.specs.View.{View, machine_of}
use Rattle.irc_numbers.specs.Alike.{AreAlike, AreApart, IsAmong, Numbers}
use Rattle.irc_numbers.specs.ServedAlike.{ArePutOutAlike, AreServedAlike, StaysAlike}
use Rattle.irc_numbers.proofs.Effects.{client_at, effect_alike, known_of, nothing_put, then_put}
use Rattle.irc_numbers.proofs.Effects.{with_clients}
use Rattle.irc_numbers.proofs.Numbers.{put_alike, put_among, same_one, taken_alike, taken_among}
use Rattle.irc_numbers.proofs.Places.{place_same}

-- nothing is put out yet
pub silent_alike : (numbers : Numbers) (own other : View) → AreAlike numbers own other
    → AreServedAlike numbers (in_silence own) (in_silence other)
silent_alike numbers own other alike = record { views = alike; outs = nothing_put numbers }

-- by the client of this number, which is another one at the other server
module _ (numbers : Numbers) (apart : AreApart numbers) (client conn : ℕ)
    (at : numbers.client client ≡ Some conn) where
  -- ---- what it is told

  -- a number that is no client's is another
  another : (number : ℕ) → (IsAmong numbers.client number → ⊥) → nat_eq conn number ≡ false
  another number none = by (nat_eq conn number) refl
    where
      by : (b : Bool) → nat_eq conn number ≡ b → b ≡ false
      by true one =
          absurd (none (record { number = client; is = at ∙ ap Some (eqb-true conn number one) }))
      by false two = refl

  line_put : (line : List ℕ)
      → ArePutOutAlike numbers (line_to conn line ∷ []) (line_to client line ∷ [])
  line_put line = record {
    to_clients = λ one number is.
        ap (λ b. (if b then Some line ∷ [] else []) ++ [])
        (sym (same_one numbers.client apart.clients one number is client conn at));
    on_links = λ place number is. refl;
    to_no_other =
        λ number none. ap (λ b. (if b then Some line ∷ [] else []) ++ []) (another number none);
    on_no_other = λ number none. refl;
  }

  abbrev its_end : List (Option (List ℕ))
  its_end = None ∷ []

  end_put : ArePutOutAlike numbers (end_of conn ∷ []) (end_of client ∷ [])
  end_put = record {
    to_clients = λ one number is.
        ap (λ b. (if b then its_end else []) ++ [])
        (sym (same_one numbers.client apart.clients one number is client conn at));
    on_links = λ place number is. refl;
    to_no_other = λ number none. ap (λ b. (if b then its_end else []) ++ []) (another number none);
    on_no_other = λ number none. refl;
  }

  told_line : (mine theirs : List ℕ) → theirs ≡ mine → StaysAlike numbers
      (with_sent (line_to conn mine ∷ [])) (with_sent (line_to client theirs ∷ []))
  told_line mine theirs same own other alike =
      then_put numbers own other alike own.state other.state alike.views (line_to conn mine ∷ [])
      (line_to client theirs ∷ [])
      (subst (λ (line : List ℕ). ArePutOutAlike numbers (line_to conn mine ∷ [])
      (line_to client line ∷ [])) (sym same) (line_put mine))

  -- ---- who it is

  seated_alike : (own other : View) → AreAlike numbers own other → (who : Client)
      → AreAlike numbers (seated conn who own) (seated client who other)
  seated_alike own other alike who =
      let mine = (seated conn who own).clients in
      let theirs = (seated client who other).clients in
      with_clients numbers own other alike mine theirs own.room other.room
      (put_alike numbers.client apart.clients own.clients other.clients alike.clients
      alike.no_other_client client conn at who)
      (put_among numbers.client apart.clients own.clients other.clients alike.clients
      alike.no_other_client client conn at who) alike.room

  unseated_alike : (own other : View) → AreAlike numbers own other
      → AreAlike numbers (unseated conn own) (unseated client other)
  unseated_alike own other alike =
      let mine = (unseated conn own).clients in
      let theirs = (unseated client other).clients in
      with_clients numbers own other alike mine theirs own.room other.room
      (taken_alike numbers.client apart.clients own.clients other.clients alike.clients
      alike.no_other_client client conn at)
      (taken_among numbers.client apart.clients own.clients other.clients alike.clients
      alike.no_other_client client conn at) alike.room

  -- ---- steps

  step_alike : (name : Option (List ℕ)) (act : Act)
      → StaysAlike numbers (step_told conn name act) (step_told client name act)
  step_alike name (Answer reply) own other alike =
      told_line (reply_text own.state.routes.name name reply)
      (reply_text other.state.routes.name name reply)
      (ap (λ server. reply_text server name reply) alike.views.name) own other alike
  step_alike name (Raw line) own other alike = told_line line.items line.items refl own other alike
  step_alike name (Do effect) own other alike =
      effect_alike numbers apart None None tt effect own other alike

  steps_alike : (name : Option (List ℕ)) (acts : List Act)
      → StaysAlike numbers (steps_told conn name acts) (steps_told client name acts)
  steps_alike name [] own other alike = alike
  steps_alike name (act ∷ acts) own other alike =
      steps_alike name acts (step_told conn name act own) (step_told client name act other)
      (step_alike name act own other alike)

  closed_alike : (close : Bool)
      → StaysAlike numbers (closed_told close conn) (closed_told close client)
  closed_alike false own other alike = alike
  closed_alike true own other alike =
      then_put numbers own other alike (unseated conn own.state) (unseated client other.state)
      (unseated_alike own.state other.state alike.views)
      (end_of conn ∷ []) (end_of client ∷ []) end_put

  -- ---- lines

  module _ (own other : View) (alike : AreAlike numbers own other) where
    given_alike : (given : Given)
        → AreServedAlike numbers (given_told conn given own) (given_told client given other)
    given_alike given =
        let name = given.pending.nick in
        let who = client_after given name in
        let mine = in_silence (seated conn who own) in
        let theirs = in_silence (seated client who other) in
        closed_alike given.close (steps_told conn name given.steps mine)
        (steps_told client name given.steps theirs)
        (steps_alike name given.steps mine theirs (silent_alike numbers (seated conn who own)
        (seated client who other) (seated_alike own other alike who)))

    decision_alike : (name : Option (List ℕ)) (decision : Decided)
        → AreServedAlike numbers (decision_told conn name decision (in_silence own))
        (decision_told client name decision (in_silence other))
    decision_alike name decision =
        closed_alike decision.close (steps_told conn name decision.steps (in_silence own))
        (steps_told client name decision.steps (in_silence other))
        (steps_alike name decision.steps (in_silence own) (in_silence other)
        (silent_alike numbers own other alike))

    places : place_of other.routes ≡ place_of own.routes
    places = place_same numbers own.routes other.routes (known_of numbers own other alike) apart

    user_alike : (user : Option User) (message : Parsed) → AreServedAlike numbers
        (user_told own conn user message) (user_told other client user message)
    user_alike None message = silent_alike numbers own other alike
    user_alike (Some user) message =
        subst (λ (decision : Decided). AreServedAlike numbers (user_told own conn (Some user)
        message) (decision_told client (Some user.nick) decision (in_silence other)))
        (λ i. decide (sym alike.room i) (sym places i) user.nick message)
        (decision_alike (Some user.nick) (decide own.room (place_of own.routes) user.nick message))

    message_alike : (who : Option Client) (message : Parsed) → AreServedAlike numbers
        (message_told own conn who message) (message_told other client who message)
    message_alike None message = silent_alike numbers own other alike
    message_alike (Some (Registering pending)) message =
        subst (λ (given : Given). AreServedAlike numbers (message_told own conn
        (Some (Registering pending)) message) (given_told client given other))
        (λ i. register (sym alike.room i) (sym places i) pending message)
        (given_alike (register own.room (place_of own.routes) pending message))
    message_alike (Some (Registered nick)) message =
        subst (λ (user : Option User). AreServedAlike numbers (message_told own conn
        (Some (Registered nick)) message) (user_told other client user message))
        (ap (λ (room : Room). row room.users (key nick)) (sym alike.room))
        (user_alike (row own.room.users (key nick)) message)

    line_alike : (read : Result Parsed LineFault)
        → AreServedAlike numbers (line_told own conn read) (line_told other client read)
    line_alike (Ok message) =
        subst (λ (who : Option Client). AreServedAlike numbers (line_told own conn (Ok message))
        (message_told other client who message))
        (sym (client_at numbers own other alike client conn at))
        (message_alike (get own.clients conn) message)
    line_alike (Err fault) = silent_alike numbers own other alike

    -- ---- it is gone

    quit_alike : (user : Option (List ℕ)) → AreServedAlike numbers (quit_told user
        (in_silence (unseated conn own))) (quit_told user (in_silence (unseated client other)))
    quit_alike None = silent_alike numbers (unseated conn own) (unseated client other)
        (unseated_alike own other alike)
    quit_alike (Some nick) =
        effect_alike numbers apart None None tt (Quit nick lost_text)
        (in_silence (unseated conn own)) (in_silence (unseated client other))
        (silent_alike numbers (unseated conn own) (unseated client other)
        (unseated_alike own other alike))

    gone_alike : AreServedAlike numbers (gone_told own conn) (gone_told other client)
    gone_alike =
        subst (λ (user : Option (List ℕ)). AreServedAlike numbers (gone_told own conn)
        (quit_told user (in_silence (unseated client other))))
        (λ i. user_of (sym alike.room i) (sym (client_at numbers own other alike client conn at) i))
        (quit_alike (user_of own.room (client_of (machine_of own) conn)))

    -- ---- whatever happens by it

    pub connects_alike : (host : List ℕ) → AreServedAlike numbers
        (client_told own (connects conn host)) (client_told other (connects client host))
    unfolding client_told
    connects_alike host = silent_alike numbers (seated conn (fresh host) own)
        (seated client (fresh host) other) (seated_alike own other alike (fresh host))

    pub says_alike : (read : Result Parsed LineFault) → AreServedAlike numbers
        (client_told own (says conn read)) (client_told other (says client read))
    unfolding client_told
    says_alike read = line_alike read

    pub goes_alike : AreServedAlike numbers (client_told own (goes conn))
        (client_told other (goes client))
    unfolding client_told
    goes_alike = gone_alike
