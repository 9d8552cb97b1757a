-- Whatever a client does, the clients and the users of its part stay matched.
use Rattle.std.proofs.Common.{◌≡◌, ℕ, Bool, true, false, cond, not, Option, Some, None}
use Rattle.std.proofs.Common.{Ok, Err, List, [], ◌∷◌, refl, sym, ◌∙◌, ap, subst, is_some, map}
use Rattle.std.proofs.Common.{option_map, if◌then◌else◌}
use Rattle.std.specs.List.{list_any}
use Rattle.std.specs.Option.{option_and_then}
use Rattle.std.specs.Cmp.{nat_cmp_total, first_so}
use Rattle.std.specs.Cmp.Lexicographic.{bytes_decides, texts_ties}
use Rattle.std.specs.Ordering.{nat_cmp}
use Rattle.std.specs.FinMap.{get, insert, remove, entries, find, get-insert, get-remove}
use Rattle.std.specs.FinMap.{get-entries, get-from_entries}
use Rattle.std.proofs.lemmas.Bool.{or_parts}
use Rattle.irc_names.specs.Lemmas.PlainFacts.{implied}
use Rattle.irc_names.specs.Fold.{key, same}
use Rattle.irc_names.specs.Tables.{row}
use Rattle.irc_names.specs.TableLaws.{same_fold, one_fold, row-alter, row-moved}
use Rattle.irc_line.specs.Messages.{Parsed}
use Rattle.irc_users.specs.declared.user.User.{User}
use Rattle.irc_users.specs.declared.user_change.UserChange.{UserChange}
use Rattle.irc_users.specs.UserTable.{with_nick, with_change}
use Rattle.irc_room.specs.effect.Effect.{Effect}
use Rattle.irc_room.specs.effect.Effect.TheVariants.{AddUser, Rename, Quit, ChangeUser}
use Rattle.irc_room.specs.Room.{IsWellFormed}
use Rattle.irc_room.specs.Effects.{IsPossible, has_user}
use Rattle.irc_room.specs.After.{after}
use Rattle.irc_relay.specs.Links.{Name}
use Rattle.irc_acts.specs.declared.act.Act.{Act}
use Rattle.irc_acts.specs.declared.act.Act.TheVariants.{Answer, Raw, Do}
use Rattle.irc_acts.specs.Possible.{ArePossible}
use Rattle.irc_commands.specs.Comings.{adds_or_ends, is_effect, AddsFirst, RegisteredIsAdded}
use Rattle.irc_commands.specs.Comings.{RegisteredStays, UnregisteredChangesNothing}
use Rattle.irc_commands.specs.Comings.{WhoIsClosedQuits, WhoStaysIsUser}
use Rattle.irc_commands.specs.Decide.{decide}
use Rattle.irc_commands.specs.Possible.{DecidedIsPossible, RegisteringIsPossible}
use Rattle.irc_commands.specs.Register.{register, Registered as Given}
use Rattle.irc_stage.specs.declared.clients.Client.{Client}
use Rattle.irc_stage.specs.declared.clients.Client.TheVariants.{Registering, Registered}
use Rattle.irc_stage.specs.RoomMachine.{Clients, RoomMachine, client_of, with_client}
use Rattle.irc_stage.specs.RoomMachine.{without_client, each_client}
use Rattle.irc_stage.specs.Handle.{ClientEvent, connects, says, goes, Handled, handled, renamed_in}
use Rattle.irc_stage.specs.Handle.{machine_after, with_effect, stepped, all_stepped, unchanged}
use Rattle.irc_stage.specs.Handle.{closing, client_after, fresh, pending_decided, user_decided}
use Rattle.irc_stage.specs.Handle.{said_by, quits, gone, lost_text}
use Rattle.irc_room.specs.Readers.{home_under}
use Rattle.irc_world.specs.ClientsUsers.{fold_of, registered_as, AreMatched}
use Rattle.irc_world.proofs.Matches.{same_number, same_number-refl, one_number, still_matched}
use Rattle.irc_world.proofs.Matches.{left_matched, came_matched, moved_matched}

-- ---- clients by number

registered_with : (clients : Clients) (conn : ℕ) (client : Client) (q : ℕ)
    → registered_as (insert clients conn client) q ≡ cond (same_number q conn) (fold_of client)
    (registered_as clients q)
registered_with clients conn client q = ap (option_and_then fold_of)
    (get-insert nat_cmp_total clients conn client q) ∙ by (same_number q conn)
  where
    by : (b : Bool) → option_and_then fold_of (cond b (Some client) (get clients q))
        ≡ cond b (fold_of client) (registered_as clients q)
    by true = refl
    by false = refl

registered_without : (clients : Clients) (conn q : ℕ) → registered_as (remove clients conn) q
    ≡ cond (same_number q conn) None (registered_as clients q)
registered_without clients conn q =
    ap (option_and_then fold_of) (get-remove nat_cmp_total clients conn q) ∙ by (same_number q conn)
  where
    by : (b : Bool) → option_and_then fold_of (cond b None (get clients q))
        ≡ cond b None (registered_as clients q)
    by true = refl
    by false = refl

-- where a client is no user, it makes no difference
none_for_none : (registered : ℕ → Option (List ℕ)) (conn q : ℕ) → registered conn ≡ None
    → cond (same_number q conn) None (registered q) ≡ registered q
none_for_none registered conn q none = by (same_number q conn) refl
  where
    by : (b : Bool) → same_number q conn ≡ b → cond b None (registered q) ≡ registered q
    by true one = sym (ap registered (one_number q conn one) ∙ none)
    by false two = refl

pub find_each : (change : Client → Client) (q : ℕ) (es : List (ℕ × Client)) → find nat_cmp q
    (map (λ (e : ℕ × Client). (e.0, change e.1)) es) ≡ option_map change (find nat_cmp q es)
find_each change q [] = refl
find_each change q (e ∷ es) = by (same_number q e.0) (find_each change q es)
  where
    by : (b : Bool) → find nat_cmp q (map (λ (e : ℕ × Client). (e.0, change e.1)) es)
        ≡ option_map change (find nat_cmp q es) → cond b (Some (change e.1))
        (find nat_cmp q (map (λ (e : ℕ × Client). (e.0, change e.1)) es))
        ≡ option_map change (cond b (Some e.1) (find nat_cmp q es))
    by true rest = refl
    by false rest = rest

renamed_fold : (nick new : List ℕ) (o : Option Client)
    → option_and_then fold_of (option_map (renamed_in nick new) o)
    ≡ option_map (λ fold. cond (same_fold fold (key nick)) (key new) fold)
    (option_and_then fold_of o)
renamed_fold nick new None = refl
renamed_fold nick new (Some (Registering pending)) = refl
renamed_fold nick new (Some (Registered name)) = by (same name nick)
    ∙ ap (λ b. Some (cond b (key new) (key name))) (texts_ties (key name) (key nick))
  where
    by : (b : Bool) → fold_of (if b then Registered new else Registered name)
        ≡ Some (cond b (key new) (key name))
    by true = refl
    by false = refl

registered_renamed : (nick new : List ℕ) (clients : Clients) (q : ℕ)
    → registered_as (each_client (renamed_in nick new) clients) q
    ≡ option_map (λ fold. cond (same_fold fold (key nick)) (key new) fold) (registered_as clients q)
registered_renamed nick new clients q =
    ap (option_and_then fold_of)
    (get-from_entries nat_cmp_total
    (map (λ (e : ℕ × Client). (e.0, renamed_in nick new e.1)) (entries clients)) q
    ∙ find_each (renamed_in nick new) q (entries clients)
    ∙ ap (option_map (renamed_in nick new)) (sym (get-entries clients q)))
    ∙ renamed_fold nick new (get clients q)

-- ---- effects

abbrev pub home_in_row : Option User → Option Name
home_in_row o = option_map (λ (user : User). user.home) o

home_of_cond : (b : Bool) (x y : Option User)
    → home_in_row (cond b x y) ≡ cond b (home_in_row x) (home_in_row y)
home_of_cond true x y = refl
home_of_cond false x y = refl

module _ (homes : ℕ → Option Name) where
  abbrev pub IsMatched : RoomMachine → Type 0
  IsMatched machine = AreMatched homes (home_under machine.room) (registered_as machine.clients)

  module _ (machine : RoomMachine) (nick new : List ℕ) (matched : IsMatched machine)
      (possible : IsPossible machine.room (Rename nick new)) where
    free : (home : Name) → home_under machine.room (key new) ≡ Some home → key new ≡ key nick
    free home is =
        sym ((bytes_decides (key nick) (key new)).0
        (implied (has_user machine.room new) (same nick new) possible.nick_free
        (there (row machine.room.users (key new)) is)))
      where
        there : (o : Option User) → home_in_row o ≡ Some home → is_some o ≡ true
        there None is = absurd (cc is)
        there (Some user) is = refl

    renamed_matched : IsMatched (machine_after machine (Rename nick new))
    unfolding after
    renamed_matched = by (row machine.room.users (key nick)) refl
        (first_so (has_user machine.room nick) true possible.users_there)
      where
        by : (o : Option User) → row machine.room.users (key nick) ≡ o → is_some o ≡ true
            → IsMatched (machine_after machine (Rename nick new))
        by None there some = absurd (cc some)
        by (Some user) there some = moved_matched homes (home_under machine.room)
            (registered_as machine.clients) matched (key nick) (key new) user.home
            (ap home_in_row there) free
            (home_under (machine_after machine (Rename nick new)).room)
            (registered_as (machine_after machine (Rename nick new)).clients)
            (λ fold. ap home_in_row (row-moved (key nick) (key new)
            (with_nick new) machine.room.users user there fold)
            ∙ home_of_cond (same_fold fold (key new)) (Some (with_nick new user))
            (cond (same_fold fold (key nick)) None (row machine.room.users fold))
            ∙ ap (cond (same_fold fold (key new)) (Some user.home))
            (home_of_cond (same_fold fold (key nick)) None (row machine.room.users fold)))
            (registered_renamed nick new machine.clients)

  mode_matched : (machine : RoomMachine) (nick : List ℕ) (change : UserChange) → IsMatched machine
      → IsMatched (machine_after machine (ChangeUser nick change))
  unfolding after
  mode_matched machine nick change matched =
      still_matched homes (home_under machine.room) (registered_as machine.clients) matched
      (home_under (machine_after machine (ChangeUser nick change)).room)
      (registered_as machine.clients)
      (λ fold. ap home_in_row (row-alter (key nick) (option_map (with_change change))
      machine.room.users fold) ∙ by fold (same_fold fold (key nick)) refl)
      (λ client. refl)
    where
      same_home : (o : Option User)
          → home_in_row (option_map (with_change change) o) ≡ home_in_row o
      same_home None = refl
      same_home (Some user) = refl

      by : (fold : List ℕ) (b : Bool) → same_fold fold (key nick) ≡ b → home_in_row
          (cond b (option_map (with_change change) (row machine.room.users (key nick)))
          (row machine.room.users fold))
          ≡ home_under machine.room fold
      by fold true one = same_home (row machine.room.users (key nick))
          ∙ ap (home_under machine.room) (sym (one_fold fold (key nick) one))
      by fold false two = refl

  -- who neither comes nor goes
  quiet_matched : (machine : RoomMachine) (effect : Effect) → IsMatched machine
      → IsPossible machine.room effect → adds_or_ends (Do effect) ≡ false
      → IsMatched (machine_after machine effect)
  unfolding after
  quiet_matched machine (AddUser user) matched possible quiet = absurd (cc quiet)
  quiet_matched machine (Rename nick new) matched possible quiet =
      renamed_matched machine nick new matched possible
  quiet_matched machine (Quit nick text) matched possible quiet = absurd (cc quiet)
  quiet_matched machine (ChangeUser nick change) matched possible quiet =
      mode_matched machine nick change matched
  quiet_matched machine other matched possible quiet = matched

  quiet_steps : (conn : ℕ) (name : Option (List ℕ)) (acts : List Act) (before : Handled)
      → IsMatched before.state → ArePossible before.state.room acts
      → list_any adds_or_ends acts ≡ false → IsMatched (all_stepped conn name acts before).state
  quiet_steps conn name [] before matched possible quiet = matched
  quiet_steps conn name (Answer reply ∷ acts) before matched possible quiet =
      quiet_steps conn name acts (stepped conn name (Answer reply) before) matched possible quiet
  quiet_steps conn name (Raw line ∷ acts) before matched possible quiet =
      quiet_steps conn name acts (stepped conn name (Raw line) before) matched possible quiet
  quiet_steps conn name (Do effect ∷ acts) before matched possible quiet =
      let parts = or_parts (adds_or_ends (Do effect)) (list_any adds_or_ends acts) quiet in
      quiet_steps conn name acts (with_effect effect before)
      (quiet_matched before.state effect matched possible.now parts.0) possible.later parts.1

  -- steps that change nothing
  still_steps : (conn : ℕ) (name : Option (List ℕ)) (acts : List Act) (before : Handled)
      → list_any is_effect acts ≡ false
      → (all_stepped conn name acts before).state ≡ before.state
  still_steps conn name [] before still = refl
  still_steps conn name (Answer reply ∷ acts) before still =
      still_steps conn name acts (stepped conn name (Answer reply) before) still
  still_steps conn name (Raw line ∷ acts) before still =
      still_steps conn name acts (stepped conn name (Raw line) before) still
  still_steps conn name (Do effect ∷ acts) before still = absurd (cc still)

  -- one that is no user is there, or is there no more
  seated_matched : (machine : RoomMachine) (conn : ℕ) (client : Client)
      → fold_of client ≡ None → registered_as machine.clients conn ≡ None → IsMatched machine
      → IsMatched (with_client machine conn client)
  seated_matched machine conn client no_user none matched =
      still_matched homes (home_under machine.room) (registered_as machine.clients) matched
      (home_under machine.room) (registered_as (insert machine.clients conn client)) (λ fold. refl)
      (λ q. registered_with machine.clients conn client q
      ∙ ap (λ o. cond (same_number q conn) o (registered_as machine.clients q)) no_user
      ∙ none_for_none (registered_as machine.clients) conn q none)

  taken_matched : (machine : RoomMachine) (conn : ℕ) → registered_as machine.clients conn ≡ None
      → IsMatched machine → IsMatched (without_client machine conn)
  taken_matched machine conn none matched =
      still_matched homes (home_under machine.room) (registered_as machine.clients) matched
      (home_under machine.room) (registered_as (remove machine.clients conn)) (λ fold. refl)
      (λ q. registered_without machine.clients conn q
      ∙ none_for_none (registered_as machine.clients) conn q none)

  -- a client goes, and its user quits
  quit_matched : (machine : RoomMachine) (conn : ℕ) (nick text : List ℕ)
      → registered_as machine.clients conn ≡ Some (key nick) → IsMatched machine
      → IsMatched (machine_after (without_client machine conn) (Quit nick text))
  unfolding after
  quit_matched machine conn nick text mine matched = left_matched homes (home_under machine.room)
      (registered_as machine.clients) matched conn (key nick) mine
      (home_under (machine_after (without_client machine conn) (Quit nick text)).room)
      (registered_as (remove machine.clients conn))
      (λ fold. ap home_in_row (row-alter (key nick) (λ _. None) machine.room.users fold)
      ∙ home_of_cond (same_fold fold (key nick)) None (row machine.room.users fold))
      (registered_without machine.clients conn)

  -- a client is registered, and its user is added
  added_matched : (machine : RoomMachine) (conn : ℕ) (user : User)
      → registered_as machine.clients conn ≡ None → homes conn ≡ Some user.home
      → IsPossible machine.room (AddUser user) → IsMatched machine
      → IsMatched (machine_after (with_client machine conn (Registered user.nick)) (AddUser user))
  unfolding after
  added_matched machine conn user none home possible matched =
      came_matched homes (home_under machine.room) (registered_as machine.clients) matched
      conn (key user.nick) user.home none
      (by (row machine.room.users (key user.nick)) possible.nick_free) home
      (home_under
      (machine_after (with_client machine conn (Registered user.nick)) (AddUser user)).room)
      (registered_as (insert machine.clients conn (Registered user.nick)))
      (λ fold. ap home_in_row (row-alter (key user.nick) (λ _. Some user) machine.room.users fold)
      ∙ home_of_cond (same_fold fold (key user.nick)) (Some user) (row machine.room.users fold))
      (registered_with machine.clients conn (Registered user.nick))
    where
      by : (o : Option User) → not (is_some o) ≡ true → home_in_row o ≡ None
      by None free = refl
      by (Some other) free = absurd (cc free)

  -- ---- lines

  module _ (decided_possible : DecidedIsPossible) (stays : WhoStaysIsUser)
      (closes : WhoIsClosedQuits) (machine : RoomMachine) (matched : IsMatched machine)
      (well : IsWellFormed machine.room) (conn : ℕ) where
    line_matched : (user : User) → registered_as machine.clients conn ≡ Some (key user.nick)
        → (message : Parsed) → IsMatched (user_decided machine conn (Some user) message).state
    line_matched user mine message =
        by (decide machine.room machine.place user.nick message).close refl
      where
        by : (b : Bool) → (decide machine.room machine.place user.nick message).close ≡ b
            → IsMatched (closing b conn (all_stepped conn (Some user.nick)
            (decide machine.room machine.place user.nick message).steps
            (unchanged machine))).state
        by true is =
            let first = closes machine.room machine.place user.nick message is in
            subst (λ (after : RoomMachine). IsMatched (without_client after conn))
            (sym (ap (λ acts. (all_stepped conn (Some user.nick) acts (unchanged machine)).state)
            first.steps_are
            ∙ still_steps conn (Some user.nick) first.behind
            (with_effect (Quit first.me.nick first.reason) (unchanged machine)) first.no_more))
            (quit_matched machine conn first.me.nick first.reason (mine ∙ ap Some
            (sym (well.users_named (key user.nick) first.me first.is_user))) matched)
        by false is = quiet_steps conn (Some user.nick)
            (decide machine.room machine.place user.nick message).steps (unchanged machine) matched
            (decided_possible machine.room machine.place user.nick message well)
            (stays machine.room machine.place user.nick message is)

    user_matched : (nick : List ℕ) → client_of machine conn ≡ Some (Registered nick)
        → (message : Parsed) → (o : Option User) → row machine.room.users (key nick) ≡ o
        → IsMatched (user_decided machine conn o message).state
    user_matched nick mine message None there = matched
    user_matched nick mine message (Some user) there =
        line_matched user (ap (option_and_then fold_of) mine
        ∙ ap Some (sym (well.users_named (key nick) user there))) message

  registered_client : (given : Given) (nick : List ℕ) → given.registered ≡ true
      → given.pending.nick ≡ Some nick → client_after given given.pending.nick ≡ Registered nick
  registered_client given nick is nick_is = ap (client_after given) nick_is
      ∙ ap (λ b. if b then Registered nick else Registering given.pending) is

  waiting_client : (given : Given) (o : Option (List ℕ)) → given.registered ≡ false
      → fold_of (client_after given o) ≡ None
  waiting_client given None is = refl
  waiting_client given (Some nick) is =
      ap (λ b. fold_of (if b then Registered nick else Registering given.pending)) is

  module _ (machine : RoomMachine) (matched : IsMatched machine) (conn : ℕ) (given : Given)
      (none : registered_as machine.clients conn ≡ None)
      (home : homes conn ≡ Some machine.place.name)
      (possible : ArePossible machine.room given.steps) where
    abbrev given_machine : RoomMachine
    given_machine = with_client machine conn (client_after given given.pending.nick)

    new_matched : given.registered ≡ true → given.close ≡ false
        → AddsFirst machine.place given.pending.nick given.steps
        → IsMatched (pending_decided machine conn given).state
    new_matched is stays first =
        subst (λ b. IsMatched (closing b conn (all_stepped conn given.pending.nick given.steps
        (unchanged given_machine))).state) (sym stays)
        (subst (λ acts. IsMatched (all_stepped conn given.pending.nick acts
        (unchanged given_machine)).state) (sym first.steps_are)
        (subst IsMatched (sym (still_steps conn given.pending.nick first.behind
        (with_effect (AddUser first.user) (unchanged given_machine)) first.no_more))
        (subst (λ client.
        IsMatched (machine_after (with_client machine conn client) (AddUser first.user)))
        (sym (registered_client given first.user.nick is first.is_nick))
        (added_matched machine conn first.user none (home ∙ ap Some (sym first.is_home))
        (subst (ArePossible machine.room) first.steps_are possible).now matched))))

    waiting_matched : given.registered ≡ false → list_any is_effect given.steps ≡ false
        → IsMatched (pending_decided machine conn given).state
    waiting_matched is still = by given.close
      where
        waits : IsMatched given_machine
        waits = seated_matched machine conn (client_after given given.pending.nick)
            (waiting_client given given.pending.nick is) none matched

        now_none : registered_as given_machine.clients conn ≡ None
        now_none = registered_with machine.clients conn (client_after given given.pending.nick) conn
            ∙ ap (λ b. cond b (fold_of (client_after given given.pending.nick))
            (registered_as machine.clients conn)) (same_number-refl conn)
            ∙ waiting_client given given.pending.nick is

        same_machine : (all_stepped conn given.pending.nick given.steps
            (unchanged given_machine)).state ≡ given_machine
        same_machine =
            still_steps conn given.pending.nick given.steps (unchanged given_machine) still

        by : (b : Bool) → IsMatched (closing b conn
            (all_stepped conn given.pending.nick given.steps (unchanged given_machine))).state
        by true = subst (λ (after : RoomMachine). IsMatched (without_client after conn))
            (sym same_machine) (taken_matched given_machine conn now_none waits)
        by false = subst IsMatched (sym same_machine) waits

  -- ---- a client is gone

  gone_matched : (machine : RoomMachine) → IsMatched machine → IsWellFormed machine.room
      → (conn : ℕ) (o : Option Client) → client_of machine conn ≡ o
      → IsMatched (gone machine conn o).state
  gone_matched machine matched well conn None is =
      taken_matched machine conn (ap (option_and_then fold_of) is) matched
  gone_matched machine matched well conn (Some (Registering pending)) is =
      taken_matched machine conn (ap (option_and_then fold_of) is) matched
  gone_matched machine matched well conn (Some (Registered nick)) is =
      by (row machine.room.users (key nick)) refl
    where
      by : (o : Option User) → row machine.room.users (key nick) ≡ o → IsMatched (quits (option_map
          (λ (user : User). user.nick) o) (unchanged (without_client machine conn))).state
      by None there =
          let user = matched.registered_is_user conn (key nick) (ap (option_and_then fold_of) is) in
          absurd (let none = sym (ap home_in_row there) ∙ user.of_user in cc none)
      by (Some user) there =
          quit_matched machine conn user.nick lost_text (ap (option_and_then fold_of) is
          ∙ ap Some (sym (well.users_named (key nick) user there))) matched

  -- ---- whatever happens

  -- who connects is not there yet, and who is there has the home that the machine has for its place
  abbrev pub IsDue : RoomMachine → ClientEvent → Type 0
  IsDue machine (connects conn host) = client_of machine conn ≡ None
  IsDue machine (says conn read) = homes conn ≡ Some machine.place.name
  IsDue machine (goes conn) = homes conn ≡ Some machine.place.name

  module _ (decided_possible : DecidedIsPossible) (stays : WhoStaysIsUser)
      (closes : WhoIsClosedQuits) (registering_possible : RegisteringIsPossible)
      (added : RegisteredIsAdded) (unchanging : UnregisteredChangesNothing) (kept : RegisteredStays)
      (machine : RoomMachine) (matched : IsMatched machine)
      (well : IsWellFormed machine.room) where
    said_matched : (conn : ℕ) (message : Parsed) → homes conn ≡ Some machine.place.name
        → (o : Option Client) → client_of machine conn ≡ o
        → IsMatched (said_by machine conn o message).state
    said_matched conn message home None is = matched
    said_matched conn message home (Some (Registering pending)) is =
        by (register machine.room machine.place pending message).registered refl
      where
        none : registered_as machine.clients conn ≡ None
        none = ap (option_and_then fold_of) is

        possible : ArePossible machine.room
            (register machine.room machine.place pending message).steps
        possible = registering_possible machine.room machine.place pending message well

        by : (b : Bool) → (register machine.room machine.place pending message).registered ≡ b
            → IsMatched (pending_decided machine conn
            (register machine.room machine.place pending message)).state
        by true is = new_matched machine matched conn
            (register machine.room machine.place pending message) none home possible is
            (kept machine.room machine.place pending message is)
            (added machine.room machine.place pending message is)
        by false is = waiting_matched machine matched conn
            (register machine.room machine.place pending message) none home possible is
            (unchanging machine.room machine.place pending message is)
    said_matched conn message home (Some (Registered nick)) is =
        user_matched decided_possible stays closes machine matched well conn nick is message
        (row machine.room.users (key nick)) refl

    pub handled_matched : (client_event : ClientEvent) → IsDue machine client_event
        → IsMatched (handled machine client_event).state
    unfolding handled
    handled_matched (connects conn host) due =
        seated_matched machine conn (fresh host) refl (ap (option_and_then fold_of) due) matched
    handled_matched (says conn (Err fault)) due = matched
    handled_matched (says conn (Ok message)) due =
        said_matched conn message due (client_of machine conn) refl
    handled_matched (goes conn) due =
        gone_matched machine matched well conn (client_of machine conn) refl
