-- Whatever happens, the effects that come of it are fit in their turn, and clients and users are
-- matched afterwards.
use Rattle.std.proofs.Common.{◌≡◌, ℕ, Bool, true, false, cond, ◌&&◌, Option, Some, None, Ok, Err}
use Rattle.std.proofs.Common.{List, ◌∷◌, refl, sym, ◌∙◌, ap, subst, option_map, is_some}
use Rattle.std.proofs.Common.{if◌then◌else◌}
use Rattle.std.specs.FinMap.{get}
use Rattle.std.specs.List.{list_any}
use Rattle.std.specs.Option.{option_map_or}
use Rattle.std.proofs.lemmas.Option.{same_Some}
use Rattle.irc_line.specs.Messages.{Parsed}
use Rattle.irc_names.specs.Fold.{key}
use Rattle.irc_names.specs.Tables.{row}
use Rattle.irc_users.specs.declared.user.User.{User}
use Rattle.irc_users.specs.UserTable.{is_home}
use Rattle.irc_room.specs.effect.Effect.TheVariants.{AddUser, Quit}
use Rattle.irc_room.specs.Room.{Room, IsWellFormed}
use Rattle.irc_room.specs.Effects.{IsPossible}
use Rattle.irc_acts.specs.declared.act.Act.{Act}
use Rattle.irc_acts.specs.declared.act.Act.TheVariants.{Do}
use Rattle.irc_acts.specs.Possible.{ArePossible}
use Rattle.irc_commands.specs.declared.pending.Pending.{Pending}
use Rattle.irc_commands.specs.Comings.{is_effect, AddsFirst, QuitFirst, RegisteredIsAdded}
use Rattle.irc_commands.specs.Comings.{RegisteredStays, UnregisteredChangesNothing}
use Rattle.irc_commands.specs.Comings.{WhoIsClosedQuits, WhoStaysIsUser}
use Rattle.irc_commands.specs.Decide.{decide}
use Rattle.irc_commands.specs.Possible.{DecidedIsPossible, RegisteringIsPossible}
use Rattle.irc_commands.specs.Register.{register, Registered as Given}
use Rattle.irc_stage.specs.declared.clients.Client.{Client}
use Rattle.irc_stage.specs.declared.clients.Client.TheVariants.{Registering, Registered}
use Rattle.irc_stage.specs.RoomMachine.{RoomMachine, client_of, with_client, without_client}
use Rattle.irc_stage.specs.Handle.{connects, says, goes, handled, client_after, closing}
use Rattle.irc_stage.specs.Handle.{all_stepped, unchanged, pending_decided, user_decided, said_by}
use Rattle.irc_stage.specs.Handle.{quits, gone, user_of, lost_text, fresh, machine_after}
use Rattle.irc_stage.specs.Handle.{with_effect}
use Rattle.irc_stage.specs.Matched.{IsMatched, StaysMatched}
use Rattle.irc_stage.specs.Loops.Parts.{AreFit, IsFit, IsFreeOf, IsNoUser}
use Rattle.irc_stage.specs.Lemmas.Numbers.{get-with, same_number-refl}
use Rattle.irc_stage.specs.Lemmas.Matching.{fit_by, quiet_fit, quiet_steps, still_so, still_steps}
use Rattle.irc_stage.specs.Lemmas.Matching.{pending_matched, left_matched, free_of, added_fit}
use Rattle.irc_stage.specs.Lemmas.Matching.{added_matched, quit_matched, quit_fit}

-- a line of a user

pub decided_fit : DecidedIsPossible → WhoStaysIsUser → WhoIsClosedQuits → (machine : RoomMachine)
    → IsMatched machine → IsWellFormed machine.room → (who : List ℕ) (message : Parsed)
    (acts : List Act) → acts ≡ (decide machine.room machine.place who message).steps
    → AreFit machine acts
decided_fit possible stays closes machine matched well who message acts are =
    subst (AreFit machine) (sym are) (by (decide machine.room machine.place who message).close refl)
  where
    steps_possible : ArePossible machine.room (decide machine.room machine.place who message).steps
    steps_possible = possible machine.room machine.place who message well

    first_quits : QuitFirst machine.room who (decide machine.room machine.place who message).steps
        → AreFit machine (decide machine.room machine.place who message).steps
    first_quits quits =
        let all = subst (ArePossible machine.room) quits.steps_are steps_possible in
        subst (AreFit machine) (sym quits.steps_are) (record {
          now = fit_by machine (Quit quits.me.nick quits.reason) matched all.now;
          later = still_so IsFit
              (machine_after machine (Quit quits.me.nick quits.reason)) quits.behind quits.no_more;
        })

    by : (b : Bool) → (decide machine.room machine.place who message).close ≡ b
        → AreFit machine (decide machine.room machine.place who message).steps
    by true is = first_quits (closes machine.room machine.place who message is)
    by false is = quiet_fit machine
        (decide machine.room machine.place who message).steps matched steps_possible
        (stays machine.room machine.place who message is)

-- the first step is a Quit of the client's own user, and the client is closed
quit_first : (machine : RoomMachine) (conn : ℕ) (name : Option (List ℕ)) (nick who : List ℕ)
    (steps : List Act) → IsMatched machine → IsWellFormed machine.room → client_of machine conn
    ≡ Some (Registered nick) → key who ≡ key nick → QuitFirst machine.room who steps
    → IsMatched (without_client (all_stepped conn name steps (unchanged machine)).state conn)
quit_first machine conn name nick who steps matched well mine who_is quits =
    subst (λ (v : RoomMachine). IsMatched (without_client v conn))
    (sym (ap (λ acts. (all_stepped conn name acts (unchanged machine)).state) quits.steps_are
    ∙ still_steps conn name quits.behind
    (with_effect (Quit quits.me.nick quits.reason) (unchanged machine)) quits.no_more))
    (quit_matched machine conn nick quits.me.nick quits.reason matched mine
    (well.users_named (key who) quits.me quits.is_user ∙ who_is))

pub user_matched : DecidedIsPossible → WhoStaysIsUser → WhoIsClosedQuits
    → (machine : RoomMachine) → IsMatched machine → IsWellFormed machine.room
    → (conn : ℕ) (nick : List ℕ) → client_of machine conn ≡ Some (Registered nick)
    → (message : Parsed) → (o : Option User) → row machine.room.users (key nick) ≡ o
    → IsMatched (user_decided machine conn o message).state
user_matched possible stays closes machine matched well conn nick mine message None there = matched
user_matched possible stays closes machine matched well conn nick mine message (Some user) there =
    by
    (decide machine.room machine.place user.nick message).close refl
  where
    by : (b : Bool) → (decide machine.room machine.place user.nick message).close ≡ b
        → IsMatched (closing b conn (all_stepped conn (Some user.nick) (decide machine.room
        machine.place user.nick message).steps (unchanged machine))).state
    by true is =
        quit_first machine conn (Some user.nick) nick user.nick
        (decide machine.room machine.place user.nick message).steps matched well mine
        (well.users_named (key nick) user there)
        (closes machine.room machine.place user.nick message is)
    by false is =
        quiet_steps conn (Some user.nick)
        (decide machine.room machine.place user.nick message).steps (unchanged machine) matched
        (possible machine.room machine.place user.nick message well)
        (stays machine.room machine.place user.nick message is)

-- a line before registration

unregistered : (given : Given) (nick : Option (List ℕ)) → given.registered ≡ false
    → client_after given nick ≡ Registering given.pending
unregistered given None is = refl
unregistered given (Some nick) is =
    ap (λ b. if b then Registered nick else Registering given.pending) is

registered : (given : Given) (nick : List ℕ) → given.registered ≡ true
    → given.pending.nick ≡ Some nick → client_after given given.pending.nick ≡ Registered nick
registered given nick is nick_is =
    ap (client_after given) nick_is
    ∙ ap (λ b. if b then Registered nick else Registering given.pending) is

module _ (machine : RoomMachine) (conn : ℕ) (given : Given) (matched : IsMatched machine)
    (possible : ArePossible machine.room given.steps)
    (adds : given.registered ≡ true → AddsFirst machine.place given.pending.nick given.steps)
    (still : given.registered ≡ false → list_any is_effect given.steps ≡ false)
    (stays : given.registered ≡ true → given.close ≡ false) where
  abbrev given_machine : RoomMachine
  given_machine = with_client machine conn (client_after given given.pending.nick)

  module _ (is : given.registered ≡ true) where
    abbrev first : AddsFirst machine.place given.pending.nick given.steps
    first = adds is

    client_is : client_after given given.pending.nick ≡ Registered (first.user.nick)
    client_is = registered given first.user.nick is first.is_nick

    add_possible : IsPossible machine.room (AddUser first.user)
    add_possible = (subst (ArePossible machine.room) first.steps_are possible).now

    new_fit : AreFit given_machine given.steps
    new_fit =
        subst (AreFit given_machine) (sym first.steps_are)
        (subst (λ client. AreFit (with_client machine conn client)
        (Do (AddUser first.user) ∷ first.behind)) (sym client_is)
        (record {
          now = added_fit machine conn first.user matched add_possible first.is_home;
          later = still_so IsFit (machine_after (with_client machine conn
              (Registered (first.user.nick))) (AddUser first.user)) first.behind first.no_more;
        }))

    new_free : IsFreeOf (client_after given given.pending.nick) machine.clients
    new_free = subst (λ client. IsFreeOf client machine.clients) (sym client_is)
        (free_of machine conn first.user matched add_possible first.is_home)

    new_matched : IsNoUser (client_of machine conn)
        → IsMatched (pending_decided machine conn given).state
    new_matched none =
        subst (λ b. IsMatched (closing b conn (all_stepped conn given.pending.nick given.steps
        (unchanged given_machine))).state) (sym (stays is))
        (subst (λ acts. IsMatched (all_stepped conn given.pending.nick acts
        (unchanged given_machine)).state) (sym first.steps_are)
        (subst IsMatched (sym (still_steps conn given.pending.nick first.behind
        (with_effect (AddUser first.user) (unchanged given_machine)) first.no_more))
        (subst (λ client. IsMatched (machine_after (with_client machine conn client)
        (AddUser first.user))) (sym client_is)
        (added_matched machine conn first.user matched add_possible first.is_home none))))

  module _ (is : given.registered ≡ false) where
    waits : client_after given given.pending.nick ≡ Registering given.pending
    waits = unregistered given given.pending.nick is

    still_free : IsFreeOf (client_after given given.pending.nick) machine.clients
    still_free = subst (λ client. IsFreeOf client machine.clients) (sym waits) tt

    waiting_matched : IsNoUser (client_of machine conn)
        → IsMatched (with_client machine conn (client_after given given.pending.nick))
    waiting_matched none =
        subst (λ client. IsMatched (with_client machine conn client)) (sym waits)
        (pending_matched machine conn (Registering given.pending) tt none matched)

    still_none : IsNoUser (client_of given_machine conn)
    still_none =
        subst IsNoUser
        (sym (get-with machine.clients conn (client_after given given.pending.nick) conn
        ∙ ap (λ b. cond b (Some (client_after given given.pending.nick)) (get machine.clients conn))
        (same_number-refl conn)))
        (subst (λ client. IsNoUser (Some client)) (sym waits) tt)

    closed : IsNoUser (client_of machine conn) → (b : Bool) → IsMatched (closing b conn
        (all_stepped conn given.pending.nick given.steps (unchanged given_machine))).state
    closed none true =
        subst (λ (v : RoomMachine). IsMatched (without_client v conn))
        (sym (still_steps conn given.pending.nick given.steps (unchanged given_machine) (still is)))
        (left_matched given_machine conn still_none (waiting_matched none))
    closed none false = subst IsMatched (sym (still_steps conn given.pending.nick given.steps
        (unchanged given_machine) (still is))) (waiting_matched none)

  pub given_fit : AreFit given_machine given.steps
  given_fit = by given.registered refl
    where
      by : (b : Bool) → given.registered ≡ b → AreFit given_machine given.steps
      by true is = new_fit is
      by false is = still_so IsFit given_machine given.steps (still is)

  pub given_free : IsFreeOf (client_after given given.pending.nick) machine.clients
  given_free = by given.registered refl
    where
      by : (b : Bool) → given.registered ≡ b
          → IsFreeOf (client_after given given.pending.nick) machine.clients
      by true is = new_free is
      by false is = still_free is

  pub given_matched : IsNoUser (client_of machine conn)
      → IsMatched (pending_decided machine conn given).state
  given_matched none = by given.registered refl
    where
      by : (b : Bool) → given.registered ≡ b
          → IsMatched (pending_decided machine conn given).state
      by true is = new_matched is none
      by false is = closed is none given.close

-- a client is gone

-- its user is one, and can quit
pub quit_possible : (room : Room) → IsWellFormed room → (client : Option Client)
    (nick text : List ℕ) → user_of room client ≡ Some nick → IsPossible room (Quit nick text)
quit_possible room well None nick text is = absurd (cc is)
quit_possible room well (Some (Registering pending)) nick text is = absurd (cc is)
quit_possible room well (Some (Registered name)) nick text is =
    by_row (row room.users (key name)) refl is
  where
    by_row : (o : Option User) → row room.users (key name) ≡ o
        → option_map (λ (user : User). user.nick) o ≡ Some nick → IsPossible room (Quit nick text)
    by_row None there none = absurd (cc none)
    by_row (Some user) there some = record {
      users_there =
          ap (λ q. is_some (row room.users q) && true) (sym
          (ap key (same_Some (user.nick) nick some)) ∙ well.users_named (key name) user there)
          ∙ ap (λ o. is_some o && true) there;
      channel_there = refl;
      nick_free = refl;
    }

pub gone_fit : (machine : RoomMachine) (conn : ℕ) (nick text : List ℕ) → IsMatched machine
    → IsWellFormed machine.room → user_of machine.room (client_of machine conn) ≡ Some nick
    → IsFit (without_client machine conn) (Quit nick text)
gone_fit machine conn nick text matched well is =
    quit_fit machine conn nick text matched
    (quit_possible machine.room well (client_of machine conn) nick text is)

gone_matched : (machine : RoomMachine) (conn : ℕ) → IsMatched machine
    → IsWellFormed machine.room → (client : Option Client) → client_of machine conn ≡ client
    → IsMatched (gone machine conn client).state
gone_matched machine conn matched well None is =
    left_matched machine conn (subst IsNoUser (sym is) tt) matched
gone_matched machine conn matched well (Some (Registering pending)) is =
    left_matched machine conn (subst IsNoUser (sym is) tt) matched
gone_matched machine conn matched well (Some (Registered name)) is =
    by_row (row machine.room.users (key name)) refl
  where
    by_row : (o : Option User) → row machine.room.users (key name) ≡ o
        → IsMatched (quits (option_map (λ (user : User). user.nick) o)
        (unchanged (without_client machine conn))).state
    by_row None there =
        let here = matched.registered_is_user conn name is in
        let nobody = ap (λ o. option_map_or (is_home machine.place.name) o false) there in absurd cc
    by_row (Some user) there = quit_matched machine conn name user.nick lost_text matched is
        (well.users_named (key name) user there)

-- whatever happens

pub stays_matched : DecidedIsPossible → WhoStaysIsUser → WhoIsClosedQuits → RegisteringIsPossible
    → RegisteredIsAdded → UnregisteredChangesNothing → RegisteredStays → StaysMatched
unfolding handled
stays_matched possible stays closes register_possible added unchanging kept machine matched well
    (connects conn host) due =
    pending_matched machine conn (fresh host) tt (subst IsNoUser (sym due) tt) matched
stays_matched possible stays closes register_possible added unchanging kept machine matched well
    (says conn (Err fault)) due = matched
stays_matched possible stays closes register_possible added unchanging kept machine matched well
    (goes conn) due =
    gone_matched machine conn matched well (client_of machine conn) refl
stays_matched possible stays closes register_possible added unchanging kept machine matched well
    (says conn (Ok message)) due = by (client_of machine conn) refl
  where
    by : (o : Option Client) → client_of machine conn ≡ o
        → IsMatched (said_by machine conn o message).state
    by None is = matched
    by (Some (Registering pending)) is =
        given_matched machine conn (register machine.room machine.place pending message) matched
        (register_possible machine.room machine.place pending message well)
        (added machine.room machine.place pending message)
        (unchanging machine.room machine.place pending message)
        (kept machine.room machine.place pending message)
        (subst IsNoUser (sym is) tt)
    by (Some (Registered nick)) is =
        user_matched possible stays closes machine matched well conn nick is message
        (row machine.room.users (key nick)) refl

-- the same of what the code has decided

pub registering_fit : RegisteringIsPossible → RegisteredIsAdded → UnregisteredChangesNothing
    → RegisteredStays → (machine : RoomMachine) (conn : ℕ) (pending : Pending) (message : Parsed)
    (given : Given) → given ≡ register machine.room machine.place pending message
    → IsMatched machine → IsWellFormed machine.room
    → AreFit (with_client machine conn (client_after given given.pending.nick)) given.steps
registering_fit possible added unchanging kept machine conn pending message given is matched well =
    subst (λ (g : Given). AreFit (with_client machine conn (client_after g g.pending.nick)) g.steps)
    (sym is)
    (given_fit machine conn (register machine.room machine.place pending message) matched
    (possible machine.room machine.place pending message well)
    (added machine.room machine.place pending message)
    (unchanging machine.room machine.place pending message)
    (kept machine.room machine.place pending message))

pub registering_free : RegisteringIsPossible → RegisteredIsAdded
    → UnregisteredChangesNothing → RegisteredStays
    → (machine : RoomMachine) (conn : ℕ) (pending : Pending) (message : Parsed) (given : Given)
    → given ≡ register machine.room machine.place pending message → IsMatched machine
    → IsWellFormed machine.room → IsFreeOf (client_after given given.pending.nick) machine.clients
registering_free possible added unchanging kept machine conn pending message given is matched well =
    subst (λ (g : Given). IsFreeOf (client_after g g.pending.nick) machine.clients) (sym is)
    (given_free machine conn (register machine.room machine.place pending message) matched
    (possible machine.room machine.place pending message well)
    (added machine.room machine.place pending message)
    (unchanging machine.room machine.place pending message)
    (kept machine.room machine.place pending message))
