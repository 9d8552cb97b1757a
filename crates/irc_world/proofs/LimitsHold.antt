-- Rooms keep to their limits.
use Rattle.std.proofs.Common.{◌≡◌, ℕ, suc, Bool, true, false, cond, not, arith, Option, Some, None}
use Rattle.std.proofs.Common.{Ok, Err, List, [], ◌∷◌, ◌++◌, ◌⊎◌, ⊎_elim, inl, inr, length, refl}
use Rattle.std.proofs.Common.{sym, ◌∙◌, ap, subst, map, option_map, if◌then◌else◌}
use Rattle.std.specs.List.{AllByRecursion}
use Rattle.std.specs.Option.{option_map_or}
use Rattle.std.specs.Ordering.{nat_cmp}
use Rattle.std.specs.Cmp.{nat_cmp_total}
use Rattle.std.specs.FinMap.{get, insert, remove, entries, get-empty, get-insert, get-remove}
use Rattle.std.specs.FinMap.{get-entries, get-from_entries}
use Rattle.std.proofs.lemmas.Option.{same_Some}
use Rattle.irc_names.specs.Fold.{key}
use Rattle.irc_names.specs.Names.{IsHost, IsServer}
use Rattle.irc_names.specs.Tables.{row}
use Rattle.irc_line.specs.Carried.{IsCarried, AreLineWords}
use Rattle.irc_line.specs.Laws.{WordsAreOfTheLine}
use Rattle.irc_line.specs.Messages.{Parsed}
use Rattle.irc_line.specs.Reading.{read_of}
use Rattle.irc_users.specs.declared.user.User.{User}
use Rattle.irc_room.specs.effect.Effect.{Effect}
use Rattle.irc_room.specs.effect.Effect.TheVariants.{Rename, Quit}
use Rattle.irc_room.specs.Room.{IsWellFormed}
use Rattle.irc_room.specs.Limits.{IsWithinLimits, KeepsLimits}
use Rattle.irc_room.specs.Laws.{NoRoomIsWithinLimits, AfterIsWithinLimits, SentKeepsLimits}
use Rattle.irc_relay.specs.Links.{Name, Link, joined, links_without}
use Rattle.irc_acts.specs.declared.act.Act.{Act}
use Rattle.irc_acts.specs.declared.act.Act.TheVariants.{Answer, Raw, Do}
use Rattle.irc_acts.specs.Sendable.{AreSendable}
use Rattle.irc_commands.specs.declared.pending.Pending.{Pending}
use Rattle.irc_commands.specs.Decide.{decide}
use Rattle.irc_commands.specs.Register.{register, Registered as Given}
use Rattle.irc_commands.specs.Sendable.{IsPendingWithin, DecidedIsSendable, RegisteringIsSendable}
use Rattle.irc_merge.specs.LimitLaws.{MergeIsWithinLimits, SplitIsWithinLimits}
use Rattle.irc_stage.specs.declared.clients.Client.{Client}
use Rattle.irc_stage.specs.declared.clients.Client.TheVariants.{Registering, Registered}
use Rattle.irc_stage.specs.RoomMachine.{Clients, RoomMachine, client_of, with_client}
use Rattle.irc_stage.specs.RoomMachine.{without_client}
use Rattle.irc_stage.specs.Handle.{ClientEvent, connects, says, goes, Handled, handled, is_client}
use Rattle.irc_stage.specs.Handle.{renamed_in, clients_after, with_effect, stepped, all_stepped}
use Rattle.irc_stage.specs.Handle.{unchanged, closing, client_after, fresh, user_decided, said_by}
use Rattle.irc_stage.specs.Handle.{user_of, quits, lost_text}
use Rattle.irc_world.specs.World.{Setting, Hall, World, new_world, is_server, home_of, machine_at}
use Rattle.irc_world.specs.World.{with_hall}
use Rattle.irc_world.specs.Stepping.{Item, connect, line, gone, link, cut, step, still as unmoved}
use Rattle.irc_world.specs.Stepping.{by_machine, by_client, clashes_in, merged, link_made}
use Rattle.irc_world.specs.Stepping.{remaining, parted as cut_apart, split_text, servers_on_side}
use Rattle.irc_world.specs.Owed.{after_items}
use Rattle.irc_world.specs.Sound.{IsSound, AreTaken}
use Rattle.irc_world.specs.Laws.{StepStaysSound}
use Rattle.irc_world.specs.WithinLimits.{IsHallWithin, IsWorldWithin, IsItemWithin, AreNamed}
use Rattle.irc_world.specs.WithinLimits.{StepKeepsLimits, RoomsKeepLimits}
use Rattle.irc_world.proofs.Halls.{hall_with}
use Rattle.irc_world.proofs.HomesKept.{named}
use Rattle.irc_world.proofs.MachineMatches.{find_each}
use Rattle.irc_world.proofs.Matches.{same_number}
use Rattle.irc_world.proofs.StaysSound.{new_world_is_sound}
use Rattle.irc_world.specs.Lemmas.MergedClients.{first_of, get-kept, get-merged}

-- what the clients have given that are not registered
abbrev AreGiven : Clients → Type 0
AreGiven clients = (client : ℕ) (pending : Pending)
    → get clients client ≡ Some (Registering pending) → IsPendingWithin pending

pub record Keeps (machine : RoomMachine) : Type 0 where
  pub room : IsWithinLimits machine.room
  pub given : AreGiven machine.clients

still_waits : (nick new : List ℕ) (pending : Pending) (o : Option Client) → option_map
    (renamed_in nick new) o ≡ Some (Registering pending) → o ≡ Some (Registering pending)
still_waits nick new pending None is = absurd (cc is)
still_waits nick new pending (Some (Registering other)) is = is
still_waits nick new pending (Some (Registered name)) is = by (is_client nick (Registered name)) is
  where
    by : (b : Bool) → Some (if b then Registered new else Registered name)
        ≡ Some (Registering pending) → Some (Registered name) ≡ Some (Registering pending)
    by true is = absurd (cc is)
    by false is = is

waits_after : (effect : Effect) (clients : Clients) → AreGiven clients
    → AreGiven (clients_after effect clients)
waits_after (Rename nick new) clients all =
    λ client pending is. all client pending (still_waits nick new pending (get clients client)
    (sym (get-from_entries nat_cmp_total
    (map (λ (e : ℕ × Client). (e.0, renamed_in nick new e.1)) (entries clients)) client
    ∙ find_each (renamed_in nick new) client (entries clients)
    ∙ ap (option_map (renamed_in nick new)) (sym (get-entries clients client))) ∙ is))
waits_after other clients all = all

given_with : (clients : Clients) (conn : ℕ) (client : Client) → AreGiven clients
    → ((pending : Pending) → client ≡ Registering pending → IsPendingWithin pending)
    → AreGiven (insert clients conn client)
given_with clients conn client all new q pending is =
    by (same_number q conn) (sym (get-insert nat_cmp_total clients conn client q) ∙ is)
  where
    by : (b : Bool) → cond b (Some client) (get clients q) ≡ Some (Registering pending)
        → IsPendingWithin pending
    by true is = new pending (same_Some client (Registering pending) is)
    by false is = all q pending is

given_without : (clients : Clients) (conn : ℕ) → AreGiven clients → AreGiven (remove clients conn)
given_without clients conn all q pending is =
    by (same_number q conn) (sym (get-remove nat_cmp_total clients conn q) ∙ is)
  where
    by : (b : Bool) → cond b None (get clients q) ≡ Some (Registering pending)
        → IsPendingWithin pending
    by true is = absurd (cc is)
    by false is = all q pending is

pending_in : (one other : Pending) → Registering one ≡ Registering other → one ≡ other
pending_in one other is = cc

module _ (after_within : AfterIsWithinLimits) (sent : SentKeepsLimits) where
  effect_keeps : (effect : Effect) (before : Handled) → KeepsLimits effect → Keeps before.state
      → Keeps (with_effect effect before).state
  effect_keeps effect before small keeps = record {
    room = after_within before.state.room effect keeps.room small;
    given = waits_after effect before.state.clients keeps.given;
  }

  steps_keep : (conn : ℕ) (name : Option (List ℕ)) (acts : List Act) (before : Handled)
      → Keeps before.state → AreSendable before.state.room acts
      → Keeps (all_stepped conn name acts before).state
  steps_keep conn name [] before keeps sendable = keeps
  steps_keep conn name (Answer reply ∷ acts) before keeps sendable =
      steps_keep conn name acts (stepped conn name (Answer reply) before) keeps sendable
  steps_keep conn name (Raw raw ∷ acts) before keeps sendable =
      steps_keep conn name acts (stepped conn name (Raw raw) before) keeps sendable
  steps_keep conn name (Do effect ∷ acts) before keeps sendable =
      steps_keep conn name acts (with_effect effect before)
      (effect_keeps effect before (sent before.state.room effect keeps.room sendable.now) keeps)
      sendable.later

  leaving_keeps : (machine : RoomMachine) (conn : ℕ) → Keeps machine
      → Keeps (without_client machine conn)
  leaving_keeps machine conn keeps =
      record { room = keeps.room; given = given_without machine.clients conn keeps.given }

  close_keeps : (close : Bool) (conn : ℕ) (before : Handled) → Keeps before.state
      → Keeps (closing close conn before).state
  close_keeps true conn before keeps = leaving_keeps before.state conn keeps
  close_keeps false conn before keeps = keeps

  quits_keep : (nick : Option (List ℕ)) (before : Handled) → Keeps before.state
      → Keeps (quits nick before).state
  quits_keep None before keeps = keeps
  quits_keep (Some nick) before keeps = effect_keeps (Quit nick lost_text) before tt keeps

  module _ (decided : DecidedIsSendable) (registering : RegisteringIsSendable)
      (machine : RoomMachine) (keeps : Keeps machine)
      (well : IsWellFormed machine.room)
      (place_named : IsServer machine.place.name) (conn : ℕ) (bytes : List ℕ) (message : Parsed)
      (words : AreLineWords bytes message) where
    user_keeps : (o : Option User) → Keeps (user_decided machine conn o message).state
    user_keeps None = keeps
    user_keeps (Some user) =
        close_keeps (decide machine.room machine.place user.nick message).close conn
        (all_stepped conn (Some user.nick)
        (decide machine.room machine.place user.nick message).steps (unchanged machine))
        (steps_keep conn (Some user.nick)
        (decide machine.room machine.place user.nick message).steps (unchanged machine) keeps
        (decided machine.room machine.place user.nick bytes message well keeps.room words))

    said_keeps : (o : Option Client) → client_of machine conn ≡ o
        → Keeps (said_by machine conn o message).state
    said_keeps None is = keeps
    said_keeps (Some (Registering pending)) is =
        close_keeps given.close conn (all_stepped conn given.pending.nick given.steps
        (unchanged (with_client machine conn (client_after given given.pending.nick))))
        (steps_keep conn given.pending.nick given.steps
        (unchanged (with_client machine conn (client_after given given.pending.nick)))
        (record {
          room = keeps.room;
          given = given_with machine.clients conn
              (client_after given given.pending.nick) keeps.given (waits given.pending.nick);
        })
        both.1)
      where
        given : Given
        given = register machine.room machine.place pending message

        both : IsPendingWithin given.pending × AreSendable machine.room given.steps
        both = registering machine.room machine.place pending bytes message
            (keeps.given conn pending is) place_named words

        waits : (o : Option (List ℕ)) (new : Pending) → client_after given o ≡ Registering new
            → IsPendingWithin new
        waits None new is = subst IsPendingWithin (pending_in given.pending new is) both.0
        waits (Some nick) new is = by given.registered is
          where
            by : (b : Bool) → (if b then Registered nick else Registering given.pending)
                ≡ Registering new → IsPendingWithin new
            by true is = absurd (cc is)
            by false is = subst IsPendingWithin (pending_in given.pending new is) both.0
    said_keeps (Some (Registered nick)) is = user_keeps (row machine.room.users (key nick))

  fresh_within : (host : List ℕ) (pending : Pending) → IsHost host
      → fresh host ≡ Registering pending → IsPendingWithin pending
  fresh_within host pending fits is = subst IsPendingWithin (pending_in
      (record { nick = None; user = None; real = []; host = host }) pending is) (record {
        nick = tt;
        name = tt;
        real_fits = omega arith;
        real_carried = refl;
        host = fits;
      })

-- ---- items

module _ (words : WordsAreOfTheLine) (after_within : AfterIsWithinLimits) (sent : SentKeepsLimits)
    (decided : DecidedIsSendable)
    (registering : RegisteringIsSendable)
    (settings : List Setting) (names : AreNamed settings) where
  hall_keeps : (world : World) (home : Name) (client_event : ClientEvent) → IsWorldWithin world
      → Keeps (handled (machine_at settings world home) client_event).state
      → IsWorldWithin (by_machine settings world home client_event).state
  hall_keeps world home client_event all keeps s = hall_with IsHallWithin home s hall world
      (λ _. record { room = keeps.room; given = keeps.given }) (λ _. all s)
    where
      hall : Hall
      hall = record {
        clients = (handled (machine_at settings world home) client_event).state.clients;
        room = (handled (machine_at settings world home) client_event).state.room;
      }

  start : (world : World) (home : Name) → IsWorldWithin world
      → Keeps (machine_at settings world home)
  start world home all = record { room = (all home).room; given = (all home).given }

  connect_keeps : (world : World) (server : Name) (conn : ℕ) (host : List ℕ)
      → IsHost host → IsWorldWithin world
      → IsWorldWithin (by_machine settings world server (connects conn host)).state
  unfolding handled
  connect_keeps world server conn host fits all =
      hall_keeps world server (connects conn host) all (record {
        room = (all server).room;
        given = given_with (world.hall server).clients conn (fresh host) (all server).given
            (λ pending is. fresh_within after_within sent host pending fits is);
      })

  line_keeps : (world : World) (client : ℕ) (bytes : List ℕ)
      → IsCarried bytes → IsSound settings world → IsWorldWithin world
      → IsWorldWithin (by_client settings world client (says client (read_of bytes))).state
  unfolding handled
  line_keeps world client bytes carried sound all = by (home_of world client) refl
    where
      read_keeps : (home : Name) → is_server settings home ≡ true → (read : _) → read_of bytes
          ≡ read → Keeps (handled (machine_at settings world home) (says client read)).state
      read_keeps home known (Err fault) is = start world home all
      read_keeps home known (Ok message) is =
          said_keeps after_within sent decided registering (machine_at settings world home)
          (start world home all) (sound.well_formed home)
          (subst IsServer (sym (named settings settings world.links home))
          (names home known)) client bytes message (words bytes message carried is)
          (client_of (machine_at settings world home) client) refl

      by : (o : Option Name) → home_of world client ≡ o → IsWorldWithin (option_map_or (λ home.
          by_machine settings world home (says client (read_of bytes))) o (unmoved world)).state
      by None is = all
      by (Some home) is = hall_keeps world home (says client (read_of bytes)) all
          (read_keeps home (sound.homes_known client home is) (read_of bytes) refl)

  gone_keeps : (world : World) (client : ℕ) → IsWorldWithin world
      → IsWorldWithin (by_client settings world client (goes client)).state
  unfolding handled
  gone_keeps world client all = by (home_of world client)
    where
      by : (o : Option Name) → IsWorldWithin (option_map_or
          (λ home. by_machine settings world home (goes client)) o (unmoved world)).state
      by None = all
      by (Some home) = hall_keeps world home (goes client) all
          (quits_keep after_within sent
          (user_of (world.hall home).room (client_of (machine_at settings world home) client))
          (unchanged (without_client (machine_at settings world home) client))
          (leaving_keeps after_within sent (machine_at settings world home) client
          (start world home all)))

link_keeps : MergeIsWithinLimits → (settings : List Setting) (world : World) (near far : Name)
    → IsSound settings world → IsWorldWithin world → IsWorldWithin (link_made world near far).state
link_keeps merge_within settings world near far sound all s =
    hall_with IsHallWithin near s (merged (world.hall near) (world.hall far))
    (record world { links = record { near = near; far = far } ∷ world.links })
    (λ _. record {
      room = merge_within (world.hall near).room (world.hall far).room (sound.well_formed near)
          (sound.well_formed far) (all near).room (all far).room;
      given = λ client pending is. ⊎_elim (λ (one : get (world.hall near).clients client
          ≡ Some (Registering pending)). (all near).given client pending one)
          (λ (other : get (world.hall far).clients client ≡ Some (Registering pending)).
          (all far).given client pending other)
          (of_either (not (clashes_in (world.hall far).room (get (world.hall near).clients client)))
          (not (clashes_in (world.hall near).room (get (world.hall far).clients client)))
          (get (world.hall near).clients client) (get (world.hall far).clients client) pending
          (sym (get-merged (world.hall near) (world.hall far) client) ∙ is));
    })
    (λ _. all s)
  where
    of_either : (b c : Bool) (x y : Option Client) (pending : Pending)
        → first_of (cond b x None) (cond c y None) ≡ Some (Registering pending)
        → (x ≡ Some (Registering pending)) ⊎ (y ≡ Some (Registering pending))
    of_either true c (Some client) y pending is = inl is
    of_either true true None y pending is = inr is
    of_either true false None y pending is = absurd (cc is)
    of_either false true x y pending is = inr is
    of_either false false x y pending is = absurd (cc is)

cut_keeps : SplitIsWithinLimits → (settings : List Setting) (world : World)
    (left : List Link) (near far : Name) → IsSound settings world → IsWorldWithin world
    → IsWorldWithin (cut_apart settings world left near far).state
cut_keeps split_within settings world left near far sound all s =
    hall_with IsHallWithin far s (remaining settings world left far near)
    (with_hall near (remaining settings world left near far) (record world { links = left }))
    (λ _. side far near)
    (λ _. hall_with IsHallWithin near s (remaining settings world left near far)
    (record world { links = left }) (λ _. side near far) (λ _. all s))
  where
    was : (b : Bool) (o : Option Client) (pending : Pending)
        → cond b o None ≡ Some (Registering pending) → o ≡ Some (Registering pending)
    was true o pending is = is
    was false o pending is = absurd (cc is)

    side : (one other : Name) → IsHallWithin (remaining settings world left one other)
    side one other = record {
      room = split_within (split_text one other) (servers_on_side settings left other)
          (world.hall one).room (sound.well_formed one) (all one).room;
      given =
          λ client pending is. (all one).given client pending
          (was (option_map_or (joined left one) (home_of world client) false)
          (get (world.hall one).clients client) pending
          (sym (get-kept (world.hall one).clients
          (λ c. option_map_or (joined left one) (home_of world c) false) client) ∙ is));
    }

module _ (words : WordsAreOfTheLine) (after_within : AfterIsWithinLimits) (sent : SentKeepsLimits)
    (decided : DecidedIsSendable)
    (registering : RegisteringIsSendable)
    (merge_within : MergeIsWithinLimits) (split_within : SplitIsWithinLimits) where
  pub step_keeps_limits : StepKeepsLimits
  unfolding step
  step_keeps_limits settings world (connect server host) names sound all small taken =
      connect_keeps words after_within sent decided registering settings names
      (record world { homes = world.homes ++ server ∷ [] }) server
      (suc (length world.homes)) host small all
  step_keeps_limits settings world (line client bytes) names sound all small taken =
      line_keeps words after_within sent decided registering settings names world client bytes small
      sound all
  step_keeps_limits settings world (gone client) names sound all small taken =
      gone_keeps words after_within sent decided registering settings names world client all
  step_keeps_limits settings world (link near far) names sound all small taken =
      link_keeps merge_within settings world near far sound all
  step_keeps_limits settings world (cut near far) names sound all small taken =
      cut_keeps split_within settings world (links_without world.links near far) near far sound all

module _ (no_room_within : NoRoomIsWithinLimits) (keeps : StepKeepsLimits) (stays : StepStaysSound)
    (settings : List Setting) (names : AreNamed settings) where
  nobody_within : IsWorldWithin new_world
  nobody_within server = record {
    room = no_room_within;
    given = λ client pending is. absurd (let none = sym (get-empty {X = Client} nat_cmp client)
        ∙ is in cc none);
  }

  items_keep : (items : List Item) (world : World) → IsSound settings world
      → IsWorldWithin world → AllByRecursion IsItemWithin items → AreTaken settings world items
      → IsWorldWithin (after_items settings world items)
  items_keep [] world sound all small taken = all
  items_keep (item ∷ items) world sound all small taken =
      items_keep items (step settings world item).state (stays settings world item sound taken.now)
      (keeps settings world item names sound all small.0 taken.now) small.1 taken.later

pub rooms_keep_limits : NoRoomIsWithinLimits → StepKeepsLimits → StepStaysSound → RoomsKeepLimits
rooms_keep_limits no_room_within keeps stays settings items names small taken =
    items_keep no_room_within keeps stays settings names items new_world
    (new_world_is_sound settings)
    (nobody_within no_room_within keeps stays settings names) small taken
