-- What a client does, its own server does as the room machine of the server's part: it is then what
-- it has to be, and shows its clients what that shows them.
use Rattle.std.proofs.Common.{◌≡◌, ℕ, Bool, true, false, cond, not, ◌&&◌, Some, None, List, [], ◌∷◌}
use Rattle.std.proofs.Common.{refl, sym, ◌∙◌, ap, subst, is_some, option_map, if◌then◌else◌}
use Rattle.std.specs.Cmp.Lexicographic.{bytes_decides}
use Rattle.std.specs.FinMap.{get}
use Rattle.std.specs.Option.{option_and_then, option_map_or}
use Rattle.std.proofs.lemmas.Option.{same_Some}
use Rattle.irc_names.specs.Lemmas.PlainFacts.{is_some-map}
use Rattle.irc_names.specs.Fold.{key}
use Rattle.irc_names.specs.Tables.{row}
use Rattle.irc_users.specs.declared.user.User.{User}
use Rattle.irc_users.specs.UserTable.{is_home}
use Rattle.irc_room.specs.Invitations.{of_home}
use Rattle.irc_routes.specs.declared.server_row.ServerRow.{ServerRow}
use Rattle.irc_routes.specs.Known.{Known, next_hop, place_of, row_of}
use Rattle.irc_relay.specs.Distances.{IsAmong}
use Rattle.irc_relay.specs.Links.{Name, joined, same}
use Rattle.irc_stage.specs.declared.clients.Client.TheVariants.{Registered}
use Rattle.irc_stage.specs.ClientTold.{client_told}
use Rattle.irc_stage.specs.Handle.{ClientEvent, connects, handled}
use Rattle.irc_stage.specs.RoomMachine.{RoomMachine}
use Rattle.irc_stage.specs.View.{View}
use Rattle.irc_server.specs.Owed.{lines_to}
use Rattle.irc_world.specs.ClientsUsers.{fold_of}
use Rattle.irc_world.specs.Stepping.{by_machine}
use Rattle.irc_world.specs.World.{Hall, World, home_in, machine_at, place_at}
use Rattle.irc_world.specs.WorldHolds.{IsWorld}
use Rattle.irc_follow.specs.AtRest.{side_state_of, AreRight, IsOfWorld, SideAtRestIsSound}
use Rattle.irc_follow.specs.Fits.{Fits}
use Rattle.irc_follow.specs.SideState.{ItemSetting, info_in, is_home_of, IsItemSetting}
use Rattle.irc_follow.specs.Tree.{shape, shape_in}
use Rattle.irc_items.specs.GoodLines.{closings}
use Rattle.irc_items.proofs.Client.Due.{IsDueAtHome, client_in}
use Rattle.irc_items.proofs.Home.Clients.{staying}
use Rattle.irc_items.proofs.Home.Effects.{AreOneAt, KnowsWays, view_in}
use Rattle.irc_items.proofs.Home.Events.{AreDecisionLaws, IsHomeOf, handled_so}

pub record DoesAsMachine (s : ItemSetting) (world : World) (routes : Name → Known) (h : Name)
    (view : View) (client_event : ClientEvent) : Type 0 where
  pub fits : Fits s h (side_state_of s (by_machine s.settings world h client_event).state routes h)
      (client_told view client_event).state
  pub lines : (client : ℕ) → is_home_of s.homes h client ≡ true → lines_to client
      (client_told view client_event).out
      ≡ (by_machine s.settings world h client_event).out client
  pub own : (client : ℕ) (line : List ℕ) (lines : List (List ℕ)) → lines_to client
      (client_told view client_event).out ≡ line ∷ lines → is_home_of s.homes h client ≡ true
  pub ends : (client_told view client_event).state.ends ≡ view.ends
  pub closes_none : closings (client_told view client_event).out ≡ []

pub record AreHomeLaws : Type 0 where
  pub decisions : AreDecisionLaws
  pub sound : SideAtRestIsSound

pub due_mine : (s : ItemSetting) (world : World) (h : Name) (client_event : ClientEvent)
    → IsDueAtHome s world h client_event → is_home_of s.homes h (client_in client_event) ≡ true
due_mine s world h client_event due =
    ap (λ o. option_map_or (same h) o false) (at_home client_event due)
    ∙ (bytes_decides h h).1 refl
  where
    at_home : (client_event : ClientEvent) → IsDueAtHome s world h client_event
        → home_in s.homes (client_in client_event) ≡ Some h
    at_home (connects conn host) due = due.0
    at_home client_event due = due.0

module _ (s : ItemSetting) (world : World) (routes : Name → Known) (h : Name) (view : View)
    (fits : Fits s h (side_state_of s world routes h) view) where
  -- each other server of its part is behind one of its links
  pub ways_known : KnowsWays h (is_home_of s.homes h) view (λ x. joined world.links x h)
  ways_known home known =
      ap (λ (k : Known). is_some (next_hop k home)) fits.routes
      ∙ is_some-map (λ (r : ServerRow). r.link) (row_of (routes h) home)
      ∙ sym (is_some-map shape (row_of (routes h) home))
      ∙ ap is_some (fits.sound.tree.rows h home fits.here)
      ∙ ap (λ b. is_some (if b && not (same home h)
      then Some (shape_in s.names (info_in s.settings) world.links h home) else None)) known
      ∙ by (same home h)
    where
      by : (b : Bool) → is_some (if not b
          then Some (shape_in s.names (info_in s.settings) world.links h home) else None) ≡ not b
      by true = refl
      by false = refl

  -- its registered clients are its users
  own_users : (q : ℕ) (nick : List ℕ) → is_home_of s.homes h q ≡ true
      → get (world.hall h).clients q ≡ Some (Registered nick) → (user : User)
      → row (world.hall h).room.users (key nick) ≡ Some user → is_home h user ≡ true
  own_users q nick mine there user is =
      let both = fits.sound.registered q (key nick) (ap (option_and_then fold_of) there) in
      let its_home = (bytes_decides h both.home).0
      (sym (ap (λ o. option_map_or (same h) o false) both.of_client) ∙ mine) in
      (bytes_decides user.home h).1 (same_Some user.home both.home
      (sym (ap (option_map (λ (u : User). u.home)) is) ∙ both.of_user) ∙ sym its_home)

  own_name : (routes h).name ≡ h
  own_name = fits.sound.tree.named h
      (fits.sound.tree.known_among h (fits.sound.tree.here_known h fits.here))

  pub home_so : place_of (routes h) ≡ place_at s.settings world.links h → IsHomeOf h
      (is_home_of s.homes h) (λ x. joined world.links x h) view (machine_at s.settings world h)
  home_so place = record {
    same = λ i. record view { clients = fits.clients i; room = fits.room i };
    place = ap place_of fits.routes ∙ place;
    named = ap (λ p. p.name) (sym place) ∙ own_name;
    here = fits.here;
    ways = ways_known;
    room = record { well = fits.sound.well; at_known = fits.sound.at_known; own = own_users };
  }

  module _ (laws : AreHomeLaws) (client_event : ClientEvent) (fixed : IsItemSetting s)
      (among : IsAmong s.names h) (of_world : IsOfWorld s world)
      (right : AreRight s world.links routes)
      (after : IsWorld s.settings (by_machine s.settings world h client_event).state)
      (one : AreOneAt h (is_home_of s.homes h) view
      (handled (machine_at s.settings world h) client_event) (client_told view client_event)) where
    abbrev now : RoomMachine
    now = (handled (machine_at s.settings world h) client_event).state

    hall_now : (by_machine s.settings world h client_event).state.hall h
        ≡ record { clients = now.clients; room = now.room }
    hall_now = ap (λ b. if b then record { clients = now.clients; room = now.room }
        else world.hall h) fits.here

    fits_now : Fits s h
        (side_state_of s (by_machine s.settings world h client_event).state routes h)
        (view_in h (is_home_of s.homes h) view now)
    fits_now = record {
      here = fits.here;
      sound = laws.sound s (by_machine s.settings world h client_event).state routes h fixed
          (record { homes = of_world.homes; parents = of_world.parents })
          after right among;
      peers = fits.peers;
      routes = fits.routes;
      ends = fits.ends;
      no_others = fits.no_others;
      clients = ap (λ (hall : Hall). staying (is_home_of s.homes h) hall.clients) (sym hall_now);
      room = ap (λ (hall : Hall). of_home h hall.room) (sym hall_now);
    }

    nobody_else : (client : ℕ) (line : List ℕ) (lines : List (List ℕ))
        → lines_to client (client_told view client_event).out ≡ line ∷ lines → (b : Bool)
        → is_home_of s.homes h client ≡ b → b ≡ true
    nobody_else client line lines some true mine = refl
    nobody_else client line lines some false away =
        let none = one.told client ∙ ap (λ b. cond b
        (lines_to client (handled (machine_at s.settings world h) client_event).out) []) away in
        absurd (cc (sym none ∙ some))

    does_so : DoesAsMachine s world routes h view client_event
    does_so = record {
      fits = subst
          (Fits s h (side_state_of s (by_machine s.settings world h client_event).state routes h))
          (sym one.state) fits_now;
      lines = λ client mine.
          one.told client ∙ ap (λ b. cond b
          (lines_to client (handled (machine_at s.settings world h) client_event).out) []) mine;
      own = λ client line lines some. nobody_else client line lines some
          (is_home_of s.homes h client) refl;
      ends = ap (λ (v : View). v.ends) one.state;
      closes_none = one.closes_none;
    }

pub does_as_machine : AreHomeLaws → (s : ItemSetting) (world : World) (routes : Name → Known)
    (h : Name)
    (view : View) (client_event : ClientEvent) → IsItemSetting s → IsAmong s.names h
    → IsWorld s.settings world
    → IsOfWorld s world → AreRight s world.links routes
    → Fits s h (side_state_of s world routes h) view
    → IsWorld s.settings (by_machine s.settings world h client_event).state
    → place_of (routes h) ≡ place_at s.settings world.links h → IsDueAtHome s world h client_event
    → DoesAsMachine s world routes h view client_event
does_as_machine laws s world routes h view client_event fixed among is_world of_world right
    fits after
    place due =
    does_so s world routes h view fits laws client_event fixed among of_world right after
    (handled_so laws.decisions h (is_home_of s.homes h) (λ x. joined world.links x h) view
    (machine_at s.settings world h)
    (home_so s world routes h view fits place) client_event (due_mine s world h client_event due))
