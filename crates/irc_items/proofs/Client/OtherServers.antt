-- What the effects of a client's event make of its side, as the other servers follow it: just what
-- the event makes of the world. What those servers show their clients is just what these receive by
-- it.
use Rattle.std.proofs.Common.{◌≡◌, ◌≢◌, ℕ, Bool, true, false, Option, Some, None, List, [], ◌∷◌}
use Rattle.std.proofs.Common.{◌++◌, refl, sym, ◌∙◌, ap, subst, map, append-nil, if◌then◌else◌}
use Rattle.std.specs.FinMap.{get, retain_keys}
use Rattle.std.specs.Option.{option_map_or}
use Rattle.irc_room.specs.effect.Effect.{Effect}
use Rattle.irc_room.specs.Invitations.{of_home}
use Rattle.irc_room.specs.Room.{Room}
use Rattle.irc_merge.specs.Deeds.{Deed, does, shown_by}
use Rattle.irc_merge.specs.ShownAlong.{shown_along}
use Rattle.irc_relay.specs.Distances.{IsAmong}
use Rattle.irc_relay.specs.Following.{all_done, all_seen}
use Rattle.irc_relay.specs.Links.{Name, AreJoined, part, same}
use Rattle.irc_relay.specs.Lemmas.TellingNames.{same_unless, same_when}
use Rattle.irc_routes.specs.Known.{Known}
use Rattle.irc_stage.specs.declared.clients.Client.{Client}
use Rattle.irc_stage.specs.declared.clients.Client.TheVariants.{Registering, Registered}
use Rattle.irc_stage.specs.Handle.{ClientEvent, connects, handled}
use Rattle.irc_stage.specs.Lemmas.Numbers.{one_number, same_number}
use Rattle.irc_stage.specs.View.{View}
use Rattle.irc_world.specs.Bounds.{effects_at}
use Rattle.irc_world.specs.Stepping.{by_machine}
use Rattle.irc_world.specs.World.{Hall, World, home_in, machine_at}
use Rattle.irc_world.specs.WorldHolds.{IsWorld}
use Rattle.irc_follow.specs.AtRest.{side_state_of, AreRight, IsOfWorld, SideAtRestIsSound}
use Rattle.irc_follow.specs.Fits.{Fits}
use Rattle.irc_follow.specs.SideState.{ItemSetting, SideState, client_sees, done, hall_after}
use Rattle.irc_follow.specs.SideState.{is_home_of, IsItemSetting}
use Rattle.irc_follow.specs.Says.{play}
use Rattle.irc_follow.specs.Lemmas.ClientLines.{client_shown}
use Rattle.irc_items.proofs.Common.Right.{same_kept}
use Rattle.irc_items.proofs.Client.Due.{IsDueAtHome, client_in}
use Rattle.irc_items.proofs.Client.OthersAlong.{IsAsHall, IsKnownOfDecisions, hall_along, hall_of}
use Rattle.irc_items.proofs.Client.OthersAlong.{handled_so, seen_along}

-- the deeds of a client's event
abbrev pub deeds_at : ItemSetting → World → Name → ClientEvent → List Deed
deeds_at s world h client_event = map does (effects_at (machine_at s.settings world h) client_event)

pub record IsKnownOfEvents : Type 0 where
  pub decisions : IsKnownOfDecisions
  pub at_rest : SideAtRestIsSound

-- ---- effects as deeds

sees_effect : (client : ℕ) (room : Room) (effect : Effect) (o : Option Client)
    → client_sees (does effect) room o ≡ client_shown client room effect o
unfolding shown_by
sees_effect client room effect None = refl
sees_effect client room effect (Some (Registering pending)) = refl
sees_effect client room effect (Some (Registered nick)) =
    append-nil (shown_along nick room (effect ∷ []))
    ∙ append-nil (client_shown client room effect (Some (Registered nick)))

module _ (s : ItemSetting) (client : ℕ) where
  pub done_along : (effects : List Effect) (w : SideState) → all_done (play s client) w
      (map does effects) ≡ record w { hall = hall_along effects w.hall }
  unfolding done
  done_along [] w = refl
  done_along (effect ∷ effects) w =
      done_along effects (record w { hall = hall_after effect w.hall })

  pub seen_at_home : (t : Name) → is_home_of s.homes t client ≡ true
      → (effects : List Effect) (w : SideState)
      → all_seen (play s client) t w (map does effects) ≡ seen_along client effects w.hall
  unfolding done
  seen_at_home t home [] w = refl
  seen_at_home t home (effect ∷ effects) w =
      let rest = all_seen (play s client) t (record w { hall = hall_after effect w.hall })
      (map does effects) in
      ap (λ b. (if b then client_sees (does effect) w.hall.room (get w.hall.clients client) else [])
      ++ rest) home
      ∙ ap (λ l. l ++ rest) (sees_effect client w.hall.room effect (get w.hall.clients client))
      ∙ ap (λ l. client_shown client w.hall.room effect (get w.hall.clients client) ++ l)
      (seen_at_home t home effects (record w { hall = hall_after effect w.hall }))

-- ---- the client's home

pub due_home : (s : ItemSetting) (world : World) (h : Name) (client_event : ClientEvent)
    → IsDueAtHome s world h client_event → home_in s.homes (client_in client_event) ≡ Some h
due_home s world h (connects conn host) due = due.0
due_home s world h client_event due = due.0

-- a client of another server is another client
another_client : (homes : List Name) (h t : Name) (conn q : ℕ) → home_in homes conn ≡ Some h → t ≢ h
    → is_home_of homes t q ≡ true → same_number q conn ≡ false
another_client homes h t conn q home apart here = by (same_number q conn) refl
  where
    by : (b : Bool) → same_number q conn ≡ b → b ≡ false
    by true one =
        absurd (cc (sym (ap (is_home_of homes t) (sym (one_number q conn one)) ∙ here)
        ∙ ap (λ o. option_map_or (same t) o false) home
        ∙ same_unless t h apart))
    by false two = refl

-- ---- the event in the world

module _ (s : ItemSetting) (world : World) (h t : Name) (client_event : ClientEvent) where
  abbrev effects : List Effect
  effects = effects_at (machine_at s.settings world h) client_event

  abbrev world_after : World
  world_after = (by_machine s.settings world h client_event).state

  abbrev hall_then : Hall
  hall_then = hall_of (handled (machine_at s.settings world h) client_event).state

  hall_now : AreJoined world.links t h → world_after.hall t ≡ hall_then
  hall_now together = ap (λ b. if b then hall_then else world.hall t)
      (same_when (part world.links t) (part world.links h) together)

  hall_still : (AreJoined world.links t h → ⊥) → world_after.hall t ≡ world.hall t
  hall_still apart = ap (λ b. if b then hall_then else world.hall t)
      (same_unless (part world.links t) (part world.links h) apart)

  module _ (known : IsKnownOfDecisions) (is_world : IsWorld s.settings world)
      (together : AreJoined world.links t h) where
    one_hall : world.hall t ≡ world.hall h
    one_hall = is_world.sound.one_hall t h together

    abbrev IsAs : Hall → Type 0
    IsAs hall =
        IsAsHall (client_in client_event) (handled (machine_at s.settings world h) client_event)
        (hall_along effects hall) (λ q. seen_along q effects hall)

    served : IsAs (world.hall t)
    served =
        subst IsAs (sym one_hall)
        (handled_so known (home_in world.homes) (machine_at s.settings world h)
        (is_world.sound.well_formed h) (is_world.clients_users h) client_event)

    module _ (apart : t ≢ h) (home : home_in s.homes (client_in client_event) ≡ Some h) where
      rooms : (hall_along effects (world.hall t)).room ≡ (world_after.hall t).room
      rooms = sym served.room ∙ ap (λ (hall : Hall). hall.room) (sym (hall_now together))

      kept_clients : retain_keys (hall_along effects (world.hall t)).clients (is_home_of s.homes t)
          ≡ retain_keys (world_after.hall t).clients (is_home_of s.homes t)
      kept_clients =
          same_kept s.homes t (hall_along effects (world.hall t)).clients hall_then.clients
          (λ q here. sym (served.clients q
          (another_client s.homes h t (client_in client_event) q home apart here)))
          ∙ ap (λ (hall : Hall). retain_keys hall.clients (is_home_of s.homes t))
          (sym (hall_now together))

      lines_of : (q : ℕ) → is_home_of s.homes t q ≡ true → seen_along q effects (world.hall t)
          ≡ (by_machine s.settings world h client_event).out q
      lines_of q here =
          sym (served.lines q
          (another_client s.homes h t (client_in client_event) q home apart here))

-- ---- another server of the part

-- Once it has followed the deeds, it is what it has to be in the world after the event.
pub comes_to_world : IsKnownOfEvents → (s : ItemSetting) (world : World) (routes : Name → Known)
    (h t : Name) (client_event : ClientEvent) (client : ℕ) (view : View) → IsItemSetting s
    → IsAmong s.names h
    → IsAmong s.names t → t ≢ h → AreJoined world.links t h → IsWorld s.settings world
    → IsOfWorld s world → AreRight s world.links routes → IsWorld s.settings
    (by_machine s.settings world h client_event).state → IsDueAtHome s world h client_event
    → Fits s t
    (all_done (play s client) (side_state_of s world routes t)
    (deeds_at s world h client_event)) view
    → Fits s t (side_state_of s (by_machine s.settings world h client_event).state routes t) view
comes_to_world known s world routes h t client_event client view fixed home_among among apart
    together
    is_world of_world right after due fits = record {
      here = along.here;
      sound = known.at_rest s now routes t fixed
          (record { homes = of_world.homes; parents = of_world.parents }) after right among;
      peers = along.peers;
      routes = along.routes;
      ends = along.ends;
      no_others = along.no_others;
      clients = along.clients
          ∙ kept_clients s world h t client_event known.decisions is_world together apart home;
      room = along.room
          ∙ ap (of_home t)
          (rooms s world h t client_event known.decisions is_world together apart home);
    }
  where
    now : World
    now = (by_machine s.settings world h client_event).state

    home : home_in s.homes (client_in client_event) ≡ Some h
    home = due_home s world h client_event due

    along : Fits s t (record (side_state_of s world routes t) {
      hall = hall_along
          (effects_at (machine_at s.settings world h) client_event) (world.hall t);
    }) view
    along = subst (λ w. Fits s t w view) (done_along s client
        (effects_at (machine_at s.settings world h) client_event)
        (side_state_of s world routes t)) fits

-- It has shown each of its clients what that receives.
pub shows_its_clients : IsKnownOfEvents → (s : ItemSetting) (world : World)
    (routes : Name → Known) (h t : Name) (client_event : ClientEvent) (client : ℕ) → t ≢ h
    → AreJoined world.links t h → IsWorld s.settings world → IsDueAtHome s world h client_event
    → is_home_of s.homes t client ≡ true
    → all_seen (play s client) t (side_state_of s world routes t)
    (deeds_at s world h client_event) ≡ (by_machine s.settings world h client_event).out client
shows_its_clients known s world routes h t client_event client apart together is_world due here =
    seen_at_home s client t here (effects_at (machine_at s.settings world h) client_event)
    (side_state_of s world routes t)
    ∙ lines_of s world h t client_event known.decisions is_world together apart
    (due_home s world h client_event due) client here

-- ---- a server of another part

-- It stays as it is.
pub elsewhere_stays : (s : ItemSetting) (world : World) (routes : Name → Known)
    (h t : Name) (client_event : ClientEvent) (view : View)
    → (AreJoined world.links t h → ⊥) → Fits s t (side_state_of s world routes t) view
    → Fits s t (side_state_of s (by_machine s.settings world h client_event).state routes t) view
elsewhere_stays s world routes h t client_event view apart fits =
    subst (λ (hall : Hall). Fits s t (record {
      tree = (side_state_of s world routes t).tree;
      hall = hall;
    }) view) (sym (hall_still s world h t client_event apart)) fits
