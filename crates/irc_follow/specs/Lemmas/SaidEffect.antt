-- A server that takes a line which says an effect is then what it has to be after that effect.
use Rattle.std.proofs.Common.{◌≡◌, ◌≢◌, ℕ, Bool, true, false, cond, not, ◌&&◌, Option, Some, None}
use Rattle.std.proofs.Common.{List, [], ◌∷◌, is_none, is_some, refl, sym, ◌∙◌, ap, subst}
use Rattle.std.proofs.Common.{option_map, if◌then◌else◌}
use Rattle.std.specs.Cmp.Lexicographic.{bytes_decides}
use Rattle.std.specs.FinMap.{get, retain_keys}
use Rattle.std.specs.List.{list_all}
use Rattle.std.specs.Option.{option_and_then, option_map_or}
use Rattle.std.specs.Cmp.{first_so, second_so}
use Rattle.irc_names.specs.Lemmas.PlainFacts.{is_some-map}
use Rattle.irc_line.specs.Reading.{read_of}
use Rattle.irc_names.specs.Fold.{key}
use Rattle.irc_names.specs.Fold as folded
use Rattle.irc_names.specs.Tables.{row}
use Rattle.irc_users.specs.declared.user.User.{User}
use Rattle.irc_users.specs.UserTable.{is_home}
use Rattle.irc_room.specs.effect.Effect.{Effect}
use Rattle.irc_room.specs.effect.Effect.TheVariants.{AddUser, Rename, Quit, Say, Invite}
use Rattle.irc_room.specs.fault.RoomFault.TheVariants.{NoSuchUser, NoSuchChannel}
use Rattle.irc_room.specs.After.{after}
use Rattle.irc_room.specs.Applying.{does as does_in}
use Rattle.irc_room.specs.Effects.{brings_free, has_channel, has_user, is_idle, needs_channel}
use Rattle.irc_room.specs.Effects.{needs_users, IsPossible, doer_of}
use Rattle.irc_room.specs.Invitations.{after_at, is_at, of_home}
use Rattle.irc_room.specs.OtherInvitations.{AreAlike, IsTakenAlike}
use Rattle.irc_room.specs.Readers.{home_under}
use Rattle.irc_room.specs.Room.{Room}
use Rattle.irc_room.specs.Lemmas.AlikeLaw.{alike_take_alike, home_is_alike}
use Rattle.irc_room.specs.Lemmas.HomeLaw.{home_follows}
use Rattle.irc_merge.specs.Deeds.{does}
use Rattle.irc_relay.specs.Links.{Name, same, toward}
use Rattle.irc_relay.specs.Relay.{TakesFrom}
use Rattle.irc_relay.specs.Lemmas.TellingNames.{same_unless}
use Rattle.irc_relay.specs.Lemmas.NextHops.{linked_other, toward_self}
use Rattle.irc_routes.specs.declared.server_row.ServerRow.{ServerRow}
use Rattle.irc_routes.specs.Known.{Known, next_hop, row_of}
use Rattle.irc_stage.specs.declared.clients.Client.{Client}
use Rattle.irc_stage.specs.declared.clients.Client.TheVariants.{Registering, Registered}
use Rattle.irc_stage.specs.EffectTold.{Served, counts, effect_told, in_silence, is_another}
use Rattle.irc_stage.specs.EffectTold.{is_elsewhere, is_of_here, room_after, view_after}
use Rattle.irc_stage.specs.Handle.{clients_after, is_client, renamed_in}
use Rattle.irc_stage.specs.Matched.{is_user_here}
use Rattle.irc_stage.specs.RoomMachine.{Clients, each_client}
use Rattle.irc_stage.specs.View.{View, machine_of}
use Rattle.irc_stage.specs.Lemmas.Counting.{get-kept}
use Rattle.irc_stage.specs.Lemmas.Numbers.{get-each, same_clients}
use Rattle.irc_server.specs.DeedTold.{deed_told, told_by}
use Rattle.irc_server.specs.LinkServed.{after_heard, line_served}
use Rattle.irc_server.specs.Served.{served}
use Rattle.irc_world.specs.ClientsUsers.{fold_of}
use Rattle.irc_follow.specs.Tree.{shape, shape_in}
use Rattle.irc_follow.specs.SideState.{ItemSetting, clients_left, done, info_in, is_home_of, number}
use Rattle.irc_follow.specs.SideState.{IsSoundSide}
use Rattle.irc_follow.specs.SideState as of_side
use Rattle.irc_follow.specs.Fits.{Fits}
use Rattle.irc_follow.specs.Says.{neighbour_served, Says, IsDoableEffect, IsFar}
use Rattle.irc_follow.specs.Lemmas.EffectsOnSide.{effect_keeps}

pub doing : (room : Room) (effect : Effect) → IsPossible room effect → is_idle room effect ≡ false
    → does_in room effect ≡ true
doing room effect possible busy =
    ap (λ o. is_none o && not (is_idle room effect))
    (ap (λ b. if not b then Some NoSuchUser
    else (if not (option_map_or (has_channel room) (needs_channel effect) true)
    then Some NoSuchChannel else None)) possible.users_there
    ∙ ap (λ b. if not b then Some NoSuchChannel else None) possible.channel_there)
    ∙ ap not busy

module _ (s : ItemSetting) (p t : Name) (w : of_side.SideState) (view : View)
    (takes : TakesFrom s.streams t p)
    (fits : Fits s t w view) where
  sound : IsSoundSide s w
  sound = fits.sound

  pub taker_is_another : t ≢ p
  taker_is_another = linked_other w.tree.forest t p sound.tree.forest (sound.parents t p takes)

  -- nobody of a far server is here
  pub far_is_another : (x : Name) → IsFar s w x → x ≢ t
  far_is_another x far is =
      taker_is_another (sym (toward_self w.tree.forest t) ∙ ap (toward w.tree.forest t) (sym is)
      ∙ far t p fits.here takes)

  pub own_name : view.routes.name ≡ t
  own_name = ap (λ (known : Known). known.name) fits.routes
      ∙ sound.tree.named t (sound.tree.known_among t (sound.tree.here_known t fits.here))

  pub rooms_alike : AreAlike view.room w.hall.room
  rooms_alike =
      subst (λ room. AreAlike room w.hall.room) (sym fits.room) (home_is_alike t w.hall.room)

  -- ---- an effect counts

  module _ (effect : Effect) (doable : IsDoableEffect s w effect) where
    taken : IsTakenAlike view.room w.hall.room effect
    taken = alike_take_alike view.room w.hall.room effect rooms_alike

    not_of_here : (nick : List ℕ) → doer_of effect ≡ Some nick
        → is_user_here (machine_of view) nick ≡ false
    not_of_here nick doer =
        ap (λ users. option_map_or (is_home view.routes.name) (row users (key nick)) false)
        rooms_alike.users
        ∙ by (row w.hall.room.users (key nick)) refl
      where
        by : (o : Option User) → row w.hall.room.users (key nick) ≡ o
            → option_map_or (is_home view.routes.name) o false ≡ false
        by None there = refl
        by (Some user) there =
            ap (same user.home) own_name
            ∙ same_unless user.home t (far_is_another user.home (doable.doer_far nick user.home doer
            (ap (option_map (λ (u : User). u.home)) there)))

    elsewhere_done : (other : Effect) → other ≡ effect → is_of_here view other ≡ false
    elsewhere_done (AddUser user) is =
        ap (same user.home) own_name ∙ same_unless user.home t
        (far_is_another user.home (coming (subst (λ e. IsDoableEffect s w e) (sym is) doable)))
      where
        coming : IsDoableEffect s w (AddUser user) → IsFar s w user.home
        coming d = d.comes.far
    elsewhere_done (Quit nick text) is = not_of_here nick (ap doer_of (sym is))
    elsewhere_done (Say by notice to text) is = not_of_here by (ap doer_of (sym is))
    elsewhere_done effect is = refl

    pub effect_counts : counts view effect ≡ true
    effect_counts =
        ap (λ b. b && (brings_free view.room effect && not (is_of_here view effect)))
        (taken.does ∙ doing w.hall.room effect doable.possible doable.busy)
        ∙ ap (λ b. b && not (is_of_here view effect)) (taken.free ∙ doable.possible.nick_free)
        ∙ ap not (elsewhere_done effect refl)

    -- ---- the room

    pub users_there : list_all (has_user view.room) (needs_users effect) ≡ true
    users_there = (taken.possible.1 doable.possible).users_there

  -- a user's home is here, or there is a way to it
  known_away : (fold : List ℕ) (user : User) → row view.room.users fold ≡ Some user
      → is_some (next_hop view.routes user.home) ≡ not (is_home t user)
  known_away fold user there =
      ap (λ known. is_some (next_hop known user.home)) fits.routes
      ∙ is_some-map (λ (r : ServerRow). r.link) (row_of (w.tree.routes t) user.home)
      ∙ sym (is_some-map shape (row_of (w.tree.routes t) user.home))
      ∙ ap is_some (sound.tree.rows t user.home fits.here)
      ∙ ap (λ b. is_some (if b && not (same user.home t) then Some
      (shape_in s.names (info_in s.settings) w.tree.forest t user.home) else None))
      (sound.at_known fold user (ap (λ users. row users fold) (sym rooms_alike.users) ∙ there))
      ∙ by (same user.home t)
    where
      by : (b : Bool) → is_some (if not b then Some
          (shape_in s.names (info_in s.settings) w.tree.forest t user.home) else None) ≡ not b
      by true = refl
      by false = refl

  pub invited_elsewhere : (by nick channel : List ℕ)
      → list_all (has_user view.room) (by ∷ nick ∷ []) ≡ true
      → is_elsewhere view (Invite by nick channel) ≡ not (is_at t view.room.users (key nick))
  invited_elsewhere by nick channel there = on (row view.room.users (key nick)) refl
    where
      on : (o : Option User) → row view.room.users (key nick) ≡ o
          → is_some (option_and_then (next_hop view.routes)
          (option_map (λ (u : User). u.home) (row view.room.users (key nick))))
          ≡ not (option_map_or (is_home t) (row view.room.users (key nick)) false)
      on None none = absurd (cc (sym (ap is_some none)
          ∙ first_so (has_user view.room nick) true (second_so (has_user view.room by) _ there)))
      on (Some user) is =
          ap (λ o. is_some
          (option_and_then (next_hop view.routes) (option_map (λ (u : User). u.home) o))) is
          ∙ known_away (key nick) user is
          ∙ ap (λ o. not (option_map_or (is_home t) o false)) (sym is)

  pub room_at : (effect : Effect) → list_all (has_user view.room) (needs_users effect) ≡ true
      → after_at t view.room effect ≡ room_after view effect
  room_at (Invite by nick channel) there =
      on (is_at t view.room.users (key nick))
      ∙ sym (ap (λ b. if b then view.room else after view.room (Invite by nick channel))
      (invited_elsewhere by nick channel there))
    where
      on : (b : Bool) → (if b then after view.room (Invite by nick channel) else view.room)
          ≡ (if not b then view.room else after view.room (Invite by nick channel))
      on true = refl
      on false = refl
  room_at effect there = refl

  pub room_now : (effect : Effect) → brings_free w.hall.room effect ≡ true
      → list_all (has_user view.room) (needs_users effect) ≡ true
      → room_after view effect ≡ of_home t (after w.hall.room effect)
  room_now effect free there =
      sym (home_follows t w.hall.room effect sound.well free
      ∙ ap (λ room. after_at t room effect) (sym fits.room)
      ∙ room_at effect there)

  -- ---- the clients

  pub client_here : (q : ℕ)
      → get view.clients q ≡ cond (is_home_of s.homes t q) (get w.hall.clients q) None
  client_here q =
      ap (λ clients. get clients q) fits.clients ∙ get-kept w.hall.clients (is_home_of s.homes t) q

  abbrev kept_here : Clients → Clients
  kept_here clients = retain_keys clients (is_home_of s.homes t)

  clients_renamed : (nick new : List ℕ) → each_client (renamed_in nick new) view.clients
      ≡ kept_here (each_client (renamed_in nick new) w.hall.clients)
  clients_renamed nick new = same_clients (each_client (renamed_in nick new) view.clients)
      (kept_here (each_client (renamed_in nick new) w.hall.clients)) (λ q.
      get-each (renamed_in nick new) view.clients q
      ∙ ap (option_map (renamed_in nick new)) (client_here q)
      ∙ by (is_home_of s.homes t q) (get w.hall.clients q)
      ∙ ap (λ o. cond (is_home_of s.homes t q) o None)
      (sym (get-each (renamed_in nick new) w.hall.clients q))
      ∙ sym (get-kept (each_client (renamed_in nick new) w.hall.clients) (is_home_of s.homes t) q))
    where
      by : (b : Bool) (o : Option Client) → option_map (renamed_in nick new) (cond b o None)
          ≡ cond b (option_map (renamed_in nick new) o) None
      by true o = refl
      by false o = refl

  -- who quits is no client of this server
  module _ (nick : List ℕ) (away : (home : Name) → home_under w.hall.room (key nick) ≡ Some home
      → home ≢ t) where
    not_it : (q : ℕ) (name : List ℕ) → is_home_of s.homes t q ≡ true
        → get w.hall.clients q ≡ Some (Registered name) → folded.same name nick ≡ true → ⊥
    not_it q name at_home there one =
        let both = sound.registered q (key name) (ap (option_and_then fold_of) there) in
        away both.home (ap (home_under w.hall.room)
        (sym ((bytes_decides (key name) (key nick)).0 one)) ∙ both.of_user)
        (sym ((bytes_decides t both.home).0
        (sym (ap (λ o. option_map_or (same t) o false) both.of_client) ∙ at_home)))

    stays_here : (q : ℕ) → is_home_of s.homes t q ≡ true
        → cond (is_another w.hall.clients nick q) (get w.hall.clients q) None ≡ get w.hall.clients q
    stays_here q at_home = by (get w.hall.clients q) refl
      where
        by_name : (name : List ℕ) → get w.hall.clients q ≡ Some (Registered name)
            → (b : Bool) → folded.same name nick ≡ b
            → cond (not b) (Some (Registered name)) None ≡ Some (Registered name)
        by_name name there true one = absurd (not_it q name at_home there one)
        by_name name there false two = refl

        by : (o : Option Client) → get w.hall.clients q ≡ o → cond
            (option_map_or (λ client. not (is_client nick client)) (get w.hall.clients q) true)
            (get w.hall.clients q) None ≡ get w.hall.clients q
        by None there = ap
            (λ o. cond (option_map_or (λ client. not (is_client nick client)) o true) o None) there
            ∙ sym there
        by (Some (Registering pending)) there = ap
            (λ o. cond (option_map_or (λ client. not (is_client nick client)) o true) o None) there
            ∙ sym there
        by (Some (Registered name)) there =
            ap (λ o.
            cond (option_map_or (λ client. not (is_client nick client)) o true) o None) there
            ∙ by_name name there (folded.same name nick) refl
            ∙ sym there

    clients_quit : view.clients ≡ kept_here
        (retain_keys w.hall.clients (is_another w.hall.clients nick))
    clients_quit = same_clients view.clients
        (kept_here (retain_keys w.hall.clients (is_another w.hall.clients nick))) (λ q.
        client_here q
        ∙ by q (is_home_of s.homes t q) refl
        ∙ ap (λ o. cond (is_home_of s.homes t q) o None)
        (sym (get-kept w.hall.clients (is_another w.hall.clients nick) q))
        ∙ sym (get-kept (retain_keys w.hall.clients (is_another w.hall.clients nick))
        (is_home_of s.homes t) q))
      where
        by : (q : ℕ) (b : Bool) → is_home_of s.homes t q ≡ b → cond b (get w.hall.clients q) None
            ≡ cond b (cond (is_another w.hall.clients nick q) (get w.hall.clients q) None) None
        by q true at_home = sym (stays_here q at_home)
        by q false away_from = refl

  pub clients_now : (effect : Effect) → ((nick : List ℕ) (home : Name)
      → doer_of effect ≡ Some nick → home_under w.hall.room (key nick) ≡ Some home → home ≢ t)
      → clients_after effect view.clients ≡ kept_here (clients_left effect w.hall.clients)
  clients_now (Rename nick new) away = clients_renamed nick new
  clients_now (Quit nick text) away = clients_quit nick (λ home is. away nick home refl is)
  clients_now effect away = fits.clients

  -- ---- what it is then

  pub effect_fits : (effect : Effect) → IsDoableEffect s w effect
      → Fits s t (done s w (does effect)) (view_after view effect)
  unfolding done
  effect_fits effect doable = record {
    here = fits.here;
    sound = effect_keeps s w effect sound doable;
    peers = fits.peers;
    routes = fits.routes;
    ends = fits.ends;
    no_others = fits.no_others;
    clients = clients_now effect
        (λ nick home doer is. far_is_another home (doable.doer_far nick home doer is));
    room = room_now effect doable.possible.nick_free (users_there effect doable);
  }

  pub effect_served : (effect : Effect) (line : List ℕ) → Says s p t w view (does effect) line
      → neighbour_served s p view line ≡ effect_told (Some (number s p)) effect (in_silence view)
  unfolding served told_by deed_told
  effect_served effect line says =
      ap (line_served view (number s p) (read_of line)) says.is_end
      ∙ ap (after_heard view (number s p)) says.means
      ∙ ap (λ b. if b then effect_told (Some (number s p)) effect (in_silence view)
      else in_silence view) (effect_counts effect says.doable)

  pub said_effect_fits : (effect : Effect) (line : List ℕ) → Says s p t w view (does effect) line
      → Fits s t (done s w (does effect)) (neighbour_served s p view line).state
  said_effect_fits effect line says = subst (Fits s t (done s w (does effect)))
      (sym (ap (λ (so : Served). so.state) (effect_served effect line says)))
      (effect_fits effect says.doable)
