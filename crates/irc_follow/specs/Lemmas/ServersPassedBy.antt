-- A server that an effect passes by is as the network is after that effect; its clients see nothing
-- of it; and it passes by who is behind.
use Rattle.std.proofs.Common.{◌≡◌, ◌≢◌, ℕ, suc, Bool, true, false, cond, not, ◌&&◌, ◌||◌, Option}
use Rattle.std.proofs.Common.{Some, None, List, [], ◌∷◌, ◌++◌, refl, sym, ◌∙◌, ap, subst, map}
use Rattle.std.proofs.Common.{filter, option_map, option_to_list, is_some, arith, if◌then◌else◌}
use Rattle.std.proofs.lemmas.Bool.{or_parts}
use Rattle.std.specs.Cmp.Lexicographic.{bytes_decides}
use Rattle.std.specs.FinMap.{get, values}
use Rattle.std.specs.List.{cons_option, list_all, list_any, AllByRecursion}
use Rattle.std.specs.Option.{option_and_then, option_map_or}
use Rattle.std.proofs.Math.Bool.{and-false}
use Rattle.std.specs.Cmp.{first_so}
use Rattle.std.proofs.lemmas.Option.{same_Some}
use Rattle.irc_names.specs.Fold.{key}
use Rattle.irc_names.specs.Fold as folded
use Rattle.irc_names.specs.Tables.{row}
use Rattle.irc_users.specs.declared.user.User.{User}
use Rattle.irc_users.specs.UserTable.{is_home}
use Rattle.irc_channels.specs.Channels.{has_member}
use Rattle.irc_room.specs.effect.Effect.{Effect}
use Rattle.irc_room.specs.effect.Effect.TheVariants.{AddUser, Say, Invite}
use Rattle.irc_room.specs.effect.Target.TheVariants as target
use Rattle.irc_room.specs.After.{after}
use Rattle.irc_room.specs.Effects.{has_user, is_idle, is_member, needs_users, target_users, doer_of}
use Rattle.irc_room.specs.Invitations.{is_at, of_home}
use Rattle.irc_room.specs.Readers.{home_under, nicks_in}
use Rattle.irc_room.specs.Room.{Room}
use Rattle.irc_room.specs.Seen.{sees, shown_line}
use Rattle.irc_room.specs.Viewers.{line_for, shows_to}
use Rattle.irc_room.specs.Lemmas.HomeLaw.{home_follows}
use Rattle.irc_stage.specs.Ways.{homes_in, homes_of, told_homes}
use Rattle.irc_merge.specs.Deeds.{does, gains, shown_by}
use Rattle.irc_relay.specs.Links.{Name, same, toward, distance, AreJoined, AreLinked, OneWay, forth}
use Rattle.irc_relay.specs.Links.{return}
use Rattle.irc_relay.specs.Relay.{TakesFrom}
use Rattle.irc_relay.specs.Lemmas.TellingNames.{Telling, alike, unlike, tell, same_when}
use Rattle.irc_relay.specs.Lemmas.NextHops.{linked_back, linked_joined, linked_other, next_hop}
use Rattle.irc_relay.specs.Lemmas.NextHops.{one_way, toward_linked, toward_self}
use Rattle.irc_routes.specs.Lemmas.TableRows.{row_passes}
use Rattle.irc_stage.specs.declared.clients.Client.{Client}
use Rattle.irc_stage.specs.declared.clients.Client.TheVariants.{Registering, Registered}
use Rattle.irc_stage.specs.View.{View}
use Rattle.irc_world.specs.ClientsUsers.{fold_of}
use Rattle.irc_follow.specs.SideState.{ItemSetting, client_sees, done, is_home_of, IsSoundSide}
use Rattle.irc_follow.specs.SideState as of_side
use Rattle.irc_follow.specs.Fits.{Fits}
use Rattle.irc_follow.specs.Laws.{PassedByStays}
use Rattle.irc_follow.specs.Says.{IsFar, Passes}
use Rattle.irc_follow.specs.Lemmas.EffectsOnSide.{effect_keeps}

-- ---- the servers that an effect is told toward

module _ (room : Room) (test : List ℕ → Bool) where
  abbrev at_member : List ℕ → User → Bool
  at_member channel user =
      is_member room user.nick channel && option_map_or test (home_under room (key user.nick)) false

  any_home : (channel : List ℕ) (users : List User)
      → list_any test (homes_of room (map (λ (user : User). user.nick)
      (filter (λ (user : User). is_member room user.nick channel) users)))
      ≡ list_any (at_member channel) users
  any_home channel [] = refl
  any_home channel (user ∷ users) = by (is_member room user.nick channel) (any_home channel users)
    where
      nicks : List (List ℕ)
      nicks =
          map (λ (u : User). u.nick) (filter (λ (u : User). is_member room u.nick channel) users)

      on : (o : Option (List ℕ)) → list_any test (homes_of room (map (λ (u : User). u.nick)
          (filter (λ (u : User). is_member room u.nick channel) users)))
          ≡ list_any (at_member channel) users
          → list_any test (cons_option o (homes_of room (map (λ (u : User). u.nick)
          (filter (λ (u : User). is_member room u.nick channel) users))))
          ≡ (option_map_or test o false || list_any (at_member channel) users)
      on None rest = rest
      on (Some home) rest = ap (λ b. test home || b) rest

      by : (b : Bool) → list_any test (homes_of room (map (λ (u : User). u.nick)
          (filter (λ (u : User). is_member room u.nick channel) users))) ≡ list_any
          (at_member channel) users → list_any test (homes_of room (map (λ (u : User). u.nick)
          (cond b (user ∷ filter (λ (u : User). is_member room u.nick channel) users)
          (filter (λ (u : User). is_member room u.nick channel) users))))
          ≡ ((b && option_map_or test (home_under room (key user.nick)) false)
          || list_any (at_member channel) users)
      by true rest = on (home_under room (key user.nick)) rest
      by false rest = rest

  -- a member's server is among them
  pub member_home : (nick channel : List ℕ) (home : List ℕ) (user : User)
      → row room.users (key nick) ≡ Some user → key user.nick ≡ key nick
      → user.home ≡ home → is_member room nick channel ≡ true → test home ≡ true
      → list_any test (homes_in room channel) ≡ true
  member_home nick channel home user there named at member passes =
      any_home channel (values room.users)
      ∙ row_passes (at_member channel) room.users (key nick) user there
      (ap (λ b. b && option_map_or test (home_under room (key user.nick)) false)
      (ap (λ f. option_map_or (has_member f) (row room.channels (key channel)) false) named
      ∙ member)
      ∙ ap (λ f. option_map_or test (home_under room f) false) named
      ∙ ap (λ o. option_map_or test (option_map (λ (u : User). u.home) o) false) there
      ∙ ap test at
      ∙ passes)

-- each is the server of a user
homes_pass : (room : Room) (test : List ℕ → Bool)
    → ((fold : List ℕ) (user : User) → row room.users fold ≡ Some user → test user.home ≡ true)
    → (nicks : List (List ℕ)) → AllByRecursion (λ home. test home ≡ true) (homes_of room nicks)
homes_pass room test all [] = tt
homes_pass room test all (nick ∷ nicks) =
    by (row room.users (key nick)) refl (homes_pass room test all nicks)
  where
    by : (o : Option User) → row room.users (key nick) ≡ o → AllByRecursion
        (λ home. test home ≡ true) (homes_of room nicks) → AllByRecursion (λ home. test home ≡ true)
        (cons_option (option_map (λ (u : User). u.home) o) (homes_of room nicks))
    by None there rest = rest
    by (Some user) there rest = (all (key nick) user there, rest)

one_passes : (room : Room) (test : List ℕ → Bool) → ((fold : List ℕ) (user : User)
    → row room.users fold ≡ Some user → test user.home ≡ true) → (nick : List ℕ)
    → AllByRecursion (λ home. test home ≡ true) (option_to_list (home_under room (key nick)))
one_passes room test all nick = by (row room.users (key nick)) refl
  where
    by : (o : Option User) → row room.users (key nick) ≡ o → AllByRecursion
        (λ home. test home ≡ true) (option_to_list (option_map (λ (u : User). u.home) o))
    by None there = tt
    by (Some user) there = (all (key nick) user there, tt)

pub told_known : (room : Room) (test : List ℕ → Bool)
    → ((fold : List ℕ) (user : User) → row room.users fold ≡ Some user → test user.home ≡ true)
    → (effect : Effect) (homes : List (List ℕ)) → told_homes room effect ≡ Some homes
    → AllByRecursion (λ home. test home ≡ true) homes
told_known room test all (Say by notice (target.Channel channel) text) homes is =
    subst (AllByRecursion (λ home. test home ≡ true)) (same_Some (homes_in room channel) homes is)
    (homes_pass room test all (nicks_in room channel))
told_known room test all (Say by notice (target.User nick) text) homes is =
    subst (AllByRecursion (λ home. test home ≡ true)) (same_Some
    (option_to_list (home_under room (key nick))) homes is) (one_passes room test all nick)
told_known room test all (Invite by nick channel) homes is =
    subst (AllByRecursion (λ home. test home ≡ true)) (same_Some
    (option_to_list (home_under room (key nick))) homes is) (one_passes room test all nick)
told_known room test all effect homes is = cc is

-- who does an effect that is told toward some servers is a user
pub teller : (room : Room) (effect : Effect) (homes : List (List ℕ))
    → told_homes room effect ≡ Some homes → list_all (has_user room) (needs_users effect) ≡ true
    → (nick : List ℕ) × ((doer_of effect ≡ Some nick) × (has_user room nick ≡ true))
teller room (Say by notice to text) homes is there =
    (by, (refl, first_so (has_user room by) (list_all (has_user room) (target_users to)) there))
teller room (Invite by nick channel) homes is there =
    (by, (refl, first_so (has_user room by) (has_user room nick && true) there))
teller room effect homes is there = cc is

module _ (s : ItemSetting) (t : Name) (w : of_side.SideState) (effect : Effect)
    (passes : Passes s t w effect) where
  abbrev parent : Name
  parent = s.streams.parent t

  sound : IsSoundSide s w
  sound = passes.sound

  here : w.tree.here t ≡ true
  here = passes.doable.everybody passes.homes passes.told t parent passes.takes

  t_linked : AreLinked w.tree.forest t parent
  t_linked = sound.parents t parent passes.takes

  abbrev behind : Name → Bool
  behind home = same (toward w.tree.forest parent home) t

  -- the server itself is none of those
  behind_itself : behind t ≡ true
  behind_itself =
      ap (λ n. same n t) (toward_linked w.tree.forest parent t sound.tree.forest
      (linked_back w.tree.forest t parent t_linked)) ∙ same_when t t refl

  not_told : (homes : List (List ℕ)) → told_homes w.hall.room effect ≡ Some homes
      → list_any behind homes ≡ false
  not_told homes is = ap (list_any behind) (same_Some homes passes.homes (sym is ∙ passes.told))
      ∙ passes.elsewhere

  -- ---- the room and the clients

  invited_away : (by nick channel : List ℕ) → effect ≡ Invite by nick channel
      → is_at t (of_home t w.hall.room).users (key nick) ≡ false
  unfolding of_home
  invited_away by nick channel is = on (row w.hall.room.users (key nick)) refl
    where
      none : list_any behind (option_to_list (home_under w.hall.room (key nick))) ≡ false
      none = not_told (option_to_list (home_under w.hall.room (key nick)))
          (ap (told_homes w.hall.room) is)

      at : (user : User) → row w.hall.room.users (key nick) ≡ Some user → (b : Bool)
          → is_home t user ≡ b → b ≡ false
      at user there false away = refl
      at user there true home =
          absurd (cc (sym none
          ∙ ap (λ o. list_any behind (option_to_list (option_map (λ (u : User). u.home) o))) there
          ∙ ap (λ b. b || false) (ap behind ((bytes_decides user.home t).0 home) ∙ behind_itself)))

      on : (o : Option User) → row w.hall.room.users (key nick) ≡ o
          → option_map_or (is_home t) (row w.hall.room.users (key nick)) false ≡ false
      on None there = ap (λ o. option_map_or (is_home t) o false) there
      on (Some user) there =
          ap (λ o. option_map_or (is_home t) o false) there ∙ at user there (is_home t user) refl

  still_fits : (other : Effect) → effect ≡ other → (view : View) → Fits s t w view
      → IsSoundSide s (done s w (does other)) → Fits s t (done s w (does other)) view
  unfolding done after
  still_fits (Say by notice to text) is view fits sound_now = record {
    here = fits.here;
    sound = sound_now;
    peers = fits.peers;
    routes = fits.routes;
    ends = fits.ends;
    no_others = fits.no_others;
    clients = fits.clients;
    room = fits.room;
  }
  still_fits (Invite by nick channel) is view fits sound_now = record {
    here = fits.here;
    sound = sound_now;
    peers = fits.peers;
    routes = fits.routes;
    ends = fits.ends;
    no_others = fits.no_others;
    clients = fits.clients;
    room = fits.room
        ∙ sym (home_follows t w.hall.room (Invite by nick channel) sound.well refl
        ∙ ap (λ b. if b then after (of_home t w.hall.room) (Invite by nick channel)
        else of_home t w.hall.room) (invited_away by nick channel is));
  }
  still_fits (AddUser user) is view fits sound_now =
      cc (sym (ap (told_homes w.hall.room) is) ∙ passes.told)
  still_fits effect is view fits sound_now = cc (sym (ap (told_homes w.hall.room) is) ∙ passes.told)

  -- ---- what its clients see

  -- a user of this server sees nothing
  one_unseen : (nick viewer : List ℕ) (user : User)
      → list_any behind (option_to_list (home_under w.hall.room (key nick))) ≡ false
      → row w.hall.room.users (key viewer) ≡ Some user → user.home ≡ t
      → folded.same nick user.nick ≡ false
  one_unseen nick viewer user none there home = by (folded.same nick user.nick) refl
    where
      by : (b : Bool) → folded.same nick user.nick ≡ b → b ≡ false
      by false two = refl
      by true one =
          let folds : key nick ≡ key viewer = (bytes_decides (key nick) (key user.nick)).0 one
          ∙ sound.well.users_named (key viewer) user there in
          absurd (cc (sym none
          ∙ ap (λ f. list_any behind (option_to_list (home_under w.hall.room f))) folds
          ∙ ap (λ o. list_any behind (option_to_list (option_map (λ (u : User). u.home) o))) there
          ∙ ap (λ b. b || false) (ap behind home ∙ behind_itself)))

  unseen : (other : Effect) → effect ≡ other → (viewer : List ℕ) (user : User)
      → row w.hall.room.users (key viewer) ≡ Some user → user.home ≡ t
      → sees w.hall.room other user.nick ≡ false
  unseen (Say by notice (target.User nick) text) is viewer user there home =
      one_unseen nick viewer user (not_told (option_to_list (home_under w.hall.room (key nick)))
      (ap (told_homes w.hall.room) is)) there home
  unseen (Say by notice (target.Channel channel) text) is viewer user there home =
      on (is_member w.hall.room user.nick channel) refl
    where
      on : (b : Bool) → is_member w.hall.room user.nick channel ≡ b
          → (not (folded.same by user.nick) && b) ≡ false
      on false out = and-false (not (folded.same by user.nick))
      on true member =
          let named = sound.well.users_named (key viewer) user there in
          absurd (cc (sym (not_told (homes_in w.hall.room channel) (ap (told_homes w.hall.room) is))
          ∙ member_home w.hall.room behind user.nick channel t user
          (ap (row w.hall.room.users) named ∙ there) refl home member behind_itself))
  unseen (Invite by nick channel) is viewer user there home =
      one_unseen nick viewer user (not_told (option_to_list (home_under w.hall.room (key nick)))
      (ap (told_homes w.hall.room) is)) there home
  unseen (AddUser new) is viewer user there home = refl
  unseen effect is viewer user there home = cc (sym (ap (told_homes w.hall.room) is) ∙ passes.told)

  shows_none : (viewer : List ℕ) → home_under w.hall.room (key viewer) ≡ Some t
      → shows_to w.hall.room effect viewer ≡ None
  unfolding shows_to
  shows_none viewer home =
      by_idle (is_idle w.hall.room effect) (on (row w.hall.room.users (key viewer)) refl home)
    where
      on : (o : Option User) → row w.hall.room.users (key viewer) ≡ o → option_map
          (λ (u : User). u.home) o ≡ Some t → option_and_then (line_for w.hall.room effect) o ≡ None
      on None there is = refl
      on (Some user) there is =
          ap (λ b. if b then shown_line w.hall.room effect user else None)
          (unseen effect refl viewer user there (same_Some user.home t is))

      by_idle : (b : Bool) → option_and_then (line_for w.hall.room effect)
          (row w.hall.room.users (key viewer)) ≡ None → (if b then None else option_and_then
          (line_for w.hall.room effect) (row w.hall.room.users (key viewer))) ≡ None
      by_idle true none = refl
      by_idle false none = none

  module _ (who : ℕ) (at_home : is_home_of s.homes t who ≡ true) where
    user_here : (nick : List ℕ) → get w.hall.clients who ≡ Some (Registered nick)
        → home_under w.hall.room (key nick) ≡ Some t
    user_here nick is =
        let both = sound.registered who (key nick) (ap (option_and_then fold_of) is) in
        both.of_user ∙ ap Some (sym ((bytes_decides t both.home).0
        (sym (ap (λ o. option_map_or (same t) o false) both.of_client) ∙ at_home)))

    client_unseen : (client : Option Client) → get w.hall.clients who ≡ client
        → client_sees (does effect) w.hall.room client ≡ []
    unfolding shown_by
    client_unseen None is = refl
    client_unseen (Some (Registering pending)) is = refl
    client_unseen (Some (Registered nick)) is =
        ap (λ o. (option_to_list o ++ []) ++ []) (shows_none nick (user_here nick is))

  shows_nothing : (who : ℕ) (b : Bool) → is_home_of s.homes t who ≡ b
      → (if b then client_sees (does effect) w.hall.room (get w.hall.clients who) else []) ≡ []
  shows_nothing who true at_home = client_unseen who at_home (get w.hall.clients who) refl
  shows_nothing who false away = refl

  -- ---- who takes its lines

  module _ (u : Name) (takes : TakesFrom s.streams u t) where
    u_here : w.tree.here u ≡ true
    u_here = passes.doable.everybody passes.homes passes.told u t takes

    u_linked : AreLinked w.tree.forest u t
    u_linked = sound.parents u t takes

    longer : (m n : ℕ) → m ≡ suc n → n ≡ suc m → ⊥
    longer m n one other = omega arith

    -- it does not take from whom t takes from: the doer's server is on one side
    not_back : u ≢ parent
    not_back is = on (row w.hall.room.users (key doer.0)) refl (doer.1.1)
      where
        doer : (nick : List ℕ) × ((doer_of effect ≡ Some nick) × (has_user w.hall.room nick ≡ true))
        doer = teller w.hall.room effect passes.homes passes.told passes.doable.possible.users_there

        on : (o : Option User) → row w.hall.room.users (key doer.0) ≡ o
            → is_some (row w.hall.room.users (key doer.0)) ≡ true → ⊥
        on None there some = cc (sym (ap is_some there) ∙ some)
        on (Some user) there some =
            let far : IsFar s w user.home = passes.doable.doer_far doer.0 user.home doer.1.0
            (ap (option_map (λ (v : User). v.home)) there) in
            let known = sound.at_known (key doer.0) user there in
            apart user.home (sound.tree.joined t user.home here known)
            (sound.tree.joined u user.home u_here known)
            (far t parent here passes.takes ∙ sym is) (far u t u_here takes)
          where
            apart : (home : Name) → AreJoined w.tree.forest t home → AreJoined w.tree.forest u home
                → toward w.tree.forest t home ≡ u → toward w.tree.forest u home ≡ t → ⊥
            apart home joined_t joined_u to_u to_t = by (tell t home) (tell u home)
              where
                by : Telling t home → Telling u home → ⊥
                by (alike _ e) _ = linked_other w.tree.forest u t sound.tree.forest u_linked
                    (sym to_u ∙ ap (toward w.tree.forest t) (sym e) ∙ toward_self w.tree.forest t)
                by (unlike _ _) (alike _ e) =
                    linked_other w.tree.forest u t sound.tree.forest u_linked
                    (sym (sym to_t ∙ ap (toward w.tree.forest u) (sym e)
                    ∙ toward_self w.tree.forest u))
                by (unlike _ two) (unlike _ other) =
                    longer (distance w.tree.forest t home) (distance w.tree.forest u home)
                    ((next_hop w.tree.forest t home sound.tree.forest joined_t two).nearer
                    ∙ ap (λ n. suc (distance w.tree.forest n home)) to_u)
                    ((next_hop w.tree.forest u home sound.tree.forest joined_u other).nearer
                    ∙ ap (λ n. suc (distance w.tree.forest n home)) to_t)

    none_behind : (homes : List (List ℕ))
        → AllByRecursion (λ home. w.tree.knows home ≡ true) homes → list_any behind homes ≡ false
        → list_any (λ home. same (toward w.tree.forest t home) u) homes ≡ false
    none_behind [] known none = refl
    none_behind (home ∷ homes) known none =
        let parts = or_parts (behind home) (list_any behind homes) none in
        ap (λ b. b || list_any (λ h. same (toward w.tree.forest t h) u) homes)
        (by (tell (toward w.tree.forest t home) u))
        ∙ none_behind homes known.1 parts.1
      where
        way : OneWay w.tree.forest parent t home
        way = one_way w.tree.forest parent t home sound.tree.forest
            (linked_back w.tree.forest t parent t_linked)
            (linked_joined w.tree.forest parent t (linked_back w.tree.forest t parent t_linked)
            ∙ sound.tree.joined t home here known.0)

        by : Telling (toward w.tree.forest t home) u → same (toward w.tree.forest t home) u ≡ false
        by (unlike is _) = is
        by (alike _ e) = on way
          where
            on : OneWay w.tree.forest parent t home → same (toward w.tree.forest t home) u ≡ false
            on (forth _ to_t) =
                absurd (cc (sym (or_parts (behind home) (list_any behind homes) none).0
                ∙ same_when (toward w.tree.forest parent home) t to_t))
            on (return _ to_parent) = absurd (not_back (sym e ∙ to_parent))

    pub passes_on : Passes s u w effect
    passes_on = record {
      takes = record { parent = refl; below = takes.below };
      sound = sound;
      doable = passes.doable;
      homes = passes.homes;
      told = passes.told;
      elsewhere = ap
          (λ q. list_any (λ home. same (toward w.tree.forest q home) u) passes.homes) takes.parent
          ∙ none_behind passes.homes (told_known w.hall.room w.tree.knows sound.at_known effect
          passes.homes passes.told) passes.elsewhere;
    }

pub passed_by_stays : PassedByStays
passed_by_stays s t w (does effect) passes = record {
  fits = λ view fits. still_fits s t w effect passes effect refl view fits
      (effect_keeps s w effect passes.sound passes.doable);
  shows = λ client. shows_nothing s t w effect passes client (is_home_of s.homes t client) refl;
  goes_on = λ u takes. passes_on s t w effect passes u takes;
}
passed_by_stays s t w (gains uplink name info) passes = absurd passes
passed_by_stays s t w deed passes = absurd passes
