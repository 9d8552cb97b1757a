-- A server that takes a line which says a deed shows its clients what the network shows them by
-- that deed.
use Rattle.std.proofs.Common.{◌≡◌, ℕ, Bool, true, false, cond, Option, Some, None, List, []}
use Rattle.std.proofs.Common.{◌∷◌, ◌++◌, refl, sym, ◌∙◌, ap, subst, option_to_list, option_map}
use Rattle.std.proofs.Common.{append_assoc, if◌then◌else◌}
use Rattle.std.proofs.lemmas.List.Elements.{filter_map-append}
use Rattle.std.specs.Cmp.Lexicographic.{bytes_decides}
use Rattle.std.specs.FinMap.{get}
use Rattle.std.specs.List.{flat_map, list_all}
use Rattle.std.specs.Option.{option_and_then, option_map_or}
use Rattle.std.proofs.lemmas.Bool.{not-true}
use Rattle.std.proofs.lemmas.Option.{same_Some}
use Rattle.irc_line.specs.Messages.{Written}
use Rattle.irc_names.specs.Fold.{key, same}
use Rattle.irc_names.specs.Tables.{row}
use Rattle.irc_users.specs.declared.user.User.{User}
use Rattle.irc_users.specs.UserTable.{is_home}
use Rattle.irc_batch.specs.Batches.{Sent}
use Rattle.irc_room.specs.effect.Effect.{Effect}
use Rattle.irc_room.specs.effect.Effect.TheVariants.{AddUser, Invite}
use Rattle.irc_room.specs.After.{after}
use Rattle.irc_room.specs.Effects.{has_user, needs_users}
use Rattle.irc_room.specs.InTurn.{EachInTurn}
use Rattle.irc_room.specs.Invitations.{is_at}
use Rattle.irc_room.specs.OtherInvitations.{AreAlike}
use Rattle.irc_room.specs.Readers.{home_under}
use Rattle.irc_room.specs.Room.{Room, IsWellFormed}
use Rattle.irc_room.specs.Seen.{seen, shown_line}
use Rattle.irc_room.specs.Viewers.{line_for, shows_to}
use Rattle.irc_room.specs.Lemmas.WellFormedLaw.{after_is_well_formed}
use Rattle.irc_room.specs.Lemmas.AlikeLaw.{alike_stay_alike, alike_take_alike}
use Rattle.irc_room.specs.Lemmas.HomeRooms.{home_is_well_formed}
use Rattle.irc_merge.specs.Deeds.{does, shown_by}
use Rattle.irc_merge.specs.ShownAlong.{shown_along}
use Rattle.irc_relay.specs.Links.{Name}
use Rattle.irc_relay.specs.Links as of_links
use Rattle.irc_relay.specs.Relay.{TakesFrom}
use Rattle.irc_link_writer.specs.Written.{wire}
use Rattle.irc_stage.specs.declared.clients.Client.{Client}
use Rattle.irc_stage.specs.declared.clients.Client.TheVariants.{Registering, Registered}
use Rattle.irc_stage.specs.EffectTold.{Served, all_changed, changed, is_elsewhere, on_links}
use Rattle.irc_stage.specs.EffectTold.{shown_at, ways_at}
use Rattle.irc_stage.specs.Handle.{to_viewer}
use Rattle.irc_stage.specs.View.{View}
use Rattle.irc_server.specs.Owed.{line_to_conn as line_to_client, lines_to}
use Rattle.irc_world.specs.ClientsUsers.{fold_of}
use Rattle.irc_follow.specs.SideState.{ItemSetting, client_sees, is_home_of, number, IsSoundSide}
use Rattle.irc_follow.specs.SideState as of_side
use Rattle.irc_follow.specs.Fits.{Fits}
use Rattle.irc_follow.specs.Says.{neighbour_served, Says, IsDoableEffect}
use Rattle.irc_follow.specs.Lemmas.ClientLines.{client_shown, effect_lines}
use Rattle.irc_follow.specs.Lemmas.DeedEffects.{AllCalm, IsCounted, at_room, calm_view}
use Rattle.irc_follow.specs.Lemmas.DeedEffects.{counted_there, in_room, is_calm}
use Rattle.irc_follow.specs.Lemmas.SaidEffect.{client_here, effect_served, invited_elsewhere}
use Rattle.irc_follow.specs.Lemmas.SaidEffect.{rooms_alike, users_there}

pub append_nil : {X : Type 0} (xs : List X) → xs ++ [] ≡ xs
append_nil [] = refl
append_nil (x ∷ xs) = ap (λ l. x ∷ l) (append_nil xs)

module _ (who : ℕ) where
  abbrev pub both_lines : List Sent → List Sent → List (List ℕ)
  both_lines one other = lines_to who one ++ lines_to who other

  pub lines_behind : (one other : List Sent) → lines_to who (one ++ other) ≡ both_lines one other
  lines_behind one other = filter_map-append (line_to_client who) one other

  pub none_on_links : (links : List ℕ) (parts : Written) → lines_to who (on_links links parts) ≡ []
  none_on_links [] parts = refl
  none_on_links (link ∷ links) parts = none_on_links links parts

  -- lines on links behind it are nothing to it
  pub but_links : (out : List Sent) (links : List ℕ) (parts : Written)
      → lines_to who (out ++ on_links links parts) ≡ lines_to who out
  but_links out links parts = lines_behind out (on_links links parts)
      ∙ ap (λ l. lines_to who out ++ l) (none_on_links links parts) ∙ append_nil (lines_to who out)

  -- ---- effects one after another

  abbrev pub client_along : Room → List Effect → Option Client → List (List ℕ)
  client_along room effects None = []
  client_along room effects (Some (Registering pending)) = []
  client_along room effects (Some (Registered nick)) = shown_along nick room effects

  pub along_first : (room : Room) (effect : Effect) (effects : List Effect) (client : Option Client)
      → client_along room (effect ∷ effects) client ≡ client_shown who room effect client
      ++ client_along (after room effect) effects client
  along_first room effect effects None = refl
  along_first room effect effects (Some (Registering pending)) = refl
  along_first room effect effects (Some (Registered nick)) = refl

  along_none : (room : Room) (client : Option Client) → client_along room [] client ≡ []
  along_none room None = refl
  along_none room (Some (Registering pending)) = refl
  along_none room (Some (Registered nick)) = refl

  module _ (view : View) where
    calm_there : (room : Room) (effect : Effect) → is_calm effect ≡ true
        → is_elsewhere (in_room view room) effect ≡ false
    calm_there room (Invite by nick channel) is = cc is
    calm_there room effect is = refl

    calm_lines : (room : Room) (effect : Effect) → is_calm effect ≡ true → IsWellFormed room
        → lines_to who (shown_at (in_room view room) effect) ≡ client_shown who room effect
        (get view.clients who)
    calm_lines room effect calm well =
        ap (λ b. lines_to who (if b then [] else flat_map (to_viewer view.clients)
        (seen room effect))) (calm_there room effect calm)
        ∙ effect_lines who view.clients room effect well

    pub all_lines : (effects : List Effect) (room other : Room) (out : List Sent)
        → AreAlike room other → AllCalm effects → EachInTurn (IsCounted view) other effects
        → IsWellFormed room → lines_to who (all_changed effects (at_room view room out)).out
        ≡ lines_to who out ++ client_along room effects (get view.clients who)
    all_lines [] room other out alike calm counted well =
        sym (ap (λ l. lines_to who out ++ l) (along_none room (get view.clients who))
        ∙ append_nil (lines_to who out))
    all_lines (effect ∷ effects) room other out alike calm counted well =
        ap (λ b. lines_to who (all_changed effects (if b then changed effect (at_room view room out)
        else at_room view room out)).out)
        (counted_there view room other effect alike counted.now)
        ∙ ap (λ v. lines_to who (all_changed effects (record {
          state = v;
          out = out ++ shown_at
              (in_room view room) effect;
        })).out) (calm_view view room effect calm.0)
        ∙ all_lines effects (after room effect) (after other effect) (out ++ shown_at
        (in_room view room) effect) (alike_stay_alike room other effect alike) calm.1
        counted.later (after_is_well_formed room effect well
        ((alike_take_alike room other effect alike).possible.1 counted.now.does_it.possible))
        ∙ ap (λ l. l ++ client_along (after room effect) effects (get view.clients who))
        (lines_behind out (shown_at (in_room view room) effect)
        ∙ ap (λ l. lines_to who out ++ l) (calm_lines room effect calm.0 well))
        ∙ append_assoc (lines_to who out) (client_shown who room effect (get view.clients who))
        (client_along (after room effect) effects (get view.clients who))
        ∙ ap (λ l. lines_to who out ++ l)
        (sym (along_first room effect effects (get view.clients who)))

module _ (s : ItemSetting) (p t : Name) (w : of_side.SideState) (view : View)
    (takes : TakesFrom s.streams t p)
    (fits : Fits s t w view) (who : ℕ)
    (at_home : is_home_of s.homes t who ≡ true) where
  sound : IsSoundSide s w
  sound = fits.sound

  pub rooms : AreAlike view.room w.hall.room
  rooms = rooms_alike s p t w view takes fits

  pub client_is : get view.clients who ≡ get w.hall.clients who
  client_is = client_here s p t w view takes fits who
      ∙ ap (λ b. cond b (get w.hall.clients who) None) at_home

  pub well_here : IsWellFormed view.room
  well_here = subst IsWellFormed (sym fits.room) (home_is_well_formed t w.hall.room sound.well)

  -- a registered client's user is of this server
  user_here : (nick : List ℕ) → get w.hall.clients who ≡ Some (Registered nick)
      → home_under w.hall.room (key nick) ≡ Some t
  user_here nick is =
      let both = sound.registered who (key nick) (ap (option_and_then fold_of) is) in
      both.of_user ∙ ap Some (sym ((bytes_decides t both.home).0
      (sym (ap (λ o. option_map_or (of_links.same t) o false) both.of_client) ∙ at_home)))

  -- ---- an effect

  -- an invitation of another server's user is shown to no client of this
  module _ (by nick channel : List ℕ) (away : is_at t view.room.users (key nick) ≡ false) where
    not_shown : (viewer : List ℕ) → home_under w.hall.room (key viewer) ≡ Some t
        → shows_to w.hall.room (Invite by nick channel) viewer ≡ None
    unfolding shows_to
    not_shown viewer home = on (row w.hall.room.users (key viewer)) refl home
      where
        on_user : (user : User) → row w.hall.room.users (key viewer) ≡ Some user → user.home ≡ t
            → (b : Bool) → same nick user.nick ≡ b → b ≡ false
        on_user user there home_is false two = refl
        on_user user there home_is true one =
            let folds : key nick ≡ key viewer = (bytes_decides (key nick) (key user.nick)).0 one
            ∙ sound.well.users_named (key viewer) user there in
            absurd (cc (sym away
            ∙ ap (λ users. option_map_or (is_home t) (row users (key nick)) false) rooms.users
            ∙ ap (λ f. option_map_or (is_home t) (row w.hall.room.users f) false) folds
            ∙ ap (λ o. option_map_or (is_home t) o false) there
            ∙ (bytes_decides user.home t).1 home_is))

        on : (o : Option User) → row w.hall.room.users (key viewer) ≡ o
            → option_map (λ (user : User). user.home) o ≡ Some t
            → option_and_then (line_for w.hall.room (Invite by nick channel)) o ≡ None
        on None there is = refl
        on (Some user) there is =
            ap (λ b. if b then shown_line w.hall.room (Invite by nick channel) user else None)
            (on_user user there (same_Some user.home t is) (same nick user.nick) refl)

    none_shown : (client : Option Client) → get w.hall.clients who ≡ client
        → client_shown who w.hall.room (Invite by nick channel) client ≡ []
    none_shown None is = refl
    none_shown (Some (Registering pending)) is = refl
    none_shown (Some (Registered viewer)) is =
        ap option_to_list (not_shown viewer (user_here viewer is))

  shown_alike : (effect : Effect) (client : Option Client)
      → client_shown who view.room effect client ≡ client_shown who w.hall.room effect client
  shown_alike effect None = refl
  shown_alike effect (Some (Registering pending)) = refl
  shown_alike effect (Some (Registered nick)) =
      ap option_to_list ((alike_take_alike view.room w.hall.room effect rooms).shows nick)

  pub shown_so : (effect : Effect) → is_elsewhere view effect ≡ false → lines_to who
      (shown_at view effect) ≡ client_shown who w.hall.room effect (get w.hall.clients who)
  shown_so effect there =
      ap (λ b. lines_to who (if b then []
      else flat_map (to_viewer view.clients) (seen view.room effect))) there
      ∙ effect_lines who view.clients view.room effect well_here
      ∙ shown_alike effect (get view.clients who)
      ∙ ap (client_shown who w.hall.room effect) client_is

  effect_shown : (effect other : Effect) → other ≡ effect → IsDoableEffect s w effect → lines_to who
      (shown_at view other) ≡ client_shown who w.hall.room other (get w.hall.clients who)
  effect_shown effect (Invite by nick channel) is doable =
      on (is_elsewhere view (Invite by nick channel)) refl
    where
      away : is_elsewhere view (Invite by nick channel) ≡ true
          → is_at t view.room.users (key nick) ≡ false
      away there =
          not-true (is_at t view.room.users (key nick))
          (sym (invited_elsewhere s p t w view takes fits by nick channel
          (subst (λ e. list_all (has_user view.room) (needs_users e) ≡ true) (sym is)
          (users_there s p t w view takes fits effect doable))) ∙ there)

      on : (b : Bool) → is_elsewhere view (Invite by nick channel) ≡ b
          → lines_to who (shown_at view (Invite by nick channel)) ≡ client_shown who w.hall.room
          (Invite by nick channel) (get w.hall.clients who)
      on false there = shown_so (Invite by nick channel) there
      on true there =
          ap (λ b. lines_to who (if b then [] else flat_map (to_viewer view.clients)
          (seen view.room (Invite by nick channel)))) there
          ∙ sym (none_shown by nick channel (away there) (get w.hall.clients who) refl)
  effect_shown effect (AddUser user) is doable = shown_so (AddUser user) refl
  effect_shown effect other is doable = shown_so other refl

  sees_effect : (effect : Effect) (client : Option Client)
      → client_shown who w.hall.room effect client ≡ client_sees (does effect) w.hall.room client
  unfolding shown_by
  sees_effect effect None = refl
  sees_effect effect (Some (Registering pending)) = refl
  sees_effect effect (Some (Registered nick)) =
      sym (append_nil (shown_along nick w.hall.room (effect ∷ []))
      ∙ append_nil (option_to_list (shows_to w.hall.room effect nick)))

  pub said_effect_shows : (effect : Effect) (line : List ℕ) → Says s p t w view (does effect) line
      → lines_to who (neighbour_served s p view line).out ≡ client_sees (does effect) w.hall.room
      (get w.hall.clients who)
  said_effect_shows effect line says =
      ap (λ (so : Served). lines_to who so.out)
      (effect_served s p t w view takes fits effect line says)
      ∙ but_links who (shown_at view effect) (ways_at view (Some (number s p)) effect)
      (wire view.room view.routes effect)
      ∙ effect_shown effect effect refl says.doable
      ∙ sees_effect effect (get w.hall.clients who)
