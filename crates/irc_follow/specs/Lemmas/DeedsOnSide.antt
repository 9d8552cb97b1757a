-- A side is sound still after a deed of a server.
use Rattle.std.proofs.Common.{◌≡◌, ℕ, Bool, true, false, cond, not, ◌&&◌, Option, Some, None, List}
use Rattle.std.proofs.Common.{[], ◌∷◌, refl, sym, ◌∙◌, ap, is_some, option_map}
use Rattle.std.specs.Cmp.Lexicographic.{bytes_decides}
use Rattle.std.specs.FinMap.{get}
use Rattle.std.specs.List.{AllByRecursion}
use Rattle.std.specs.Option.{option_and_then, option_map_or}
use Rattle.std.proofs.lemmas.Option.{same_Some}
use Rattle.irc_names.specs.Lemmas.PlainFacts.{is_some-map}
use Rattle.irc_names.specs.Fold.{key}
use Rattle.irc_names.specs.Tables.{row}
use Rattle.irc_users.specs.declared.user.User.{User}
use Rattle.irc_users.specs.UserTable.{is_home}
use Rattle.irc_channels.specs.declared.flags.Flags.{Flags}
use Rattle.irc_modes.specs.declared.modes.ModeChange.{ModeChange}
use Rattle.irc_room.specs.effect.Effect.{Effect}
use Rattle.irc_room.specs.effect.Effect.TheVariants.{Quit}
use Rattle.irc_room.specs.After.{after}
use Rattle.irc_room.specs.InTurn.{after_all, EachInTurn}
use Rattle.irc_room.specs.InTurnLaws.{each-keeps}
use Rattle.irc_room.specs.Limits.{IsWithinLimits, KeepsLimits}
use Rattle.irc_room.specs.Readers.{home_under}
use Rattle.irc_room.specs.Room.{Room, IsWellFormed}
use Rattle.irc_room.specs.Effects.{has_user}
use Rattle.irc_room.specs.Lemmas.WellFormedLaw.{after_is_well_formed}
use Rattle.irc_room.specs.Lemmas.LimitsKept.{after_is_within_limits}
use Rattle.irc_room.specs.Lemmas.RespelledRooms.{respelled_is_well_formed}
use Rattle.irc_room.specs.Lemmas.RespelledRooms.{respelled_is_within_limits}
use Rattle.irc_merge.specs.CanBeDone.{DoesSomething}
use Rattle.irc_merge.specs.Deeds.{Deed, loses, kills, brings, sets, tops, titled, after_deed}
use Rattle.irc_merge.specs.Deeds.{effects_of}
use Rattle.irc_merge.specs.Quits.{collision_text, quits_of, users_at}
use Rattle.irc_merge.specs.Lemmas.Quitting.{among_values, users_left}
use Rattle.irc_relay.specs.Links.{Name, same}
use Rattle.irc_relay.specs.Lemmas.TellingNames.{same_when}
use Rattle.irc_stage.specs.Lemmas.Counting.{get-kept, quit_possible}
use Rattle.irc_world.specs.ClientsUsers.{HaveOneHome, fold_of, registered_as}
use Rattle.irc_world.specs.World.{home_in}
use Rattle.irc_follow.specs.SideState.{ItemSetting, clients_elsewhere, done, info_in, is_home_of}
use Rattle.irc_follow.specs.SideState.{IsSoundSide}
use Rattle.irc_follow.specs.SideState as of_side
use Rattle.irc_follow.specs.Says.{IsDoableByServer, IsDoableKill, IsDoableLoss}
use Rattle.irc_follow.specs.Lemmas.DeedEffects.{AllQuiet, members_quiet, sets_quiet, tops_quiet}
use Rattle.irc_follow.specs.Lemmas.DeedEffects.{users_stay}
use Rattle.irc_follow.specs.Lemmas.EffectsOnSide.{kept_by_effect}
use Rattle.irc_follow.specs.Lemmas.TreeLoses.{lost_is_sound}

-- ---- the room

pub deed_well : (room : Room) (effects : List Effect) → EachInTurn DoesSomething room effects
    → IsWellFormed room → IsWellFormed (after_all room effects)
deed_well = each-keeps DoesSomething IsWellFormed
    (λ room effect does_it well. after_is_well_formed room effect well does_it.possible)

deed_within : (room : Room) (effects : List Effect) → AllByRecursion KeepsLimits effects
    → IsWithinLimits room → IsWithinLimits (after_all room effects)
deed_within room [] keeps within = within
deed_within room (effect ∷ effects) keeps within =
    deed_within (after room effect) effects keeps.1
    (after_is_within_limits room effect within keeps.0)

-- ---- members, modes and a topic

quiet_sound : (s : ItemSetting) (w : of_side.SideState) (room : Room) → IsSoundSide s w
    → IsWellFormed room → IsWithinLimits room → room.users ≡ w.hall.room.users
    → IsSoundSide s (record w { hall = record w.hall { room = room } })
quiet_sound s w room sound well within users = record {
  tree = sound.tree;
  parents = sound.parents;
  well = well;
  within = within;
  at_known =
      λ fold user is. sound.at_known fold user (sym (ap (λ table. row table fold) users) ∙ is);
  registered = λ client fold is.
      let old = sound.registered client fold is in
      record {
        home = old.home;
        of_client = old.of_client;
        of_user = ap (λ table. option_map (λ (u : User). u.home) (row table fold)) users
            ∙ old.of_user;
      };
}

module _ (s : ItemSetting) (w : of_side.SideState) (sound : IsSoundSide s w) (server : Name) where
  -- in the room as the deed has spelled it
  by_effects : (deed : Deed) → IsDoableByServer s w server deed
      → AllQuiet (effects_of w.hall.room deed) → IsWellFormed (titled w.hall.room deed)
      → IsWithinLimits (titled w.hall.room deed)
      → (titled w.hall.room deed).users ≡ w.hall.room.users
      → IsSoundSide s (record w { hall = record w.hall { room = after_deed w.hall.room deed } })
  unfolding after_deed
  by_effects deed doable quiet well within users =
      let room = titled w.hall.room deed in
      let effects = effects_of w.hall.room deed in
      quiet_sound s w (after_all room effects) sound
      (deed_well room effects doable.each well)
      (deed_within room effects doable.within within)
      (users_stay room effects quiet ∙ users)

  pub brings_keeps : (channel : List ℕ) (members : List (List ℕ × Flags))
      → IsDoableByServer s w server (brings server channel members)
      → IsSoundSide s (done s w (brings server channel members))
  unfolding done
  brings_keeps channel members doable =
      by_effects (brings server channel members) doable (members_quiet channel members)
      (respelled_is_well_formed channel w.hall.room sound.well)
      (respelled_is_within_limits channel w.hall.room doable.told.named sound.within) refl

  pub sets_keeps : (channel : List ℕ) (changes : List ModeChange) → IsDoableByServer s w server
      (sets server channel changes) → IsSoundSide s (done s w (sets server channel changes))
  unfolding done
  sets_keeps channel changes doable =
      by_effects (sets server channel changes) doable
      (sets_quiet w.hall.room server channel changes) sound.well sound.within refl

  pub tops_keeps : (channel topic : List ℕ) → IsDoableByServer s w server
      (tops server channel topic) → IsSoundSide s (done s w (tops server channel topic))
  unfolding done
  tops_keeps channel topic doable =
      by_effects (tops server channel topic) doable
      (tops_quiet w.hall.room server channel topic) sound.well sound.within refl

  -- ---- a user is killed

  pub there_to_kill : (nick : List ℕ) → IsDoableKill s w server nick
      → has_user w.hall.room nick ≡ true
  there_to_kill nick doable =
      sym (is_some-map (λ (user : User). user.nick) (row w.hall.room.users (key nick)))
      ∙ ap is_some doable.stored

  pub kills_keeps : (nick : List ℕ) → IsDoableKill s w server nick
      → IsSoundSide s (done s w (kills server nick))
  unfolding done
  kills_keeps nick doable = kept_by_effect s w (Quit nick collision_text) sound
      (record {
        possible = quit_possible w.hall.room nick collision_text
            (there_to_kill nick doable);
        limits = tt;
        known = tt;
      })

  -- ---- a server is lost

  module _ (name text : List ℕ) (doable : IsDoableLoss s w server name text) where
    abbrev lost_room : Room
    lost_room = after_all w.hall.room (quits_of text (users_at name w.hall.room))

    user_left : (fold : List ℕ) → row lost_room.users fold ≡ cond (option_map_or (is_home name)
        (row w.hall.room.users fold) false) None (row w.hall.room.users fold)
    user_left fold =
        users_left w.hall.room text (users_at name w.hall.room) fold
        ∙ ap (λ b. cond b None (row w.hall.room.users fold))
        (among_values w.hall.room.users sound.well.users_named (is_home name) fold)

    home_left : (fold : List ℕ) (user : User) → row lost_room.users fold ≡ Some user
        → (w.tree.knows user.home && not (same user.home name)) ≡ true
    home_left fold user is = by (row w.hall.room.users fold) refl (sym (user_left fold) ∙ is)
      where
        by : (o : Option User) → row w.hall.room.users fold ≡ o
            → cond (option_map_or (is_home name) o false) None o ≡ Some user
            → (w.tree.knows user.home && not (same user.home name)) ≡ true
        by None there now = cc now
        by (Some old) there now = on (same old.home name) refl now
          where
            on : (b : Bool) → same old.home name ≡ b → cond b None (Some old) ≡ Some user
                → (w.tree.knows user.home && not (same user.home name)) ≡ true
            on true one left = cc left
            on false two left =
                ap (λ (u : User). w.tree.knows u.home && not (same u.home name))
                (sym (same_Some old user left))
                ∙ ap (λ b. b && not (same old.home name)) (sound.at_known fold old there)
                ∙ ap not two

    client_left : (client : ℕ) (fold : List ℕ)
        → registered_as (clients_elsewhere s.homes name w.hall.clients) client ≡ Some fold
        → HaveOneHome (home_in s.homes) (home_under lost_room) client fold
    client_left client fold is = by (is_home_of s.homes name client) refl
        (sym (ap (option_and_then fold_of)
        (get-kept w.hall.clients (λ c. not (is_home_of s.homes name c)) client)) ∙ is)
      where
        by : (b : Bool) → is_home_of s.homes name client ≡ b
            → option_and_then fold_of (cond (not b) (get w.hall.clients client) None) ≡ Some fold
            → HaveOneHome (home_in s.homes) (home_under lost_room) client fold
        by true there now = absurd (cc now)
        by false away was =
            let old = sound.registered client fold was in
            record {
              home = old.home;
              of_client = old.of_client;
              of_user = stays old (row w.hall.room.users fold) refl old.of_user;
            }
          where
            stays : (old : HaveOneHome (home_in s.homes) (home_under w.hall.room) client fold)
                (o : Option User) → row w.hall.room.users fold ≡ o → option_map
                (λ (u : User). u.home) o ≡ Some old.home → home_under lost_room fold ≡ Some old.home
            stays old None there home = absurd (cc home)
            stays old (Some user) there home =
                ap (option_map (λ (u : User). u.home)) (user_left fold
                ∙ ap (λ o. cond (option_map_or (is_home name) o false) None o) there
                ∙ ap (λ b. cond b None (Some user)) (apart (same user.home name) refl))
                ∙ home
              where
                apart : (b : Bool) → same user.home name ≡ b → b ≡ false
                apart false two = refl
                apart true one =
                    let home_is = same_Some user.home old.home home in
                    absurd (cc (sym away ∙ ap (λ o. option_map_or (same name) o false) old.of_client
                    ∙ ap (same name) (sym home_is ∙ (bytes_decides user.home name).0 one)
                    ∙ same_when name name refl))

    pub loses_keeps : IsSoundSide s (done s w (loses server name text))
    unfolding done after_deed
    loses_keeps = record {
      tree = lost_is_sound s.names (info_in s.settings) w.tree sound.tree name doable.can;
      parents = sound.parents;
      well = deed_well w.hall.room
          (quits_of text (users_at name w.hall.room)) doable.by_server.each sound.well;
      within = deed_within w.hall.room
          (quits_of text (users_at name w.hall.room)) doable.by_server.within sound.within;
      at_known = home_left;
      registered = client_left;
    }
