-- Each user's home is a server that there is.
use Rattle.std.proofs.Common.{◌≡◌, ℕ, suc, true, cond, Option, Some, None, List, [], ◌∷◌, ◌++◌}
use Rattle.std.proofs.Common.{⊎_elim, length, refl, sym, ◌∙◌, ap}
use Rattle.std.specs.List.{find}
use Rattle.std.specs.Option.{option_map_or}
use Rattle.std.specs.FinMap.{get-empty}
use Rattle.irc_names.specs.Tables.{row, fold_cmp}
use Rattle.irc_line.specs.Reading.{read_of}
use Rattle.irc_users.specs.declared.user.User.{User}
use Rattle.irc_relay.specs.Links.{Name, Link, same, links_without}
use Rattle.irc_relay.specs.Lemmas.TellingNames.{Telling, alike, unlike, tell}
use Rattle.irc_merge.specs.Laws.{MergeHasNothingNew, SplitHasNothingNew}
use Rattle.irc_routes.specs.About.{says_nothing}
use Rattle.irc_routes.specs.Place.{alone}
use Rattle.irc_stage.specs.Handle.{ClientEvent, connects, says, goes, handled}
use Rattle.irc_world.specs.World.{Setting, Hall, World, new_world, is_server, home_of, joined_place}
use Rattle.irc_world.specs.World.{machine_at, with_hall}
use Rattle.irc_world.specs.Stepping.{Item, connect, line, gone, link, cut, step, still as unmoved}
use Rattle.irc_world.specs.Stepping.{by_machine, by_client, merged, link_made, remaining}
use Rattle.irc_world.specs.Stepping.{parted as cut_apart, split_text, servers_on_side}
use Rattle.irc_world.specs.Owed.{after_items}
use Rattle.irc_world.specs.Sound.{IsSound, AreTaken}
use Rattle.irc_world.specs.Laws.{StepStaysSound}
use Rattle.irc_world.specs.Homes.{HomesPass, ClientsBringOwnUsers}
use Rattle.irc_world.specs.UsersHomes.{HomesAreServers, StepKeepsHomes, UsersHomesAreServers}
use Rattle.irc_world.proofs.Halls.{hall_with}
use Rattle.irc_world.proofs.StaysSound.{new_world_is_sound, server_known}

pub named : (settings all : List Setting) (links : List Link) (server : Name)
    → (option_map_or (joined_place all links) (find (λ (s : Setting). same s.name server) settings)
    (alone server says_nothing)).name ≡ server
named [] all links server = refl
named (s ∷ settings) all links server = by (tell s.name server) (named settings all links server)
  where
    by : Telling s.name server → (option_map_or (joined_place all links)
        (find (λ (t : Setting). same t.name server) settings) (alone server says_nothing)).name
        ≡ server
        → (option_map_or (joined_place all links)
        (cond (same s.name server) (Some s) (find (λ (t : Setting). same t.name server) settings))
        (alone server says_nothing)).name ≡ server
    by (alike is one) behind =
        ap (λ b. (option_map_or (joined_place all links) (cond b (Some s) (find
        (λ (t : Setting). same t.name server) settings)) (alone server says_nothing)).name) is
        ∙ one
    by (unlike is _) behind =
        ap (λ b. (option_map_or (joined_place all links) (cond b (Some s) (find
        (λ (t : Setting). same t.name server) settings)) (alone server says_nothing)).name) is
        ∙ behind

module _ (brings : ClientsBringOwnUsers) (merge_new : MergeHasNothingNew)
    (split_new : SplitHasNothingNew) (settings : List Setting) where
  machine_keeps : (world : World) (home : Name) (client_event : ClientEvent)
      → HomesAreServers settings world → is_server settings home ≡ true
      → HomesAreServers settings (by_machine settings world home client_event).state
  machine_keeps world home client_event all known s =
      hall_with (λ h. HomesPass (is_server settings) h.room) home s hall world
      (λ _. brings (machine_at settings world home) client_event (is_server settings) (all home)
      (ap (is_server settings) (named settings settings world.links home) ∙ known))
      (λ _. all s)
    where
      hall : Hall
      hall = record {
        clients = (handled (machine_at settings world home) client_event).state.clients;
        room = (handled (machine_at settings world home) client_event).state.room;
      }

  client_keeps : (world : World) (client : ℕ) (client_event : ClientEvent)
      → IsSound settings world → HomesAreServers settings world
      → HomesAreServers settings (by_client settings world client client_event).state
  client_keeps world client client_event sound all = by (home_of world client) refl
    where
      by : (o : Option Name) → home_of world client ≡ o → HomesAreServers settings
          (option_map_or (λ home. by_machine settings world home client_event) o
          (unmoved world)).state
      by None is = all
      by (Some home) is =
          machine_keeps world home client_event all (sound.homes_known client home is)

  link_keeps : (world : World) (near far : Name) → IsSound settings world
      → HomesAreServers settings world → HomesAreServers settings (link_made world near far).state
  link_keeps world near far sound all s =
      hall_with (λ h. HomesPass (is_server settings) h.room) near s
      (merged (world.hall near) (world.hall far))
      (record world { links = record { near = near; far = far } ∷ world.links })
      (λ _ fold user is. ⊎_elim
      (λ (one : row (world.hall near).room.users fold ≡ Some user). all near fold user one)
      (λ (other : row (world.hall far).room.users fold ≡ Some user). all far fold user other)
      ((merge_new (world.hall near).room (world.hall far).room (sound.well_formed near)
      (sound.well_formed far)).users fold user is))
      (λ _. all s)

  cut_keeps : (world : World) (left : List Link) (near far : Name)
      → IsSound settings world → HomesAreServers settings world
      → HomesAreServers settings (cut_apart settings world left near far).state
  cut_keeps world left near far sound all s =
      hall_with (λ h. HomesPass (is_server settings) h.room) far s
      (remaining settings world left far near)
      (with_hall near (remaining settings world left near far) (record world { links = left }))
      (λ _ fold user is. all far fold user
      ((split_new (split_text far near) (servers_on_side settings left near) (world.hall far).room
      (sound.well_formed far)).users fold user is))
      (λ _. hall_with (λ h. HomesPass (is_server settings) h.room) near s
      (remaining settings world left near far) (record world { links = left })
      (λ _ fold user is. all near fold user
      ((split_new (split_text near far) (servers_on_side settings left far) (world.hall near).room
      (sound.well_formed near)).users fold user is))
      (λ _. all s))

pub step_keeps_homes : ClientsBringOwnUsers → MergeHasNothingNew → SplitHasNothingNew
    → StepKeepsHomes
unfolding step
step_keeps_homes brings merge_new split_new settings world (connect server host) sound all taken =
    machine_keeps brings merge_new split_new settings
    (record world { homes = world.homes ++ server ∷ [] }) server
    (connects (suc (length world.homes)) host) all
    (server_known settings world server host taken)
step_keeps_homes brings merge_new split_new settings world (line client bytes) sound all taken =
    client_keeps brings merge_new split_new settings world client
    (says client (read_of bytes)) sound all
step_keeps_homes brings merge_new split_new settings world (gone client) sound all taken =
    client_keeps brings merge_new split_new settings world client (goes client) sound all
step_keeps_homes brings merge_new split_new settings world (link near far) sound all taken =
    link_keeps brings merge_new split_new settings world near far sound all
step_keeps_homes brings merge_new split_new settings world (cut near far) sound all taken =
    cut_keeps brings merge_new split_new settings world
    (links_without world.links near far) near far sound all

pub no_users : (settings : List Setting) → HomesAreServers settings new_world
no_users settings server fold user is =
    absurd (let none = sym (get-empty {X = User} fold_cmp fold) ∙ is in cc none)

module _ (keeps : StepKeepsHomes) (stays : StepStaysSound) (settings : List Setting) where
  items_keep : (items : List Item) (world : World) → IsSound settings world
      → HomesAreServers settings world → AreTaken settings world items
      → HomesAreServers settings (after_items settings world items)
  items_keep [] world sound all taken = all
  items_keep (item ∷ items) world sound all taken =
      items_keep items (step settings world item).state (stays settings world item sound taken.now)
      (keeps settings world item sound all taken.now) taken.later

pub users_homes_are_servers : StepKeepsHomes → StepStaysSound → UsersHomesAreServers
users_homes_are_servers keeps stays settings items taken =
    items_keep keeps stays settings items new_world (new_world_is_sound settings)
    (no_users settings) taken
