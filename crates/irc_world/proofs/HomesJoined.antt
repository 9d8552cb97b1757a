-- Each user's home is in the part whose room it is in.
use Rattle.std.proofs.Common.{◌≡◌, ℕ, suc, Bool, true, false, cond, ◌||◌, Option, Some, None, List}
use Rattle.std.proofs.Common.{[], ◌∷◌, ◌++◌, ◌⊎◌, ⊎_elim, inl, inr, length, refl, sym, ◌∙◌, ap}
use Rattle.std.proofs.Common.{is_some, map, if◌then◌else◌}
use Rattle.std.specs.List.{list_any}
use Rattle.std.specs.Option.{option_map_or}
use Rattle.std.specs.Cmp.Lexicographic.{bytes_decides, texts_ties}
use Rattle.std.specs.FinMap.{get-empty}
use Rattle.std.proofs.lemmas.Bool.{or_right}
use Rattle.irc_names.specs.Tables.{row, tabulate, fold_cmp}
use Rattle.irc_names.specs.TableLaws.{same_fold, same_fold-refl, row-keys, row-tabulate}
use Rattle.irc_line.specs.Reading.{read_of}
use Rattle.irc_users.specs.declared.user.User.{User}
use Rattle.irc_relay.specs.Links.{Name, Link, part, same, joined, links_without, AreJoined}
use Rattle.irc_relay.specs.Links.{AreLinked, IsMade, still, parted, turned}
use Rattle.irc_relay.specs.Laws.{TestsTell, LinkBetweenParts, LinkTakenOut, JoinedOverLink}
use Rattle.irc_merge.specs.Laws.{MergeHasNothingNew, SplitHasNothingNew}
use Rattle.irc_merge.specs.Split.{split}
use Rattle.irc_stage.specs.Handle.{ClientEvent, connects, says, goes, handled}
use Rattle.irc_world.specs.World.{Setting, Hall, World, new_world, setting_of, is_server}
use Rattle.irc_world.specs.World.{servers_where, home_of, machine_at, with_hall}
use Rattle.irc_world.specs.Stepping.{Item, connect, line, gone, link, cut, step, still as unmoved}
use Rattle.irc_world.specs.Stepping.{by_machine, by_client, merged, link_made, remaining}
use Rattle.irc_world.specs.Stepping.{parted as cut_apart, split_text, servers_on_side}
use Rattle.irc_world.specs.Owed.{after_items}
use Rattle.irc_world.specs.Sound.{IsSound, AreTaken}
use Rattle.irc_world.specs.Laws.{StepStaysSound}
use Rattle.irc_world.specs.Homes.{HomesPass, ClientsBringOwnUsers}
use Rattle.irc_world.specs.UsersHomes.{HomesAreServers, StepKeepsHomes, HomesAreJoined}
use Rattle.irc_world.specs.UsersHomes.{StepKeepsHomesJoined, UsersHomesAreJoined}
use Rattle.irc_world.proofs.Halls.{hall_with}
use Rattle.irc_world.proofs.HomesKept.{named, no_users}
use Rattle.irc_world.proofs.StaysSound.{LinkIsTaken, link_taken, link_there, two_parts, one_part}
use Rattle.irc_world.proofs.StaysSound.{new_world_is_sound}
use Rattle.irc_world.proofs.WhoLeaves.{is_at_one, split_row}

-- ---- the servers of a side

-- a server that there is, is listed among all
is_listed : (settings : List Setting) (server : Name) → is_server settings server ≡ true
    → list_any (same_fold server) (map (λ (s : Setting). s.name) settings) ≡ true
is_listed [] server known = absurd (cc known)
is_listed (s ∷ settings) server known =
    by (same s.name server) refl (is_listed settings server) known
  where
    by : (b : Bool) → same s.name server ≡ b → (is_server settings server ≡ true
        → list_any (same_fold server) (map (λ (t : Setting). t.name) settings) ≡ true)
        → is_some (cond b (Some s) (setting_of settings server)) ≡ true → (same_fold server s.name
        || list_any (same_fold server) (map (λ (t : Setting). t.name) settings)) ≡ true
    by true one behind known =
        ap (λ b. b || list_any (same_fold server) (map (λ (t : Setting). t.name) settings))
        (ap (same_fold server) ((bytes_decides s.name server).0 one) ∙ same_fold-refl server)
    by false two behind known = or_right (same_fold server s.name) _ (behind known)

abbrev if_passes : (Name → Bool) → Name → Option (Unit {0})
if_passes test server = if test server then Some (tt {0}) else None

listed_as : (settings : List Setting) (test : Name → Bool) (q : Name)
    → list_any (same_fold q) (servers_where settings test)
    ≡ is_some (cond (list_any (same_fold q) (map (λ (s : Setting). s.name) settings))
    (if_passes test q) None)
listed_as settings test q =
    row-keys (tabulate (map (λ (s : Setting). s.name) settings) (if_passes test)) q
    ∙ ap is_some (row-tabulate (map (λ (s : Setting). s.name) settings) (if_passes test) q)

-- a server that is one of them and passes is listed
on_side : (settings : List Setting) (test : Name → Bool) (server : Name) → is_server settings server
    ≡ true → test server ≡ true → list_any (same_fold server) (servers_where settings test) ≡ true
on_side settings test server known passes =
    listed_as settings test server
    ∙ ap (λ b. is_some (cond b (if_passes test server) None)) (is_listed settings server known)
    ∙ ap (λ b. is_some (if b then Some (tt {0}) else None)) passes

-- and what is listed passes
side_passes : (settings : List Setting) (test : Name → Bool) (server : Name)
    → list_any (same_fold server) (servers_where settings test) ≡ true → test server ≡ true
side_passes settings test server some =
    by (list_any (same_fold server) (map (λ (s : Setting). s.name) settings)) (test server)
    (sym (listed_as settings test server) ∙ some)
  where
    by : (b c : Bool) → is_some (cond b (if c then Some (tt {0}) else None) None) ≡ true → c ≡ true
    by true true some = refl
    by true false some = absurd (cc some)
    by false c some = absurd (cc some)

-- a user's home is one of some servers, by the bytes of its name
at_one : (homes : List Name) (user : User)
    → is_at_one homes user ≡ list_any (same_fold user.home) homes
at_one [] user = refl
at_one (home ∷ homes) user = λ i. texts_ties user.home home i || at_one homes user i

pub at_lost_side : (settings : List Setting) (test : Name → Bool) (user : User)
    → is_server settings user.home ≡ true → test user.home ≡ true
    → is_at_one (servers_where settings test) user ≡ true
at_lost_side settings test user known passes = at_one (servers_where settings test) user
    ∙ on_side settings test user.home known passes

pub at_other_side : (settings : List Setting) (test : Name → Bool) (user : User)
    → test user.home ≡ false → is_at_one (servers_where settings test) user ≡ false
at_other_side settings test user fails = by (is_at_one (servers_where settings test) user) refl
  where
    by : (b : Bool) → is_at_one (servers_where settings test) user ≡ b → b ≡ false
    by true there =
        absurd (let none = sym fails ∙ side_passes settings test user.home
        (sym (at_one (servers_where settings test) user) ∙ there) in cc none)
    by false elsewhere = refl

-- ---- each item

module _ (tests : TestsTell) where
  abbrev pub passing : (links : List Link) (s t : Name) → AreJoined links s t
      → joined links s t ≡ true
  passing links s t = (tests links s t t).1.1

  module _ (brings : ClientsBringOwnUsers) (settings : List Setting) where
    machine_joined : (world : World) (home : Name) (client_event : ClientEvent)
        → HomesAreJoined world → HomesAreJoined (by_machine settings world home client_event).state
    machine_joined world home client_event all s =
        hall_with (λ h. HomesPass (λ other. joined world.links other s) h.room) home s hall world
        (λ here fold user is.
        ap (same (part world.links user.home)) here
        ∙ brings (machine_at settings world home) client_event
        (λ other. joined world.links other home)
        (all home)
        (ap (λ name. joined world.links name home) (named settings settings world.links home)
        ∙ passing world.links home home refl) fold user is)
        (λ _. all s)
      where
        hall : Hall
        hall = record {
          clients = (handled (machine_at settings world home) client_event).state.clients;
          room = (handled (machine_at settings world home) client_event).state.room;
        }

    client_joined : (world : World) (client : ℕ) (client_event : ClientEvent) → HomesAreJoined world
        → HomesAreJoined (by_client settings world client client_event).state
    client_joined world client client_event all = by (home_of world client)
      where
        by : (o : Option Name) → HomesAreJoined (option_map_or
            (λ home. by_machine settings world home client_event) o (unmoved world)).state
        by None = all
        by (Some home) = machine_joined world home client_event all

  link_joined : LinkBetweenParts → MergeHasNothingNew → (settings : List Setting) (world : World)
      (near far : Name) → IsSound settings world → LinkIsTaken settings world near far
      → HomesAreJoined world → HomesAreJoined (link_made world near far).state
  link_joined between merge_new settings world near far sound taken all s =
      hall_with (λ h. HomesPass (λ home. joined (new_link ∷ world.links) home s) h.room) near s
      (merged (world.hall near) (world.hall far))
      (record world { links = new_link ∷ world.links })
      (λ here fold user is. passing (new_link ∷ world.links) user.home s (⊎_elim
      (λ (one : row (world.hall near).room.users fold ≡ Some user). still_joined user.home near
      (all near fold user one) ∙ sym here)
      (λ (other : row (world.hall far).room.users fold ≡ Some user). still_joined user.home far
      (all far fold user other) ∙ sym made.joined ∙ sym here)
      ((merge_new (world.hall near).room (world.hall far).room (sound.well_formed near)
      (sound.well_formed far)).users fold user is)))
      (λ _ fold user is. passing (new_link ∷ world.links) user.home s
      (still_joined user.home s (all s fold user is)))
    where
      new_link : Link
      new_link = record { near = near; far = far }

      made : IsMade new_link world.links
      made = between new_link world.links sound.forest (two_parts world.links near far taken.apart)

      still_joined : (home t : Name) → joined world.links home t ≡ true
          → AreJoined (new_link ∷ world.links) home t
      still_joined home t is = (made.kept home t (one_part world.links home t is)).joined

  module _ (taken_out : LinkTakenOut) (over_link : JoinedOverLink) (settings : List Setting)
      (world : World) (near far : Name)
      (sound : IsSound settings world) (known : HomesAreServers settings world)
      (all : HomesAreJoined world) (are : AreLinked world.links near far) where
    abbrev rest : List Link
    rest = links_without world.links near far

    -- who is left on a side has its home there
    left_joined : SplitHasNothingNew → (text : List ℕ) (one other : Name)
        → ((home : Name) → joined world.links home one ≡ true → (joined rest home one ≡ true)
        ⊎ (joined rest other home ≡ true)) → HomesPass (λ home. joined rest home one)
        (split text (servers_on_side settings rest other) (world.hall one).room)
    left_joined split_new text one other sides fold user is = ⊎_elim
        (λ (here : joined rest user.home one ≡ true). here)
        (λ (there : joined rest other user.home ≡ true). absurd
        (let none = sym is ∙ split_row text (servers_on_side settings rest other)
        (world.hall one).room (sound.well_formed one) fold user was
        ∙ ap (λ b. cond b None (Some user)) (at_lost_side settings (joined rest other) user
        (known one fold user was) there) in cc none))
        (sides user.home (all one fold user was))
      where
        was : row (world.hall one).room.users fold ≡ Some user
        was = (split_new text (servers_on_side settings rest other) (world.hall one).room
            (sound.well_formed one)).users fold user is

    pub near_sides : (home : Name) → joined world.links home near ≡ true
        → (joined rest home near ≡ true) ⊎ (joined rest far home ≡ true)
    near_sides home is = elim (over_link world.links near far home near sound.forest are
        (one_part world.links home near is)) [
          | still one ↦ inl (passing rest home near one)
          | parted here _ ↦ inl (passing rest home near here)
          | turned there _ ↦ inr (passing rest far home (sym there))
        ]

    pub far_sides : (home : Name) → joined world.links home far ≡ true
        → (joined rest home far ≡ true) ⊎ (joined rest near home ≡ true)
    far_sides home is = elim (over_link world.links near far home far sound.forest are
        (one_part world.links home far is)) [
          | still one ↦ inl (passing rest home far one)
          | parted there _ ↦ inr (passing rest near home (sym there))
          | turned here _ ↦ inl (passing rest home far here)
        ]

    -- a side that the link did not part is as it was
    elsewhere_joined : (home s : Name) → (AreJoined rest s far → ⊥) → (AreJoined rest s near → ⊥)
        → joined world.links home s ≡ true → joined rest home s ≡ true
    elsewhere_joined home s not_far not_near is = elim
        (over_link world.links near far home s sound.forest are (one_part world.links home s is)) [
          | still one ↦ passing rest home s one
          | parted _ behind ↦ absurd (not_far (sym behind))
          | turned _ behind ↦ absurd (not_near (sym behind))
        ]

    cut_joined : SplitHasNothingNew → HomesAreJoined (cut_apart settings world rest near far).state
    cut_joined split_new s =
        hall_with (λ h. HomesPass (λ home. joined rest home s) h.room) far s
        (remaining settings world rest far near)
        (with_hall near (remaining settings world rest near far) (record world { links = rest }))
        (λ here fold user is. ap (same (part rest user.home)) here
        ∙ left_joined split_new (split_text far near) far near far_sides fold user is)
        (λ not_far. hall_with (λ h. HomesPass (λ home. joined rest home s) h.room) near s
        (remaining settings world rest near far)
        (record world { links = rest })
        (λ here fold user is. ap (same (part rest user.home)) here
        ∙ left_joined split_new (split_text near far) near far near_sides fold user is)
        (λ not_near fold user is. elsewhere_joined user.home s not_far not_near
        (all s fold user is)))

module _ (tests : TestsTell) (between : LinkBetweenParts) (taken_out : LinkTakenOut)
    (over_link : JoinedOverLink) (brings : ClientsBringOwnUsers)
    (merge_new : MergeHasNothingNew) (split_new : SplitHasNothingNew) where
  pub step_keeps_homes_joined : StepKeepsHomesJoined
  unfolding step
  step_keeps_homes_joined settings world (connect server host) sound known all taken =
      machine_joined tests brings settings (record world { homes = world.homes ++ server ∷ [] })
      server (connects (suc (length world.homes)) host) all
  step_keeps_homes_joined settings world (line client bytes) sound known all taken =
      client_joined tests brings settings world client (says client (read_of bytes)) all
  step_keeps_homes_joined settings world (gone client) sound known all taken =
      client_joined tests brings settings world client (goes client) all
  step_keeps_homes_joined settings world (link near far) sound known all taken =
      link_joined tests between merge_new settings world near far sound
      (link_taken settings world near far taken) all
  step_keeps_homes_joined settings world (cut near far) sound known all taken =
      cut_joined tests taken_out over_link settings world near far sound known all
      (link_there tests settings world near far taken) split_new

pub nobody_joined : HomesAreJoined new_world
nobody_joined server fold user is =
    absurd (let none = sym (get-empty {X = User} fold_cmp fold) ∙ is in cc none)

module _ (joined_too : StepKeepsHomesJoined) (keeps : StepKeepsHomes) (stays : StepStaysSound)
    (settings : List Setting) where
  items_join : (items : List Item) (world : World) → IsSound settings world
      → HomesAreServers settings world → HomesAreJoined world → AreTaken settings world items
      → HomesAreJoined (after_items settings world items)
  items_join [] world sound known all taken = all
  items_join (item ∷ items) world sound known all taken =
      items_join items (step settings world item).state (stays settings world item sound taken.now)
      (keeps settings world item sound known taken.now)
      (joined_too settings world item sound known all taken.now) taken.later

pub users_homes_are_joined : StepKeepsHomesJoined → StepKeepsHomes → StepStaysSound
    → UsersHomesAreJoined
users_homes_are_joined joined_too keeps stays settings items taken =
    items_join joined_too keeps stays settings items new_world (new_world_is_sound settings)
    (no_users settings) nobody_joined taken
