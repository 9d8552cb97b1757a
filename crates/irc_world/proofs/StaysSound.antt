-- The network stays sound.
use Rattle.std.proofs.Common.{◌≡◌, ℕ, zero, suc, Bool, true, false, cond, ◌&&◌, ◌||◌, not, Option}
use Rattle.std.proofs.Common.{Some, None, List, [], ◌∷◌, ◌++◌, ◌⊎◌, ⊎_elim, inl, inr, length, refl}
use Rattle.std.proofs.Common.{sym, ◌∙◌, ap, subst, is_some, if◌then◌else◌}
use Rattle.std.proofs.lemmas.Bool.{and_parts}
use Rattle.std.specs.Option.{option_map_or}
use Rattle.std.specs.Ordering.{nat_cmp}
use Rattle.std.specs.FinMap.{get, empty, get-empty}
use Rattle.irc_relay.specs.Links.{Name, Link, part, joined, links_without, has_ends, AreJoined}
use Rattle.irc_relay.specs.Links.{AreLinked, IsLeft, IsMade, within, over, back, still, parted}
use Rattle.irc_relay.specs.Links.{turned}
use Rattle.irc_relay.specs.Links.{linked as are_linked}
use Rattle.irc_relay.specs.Laws.{TestsTell, LinkBetweenParts, LinkTakenOut, JoinedOverLink}
use Rattle.irc_relay.specs.Lemmas.TellingNames.{alike, unlike, tell, same_when}
use Rattle.irc_line.specs.Reading.{read_of}
use Rattle.irc_room.specs.Room.{IsWellFormed}
use Rattle.irc_room.specs.Lemmas.WellFormedLaw.{no_room_is_well_formed}
use Rattle.irc_commands.specs.Possible.{DecidedIsPossible, RegisteringIsPossible}
use Rattle.irc_merge.specs.Laws.{MergeIsWellFormed, SplitIsWellFormed}
use Rattle.irc_stage.specs.declared.clients.Client.{Client}
use Rattle.irc_stage.specs.Handle.{ClientEvent, connects, says, goes, handled}
use Rattle.irc_world.specs.World.{Setting, Hall, World, new_world, is_server, home_in, home_of}
use Rattle.irc_world.specs.World.{machine_at, with_hall}
use Rattle.irc_world.specs.Stepping.{Item, connect, line, gone, link, cut, step, still as unmoved}
use Rattle.irc_world.specs.Stepping.{by_machine, by_client, merged, link_made, remaining}
use Rattle.irc_world.specs.Stepping.{parted as cut_apart, clashes_in, split_text, servers_on_side}
use Rattle.irc_world.specs.Refused.{Refusal, refused, are_peers, link_refusal, no_such_server}
use Rattle.irc_world.specs.Refused.{link_refused, not_linked}
use Rattle.irc_world.specs.Owed.{after_items}
use Rattle.irc_world.specs.Sound.{HasHomeBy, IsSound, AreTaken}
use Rattle.irc_world.specs.Laws.{NewWorldIsSound, StepStaysSound, WorldIsSound}
use Rattle.irc_world.specs.Lemmas.HomesAdded.{new_home, more_sound}
use Rattle.irc_world.proofs.HandledKeeps.{Keeps, Comes, handled_keeps}
use Rattle.irc_world.specs.Lemmas.MergedClients.{first_of, get-kept, get-merged}
use Rattle.irc_world.proofs.Halls.{hall_with, one_hall_with}

-- ---- nobody is there

nobody_there : (client : ℕ) → is_some (get (empty {X = Client} {R = nat_cmp}) client) ≡ true → ⊥
nobody_there client there = let none = get-empty {X = Client} nat_cmp client in cc

no_home : (settings : List Setting) (client : ℕ) (home : Name) → home_in [] client ≡ Some home
    → is_server settings home ≡ true
no_home settings zero home is = absurd (cc is)
no_home settings (suc earlier) home is = absurd (cc is)

pub new_world_is_sound : NewWorldIsSound
new_world_is_sound settings = record {
  forest = tt;
  one_hall = λ server other one. refl;
  well_formed = λ server. no_room_is_well_formed;
  clients_home = λ server client there. absurd (nobody_there client there);
  homes_known = no_home settings;
  ends_known = λ s t none. absurd none;
}

-- ---- a client does something

module _ (decided_possible : DecidedIsPossible) (registering_possible : RegisteringIsPossible)
    (settings : List Setting) where
  pub machine_sound : (world : World) (home : Name) (client_event : ClientEvent)
      → IsSound settings world
      → Comes (λ client. HasHomeBy world.links world.homes client home) client_event
      → IsSound settings (by_machine settings world home client_event).state
  machine_sound world home client_event sound comes = record {
    forest = sound.forest;
    one_hall = one_hall_with home hall world (λ s t one apart. sound.one_hall s t one);
    well_formed = λ s. hall_with (λ h. IsWellFormed h.room) home s hall world (λ _. after.well)
        (λ _. sound.well_formed s);
    clients_home = λ s client. hall_with (λ h. is_some (get h.clients client) ≡ true
        → HasHomeBy world.links world.homes client s) home s hall world
        (λ here there. nearer client s here (after.clients client there))
        (λ _. sound.clients_home s client);
    homes_known = sound.homes_known;
    ends_known = sound.ends_known;
  }
    where
      hall : Hall
      hall = record {
        clients = (handled (machine_at settings world home) client_event).state.clients;
        room = (handled (machine_at settings world home) client_event).state.room;
      }

      after : Keeps (machine_at settings world home)
          (λ client. HasHomeBy world.links world.homes client home)
          (handled (machine_at settings world home) client_event).state
      after = handled_keeps (machine_at settings world home) (λ client.
          HasHomeBy world.links world.homes client home) decided_possible registering_possible
          (record {
            place = refl;
            well = sound.well_formed home;
            clients = sound.clients_home home;
          }) client_event comes

      nearer : (client : ℕ) (s : Name) → AreJoined world.links s home
          → HasHomeBy world.links world.homes client home
          → HasHomeBy world.links world.homes client s
      nearer client s here at_home = record {
        home = at_home.home;
        is_home = at_home.is_home;
        joined = at_home.joined ∙ sym here;
      }

  client_sound : (world : World) (client : ℕ) (client_event : ClientEvent)
      → IsSound settings world → Comes (λ client. ⊥) client_event
      → IsSound settings (by_client settings world client client_event).state
  client_sound world client client_event sound comes = by (home_of world client)
    where
      comes_so : (home : Name) (client_event : ClientEvent) → Comes (λ client. ⊥) client_event
          → Comes (λ client. HasHomeBy world.links world.homes client home) client_event
      comes_so home (connects conn host) none = absurd none
      comes_so home (says conn read) none = tt
      comes_so home (goes conn) none = tt

      by : (o : Option Name) → IsSound settings
          (option_map_or (λ home. by_machine settings world home client_event) o
          (unmoved world)).state
      by None = sound
      by (Some home) =
          machine_sound world home client_event sound (comes_so home client_event comes)

-- ---- two parts are linked

-- why an item is taken, one cause after another
pub if_taken : (b : Bool) (refusal : Refusal) (rest : Option Refusal)
    → (if b then rest else Some refusal) ≡ None → (b ≡ true) × (rest ≡ None)
if_taken true refusal rest is = (refl, is)
if_taken false refusal rest is = absurd (cc is)

pub if_passed : (b : Bool) (refusal : Refusal) (rest : Option Refusal)
    → (if b then Some refusal else rest) ≡ None → (b ≡ false) × (rest ≡ None)
if_passed true refusal rest is = absurd (cc is)
if_passed false refusal rest is = (refl, is)

pub neither : (b c : Bool) → (b || not c) ≡ false → (b ≡ false) × (c ≡ true)
neither true c is = absurd (cc is)
neither false true is = (refl, refl)
neither false false is = absurd (cc is)

pub record LinkIsTaken (settings : List Setting) (world : World) (near far : Name) : Type 0 where
  pub near_known : is_server settings near ≡ true
  pub far_known : is_server settings far ≡ true
  pub apart : joined world.links near far ≡ false
  pub peers : are_peers settings near far ≡ true

pub link_taken : (settings : List Setting) (world : World) (near far : Name)
    → refused settings world (link near far) ≡ None → LinkIsTaken settings world near far
unfolding refused
link_taken settings world near far is =
    let there = if_taken (is_server settings near && is_server settings far) no_such_server
    (link_refusal settings world near far) is in
    let both_known = and_parts _ _ there.0 in
    let may = if_passed (joined world.links near far
    || not (are_peers settings near far)) link_refused None there.1 in
    let two = neither (joined world.links near far) (are_peers settings near far) may.0 in
    record {
      near_known = both_known.0;
      far_known = both_known.1;
      apart = two.0;
      peers = two.1;
    }

pub two_parts : (links : List Link) (s t : Name) → joined links s t ≡ false
    → AreJoined links s t → ⊥
two_parts links s t is one = let same_part = same_when (part links s) (part links t) one in cc

pub one_part : (links : List Link) (s t : Name) → joined links s t ≡ true → AreJoined links s t
one_part links s t is = elim (tell (part links s) (part links t)) [
  | alike _ one ↦ one
  | unlike two _ ↦ absurd (let clash = sym two ∙ is in cc clash)
]

of_either : (b c : Bool) (o p : Option Client) → is_some (first_of (cond b o None) (cond c p None))
    ≡ true → (is_some o ≡ true) ⊎ (is_some p ≡ true)
of_either true c (Some client) p there = inl refl
of_either true true None p there = inr there
of_either true false None p there = absurd (cc there)
of_either false true o p there = inr there
of_either false false o p there = let none : false ≡ true = there in absurd (cc none)

module _ (settings : List Setting) (world : World) (near far : Name)
    (sound : IsSound settings world) (between : LinkBetweenParts)
    (merge_well : MergeIsWellFormed)
    (taken : LinkIsTaken settings world near far) where
  abbrev new_link : Link
  new_link = record { near = near; far = far }

  abbrev hall_of_both : Hall
  hall_of_both = merged (world.hall near) (world.hall far)

  abbrev new_links : World
  new_links = record world { links = new_link ∷ world.links }

  made : IsMade new_link world.links
  made = between new_link world.links sound.forest (two_parts world.links near far taken.apart)

  reaches : (client : ℕ) (s t : Name) → HasHomeBy world.links world.homes client s → AreJoined
      (new_link ∷ world.links) s t → HasHomeBy (new_link ∷ world.links) world.homes client t
  reaches client s t at_home one = record {
    home = at_home.home;
    is_home = at_home.is_home;
    joined = (made.kept at_home.home s at_home.joined).joined ∙ one;
  }

  ends_there : (s t : Name) → AreLinked (new_link ∷ world.links) s t → is_server settings s ≡ true
  ends_there s t (inl (inl e)) = subst (λ n. is_server settings n ≡ true) e.0 taken.near_known
  ends_there s t (inl (inr e)) = subst (λ n. is_server settings n ≡ true) e.1 taken.far_known
  ends_there s t (inr older) = sound.ends_known s t older

  pub linked_sound : IsSound settings (link_made world near far).state
  linked_sound = record {
    forest = made.forest;
    one_hall =
        one_hall_with near hall_of_both new_links (λ s t one apart. elim (made.meets s t one) [
          | within joined ↦ sound.one_hall s t joined
          | over to_near _ ↦ absurd (apart ((made.kept s near to_near).joined))
          | back to_far _ ↦ absurd (apart ((made.kept s far to_far).joined ∙ sym made.joined))
        ]);
    well_formed = λ s. hall_with (λ h. IsWellFormed h.room) near s hall_of_both new_links
        (λ _. merge_well (world.hall near).room (world.hall far).room (sound.well_formed near)
        (sound.well_formed far)) (λ _. sound.well_formed s);
    clients_home =
        λ s client. hall_with (λ h. is_some (get h.clients client) ≡ true
        → HasHomeBy (new_link ∷ world.links) world.homes client s) near s hall_of_both new_links
        (λ here there. ⊎_elim
        (λ (one : is_some (get (world.hall near).clients client) ≡ true). reaches client near s
        (sound.clients_home near client one) (sym here))
        (λ (other : is_some (get (world.hall far).clients client) ≡ true). reaches client far s
        (sound.clients_home far client other)
        (sym made.joined ∙ sym here))
        (of_either (not (clashes_in (world.hall far).room (get (world.hall near).clients client)))
        (not (clashes_in (world.hall near).room (get (world.hall far).clients client)))
        (get (world.hall near).clients client) (get (world.hall far).clients client)
        (ap is_some (sym (get-merged (world.hall near) (world.hall far) client)) ∙ there)))
        (λ _ there. reaches client s s (sound.clients_home s client there) refl);
    homes_known = sound.homes_known;
    ends_known = ends_there;
  }

-- ---- a link is lost

-- whoever is linked still was linked before
fewer_linked : (ls : List Link) (s t u v : Name) → AreLinked (links_without ls s t) u v
    → AreLinked ls u v
unfolding links_without
fewer_linked [] s t u v are = are
fewer_linked (l ∷ ls) s t u v are = by (has_ends l s t) (fewer_linked ls s t u v) are
  where
    by : (b : Bool) → (AreLinked (links_without ls s t) u v → AreLinked ls u v)
        → AreLinked (if b then ls else l ∷ links_without ls s t) u v → AreLinked (l ∷ ls) u v
    by true before are = inr are
    by false before (inl this) = inl this
    by false before (inr older) = inr (before older)

pub was_kept : (b : Bool) (o : Option Client) → is_some (cond b o None) ≡ true → b ≡ true
was_kept true o there = refl
was_kept false o there = absurd (cc there)

module _ (settings : List Setting) (world : World) (near far : Name)
    (sound : IsSound settings world) (taken_out : LinkTakenOut) (over_link : JoinedOverLink)
    (split_well : SplitIsWellFormed) (are : AreLinked world.links near far) where
  abbrev rest : List Link
  rest = links_without world.links near far

  abbrev fewer_links : World
  fewer_links = record world { links = rest }

  abbrev near_hall : Hall
  near_hall = remaining settings world rest near far

  abbrev far_hall : Hall
  far_hall = remaining settings world rest far near

  is_left : IsLeft rest world.links near far
  is_left = taken_out world.links near far sound.forest are

  stays_by : (client : ℕ) (one s : Name) → AreJoined rest s one → (o : Option Name)
      → home_of world client ≡ o → option_map_or (joined rest one) o false ≡ true
      → HasHomeBy rest world.homes client s
  stays_by client one s here None is kept = absurd (cc kept)
  stays_by client one s here (Some home) is kept =
      record { home = home; is_home = is; joined = sym (one_part rest one home kept) ∙ sym here }

  stays : (client : ℕ) (one other s : Name) → AreJoined rest s one
      → is_some (get (remaining settings world rest one other).clients client) ≡ true
      → HasHomeBy rest world.homes client s
  stays client one other s here there = stays_by client one s here (home_of world client) refl
      (was_kept (option_map_or (joined rest one) (home_of world client) false)
      (get (world.hall one).clients client)
      (ap is_some (sym (get-kept (world.hall one).clients
      (λ c. option_map_or (joined rest one) (home_of world c) false) client)) ∙ there))

  elsewhere : (client : ℕ) (s : Name) → (AreJoined rest s far → ⊥) → (AreJoined rest s near → ⊥)
      → HasHomeBy world.links world.homes client s → HasHomeBy rest world.homes client s
  elsewhere client s not_far not_near at_home = record {
    home = at_home.home;
    is_home = at_home.is_home;
    joined = elim (over_link world.links near far at_home.home s sound.forest are at_home.joined) [
      | still one ↦ one
      | parted _ behind ↦ absurd (not_far (sym behind))
      | turned _ behind ↦ absurd (not_near (sym behind))
    ];
  }

  pub parted_sound : IsSound settings (cut_apart settings world rest near far).state
  parted_sound = record {
    forest = is_left.forest;
    one_hall = one_hall_with far far_hall (with_hall near near_hall fewer_links) (λ s t one _.
        one_hall_with near near_hall fewer_links
        (λ s t one _. sound.one_hall s t (is_left.kept s t one).joined) s t one);
    well_formed = λ s. hall_with (λ h. IsWellFormed h.room) far s far_hall
        (with_hall near near_hall fewer_links)
        (λ _. split_well (split_text far near) (servers_on_side settings rest near)
        (world.hall far).room (sound.well_formed far))
        (λ _. hall_with (λ h. IsWellFormed h.room) near s near_hall fewer_links
        (λ _. split_well (split_text near far) (servers_on_side settings rest far)
        (world.hall near).room (sound.well_formed near)) (λ _. sound.well_formed s));
    clients_home =
        λ s client. hall_with (λ h. is_some (get h.clients client) ≡ true
        → HasHomeBy rest world.homes client s) far s far_hall
        (with_hall near near_hall fewer_links)
        (λ here there. stays client far near s here there)
        (λ not_far. hall_with (λ h. is_some (get h.clients client) ≡ true
        → HasHomeBy rest world.homes client s) near s near_hall fewer_links
        (λ here there. stays client near far s here there)
        (λ not_near there. elsewhere client s not_far not_near
        (sound.clients_home s client there)));
    homes_known = sound.homes_known;
    ends_known = λ s t still_linked. sound.ends_known s t
        (fewer_linked world.links near far s t still_linked);
  }

-- ---- any item

pub server_known : (settings : List Setting) (world : World) (server : Name) (host : List ℕ)
    → refused settings world (connect server host) ≡ None → is_server settings server ≡ true
unfolding refused
server_known settings world server host is =
    (if_taken (is_server settings server) no_such_server None is).0

pub link_there : TestsTell → (settings : List Setting) (world : World) (near far : Name)
    → refused settings world (cut near far) ≡ None → AreLinked world.links near far
unfolding refused
link_there tests settings world near far is =
    let there = if_taken (is_server settings near && is_server settings far) no_such_server
    (if are_linked world.links near far then None else Some not_linked) is in
    (tests world.links near far near).2.0
    (if_taken (are_linked world.links near far) not_linked None there.1).0

module _ (tests : TestsTell) (between : LinkBetweenParts) (taken_out : LinkTakenOut)
    (over_link : JoinedOverLink) (decided_possible : DecidedIsPossible)
    (registering_possible : RegisteringIsPossible) (merge_well : MergeIsWellFormed)
    (split_well : SplitIsWellFormed) where
  pub step_stays_sound : StepStaysSound
  unfolding step
  step_stays_sound settings world (connect server host) sound is =
      machine_sound decided_possible registering_possible settings
      (record world { homes = world.homes ++ server ∷ [] }) server
      (connects (suc (length world.homes)) host)
      (more_sound settings world server sound (server_known settings world server host is))
      (record { home = server; is_home = new_home world.homes server; joined = refl })
  step_stays_sound settings world (line client bytes) sound is =
      client_sound decided_possible registering_possible settings world client
      (says client (read_of bytes)) sound tt
  step_stays_sound settings world (gone client) sound is = client_sound decided_possible
      registering_possible settings world client (goes client) sound tt
  step_stays_sound settings world (link near far) sound is =
      linked_sound settings world near far sound between merge_well
      (link_taken settings world near far is)
  step_stays_sound settings world (cut near far) sound is =
      parted_sound settings world near far sound taken_out over_link split_well
      (link_there tests settings world near far is)

items_stay_sound : StepStaysSound → (settings : List Setting) (items : List Item) (world : World)
    → IsSound settings world → AreTaken settings world items
    → IsSound settings (after_items settings world items)
items_stay_sound stays settings [] world sound taken = sound
items_stay_sound stays settings (item ∷ items) world sound taken =
    items_stay_sound stays settings items (step settings world item).state
    (stays settings world item sound taken.now) taken.later

pub world_is_sound : StepStaysSound → WorldIsSound
world_is_sound stays settings items taken =
    items_stay_sound stays settings items new_world (new_world_is_sound settings) taken
