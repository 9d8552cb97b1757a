-- Whom an item does not touch.
use Rattle.std.proofs.Common.{◌≡◌, ℕ, suc, Bool, true, false, cond, not, Option, Some, None, List}
use Rattle.std.proofs.Common.{[], ◌∷◌, ◌++◌, ◌⊎◌, inl, inr, length, refl, sym, ◌∙◌, ap, subst}
use Rattle.std.proofs.Common.{is_some}
use Rattle.std.specs.Option.{option_and_then, option_map_or}
use Rattle.std.specs.FinMap.{get}
use Rattle.std.proofs.lemmas.Option.{same_Some}
use Rattle.irc_line.specs.Reading.{read_of}
use Rattle.irc_room.specs.Room.{Room}
use Rattle.irc_relay.specs.Links.{Name, Link, part, joined, links_without, AreJoined, IsLeft}
use Rattle.irc_relay.specs.Links.{within, over, back}
use Rattle.irc_relay.specs.Laws.{TestsTell, LinksJoin, LinkBetweenParts, LinkTakenOut}
use Rattle.irc_relay.specs.Laws.{JoinedOverLink}
use Rattle.irc_relay.specs.Lemmas.TellingNames.{alike, unlike, tell, same_when}
use Rattle.irc_commands.specs.declared.pending.Pending.{Pending}
use Rattle.irc_stage.specs.declared.clients.Client.{Client}
use Rattle.irc_stage.specs.declared.clients.Client.TheVariants.{Registering}
use Rattle.irc_stage.specs.Handle.{ClientEvent, connects, says, goes, handled}
use Rattle.irc_world.specs.World.{Setting, Hall, World, home_of, place_at, machine_at, with_hall}
use Rattle.irc_world.specs.Stepping.{connect, line, gone, link, cut, step, still, by_machine}
use Rattle.irc_world.specs.Stepping.{by_client, merged, meeting_lines, link_made, remaining}
use Rattle.irc_world.specs.Stepping.{leaving_lines, parted, clashes_in}
use Rattle.irc_world.specs.Refused.{open_client}
use Rattle.irc_world.specs.Sound.{IsSound}
use Rattle.irc_world.specs.Bystanders.{WaitingStay, OtherPartsStay, OnlyConnectedReceive}
use Rattle.irc_world.proofs.Halls.{hall_with}
use Rattle.irc_world.proofs.StaysSound.{LinkIsTaken, link_taken, two_parts, link_there}
use Rattle.irc_world.specs.Lemmas.MergedClients.{first_of, survivor, get-kept, get-merged}
use Rattle.irc_world.proofs.KnowingTheSame.{place_known, link_between, cut_between}
use Rattle.irc_world.proofs.Unheard.{unheard}

other_hall : (world : World) (home server : Name) (hall : Hall) → (AreJoined world.links server home
    → ⊥) → (with_hall home hall world).hall server ≡ world.hall server
other_hall world home server hall apart =
    hall_with (λ h. h ≡ world.hall server) home server hall world (λ here. absurd (apart here))
    (λ _. refl)

-- what is known of a client in the hall of any server
module _ (settings : List Setting) (world : World) (sound : IsSound settings world) where
  -- a client of a hall is there under its own home
  at_home : (server home : Name) (client : ℕ) (one : Client) → home_of world client ≡ Some home
      → get (world.hall server).clients client ≡ Some one → AreJoined world.links home server
  at_home server home client one is there =
      let found = sound.clients_home server client (ap is_some there) in
      ap (part world.links) (same_Some home found.home (sym is ∙ found.is_home)) ∙ found.joined

  seen_at_home : (server home : Name) (client : ℕ) (one : Client)
      → home_of world client ≡ Some home → get (world.hall server).clients client ≡ Some one
      → get (world.hall home).clients client ≡ Some one
  seen_at_home server home client one is there =
      ap (λ (h : Hall). get h.clients client)
      (sound.one_hall home server (at_home server home client one is there)) ∙ there

  -- who is not connected is in no hall
  in_no_hall : (server : Name) (client : ℕ) → open_client world client ≡ None
      → get (world.hall server).clients client ≡ None
  in_no_hall server client closed = by (get (world.hall server).clients client) refl
    where
      by : (o : Option Client) → get (world.hall server).clients client ≡ o → o ≡ None
      by None there = refl
      by (Some one) there =
          let found = sound.clients_home server client (ap is_some there) in
          absurd (let clash = sym closed
          ∙ ap (option_and_then (λ home. get (world.hall home).clients client)) found.is_home
          ∙ seen_at_home server found.home client one found.is_home there in cc clash)

  -- nor is who is in one hall in that of another part
  not_there : (server other : Name) (client : ℕ) → (AreJoined world.links server other → ⊥)
      → is_some (get (world.hall server).clients client) ≡ true
      → get (world.hall other).clients client ≡ None
  not_there server other client apart here = by (get (world.hall other).clients client) refl
    where
      by : (o : Option Client) → get (world.hall other).clients client ≡ o → o ≡ None
      by None there = refl
      by (Some one) there =
          let found = sound.clients_home server client here in
          absurd
          (apart (sym found.joined ∙ at_home other found.home client one found.is_home there))

  -- ---- lines that nobody gets

  no_meeting : (one other : Hall) (o : Option Client) → o ≡ None → meeting_lines one other o ≡ []
  no_meeting one other o none = ap (meeting_lines one other) none

  meets_nobody : (near far : Name) (client : ℕ) → get (world.hall near).clients client ≡ None
      → get (world.hall far).clients client ≡ None → (link_made world near far).out client ≡ []
  meets_nobody near far client one other =
      λ i. meeting_lines (world.hall near) (world.hall far) (one i)
      ++ meeting_lines (world.hall far) (world.hall near) (other i)

  still_none : (b : Bool) (o : Option Client) → o ≡ None → cond b o None ≡ None
  still_none true o none = none
  still_none false o none = refl

  not_remaining : (left : List Link) (near far : Name) (client : ℕ)
      → get (world.hall near).clients client ≡ None
      → get (remaining settings world left near far).clients client ≡ None
  not_remaining left near far client none =
      get-kept (world.hall near).clients
      (λ c. option_map_or (joined left near) (home_of world c) false) client
      ∙ still_none (option_map_or (joined left near) (home_of world client) false)
      (get (world.hall near).clients client) none

  leaves_nobody : (left : List Link) (near far : Name) (client : ℕ)
      → get (world.hall near).clients client ≡ None → get (world.hall far).clients client ≡ None
      → (parted settings world left near far).out client ≡ []
  leaves_nobody left near far client one other =
      λ i. leaving_lines settings left near far (world.hall near).room
      (not_remaining left near far client one i)
      ++ leaving_lines settings left far near (world.hall far).room
      (not_remaining left far near client other i)

  silent_machine : (home : Name) (client_event : ClientEvent) (client : ℕ)
      → get (world.hall home).clients client ≡ None
      → (by_machine settings world home client_event).out client ≡ []
  silent_machine home client_event client none =
      unheard client (machine_at settings world home) client_event none

  silent_client : (actor : ℕ) (client_event : ClientEvent) (client : ℕ) → ((home : Name)
      → home_of world actor ≡ Some home → get (world.hall home).clients client ≡ None)
      → (by_client settings world actor client_event).out client ≡ []
  silent_client actor client_event client none = by (home_of world actor) refl
    where
      by : (o : Option Name) → home_of world actor ≡ o → (option_map_or
          (λ home. by_machine settings world home client_event) o (still world)).out client ≡ []
      by None is = refl
      by (Some home) is = silent_machine home client_event client (none home is)

  -- ---- halls of other parts

  client_elsewhere : (actor : ℕ) (client_event : ClientEvent) (server : Name)
      → ((home : Name) → home_of world actor ≡ Some home → AreJoined world.links server home → ⊥)
      → (by_client settings world actor client_event).state.hall server ≡ world.hall server
  client_elsewhere actor client_event server apart = by (home_of world actor) refl
    where
      by : (o : Option Name) → home_of world actor ≡ o
          → (option_map_or (λ home. by_machine settings world home client_event) o
          (still world)).state.hall server ≡ world.hall server
      by None is = refl
      by (Some home) is = other_hall world home server (record {
        clients = (handled (machine_at settings world home) client_event).state.clients;
        room = (handled (machine_at settings world home) client_event).state.room;
      }) (apart home is)

-- ---- who is not connected

pub only_connected_receive : OnlyConnectedReceive
unfolding step
only_connected_receive settings world (connect server host) client sound taken closed =
    unheard client (machine_at settings (record world { homes = world.homes ++ server ∷ [] })
    server) (connects (suc (length world.homes)) host)
    (in_no_hall settings world sound server client closed)
only_connected_receive settings world (line actor bytes) client sound taken closed =
    silent_client settings world sound actor (says actor (read_of bytes)) client
    (λ home is. in_no_hall settings world sound home client closed)
only_connected_receive settings world (gone actor) client sound taken closed =
    silent_client settings world sound actor (goes actor) client
    (λ home is. in_no_hall settings world sound home client closed)
only_connected_receive settings world (link near far) client sound taken closed =
    meets_nobody settings world sound near far client (in_no_hall settings world sound near client
    closed) (in_no_hall settings world sound far client closed)
only_connected_receive settings world (cut near far) client sound taken closed =
    leaves_nobody settings world sound (links_without world.links near far) near far client
    (in_no_hall settings world sound near client closed)
    (in_no_hall settings world sound far client closed)

-- ---- other parts

module _ (tests : TestsTell) (join : LinksJoin) (between : LinkBetweenParts)
    (taken_out : LinkTakenOut) (over_link : JoinedOverLink) where
  -- a client makes and loses no link
  same_links : (settings : List Setting) (world : World) (actor : ℕ) (client_event : ClientEvent)
      → (by_client settings world actor client_event).state.links ≡ world.links
  same_links settings world actor client_event = by (home_of world actor)
    where
      by : (o : Option Name)
          → (option_map_or (λ home. by_machine settings world home client_event) o
          (still world)).state.links ≡ world.links
      by None = refl
      by (Some home) = refl

  -- a part that a new link does not touch is joined to none of its ends
  link_elsewhere : (settings : List Setting) (world : World) (near far server : Name)
      → IsSound settings world → LinkIsTaken settings world near far
      → (AreJoined world.links server near → ⊥) → (AreJoined world.links server far → ⊥)
      → AreJoined (record { near = near; far = far } ∷ world.links) server near → ⊥
  link_elsewhere settings world near far server sound taken not_near not_far one =
      let made = between (record { near = near; far = far }) world.links sound.forest
      (two_parts world.links near far taken.apart) in
      elim (made.meets server near one) [
        | within same ↦ not_near same
        | over to_near _ ↦ not_near to_near
        | back to_far _ ↦ not_far to_far
      ]

  pub other_parts_stay : OtherPartsStay
  unfolding step
  other_parts_stay settings world (connect at host) server sound taken apart = record {
    hall = other_hall (record world { homes = world.homes ++ at ∷ [] }) at server (record {
      clients = (handled (machine_at settings (record world { homes = world.homes ++ at ∷ [] }) at)
          (connects (suc (length world.homes)) host)).state.clients;
      room = (handled (machine_at settings (record world { homes = world.homes ++ at ∷ [] }) at)
          (connects (suc (length world.homes)) host)).state.room;
    }) apart;
    place = refl;
    lines = λ client there.
        unheard client (machine_at settings (record world { homes = world.homes ++ at ∷ [] }) at)
        (connects (suc (length world.homes)) host)
        (not_there settings world sound server at client apart there);
  }
  other_parts_stay settings world (line actor bytes) server sound taken apart = record {
    hall = client_elsewhere settings world sound actor (says actor (read_of bytes)) server apart;
    place = ap (λ links. place_at settings links server)
        (same_links settings world actor (says actor (read_of bytes)));
    lines =
        λ client there. silent_client settings world sound actor (says actor (read_of bytes)) client
        (λ home is. not_there settings world sound server home client (apart home is) there);
  }
  other_parts_stay settings world (gone actor) server sound taken apart = record {
    hall = client_elsewhere settings world sound actor (goes actor) server apart;
    place =
        ap (λ links. place_at settings links server) (same_links settings world actor (goes actor));
    lines = λ client there. silent_client settings world sound actor (goes actor) client
        (λ home is. not_there settings world sound server home client (apart home is) there);
  }
  other_parts_stay settings world (link near far) server sound taken apart = record {
    hall = hall_with (λ h. h ≡ world.hall server) near server
        (merged (world.hall near) (world.hall far))
        (record world { links = record { near = near; far = far } ∷ world.links })
        (λ here. absurd (link_elsewhere settings world near far server sound
        (link_taken settings world near far taken) apart.0 apart.1 here)) (λ _. refl);
    place =
        place_known settings (record { near = near; far = far } ∷ world.links) world.links server
        (link_between (record { near = near; far = far }) world.links server
        (between (record { near = near; far = far }) world.links sound.forest
        (two_parts world.links near far (link_taken settings world near far taken).apart)) apart.0
        apart.1);
    lines = λ client there. meets_nobody settings world sound near far client
        (not_there settings world sound server near client apart.0 there)
        (not_there settings world sound server far client apart.1 there);
  }
  other_parts_stay settings world (cut near far) server sound taken apart =
      let are = link_there tests settings world near far taken in
      let left = taken_out world.links near far sound.forest are in
      let ends_joined = (join world.links near far sound.forest are).0 in
      record {
        hall = hall_with (λ h. h ≡ world.hall server) far server
            (remaining settings world (links_without world.links near far) far near)
            (with_hall near (remaining settings world (links_without world.links near far) near far)
            (record world { links = links_without world.links near far }))
            (λ here. absurd (apart ((left.kept server far here).joined ∙ sym ends_joined)))
            (λ _. hall_with (λ h. h ≡ world.hall server) near server
            (remaining settings world (links_without world.links near far) near far)
            (record world { links = links_without world.links near far })
            (λ here. absurd (apart ((left.kept server near here).joined))) (λ _. refl));
        place = place_known settings (links_without world.links near far) world.links server
            (cut_between over_link world.links near far server sound.forest are left apart
            (λ one. apart (one ∙ sym ends_joined)));
        lines = λ client there. leaves_nobody settings world sound
            (links_without world.links near far) near far client
            (not_there settings world sound server near client apart there)
            (not_there settings world sound server far client
            (λ one. apart (one ∙ sym ends_joined)) there);
      }

-- ---- connections that wait

-- nobody, or a connection that has given this
abbrev IsQuiet : Pending → Option Client → Type 0
IsQuiet pending o = (o ≡ None) ⊎ (o ≡ Some (Registering pending))

quiet_meeting : (pending : Pending) (one other : Hall) (o : Option Client) → IsQuiet pending o
    → meeting_lines one other o ≡ []
quiet_meeting pending one other o (inl none) = ap (meeting_lines one other) none
quiet_meeting pending one other o (inr waits) = ap (meeting_lines one other) waits

quiet_leaving : (pending : Pending) (settings : List Setting) (left : List Link)
    (near far : Name) (room : Room) (o : Option Client) → IsQuiet pending o
    → leaving_lines settings left near far room o ≡ []
quiet_leaving pending settings left near far room o (inl none) =
    ap (leaving_lines settings left near far room) none
quiet_leaving pending settings left near far room o (inr waits) =
    ap (leaving_lines settings left near far room) waits

quiet_kept : (pending : Pending) (b : Bool) (o : Option Client) → IsQuiet pending o
    → IsQuiet pending (cond b o None)
quiet_kept pending true o quiet = quiet
quiet_kept pending false o quiet = inl refl

module _ (settings : List Setting) (world : World) (sound : IsSound settings world) (client : ℕ)
    (home : Name) (pending : Pending)
    (is : home_of world client ≡ Some home)
    (there : get (world.hall home).clients client ≡ Some (Registering pending)) where
  quiet_at : (server : Name) → IsQuiet pending (get (world.hall server).clients client)
  quiet_at server = by (get (world.hall server).clients client) refl
    where
      by : (o : Option Client) → get (world.hall server).clients client ≡ o → IsQuiet pending o
      by None found = inl refl
      by (Some one) found =
          inr (sym (seen_at_home settings world sound server home client one is found) ∙ there)

  joined_there : (server : Name) → AreJoined world.links home server
      → get (world.hall server).clients client ≡ Some (Registering pending)
  joined_there server one =
      ap (λ (h : Hall). get h.clients client) (sym (sound.one_hall home server one)) ∙ there

  merged_near : (near far : Name) → AreJoined world.links home near
      → get (merged (world.hall near) (world.hall far)).clients client ≡ Some (Registering pending)
  merged_near near far one =
      get-merged (world.hall near) (world.hall far) client
      ∙ ap (λ o. first_of (cond (not (clashes_in (world.hall far).room o)) o None)
      (survivor (world.hall near).room (world.hall far).clients client))
      (joined_there near one)

  merged_far : (near far : Name) → (AreJoined world.links home near → ⊥)
      → AreJoined world.links home far
      → get (merged (world.hall near) (world.hall far)).clients client ≡ Some (Registering pending)
  merged_far near far apart one =
      get-merged (world.hall near) (world.hall far) client
      ∙ (λ i. first_of (cond (not (clashes_in (world.hall far).room (nowhere i))) (nowhere i) None)
      (cond (not (clashes_in (world.hall near).room (joined_there far one i)))
      (joined_there far one i) None))
    where
      nowhere : get (world.hall near).clients client ≡ None
      nowhere = not_there settings world sound home near client apart (ap is_some there)

  remaining_waits : (left : List Link) (one other : Name)
      → AreJoined left home one → AreJoined world.links home one
      → get (remaining settings world left one other).clients client ≡ Some (Registering pending)
  remaining_waits left one other here before =
      get-kept (world.hall one).clients
      (λ c. option_map_or (joined left one) (home_of world c) false) client
      ∙ ap (λ o. cond (option_map_or (joined left one) o false)
      (get (world.hall one).clients client) None) is
      ∙ ap (λ b. cond b (get (world.hall one).clients client) None)
      (same_when (part left one) (part left home) (sym here))
      ∙ joined_there one before

  remaining_quiet : (left : List Link) (one other : Name)
      → IsQuiet pending (get (remaining settings world left one other).clients client)
  remaining_quiet left one other =
      subst (IsQuiet pending) (sym (get-kept (world.hall one).clients
      (λ c. option_map_or (joined left one) (home_of world c) false) client))
      (quiet_kept pending (option_map_or (joined left one) (home_of world client) false)
      (get (world.hall one).clients client) (quiet_at one))

  link_waits : LinkBetweenParts → (near far : Name) → LinkIsTaken settings world near far
      → get ((link_made world near far).state.hall home).clients client ≡ Some (Registering pending)
  link_waits between near far taken =
      let made = between (record { near = near; far = far }) world.links sound.forest
      (two_parts world.links near far taken.apart) in
      hall_with (λ h. get h.clients client ≡ Some (Registering pending)) near home
      (merged (world.hall near) (world.hall far))
      (record world { links = record { near = near; far = far } ∷ world.links })
      (λ here. elim (tell (part world.links home) (part world.links near)) [
        | alike _ one ↦ merged_near near far one
        | unlike _ apart ↦ elim (made.meets home near here) [
          | within one ↦ absurd (apart one)
          | over one _ ↦ absurd (apart one)
          | back one _ ↦ merged_far near far apart one
        ]
      ]) (λ _. there)

  link_silent : (near far : Name) → (link_made world near far).out client ≡ []
  link_silent near far =
      λ i. quiet_meeting pending (world.hall near) (world.hall far)
      (get (world.hall near).clients client) (quiet_at near) i
      ++ quiet_meeting pending (world.hall far) (world.hall near)
      (get (world.hall far).clients client) (quiet_at far) i

  cut_waits : (left : List Link) (near far : Name) → IsLeft left world.links near far
      → get ((parted settings world left near far).state.hall home).clients client
      ≡ Some (Registering pending)
  cut_waits left near far is_left =
      hall_with (λ h. get h.clients client ≡ Some (Registering pending)) far home
      (remaining settings world left far near)
      (with_hall near (remaining settings world left near far) (record world { links = left }))
      (λ here. remaining_waits left far near here (is_left.kept home far here).joined)
      (λ _. hall_with (λ h. get h.clients client ≡ Some (Registering pending)) near home
      (remaining settings world left near far)
      (record world { links = left })
      (λ here. remaining_waits left near far here (is_left.kept home near here).joined)
      (λ _. there))

  cut_silent : (left : List Link) (near far : Name)
      → (parted settings world left near far).out client ≡ []
  cut_silent left near far =
      λ i. quiet_leaving pending settings left near far (world.hall near).room
      (get (remaining settings world left near far).clients client)
      (remaining_quiet left near far) i
      ++ quiet_leaving pending settings left far near (world.hall far).room
      (get (remaining settings world left far near).clients client)
      (remaining_quiet left far near) i

pub waiting_stay : TestsTell → LinkBetweenParts → LinkTakenOut → WaitingStay
unfolding step
waiting_stay tests between taken_out settings world
    (connect at host) client home pending sound of_links taken is there = absurd of_links
waiting_stay tests between taken_out settings world
    (line actor bytes) client home pending sound of_links taken is there = absurd of_links
waiting_stay tests between taken_out settings world
    (gone actor) client home pending sound of_links taken is there = absurd of_links
waiting_stay tests between taken_out settings world
    (link near far) client home pending sound of_links taken is there = record {
      waits = link_waits settings world sound client home pending is there between near far
          (link_taken settings world near far taken);
      sees_nothing = link_silent settings world sound client home pending is there near far;
    }
waiting_stay tests between taken_out settings world
    (cut near far) client home pending sound of_links taken is there = record {
      waits = cut_waits settings world sound client home pending is there
          (links_without world.links near far) near far
          (taken_out world.links near far sound.forest
          (link_there tests settings world near far taken));
      sees_nothing = cut_silent settings world sound client home pending is there
          (links_without world.links near far) near far;
    }
