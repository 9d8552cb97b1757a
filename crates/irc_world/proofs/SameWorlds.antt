-- Two worlds whose links have other ends named first go on the same.
use Rattle.std.proofs.Common.{◌≡◌, ℕ, suc, ◌+◌, Bool, true, false, cond, ◌||◌, not, Option, Some}
use Rattle.std.proofs.Common.{None, List, [], ◌∷◌, ◌++◌, inl, inr, length, refl, sym, ◌∙◌, ap}
use Rattle.std.proofs.Common.{subst, is_some, map, count_by, if◌then◌else◌, option_map}
use Rattle.std.proofs.Math.Bool.{or_comm}
use Rattle.std.proofs.Math.Path.{fun_ext}
use Rattle.std.proofs.lemmas.List.Sums.{sum_by-cons}
use Rattle.std.specs.Option.{option_and_then, option_map_or}
use Rattle.std.specs.FinMap.{get, retain_keys, values}
use Rattle.irc_names.specs.Tables.{tabulate}
use Rattle.irc_line.specs.Reading.{read_of}
use Rattle.irc_room.specs.Room.{Room}
use Rattle.irc_relay.specs.Links.{Name, same, Link, HasEnds, joined, links_without, distance}
use Rattle.irc_relay.specs.Links.{IsForest}
use Rattle.irc_relay.specs.Laws.{TestsTell, LinkBetweenParts, LinkTakenOut}
use Rattle.irc_relay.specs.TurnedLinks.{AreTurned, AreTheSameLinks, TurnedAreTheSame}
use Rattle.irc_merge.specs.ShownAlong.{shown_along}
use Rattle.irc_merge.specs.Split.{split, split_effects}
use Rattle.irc_routes.specs.About.{says_nothing}
use Rattle.irc_routes.specs.Place.{KnownServer, alone}
use Rattle.irc_stage.specs.declared.clients.Client.{Client}
use Rattle.irc_stage.specs.declared.clients.Client.TheVariants.{Registering, Registered}
use Rattle.irc_stage.specs.Handle.{ClientEvent, connects, says, goes, handled}
use Rattle.irc_server.specs.Owed.{lines_to}
use Rattle.irc_world.specs.World.{Setting, World, setting_of, servers_where, home_in, home_of}
use Rattle.irc_world.specs.World.{known_from, has_end, joined_place, place_at, machine_at}
use Rattle.irc_world.specs.Stepping.{Item, connect, line, gone, link, cut, Stepped, step, still}
use Rattle.irc_world.specs.Stepping.{by_machine, by_client, merged, meeting_lines, link_made}
use Rattle.irc_world.specs.Stepping.{split_text, remaining, leaving_lines, parted}
use Rattle.irc_world.specs.Refused.{refused, open_client, are_peers, needs_servers, no_such_client}
use Rattle.irc_world.specs.Refused.{link_refused, not_linked}
use Rattle.irc_world.specs.Laws.{StepStaysSound}
use Rattle.irc_world.specs.Sound.{IsSound, AreTaken}
use Rattle.irc_world.specs.Even.{AreTheSameWorlds, LookTheSame, GoOnTheSame, SameWorldsGoOn}
use Rattle.irc_world.proofs.StaysSound.{link_taken, two_parts, one_part, link_there}

-- ---- what a server knows of the network

ends_same : (server : Name) (l m : Link) → HasEnds m l.near l.far
    → has_end server l ≡ has_end server m
ends_same server l m (inl e) = λ i. same (sym e.0 i) server || same (sym e.1 i) server
ends_same server l m (inr e) = or_comm (same l.near server) (same l.far server)
    ∙ (λ i. same (sym e.0 i) server || same (sym e.1 i) server)

counted_same : (server : Name) (one other : List Link) → AreTurned one other
    → count_by (has_end server) one ≡ count_by (has_end server) other
counted_same server [] [] turned = refl
counted_same server [] (m ∷ ms) turned = absurd turned
counted_same server (l ∷ ls) [] turned = absurd turned
counted_same server (l ∷ ls) (m ∷ ms) turned =
    sum_by-cons (λ x. cond (has_end server x) 1 0) l ls
    ∙ (λ i. cond {A = ℕ} (ends_same server l m turned.0 i) 1 0
    + counted_same server ls ms turned.1 i)
    ∙ sym (sum_by-cons (λ x. cond (has_end server x) 1 0) m ms)

abbrev pub known_at : List Setting → Name → Bool → ℕ → Option KnownServer
known_at settings server there far =
    if there then option_map (λ (s : Setting). record {
      name = s.name;
      info = s.about.info;
      distance = far;
    }) (setting_of settings server) else None

module _ (settings : List Setting) (one other : List Link) (are : AreTheSameLinks one other) where
  known_same : (own server : Name)
      → known_from settings one own server ≡ known_from settings other own server
  known_same own server = by (joined one own server) refl
    where
      by : (b : Bool) → joined one own server ≡ b
          → known_from settings one own server ≡ known_from settings other own server
      by true is =
          ap (λ there. known_at settings server there (distance one own server))
          (are.joined_same own server)
          ∙ ap (known_at settings server (joined other own server))
          (are.distance_same own server (one_part one own server is))
      by false is =
          ap (λ there. known_at settings server there (distance one own server)) is
          ∙ sym (ap (λ there. known_at settings server there (distance other own server))
          (sym (are.joined_same own server) ∙ is))

  place_in_same : AreTurned one other → (own : Setting)
      → joined_place settings one own ≡ joined_place settings other own
  place_in_same turned own = λ i. record {
    name = own.name;
    about = own.about;
    links = counted_same own.name one other turned i;
    servers = values
        (tabulate (map (λ (s : Setting). s.name) settings) (fun_ext (known_same own.name) i));
  }

  pub place_same : AreTurned one other → (server : Name)
      → place_at settings one server ≡ place_at settings other server
  place_same turned server =
      ap (λ place. option_map_or place (setting_of settings server) (alone server says_nothing))
      (fun_ext (place_in_same turned))

pub looks_same : TurnedAreTheSame → (settings : List Setting) (one other : World)
    → IsForest one.links → AreTurned one.links other.links → LookTheSame settings one other
looks_same turned_same settings one other forest turned =
    let are = turned_same one.links other.links turned forest in
    record {
      one_part = are.joined_same;
      one_link = are.linked_same;
      place = place_same settings one.links other.links are turned;
    }

pub itself_turned : (links : List Link) → AreTurned links links
itself_turned [] = tt
itself_turned (l ∷ ls) = (inl (refl, refl), itself_turned ls)

-- ---- one item

-- the worlds are the same after it, and so are the lines
pub record AreSteps (one other : Stepped) : Type 0 where
  pub worlds : AreTheSameWorlds one.state other.state
  pub lines : (client : ℕ) → one.out client ≡ other.out client

leaving_same : (settings : List Setting) (one other : List Link) (near far : Name)
    → joined one far ≡ joined other far → (room : Room) (o : Option Client)
    → leaving_lines settings one near far room o ≡ leaving_lines settings other near far room o
leaving_same settings one other near far side room None = refl
leaving_same settings one other near far side room (Some (Registering pending)) = refl
leaving_same settings one other near far side room (Some (Registered nick)) =
    ap (λ test. shown_along nick room
    (split_effects (split_text near far) (servers_where settings test) room)) side

module _ (turned_same : TurnedAreTheSame) (settings : List Setting) (one other : World)
    (forest : IsForest one.links) (as_one : AreTheSameWorlds one other) where
  are : AreTheSameLinks one.links other.links
  are = turned_same one.links other.links as_one.links forest

  machine_same : (server : Name) → machine_at settings one server ≡ machine_at settings other server
  machine_same server = λ i. record {
    place = place_same settings one.links other.links are as_one.links server i;
    clients = (as_one.hall server i).clients;
    room = (as_one.hall server i).room;
  }

  home_same : (client : ℕ) → home_of one client ≡ home_of other client
  home_same client = ap (λ homes. home_in homes client) as_one.homes

  by_machine_same : (home : Name) (client_event : ClientEvent) → AreSteps
      (by_machine settings one home client_event) (by_machine settings other home client_event)
  by_machine_same home client_event = record {
    worlds = record {
      links = as_one.links;
      homes = as_one.homes;
      hall = λ server. λ i. if are.joined_same server home i then record {
        clients = (handled (machine_same home i) client_event).state.clients;
        room = (handled (machine_same home i) client_event).state.room;
      } else as_one.hall server i;
    };
    lines = λ client. ap (λ machine. lines_to client (handled machine client_event).out)
        (machine_same home);
  }

  by_client_same : (client : ℕ) (client_event : ClientEvent) → AreSteps
      (by_client settings one client client_event) (by_client settings other client client_event)
  by_client_same client client_event =
      subst (λ o. AreSteps (by_client settings one client client_event)
      (option_map_or (λ home. by_machine settings other home client_event) o (still other)))
      (home_same client) (by (home_of one client))
    where
      by : (o : Option Name) → AreSteps
          (option_map_or (λ home. by_machine settings one home client_event) o (still one))
          (option_map_or (λ home. by_machine settings other home client_event) o (still other))
      by None = record { worlds = as_one; lines = λ client. refl }
      by (Some home) = by_machine_same home client_event

  linked_same : (near far : Name) → IsForest (record { near = near; far = far } ∷ one.links)
      → AreSteps (link_made one near far) (link_made other near far)
  linked_same near far more =
      let l : Link = record { near = near; far = far } in
      let turned : AreTurned (l ∷ one.links) (l ∷ other.links) = (inl (refl, refl), as_one.links) in
      let now = turned_same (l ∷ one.links) (l ∷ other.links) turned more in
      record {
        worlds = record {
          links = turned;
          homes = as_one.homes;
          hall = λ server. λ i. if now.joined_same server near i
              then merged (as_one.hall near i) (as_one.hall far i) else as_one.hall server i;
        };
        lines = λ client. λ i.
            meeting_lines (as_one.hall near i) (as_one.hall far i)
            (get (as_one.hall near i).clients client)
            ++ meeting_lines (as_one.hall far i) (as_one.hall near i)
            (get (as_one.hall far i).clients client);
      }

  module _ (left left_other : List Link) (turned : AreTurned left left_other)
      (still_forest : IsForest left) where
    left_same : AreTheSameLinks left left_other
    left_same = turned_same left left_other turned still_forest

    side_same : (end : Name) → joined left end ≡ joined left_other end
    side_same end = fun_ext (left_same.joined_same end)

    remaining_same : (near far : Name)
        → remaining settings one left near far ≡ remaining settings other left_other near far
    remaining_same near far = λ i. record {
      clients = retain_keys (as_one.hall near i).clients
          (λ client. option_map_or (side_same near i) (home_in (as_one.homes i) client) false);
      room = split (split_text near far) (servers_where settings (side_same far i))
          (as_one.hall near i).room;
    }

    seen_same : (near far : Name) (client : ℕ) → leaving_lines settings left near far
        (one.hall near).room (get (remaining settings one left near far).clients client)
        ≡ leaving_lines settings left_other near far (other.hall near).room
        (get (remaining settings other left_other near far).clients client)
    seen_same near far client =
        leaving_same settings left left_other near far (side_same far) (one.hall near).room
        (get (remaining settings one left near far).clients client)
        ∙ (λ i. leaving_lines settings left_other near far (as_one.hall near i).room
        (get (remaining_same near far i).clients client))

    parted_same : (near far : Name)
        → AreSteps (parted settings one left near far) (parted settings other left_other near far)
    parted_same near far = record {
      worlds = record {
        links = turned;
        homes = as_one.homes;
        hall = λ server. λ i. if left_same.joined_same server far i then remaining_same far near i
            else (if left_same.joined_same server near i then remaining_same near far i
            else as_one.hall server i);
      };
      lines = λ client. λ i. seen_same near far client i ++ seen_same far near client i;
    }

  client_there_same : (client : ℕ) → open_client one client ≡ open_client other client
  client_there_same client =
      λ i. option_and_then (λ home. get (as_one.hall home i).clients client) (home_same client i)

  refused_same : (item : Item) → refused settings one item ≡ refused settings other item
  unfolding refused
  refused_same (connect server host) = refl
  refused_same (line client bytes) =
      ap (λ o. if is_some o then None else Some no_such_client) (client_there_same client)
  refused_same (gone client) =
      ap (λ o. if is_some o then None else Some no_such_client) (client_there_same client)
  refused_same (link near far) = λ i. needs_servers settings near far
      (if are.joined_same near far i || not (are_peers settings near far) then Some link_refused
      else None)
  refused_same (cut near far) = λ i. needs_servers settings near far
      (if are.linked_same near far i then None else Some not_linked)

module _ (turned_same : TurnedAreTheSame) (tests : TestsTell) (between : LinkBetweenParts)
    (taken_out : LinkTakenOut) (settings : List Setting) where
  step_same : (one other : World) → IsSound settings one
      → AreTheSameWorlds one other → (item : Item) → refused settings one item ≡ None
      → AreSteps (step settings one item) (step settings other item)
  unfolding step
  step_same one other sound as_one (connect server host) taken =
      let more : AreTheSameWorlds (record one { homes = one.homes ++ server ∷ [] })
      (record other { homes = other.homes ++ server ∷ [] }) =
      record {
        links = as_one.links;
        homes = ap (λ homes. homes ++ server ∷ []) as_one.homes;
        hall = as_one.hall;
      } in
      subst (λ number. AreSteps (by_machine settings (record one {
        homes = one.homes
            ++ server ∷ [];
      }) server (connects (suc (length one.homes)) host))
      (by_machine settings (record other { homes = other.homes ++ server ∷ [] }) server
      (connects (suc number) host))) (ap length as_one.homes)
      (by_machine_same turned_same settings (record one { homes = one.homes ++ server ∷ [] })
      (record other { homes = other.homes ++ server ∷ [] })
      sound.forest more server (connects (suc (length one.homes)) host))
  step_same one other sound as_one (line client bytes) taken =
      by_client_same turned_same settings one other sound.forest as_one client
      (says client (read_of bytes))
  step_same one other sound as_one (gone client) taken =
      by_client_same turned_same settings one other sound.forest as_one client (goes client)
  step_same one other sound as_one (link near far) taken =
      linked_same turned_same settings one other sound.forest as_one near far
      (between (record { near = near; far = far }) one.links sound.forest
      (two_parts one.links near far (link_taken settings one near far taken).apart)).forest
  step_same one other sound as_one (cut near far) taken =
      parted_same turned_same settings one other sound.forest as_one
      (links_without one.links near far) (links_without other.links near far)
      ((turned_same one.links other.links as_one.links sound.forest).left_turned near far)
      (taken_out one.links near far sound.forest
      (link_there tests settings one near far taken)).forest near far

  go_on : StepStaysSound → (one other : World) (items : List Item)
      → IsSound settings one → AreTheSameWorlds one other → AreTaken settings one items
      → GoOnTheSame settings one other items
  go_on stays one other [] sound as_one taken =
      record { taken = tt; worlds = as_one; lines = λ client. refl }
  go_on stays one other (item ∷ items) sound as_one taken =
      let first = step_same one other sound as_one item taken.now in
      let rest = go_on stays (step settings one item).state (step settings other item).state items
      (stays settings one item sound taken.now)
      first.worlds taken.later in
      record {
        taken = record {
          now = sym (refused_same turned_same settings one other sound.forest as_one
              item) ∙ taken.now;
          later = rest.taken;
        };
        worlds = rest.worlds;
        lines = λ client. λ i. first.lines client i ++ rest.lines client i;
      }

pub same_worlds_go_on : TurnedAreTheSame → TestsTell → LinkBetweenParts → LinkTakenOut
    → StepStaysSound → SameWorldsGoOn
same_worlds_go_on turned_same tests between taken_out stays settings =
    go_on turned_same tests between taken_out settings stays
