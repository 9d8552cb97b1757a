-- What effects do to two servers that are alike: they stay so, and put out the same to each client
-- and on each link.
use Rattle.std.proofs.Common.{◌≡◌, ℕ, Bool, true, false, cond, not, ◌&&◌, is_some, Option, Some}
use Rattle.std.proofs.Common.{None, Result, Ok, List, [], ◌∷◌, ◌++◌, map, refl, sym, ◌∙◌, ap, subst}
use Rattle.std.proofs.Common.{filter_map, option_map, if◌then◌else◌}
use Rattle.std.specs.FinMap.{entries, find, get, retain_keys}
use Rattle.std.specs.List.{flat_map}
use Rattle.std.specs.Option.{option_and_then, option_map_or}
use Rattle.std.specs.Ordering.{nat_cmp}
use Rattle.irc_line.specs.Messages.{Written, text}
use Rattle.irc_names.specs.Fold.{key}
use Rattle.irc_names.specs.Tables.{row}
use Rattle.irc_users.specs.UserTable.{is_home}
use Rattle.irc_batch.specs.declared.close_reason.CloseReason.{CloseReason}
use Rattle.irc_batch.specs.Batches.{Sent, end_of, is_number, line_to}
use Rattle.irc_room.specs.effect.Effect.{Effect}
use Rattle.irc_room.specs.effect.Effect.TheVariants.{AddUser, Rename, Quit, Say, Invite}
use Rattle.irc_room.specs.Room.{Room}
use Rattle.irc_room.specs.After.{after}
use Rattle.irc_room.specs.Applying.{does}
use Rattle.irc_room.specs.Effects.{brings_free, has_user}
use Rattle.irc_room.specs.Readers.{home_under}
use Rattle.irc_room.specs.Seen.{Showing, seen}
use Rattle.irc_routes.specs.declared.server_row.ServerRow.{ServerRow}
use Rattle.irc_routes.specs.Known.{link_key, next_hop, row_of}
use Rattle.irc_commands.specs.Closing.{error_line}
use Rattle.irc_link_writer.specs.Written.{wire}
use Rattle.irc_stage.specs.Ends.{End, is_met}
use Rattle.irc_stage.specs.Ways.{but, met_links, told_homes, ways_toward}
use Rattle.irc_stage.specs.declared.clients.Client.{Client}
use Rattle.irc_stage.specs.RoomMachine.{Clients}
use Rattle.irc_stage.specs.Handle.{clients_after, is_client, renamed_in, to_viewer}
use Rattle.irc_stage.specs.Lemmas.Counting.{get-kept}
use Rattle.irc_stage.specs.Lemmas.Numbers.{get-each}
use Rattle.irc_stage.specs.EffectTold.{Served, all_changed, changed, changed_if, client_ended}
use Rattle.irc_stage.specs.EffectTold.{counts, effect_came, effect_told, ends_of, is_another}
use Rattle.irc_stage.specs.EffectTold.{is_elsewhere, is_of_here, on_links, quit_by, room_after}
use Rattle.irc_stage.specs.EffectTold.{shown_at, taken_out, view_after, ways_at}
use Rattle.irc_stage.specs.Linked.{told_on_all}
use Rattle.irc_stage.specs.View.{View}
use Rattle.irc_numbers.specs.Alike.{AreAlike, AreApart, AreRowsAlike, IsAmong, Numbers}
use Rattle.irc_numbers.specs.ServedAlike.{AreArrivalsAlike, ArePutOutAlike, AreServedAlike}
use Rattle.irc_numbers.specs.ServedAlike.{StaysAlike, client_part, link_part}
use Rattle.irc_numbers.proofs.KnownAlike.{AreKnownAlike, wire_same}
use Rattle.irc_numbers.proofs.Numbers.{same_one}
use Rattle.irc_numbers.proofs.Parts.{chosen_part, client_part-append, each_once_part}
use Rattle.irc_numbers.proofs.Parts.{link_part-append, met_part, no_link, to_no_client}
use Rattle.irc_numbers.proofs.Places.{found_same, hops_linked, none_found}

-- ---- what is put out

pub nothing_put : (numbers : Numbers) → ArePutOutAlike numbers [] []
nothing_put numbers = record {
  to_clients = λ client conn at. refl;
  on_links = λ place conn at. refl;
  to_no_other = λ conn none. refl;
  on_no_other = λ conn none. refl;
}

pub both_put : (numbers : Numbers) (one two three four : List Sent) → ArePutOutAlike numbers one two
    → ArePutOutAlike numbers three four → ArePutOutAlike numbers (one ++ three) (two ++ four)
both_put numbers one two three four first second = record {
  to_clients = λ client conn at.
      client_part-append conn one three
      ∙ ap (λ xs. xs ++ client_part conn three) (first.to_clients client conn at)
      ∙ ap (λ xs. client_part client two ++ xs) (second.to_clients client conn at)
      ∙ sym (client_part-append client two four);
  on_links = λ place conn at.
      link_part-append conn one three
      ∙ ap (λ xs. xs ++ link_part conn three) (first.on_links place conn at)
      ∙ ap (λ xs. link_part place two ++ xs) (second.on_links place conn at)
      ∙ sym (link_part-append place two four);
  to_no_other = λ conn none.
      client_part-append conn one three ∙ ap (λ xs. xs ++ client_part conn three)
      (first.to_no_other conn none) ∙ second.to_no_other conn none;
  on_no_other = λ conn none.
      link_part-append conn one three ∙ ap (λ xs. xs ++ link_part conn three)
      (first.on_no_other conn none) ∙ second.on_no_other conn none;
}

-- servers that were alike have these views from now on, and put this out as well
pub then_put : (numbers : Numbers) (own other : Served) → AreServedAlike numbers own other
    → (mine theirs : View) → AreAlike numbers mine theirs → (more others : List Sent)
    → ArePutOutAlike numbers more others → AreServedAlike numbers (record {
      state = mine;
      out = own.out ++ more;
    }) (record { state = theirs; out = other.out ++ others })
then_put numbers own other alike mine theirs views more others put = record {
  views = views;
  outs = both_put numbers own.out other.out more others alike.outs put;
}

-- a step is done where a test says so, which is the same for both
pub done_if : (numbers : Numbers) (serve serves : Served → Served) (own other : Served)
    → AreServedAlike numbers own other → AreServedAlike numbers (serve own) (serves other)
    → (mine theirs : Bool) → theirs ≡ mine → AreServedAlike numbers
    (if mine then serve own else own) (if theirs then serves other else other)
done_if numbers serve serves own other alike done true true same = done
done_if numbers serve serves own other alike done false false same = alike
done_if numbers serve serves own other alike done true false same = cc same
done_if numbers serve serves own other alike done false true same = cc same

viewer_no_link : (clients : Clients) (link : ℕ) (showing : Showing)
    → link_part link (to_viewer clients showing) ≡ []
viewer_no_link clients link showing = no_link (is_client showing.viewer)
    (λ n. line_to n showing.line) (λ n l. refl) link (entries clients)

abbrev its_end : List (Option (List ℕ))
its_end = None ∷ []

-- ---- two views

abbrev Homes : Type 0
Homes = Option (List (List ℕ))

module _ (numbers : Numbers) (own other : View) (alike : AreAlike numbers own other) where
  pub known_of : AreKnownAlike numbers own.routes other.routes
  known_of =
      record { name = alike.name; about = alike.about; rows = alike.rows }

  pub client_at : (client conn : ℕ) → numbers.client client ≡ Some conn
      → get other.clients client ≡ get own.clients conn
  client_at client conn at = alike.clients client ∙ ap (option_and_then (get own.clients)) at

  pub end_at : (place conn : ℕ) → numbers.link place ≡ Some conn
      → get other.ends place ≡ get own.ends conn
  end_at place conn at = alike.ends place ∙ ap (option_and_then (get own.ends)) at

  no_client : (conn : ℕ) → (IsAmong numbers.client conn → ⊥) → get own.clients conn ≡ None
  no_client conn none = by (get own.clients conn) refl
    where
      by : (o : Option Client) → get own.clients conn ≡ o → o ≡ None
      by None is = refl
      by (Some client) is = absurd (none (alike.no_other_client conn (ap is_some is)))

  no_end : (conn : ℕ) → (IsAmong numbers.link conn → ⊥) → get own.ends conn ≡ None
  no_end conn none = by (get own.ends conn) refl
    where
      by : (o : Option End) → get own.ends conn ≡ o → o ≡ None
      by None is = refl
      by (Some end) is = absurd (none (alike.no_other_end conn (ap is_some is)))

  -- other clients, and another room
  pub with_clients : (mine theirs : Clients) (my_room their_room : Room)
      → ((client : ℕ) → get theirs client ≡ option_and_then (get mine) (numbers.client client))
      → ((conn : ℕ) → is_some (get mine conn) ≡ true → IsAmong numbers.client conn)
      → their_room ≡ my_room → AreAlike numbers (record own { clients = mine; room = my_room })
      (record other { clients = theirs; room = their_room })
  with_clients mine theirs my_room their_room clients no_other_client room = record {
    name = alike.name;
    about = alike.about;
    rows = alike.rows;
    peers = alike.peers;
    ends = alike.ends;
    no_other_end = alike.no_other_end;
    clients = clients;
    no_other_client = no_other_client;
    room = room;
  }

  -- ---- what an effect does

  home_same : (home : Option (List ℕ)) → is_some (option_and_then (next_hop other.routes) home)
      ≡ is_some (option_and_then (next_hop own.routes) home)
  home_same None = refl
  home_same (Some home) = by (row_of own.routes home) (row_of other.routes home) (alike.rows home)
    where
      by : (mine theirs : Option ServerRow) → AreRowsAlike numbers mine theirs
          → is_some (option_map (λ (r : ServerRow). r.link) theirs)
          ≡ is_some (option_map (λ (r : ServerRow). r.link) mine)
      by None None is = refl
      by None (Some theirs) is = absurd is
      by (Some mine) None is = absurd is
      by (Some mine) (Some theirs) is = refl

  pub elsewhere_same : (effect : Effect) → is_elsewhere other effect ≡ is_elsewhere own effect
  elsewhere_same (Invite by nick channel) =
      ap (λ (room : Room). is_some
      (option_and_then (next_hop other.routes) (home_under room (key nick)))) alike.room
      ∙ home_same (home_under own.room (key nick))
  elsewhere_same effect = refl

  room_same : (effect : Effect) → room_after other effect ≡ room_after own effect
  room_same effect =
      λ i. if elsewhere_same effect i then alike.room i else after (alike.room i) effect

  user_here_same : (nick : List ℕ)
      → option_map_or (is_home other.routes.name) (row other.room.users (key nick)) false
      ≡ option_map_or (is_home own.routes.name) (row own.room.users (key nick)) false
  user_here_same nick =
      λ i. option_map_or (is_home (alike.name i)) (row (alike.room i).users (key nick)) false

  of_here_same : (effect : Effect) → is_of_here other effect ≡ is_of_here own effect
  of_here_same (AddUser user) = ap (λ name. is_home name user) alike.name
  of_here_same (Quit nick text) = user_here_same nick
  of_here_same (Say by notice target text) = user_here_same by
  of_here_same effect = refl

  pub counts_same : (effect : Effect) → counts other effect ≡ counts own effect
  counts_same effect = λ i. does (alike.room i) effect
      && (brings_free (alike.room i) effect && not (of_here_same effect i))

  renamed_alike : (nick new : List ℕ) (client : ℕ)
      → get (clients_after (Rename nick new) other.clients) client ≡ option_and_then
      (get (clients_after (Rename nick new) own.clients)) (numbers.client client)
  renamed_alike nick new client =
      get-each (renamed_in nick new) other.clients client ∙ ap (option_map (renamed_in nick new))
      (alike.clients client) ∙ by (numbers.client client)
    where
      by : (o : Option ℕ) → option_map (renamed_in nick new) (option_and_then (get own.clients) o)
          ≡ option_and_then (get (clients_after (Rename nick new) own.clients)) o
      by None = refl
      by (Some conn) = sym (get-each (renamed_in nick new) own.clients conn)

  renamed_among : (nick new : List ℕ) (conn : ℕ) → is_some
      (get (clients_after (Rename nick new) own.clients) conn) ≡ true → IsAmong numbers.client conn
  renamed_among nick new conn is = alike.no_other_client conn (by (get own.clients conn)
      (ap is_some (sym (get-each (renamed_in nick new) own.clients conn)) ∙ is))
    where
      by : (o : Option Client) → is_some (option_map (renamed_in nick new) o) ≡ true
          → is_some o ≡ true
      by None there = there
      by (Some client) there = refl

  same_clients : (effect : Effect)
      → AreAlike numbers (record own { clients = own.clients; room = room_after own effect })
      (record other { clients = other.clients; room = room_after other effect })
  same_clients effect =
      with_clients own.clients other.clients (room_after own effect)
      (room_after other effect) alike.clients alike.no_other_client (room_same effect)

  pub view_alike : (effect : Effect)
      → AreAlike numbers (view_after own effect) (view_after other effect)
  view_alike (Rename nick new) =
      with_clients (clients_after (Rename nick new) own.clients)
      (clients_after (Rename nick new) other.clients) (room_after own (Rename nick new))
      (room_after other (Rename nick new)) (renamed_alike nick new) (renamed_among nick new)
      (room_same (Rename nick new))
  view_alike effect = same_clients effect

  -- ---- what is shown

  viewer_none : (conn : ℕ) → (IsAmong numbers.client conn → ⊥) → (showing : Showing)
      → client_part conn (to_viewer own.clients showing) ≡ []
  viewer_none conn none showing =
      chosen_part (is_client showing.viewer) (λ n. line_to n showing.line) (Some showing.line ∷ [])
      (λ n c. refl) conn own.clients
      ∙ ap (λ o. option_map_or (λ (c : Client). if is_client showing.viewer c
      then Some showing.line ∷ [] else []) o []) (no_client conn none)

  shown_none : (conn : ℕ) → (IsAmong numbers.client conn → ⊥) → (showings : List Showing)
      → client_part conn (flat_map (to_viewer own.clients) showings) ≡ []
  shown_none conn none [] = refl
  shown_none conn none (showing ∷ showings) =
      client_part-append conn (to_viewer own.clients showing)
      (flat_map (to_viewer own.clients) showings)
      ∙ ap (λ xs. xs ++ client_part conn (flat_map (to_viewer own.clients) showings))
      (viewer_none conn none showing)
      ∙ shown_none conn none showings

  viewer_same : (client conn : ℕ) → numbers.client client ≡ Some conn → (showing : Showing)
      → client_part conn (to_viewer own.clients showing) ≡ client_part client
      (to_viewer other.clients showing)
  viewer_same client conn at showing =
      viewer_part conn own.clients
      ∙ ap (λ o. option_map_or (λ (c : Client). if is_client showing.viewer c
      then Some showing.line ∷ [] else []) o []) (sym (client_at client conn at))
      ∙ sym (viewer_part client other.clients)
    where
      viewer_part : (number : ℕ) (clients : Clients)
          → client_part number (to_viewer clients showing)
          ≡ option_map_or (λ (c : Client). if is_client showing.viewer c then Some showing.line ∷ []
          else []) (get clients number) []
      viewer_part number clients = chosen_part (is_client showing.viewer)
          (λ n. line_to n showing.line) (Some showing.line ∷ []) (λ n c. refl) number clients

  shown_client : (client conn : ℕ) → numbers.client client ≡ Some conn
      → (showings : List Showing) → client_part conn (flat_map (to_viewer own.clients) showings)
      ≡ client_part client (flat_map (to_viewer other.clients) showings)
  shown_client client conn at [] = refl
  shown_client client conn at (showing ∷ showings) =
      client_part-append conn (to_viewer own.clients showing)
      (flat_map (to_viewer own.clients) showings)
      ∙ ap (λ xs. xs ++ client_part conn (flat_map (to_viewer own.clients) showings))
      (viewer_same client conn at showing)
      ∙ ap (λ xs. client_part client (to_viewer other.clients showing) ++ xs)
      (shown_client client conn at showings)
      ∙ sym (client_part-append client (to_viewer other.clients showing)
      (flat_map (to_viewer other.clients) showings))

  shown_no_link : (clients : Clients) (link : ℕ) (showings : List Showing)
      → link_part link (flat_map (to_viewer clients) showings) ≡ []
  shown_no_link clients link [] = refl
  shown_no_link clients link (showing ∷ showings) =
      link_part-append link (to_viewer clients showing) (flat_map (to_viewer clients) showings)
      ∙ ap (λ xs. xs ++ link_part link (flat_map (to_viewer clients) showings))
      (viewer_no_link clients link showing)
      ∙ shown_no_link clients link showings

  showings_alike : (showings : List Showing) → ArePutOutAlike numbers
      (flat_map (to_viewer own.clients) showings) (flat_map (to_viewer other.clients) showings)
  showings_alike showings = record {
    to_clients = λ client conn at. shown_client client conn at showings;
    on_links = λ place conn at. shown_no_link own.clients conn showings
        ∙ sym (shown_no_link other.clients place showings);
    to_no_other = λ conn none. shown_none conn none showings;
    on_no_other = λ conn none. shown_no_link own.clients conn showings;
  }

  pub shown_alike : (effect : Effect)
      → ArePutOutAlike numbers (shown_at own effect) (shown_at other effect)
  shown_alike effect =
      subst (λ (sent : List Sent). ArePutOutAlike numbers (shown_at own effect) sent)
      (λ i. if sym (elsewhere_same effect) i then []
      else flat_map (to_viewer other.clients) (seen (sym alike.room i) effect))
      (by (is_elsewhere own effect))
    where
      by : (b : Bool) → ArePutOutAlike numbers
          (if b then [] else flat_map (to_viewer own.clients) (seen own.room effect))
          (if b then [] else flat_map (to_viewer other.clients) (seen own.room effect))
      by true = nothing_put numbers
      by false = showings_alike (seen own.room effect)

  -- ---- what goes on links

  module _ (apart : AreApart numbers) (arrival came : Option ℕ)
      (arrivals : AreArrivalsAlike numbers arrival came) where
    arrival_same : (place conn : ℕ) → numbers.link place ≡ Some conn
        → is_number came place ≡ is_number arrival conn
    arrival_same place conn at = by arrival came arrivals
      where
        by : (mine theirs : Option ℕ) → AreArrivalsAlike numbers mine theirs
            → is_number theirs place ≡ is_number mine conn
        by None None is = refl
        by None (Some theirs) is = absurd is
        by (Some mine) None is = absurd is
        by (Some mine) (Some theirs) is =
            same_one numbers.link apart.links place conn at theirs mine is

    abbrev tells_if : Written → Bool → List (Result (List ℕ) CloseReason)
    tells_if parts b = if not b then Ok (text parts) ∷ [] else []

    ways_same : (homes : Homes) (parts : Written) (place conn : ℕ) → numbers.link place ≡ Some conn
        → link_part conn (on_links (but arrival (ways_toward own.ends own.routes homes)) parts)
        ≡ link_part place (on_links (but came (ways_toward other.ends other.routes homes)) parts)
    ways_same None parts place conn at =
        met_part arrival parts conn own.ends
        ∙ ap (λ o. option_map_or (λ (end : End). if is_met end then tells_if parts
        (is_number arrival conn) else []) o []) (sym (end_at place conn at))
        ∙ ap (λ b. option_map_or (λ (end : End). if is_met end then tells_if parts b else [])
        (get other.ends place) []) (sym (arrival_same place conn at))
        ∙ sym (met_part came parts place other.ends)
    ways_same (Some homes) parts place conn at =
        let mine = filter_map (next_hop own.routes) homes in
        let theirs = filter_map (next_hop other.routes) homes in
        each_once_part arrival parts conn mine
        ∙ ap (λ o. option_map_or (λ (u : Unit {0}). tells_if parts (is_number arrival conn)) o [])
        (sym (found_same numbers apart place conn at mine theirs
        (hops_linked numbers own.routes other.routes known_of homes)))
        ∙ ap (λ b. option_map_or (λ (u : Unit {0}). tells_if parts b)
        (find nat_cmp place (map link_key theirs)) []) (sym (arrival_same place conn at))
        ∙ sym (each_once_part came parts place theirs)

    no_way : (homes : Homes) (parts : Written) (conn : ℕ) → (IsAmong numbers.link conn → ⊥)
        → link_part conn (on_links (but arrival (ways_toward own.ends own.routes homes)) parts) ≡ []
    no_way None parts conn none =
        met_part arrival parts conn own.ends
        ∙ ap (λ o. option_map_or (λ (end : End). if is_met end
        then tells_if parts (is_number arrival conn) else []) o []) (no_end conn none)
    no_way (Some homes) parts conn none =
        let mine = filter_map (next_hop own.routes) homes in
        let theirs = filter_map (next_hop other.routes) homes in
        each_once_part arrival parts conn mine
        ∙ ap (λ o. option_map_or (λ (u : Unit {0}). tells_if parts (is_number arrival conn)) o [])
        (none_found numbers apart conn none mine theirs
        (hops_linked numbers own.routes other.routes known_of homes))

    pub told_alike : (homes : Homes) (mine theirs : Written) → theirs ≡ mine → ArePutOutAlike
        numbers (on_links (but arrival (ways_toward own.ends own.routes homes)) mine)
        (on_links (but came (ways_toward other.ends other.routes homes)) theirs)
    told_alike homes mine theirs same = record {
      to_clients = λ client conn at.
          to_no_client conn mine (but arrival (ways_toward own.ends own.routes homes))
          ∙ sym (to_no_client client theirs (but came (ways_toward other.ends other.routes homes)));
      on_links = λ place conn at.
          ways_same homes mine place conn at
          ∙ ap (λ parts. link_part place
          (on_links (but came (ways_toward other.ends other.routes homes)) parts)) (sym same);
      to_no_other =
          λ conn none. to_no_client conn mine (but arrival (ways_toward own.ends own.routes homes));
      on_no_other = λ conn none. no_way homes mine conn none;
    }

    effect_written : (effect : Effect)
        → wire other.room other.routes effect ≡ wire own.room own.routes effect
    effect_written effect =
        ap (λ (room : Room). wire room other.routes effect) alike.room
        ∙ wire_same numbers own.routes other.routes known_of own.room effect

    pub effect_on_links : (effect : Effect) → ArePutOutAlike numbers
        (on_links (ways_at own arrival effect) (wire own.room own.routes effect))
        (on_links (ways_at other came effect) (wire other.room other.routes effect))
    effect_on_links effect =
        subst (λ (homes : Homes). ArePutOutAlike numbers
        (on_links (ways_at own arrival effect) (wire own.room own.routes effect))
        (on_links (but came (ways_toward other.ends other.routes homes))
        (wire other.room other.routes effect)))
        (ap (λ (room : Room). told_homes room effect) (sym alike.room))
        (told_alike (told_homes own.room effect) (wire own.room own.routes effect)
        (wire other.room other.routes effect) (effect_written effect))

  -- ---- a client is taken out

  -- who is kept
  abbrev kept : List ℕ → Option Client → Option Client
  kept nick o = cond (option_map_or (λ client. not (is_client nick client)) o true) o None

  kept_alike : (nick : List ℕ) (client : ℕ)
      → get (retain_keys other.clients (is_another other.clients nick)) client
      ≡ option_and_then (get (retain_keys own.clients (is_another own.clients nick)))
      (numbers.client client)
  kept_alike nick client =
      get-kept other.clients (is_another other.clients nick) client
      ∙ ap (kept nick) (alike.clients client) ∙ by (numbers.client client)
    where
      by : (o : Option ℕ) → kept nick (option_and_then (get own.clients) o)
          ≡ option_and_then (get (retain_keys own.clients (is_another own.clients nick))) o
      by None = refl
      by (Some conn) = sym (get-kept own.clients (is_another own.clients nick) conn)

  kept_among : (nick : List ℕ) (conn : ℕ)
      → is_some (get (retain_keys own.clients (is_another own.clients nick)) conn) ≡ true
      → IsAmong numbers.client conn
  kept_among nick conn is =
      by (is_another own.clients nick conn)
      (ap is_some (sym (get-kept own.clients (is_another own.clients nick) conn)) ∙ is)
    where
      by : (b : Bool) → is_some (cond b (get own.clients conn) None) ≡ true
          → IsAmong numbers.client conn
      by true there = alike.no_other_client conn there
      by false there = cc there

  pub ended_alike : (nick : List ℕ) → AreAlike numbers
      (record own { clients = retain_keys own.clients (is_another own.clients nick) })
      (record other { clients = retain_keys other.clients (is_another other.clients nick) })
  ended_alike nick =
      with_clients (retain_keys own.clients (is_another own.clients nick))
      (retain_keys other.clients (is_another other.clients nick)) own.room other.room
      (kept_alike nick) (kept_among nick) alike.room

  pub ends_alike : (nick : List ℕ)
      → ArePutOutAlike numbers (ends_of nick own.clients) (ends_of nick other.clients)
  ends_alike nick = record {
    to_clients = λ client conn at.
        ends_part conn own.clients ∙ ap (λ o. option_map_or (λ (c : Client). if is_client nick c
        then its_end else []) o []) (sym (client_at client conn at))
        ∙ sym (ends_part client other.clients);
    on_links = λ place conn at.
        no_link (is_client nick) end_of (λ n link. refl) conn (entries own.clients)
        ∙ sym (no_link (is_client nick) end_of (λ n link. refl) place (entries other.clients));
    to_no_other = λ conn none.
        ends_part conn own.clients ∙ ap (λ o. option_map_or (λ (c : Client). if is_client nick c
        then its_end else []) o []) (no_client conn none);
    on_no_other =
        λ conn none. no_link (is_client nick) end_of (λ n link. refl) conn (entries own.clients);
  }
    where
      ends_part : (number : ℕ) (clients : Clients)
          → client_part number (ends_of nick clients) ≡ option_map_or
          (λ (c : Client). if is_client nick c then its_end else []) (get clients number) []
      ends_part number clients =
          chosen_part (is_client nick) end_of (None ∷ []) (λ n c. refl) number clients

  pub viewer_alike : (showing : Showing)
      → ArePutOutAlike numbers (to_viewer own.clients showing) (to_viewer other.clients showing)
  viewer_alike showing = record {
    to_clients = λ client conn at. viewer_same client conn at showing;
    on_links = λ place conn at. viewer_no_link own.clients conn showing
        ∙ sym (viewer_no_link other.clients place showing);
    to_no_other = λ conn none. viewer_none conn none showing;
    on_no_other = λ conn none. viewer_no_link own.clients conn showing;
  }

-- ---- each thing that is done with effects

module _ (numbers : Numbers) (apart : AreApart numbers) where
  pub changed_alike : (effect : Effect) → StaysAlike numbers (changed effect) (changed effect)
  changed_alike effect own other alike =
      then_put numbers own other alike (view_after own.state effect) (view_after other.state effect)
      (view_alike numbers own.state other.state alike.views effect)
      (shown_at own.state effect) (shown_at other.state effect)
      (shown_alike numbers own.state other.state alike.views effect)

  pub effect_alike : (arrival came : Option ℕ)
      → AreArrivalsAlike numbers arrival came → (effect : Effect)
      → StaysAlike numbers (effect_told arrival effect) (effect_told came effect)
  effect_alike arrival came arrivals effect own other alike =
      let done = changed_alike effect own other alike in
      then_put numbers (changed effect own) (changed effect other) done
      (view_after own.state effect)
      (view_after other.state effect) done.views
      (on_links (ways_at own.state arrival effect) (wire own.state.room own.state.routes effect))
      (on_links (ways_at other.state came effect) (wire other.state.room other.state.routes effect))
      (effect_on_links numbers own.state other.state alike.views apart arrival came arrivals effect)

  pub came_alike : (arrival came : Option ℕ)
      → AreArrivalsAlike numbers arrival came → (effect : Effect)
      → StaysAlike numbers (effect_came arrival effect) (effect_came came effect)
  came_alike arrival came arrivals effect own other alike =
      done_if numbers (effect_told arrival effect) (effect_told came effect) own other alike
      (effect_alike arrival came arrivals effect own other alike)
      (counts own.state effect) (counts other.state effect)
      (counts_same numbers own.state other.state alike.views effect)

  pub changed_if_alike : (effect : Effect)
      → StaysAlike numbers (changed_if effect) (changed_if effect)
  changed_if_alike effect own other alike =
      done_if numbers (changed effect) (changed effect) own other alike
      (changed_alike effect own other alike) (counts own.state effect)
      (counts other.state effect) (counts_same numbers own.state other.state alike.views effect)

  pub all_changed_alike : (effects : List Effect)
      → StaysAlike numbers (all_changed effects) (all_changed effects)
  all_changed_alike [] own other alike = alike
  all_changed_alike (effect ∷ effects) own other alike =
      all_changed_alike effects (changed_if effect own) (changed_if effect other)
      (changed_if_alike effect own other alike)

  pub told_on_all_alike : (arrival came : Option ℕ)
      → AreArrivalsAlike numbers arrival came → (mine theirs : Written) → theirs ≡ mine
      → StaysAlike numbers (told_on_all arrival mine) (told_on_all came theirs)
  told_on_all_alike arrival came arrivals mine theirs same own other alike =
      then_put numbers own other alike own.state other.state alike.views
      (on_links (but arrival (met_links own.state.ends)) mine)
      (on_links (but came (met_links other.state.ends)) theirs)
      (told_alike numbers own.state other.state alike.views apart arrival came arrivals None mine
      theirs same)

  pub quit_by_alike : (nick text : List ℕ)
      → StaysAlike numbers (quit_by nick text) (quit_by nick text)
  quit_by_alike nick text own other alike =
      done_if numbers (changed (Quit nick text)) (changed (Quit nick text)) own other alike
      (changed_alike (Quit nick text) own other alike)
      (has_user own.state.room nick) (has_user other.state.room nick)
      (ap (λ (room : Room). has_user room nick) alike.views.room)

  pub client_ended_alike : (nick text : List ℕ)
      → StaysAlike numbers (client_ended nick text) (client_ended nick text)
  client_ended_alike nick text own other alike =
      let showing : Showing = record { viewer = nick; line = error_line text } in
      then_put numbers own other alike (client_ended nick text own).state
      (client_ended nick text other).state
      (ended_alike numbers own.state other.state alike.views nick)
      (to_viewer own.state.clients showing ++ ends_of nick own.state.clients)
      (to_viewer other.state.clients showing ++ ends_of nick other.state.clients)
      (both_put numbers (to_viewer own.state.clients showing)
      (to_viewer other.state.clients showing)
      (ends_of nick own.state.clients)
      (ends_of nick other.state.clients)
      (viewer_alike numbers own.state other.state alike.views showing)
      (ends_alike numbers own.state other.state alike.views nick))

  pub taken_out_alike : (nick text : List ℕ)
      → StaysAlike numbers (taken_out nick text) (taken_out nick text)
  taken_out_alike nick text own other alike =
      client_ended_alike nick text (quit_by nick text own) (quit_by nick text other)
      (quit_by_alike nick text own other alike)
