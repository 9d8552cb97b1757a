-- What each thing that is given to the network does to it, and which lines its clients receive by
-- that.
use Rattle.std.specs.Prelude.{ℕ, suc, Bool, false, not, Option, Some, None, is_some, List, [], ◌∷◌}
use Rattle.std.specs.Prelude.{◌++◌, codes, length, if◌then◌else◌}
use Rattle.std.specs.Option.{option_map_or}
use Rattle.std.specs.FinMap.{get, entries, from_entries, retain_keys}
use Rattle.irc_names.specs.Fold.{key}
use Rattle.irc_names.specs.Tables.{row}
use Rattle.irc_line.specs.Reading.{read_of}
use Rattle.irc_room.specs.Room.{Room}
use Rattle.irc_merge.specs.Quits.{collision_text}
use Rattle.irc_merge.specs.ShownAlong.{shown_along}
use Rattle.irc_merge.specs.Merge.{merge}
use Rattle.irc_merge.specs.MergeShown.{merge_shown}
use Rattle.irc_merge.specs.Split.{split, split_effects}
use Rattle.irc_relay.specs.Links.{Name, Link, joined, links_without}
use Rattle.irc_stage.specs.declared.clients.Client.{Client}
use Rattle.irc_stage.specs.declared.clients.Client.TheVariants.{Registering, Registered}
use Rattle.irc_stage.specs.RoomMachine.{Clients}
use Rattle.irc_stage.specs.Handle.{WithOutput, ClientEvent, connects, says, goes, handled}
use Rattle.irc_server.specs.Owed.{lines_to}
use Rattle.irc_world.specs.World.{Setting, Hall, World, servers_where, home_of, machine_at}
use Rattle.irc_world.specs.World.{with_hall}
use Rattle.irc_commands.specs.Closing.{error_line}

-- What is given to the network: somebody connects to a server, a client says a line or is gone, two
-- servers are linked, the first of them connecting, or the link between two is lost.
pub data Item : Type 0 where
  connect : (server : Name) (host : List ℕ) → Item
  line : (client : ℕ) (bytes : List ℕ) → Item
  gone : (client : ℕ) → Item
  link : (near far : Name) → Item
  cut : (near far : Name) → Item

-- the network after it, and as its output the lines that each client receives by it
abbrev pub Stepped : Type 0
Stepped = WithOutput World (ℕ → List (List ℕ))

-- nothing happens to the network
abbrev pub still : World → Stepped
still world = record { state = world; out = λ client. [] }

-- ---- a client does something

-- It is done by the room machine of its part: one room, as though one server held everybody in it.
abbrev pub by_machine : List Setting → World → Name → ClientEvent → Stepped
by_machine settings world home client_event = record {
  state = with_hall home (record {
    clients = (handled (machine_at settings world home) client_event).state.clients;
    room = (handled (machine_at settings world home) client_event).state.room;
  }) world;
  out = λ client. lines_to client (handled (machine_at settings world home) client_event).out;
}

-- a client acts in the part of its home; one that never connected does nothing
abbrev pub by_client : List Setting → World → ℕ → ClientEvent → Stepped
by_client settings world client client_event = option_map_or
    (λ home. by_machine settings world home client_event) (home_of world client) (still world)

-- ---- two parts are linked

-- whether a client is a user whose nickname is held in another room too
abbrev pub clashes_in : Room → Option Client → Bool
clashes_in other None = false
clashes_in other (Some (Registering pending)) = false
clashes_in other (Some (Registered nick)) = is_some (row other.users (key nick))

-- the clients of one part that are left when it is joined to another
abbrev pub surviving : Room → Clients → Clients
surviving other clients =
    retain_keys clients (λ client. not (clashes_in other (get clients client)))

-- one hall of two: everybody but those whose nicknames are on both sides
abbrev pub merged : Hall → Hall → Hall
merged one other = record {
  clients = from_entries (entries (surviving other.room one.clients)
      ++ entries (surviving one.room other.clients));
  room = merge one.room other.room;
}

-- What a client of one part receives when it is joined to another: who is killed, and whom it meets
-- in its channels. One that is killed itself is told so last.
abbrev pub meeting_lines : Hall → Hall → Option Client → List (List ℕ)
meeting_lines own other None = []
meeting_lines own other (Some (Registering pending)) = []
meeting_lines own other (Some (Registered nick)) =
    merge_shown own.room other.room nick
    ++ (if clashes_in other.room (Some (Registered nick)) then error_line collision_text ∷ []
    else [])

-- two parts become one: their halls are merged, and the clients of each meet the other's users
abbrev pub link_made : World → Name → Name → Stepped
link_made world near far = record {
  state = with_hall near (merged (world.hall near) (world.hall far))
      (record world { links = record { near = near; far = far } ∷ world.links });
  out = λ client.
      meeting_lines (world.hall near) (world.hall far) (get (world.hall near).clients client)
      ++ meeting_lines (world.hall far) (world.hall near) (get (world.hall far).clients client);
}

-- ---- a link is lost

-- the text with which the users of the lost side quit: the near end of the link, and the far one
-- (RFC 2813 section 4.1.6)
abbrev pub split_text : Name → Name → List ℕ
split_text near far = near ++ (codes " " ++ far)

-- the servers on the side of one end, in order of name
abbrev pub servers_on_side : List Setting → List Link → Name → List Name
servers_on_side settings left end = servers_where settings (joined left end)

-- what is left of a hall on the side of its near end: the users of the other side's servers quit,
-- and its clients are elsewhere
abbrev pub remaining : List Setting → World → List Link → Name → Name → Hall
remaining settings world left near far = record {
  clients = retain_keys (world.hall near).clients
      (λ client. option_map_or (joined left near) (home_of world client) false);
  room = split (split_text near far) (servers_on_side settings left far) (world.hall near).room;
}

-- what a client on that side sees of it: those quit, server by server in order of name
abbrev pub leaving_lines : List Setting → List Link → Name → Name → Room → Option Client
    → List (List ℕ)
leaving_lines settings left near far room None = []
leaving_lines settings left near far room (Some (Registering pending)) = []
leaving_lines settings left near far room (Some (Registered nick)) =
    shown_along nick room
    (split_effects (split_text near far) (servers_on_side settings left far) room)

-- one part becomes two: each keeps what is on its side, and its clients see the others quit
abbrev pub parted : List Setting → World → List Link → Name → Name → Stepped
parted settings world left near far = record {
  state = with_hall far (remaining settings world left far near)
      (with_hall near (remaining settings world left near far) (record world { links = left }));
  out = λ client.
      leaving_lines settings left near far (world.hall near).room
      (get (remaining settings world left near far).clients client)
      ++ leaving_lines settings left far near (world.hall far).room
      (get (remaining settings world left far near).clients client);
}

-- ----

-- what an item does that is not refused
unfoldable pub step : List Setting → World → Item → Stepped
step settings world (connect server host) =
    by_machine settings (record world { homes = world.homes ++ server ∷ [] }) server
    (connects (suc (length world.homes)) host)
step settings world (line client bytes) =
    by_client settings world client (says client (read_of bytes))
step settings world (gone client) = by_client settings world client (goes client)
step settings world (link near far) = link_made world near far
step settings world (cut near far) =
    parted settings world (links_without world.links near far) near far
