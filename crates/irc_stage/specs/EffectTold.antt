-- What an effect does to a server that has links: to its room, its clients, and what it puts out to
-- its clients and on its links.
--
-- al is a client of a.net, connection 1; bo and cy are users of b.net, behind link 2; d.net is
-- behind link 3. All are in #c.
--   al says hi in #c              line_on 2 `:al PRIVMSG #c :hi`; al hears nothing of it
--   bo says hi in #c (by link 2)  line_to 1 `:bo!u@h PRIVMSG #c :hi`; on link 3 nothing, where
--                                 nobody is in #c
--   al leaves #c                  line_to 1 `:al!u@h PART #c :`, then line_on 2 and line_on 3
--                                 `:al PART #c :`
--   bo is invited by al           line_on 2 `:al INVITE bo #c`; b.net keeps that, a.net does not
use Rattle.std.specs.Prelude.{ℕ, Bool, true, false, not, ◌&&◌, is_some, Option, Some, None, List}
use Rattle.std.specs.Prelude.{[], ◌∷◌, ◌++◌, map, filter_map, if◌then◌else◌}
use Rattle.std.specs.List.{flat_map}
use Rattle.std.specs.Option.{option_and_then, option_map_or}
use Rattle.std.specs.FinMap.{entries, get, retain_keys}
use Rattle.irc_line.specs.Messages.{Written, text}
use Rattle.irc_names.specs.Fold.{key}
use Rattle.irc_users.specs.UserTable.{is_home}
use Rattle.irc_batch.specs.Batches.{Sent, end_of, line_on}
use Rattle.irc_room.specs.effect.Effect.{Effect}
use Rattle.irc_room.specs.effect.Effect.TheVariants.{AddUser, Quit, Say, Invite}
use Rattle.irc_room.specs.Room.{Room}
use Rattle.irc_room.specs.After.{after}
use Rattle.irc_room.specs.Effects.{brings_free, has_user}
use Rattle.irc_room.specs.Readers.{home_under}
use Rattle.irc_room.specs.Applying.{does}
use Rattle.irc_room.specs.Seen.{seen}
use Rattle.irc_routes.specs.Known.{next_hop}
use Rattle.irc_link_writer.specs.Written.{wire}
use Rattle.irc_stage.specs.declared.clients.Client.{Client}
use Rattle.irc_stage.specs.RoomMachine.{Clients}
use Rattle.irc_stage.specs.View.{View, machine_of}
use Rattle.irc_stage.specs.Handle.{WithOutput, Handled, clients_after, is_client, to_viewer}
use Rattle.irc_stage.specs.Matched.{is_user_here}
use Rattle.irc_stage.specs.Ways.{ways}
use Rattle.irc_commands.specs.Closing.{error_line}

-- a server, and what it has put out, in order
abbrev pub Served : Type 0
Served = WithOutput View (List Sent)

-- nothing is put out
abbrev pub in_silence : View → Served
in_silence view = record { state = view; out = [] }

-- a view whose clients and room are those that its machine has then
abbrev pub put_back : View → Handled → Served
put_back view h = record {
  state = record view {
    clients = h.state.clients;
    room = h.state.room;
  };
  out = h.out;
}

-- the links on which a server tells an effect
abbrev pub ways_at : View → Option ℕ → Effect → List ℕ
ways_at view arrival effect = ways view.ends view.routes view.room arrival effect

-- it puts out this as well
abbrev pub with_sent : List Sent → Served → Served
with_sent sent s = record s { out = s.out ++ sent }

-- a line on each of these links
abbrev pub on_links : List ℕ → Written → List Sent
on_links links parts = map (λ link. line_on link (text parts)) links

-- An invitation of another server's user is that server's to keep (our own choice).
abbrev pub is_elsewhere : View → Effect → Bool
is_elsewhere view (Invite by nick channel) =
    is_some (option_and_then (next_hop view.routes) (home_under view.room (key nick)))
is_elsewhere view effect = false

-- what it makes of the room
abbrev pub room_after : View → Effect → Room
room_after view effect = if is_elsewhere view effect then view.room else after view.room effect

-- An effect changes the room and the clients, ..
abbrev pub view_after : View → Effect → View
view_after view effect =
    record view { clients = clients_after effect view.clients; room = room_after view effect }

-- .. and is shown to the viewers that are clients.
abbrev pub shown_at : View → Effect → List Sent
shown_at view effect = if is_elsewhere view effect then []
    else flat_map (to_viewer view.clients) (seen view.room effect)

abbrev pub changed : Effect → Served → Served
changed effect s =
    record { state = view_after s.state effect; out = s.out ++ shown_at s.state effect }

-- An effect that came by a link, or from a client of the server: it changes the room and is shown,
-- and then goes on, as it is written in the room before.
abbrev pub effect_told : Option ℕ → Effect → Served → Served
effect_told arrival effect s = with_sent (on_links (ways_at s.state arrival effect)
    (wire s.state.room s.state.routes effect)) (changed effect s)

-- ---- what links tell

-- whether a user of the server's own comes, leaves or speaks by it: no link tells of that
abbrev pub is_of_here : View → Effect → Bool
is_of_here view (AddUser user) = is_home view.routes.name user
is_of_here view (Quit nick text) = is_user_here (machine_of view) nick
is_of_here view (Say by notice target text) = is_user_here (machine_of view) by
is_of_here view effect = false

-- Whether an effect counts of which a link tells: whom and what it names is there, it does
-- something, and the nickname that it brings is free.
abbrev pub counts : View → Effect → Bool
counts view effect =
    does view.room effect && (brings_free view.room effect && not (is_of_here view effect))

-- it is left out, and not passed on, where it does not count
abbrev pub effect_came : Option ℕ → Effect → Served → Served
effect_came arrival effect s = if counts s.state effect then effect_told arrival effect s else s

-- effects that are not passed on one by one, each left out where it does not count in the room as
-- those before it have left it
abbrev pub changed_if : Effect → Served → Served
changed_if effect s = if counts s.state effect then changed effect s else s

abbrev pub all_changed : List Effect → Served → Served
all_changed [] s = s
all_changed (effect ∷ effects) s = all_changed effects (changed_if effect s)

-- ---- a user is taken out

-- the user of a nickname quits, if there is one
abbrev pub quit_by : List ℕ → List ℕ → Served → Served
quit_by nick text s = if has_user s.state.room nick then changed (Quit nick text) s else s

-- the end of each client that is this user
abbrev pub ends_of : List ℕ → Clients → List Sent
ends_of nick clients = filter_map (λ (c : ℕ × Client). if is_client nick c.1 then Some (end_of c.0)
    else None) (entries clients)

-- whether a connection is that of another
abbrev pub is_another : Clients → List ℕ → ℕ → Bool
is_another clients nick conn =
    option_map_or (λ client. not (is_client nick client)) (get clients conn) true

-- the client that is this user, if it is one of the server's, is told why, and closed
abbrev pub client_ended : List ℕ → List ℕ → Served → Served
client_ended nick text s = record {
  state =
      record s.state { clients = retain_keys s.state.clients (is_another s.state.clients nick) };
  out = s.out ++ (to_viewer s.state.clients (record { viewer = nick; line = error_line text })
      ++ ends_of nick s.state.clients);
}

-- a user is killed: the others see it quit, and its own client is told why and closed
abbrev pub taken_out : List ℕ → List ℕ → Served → Served
taken_out nick text s = client_ended nick text (quit_by nick text s)
