-- How many lines the servers of a network need at most to tell each other of one item. A client's
-- effects are told to each other server of its part; two sides that are linked tell each other all
-- that they have, and pass it on; of a lost link each side is told which servers it has lost.
use Rattle.std.specs.Prelude.{◌≡◌, ℕ, ◌+◌, ◌*◌, ◌-◌, Option, Some, None, Ok, Err, List, [], ◌∷◌}
use Rattle.std.specs.Prelude.{length}
use Rattle.irc_names.specs.Fold.{key}
use Rattle.irc_names.specs.Tables.{row}
use Rattle.irc_line.specs.Messages.{Parsed}
use Rattle.irc_line.specs.Reading.{read_of}
use Rattle.irc_users.specs.declared.user.User.{User}
use Rattle.irc_room.specs.effect.Effect.{Effect}
use Rattle.irc_room.specs.effect.Effect.TheVariants.{Quit}
use Rattle.irc_acts.specs.Acts.{effects_among}
use Rattle.irc_commands.specs.Decide.{decide}
use Rattle.irc_commands.specs.Register.{register}
use Rattle.irc_merge.specs.Bursts.{burst}
use Rattle.irc_relay.specs.Links.{Name, Link, joined, links_without}
use Rattle.irc_stage.specs.declared.clients.Client.{Client}
use Rattle.irc_stage.specs.declared.clients.Client.TheVariants.{Registering, Registered}
use Rattle.irc_stage.specs.RoomMachine.{RoomMachine, client_of}
use Rattle.irc_stage.specs.Handle.{ClientEvent, connects, says, goes, user_of, lost_text}
use Rattle.irc_world.specs.World.{Setting, World, servers_where, home_of, machine_at}
use Rattle.irc_world.specs.Stepping.{Item, connect, line, gone, link, cut}
use Rattle.irc_world.specs.Refused.{refused}
use Rattle.irc_world.specs.Sound.{IsSound}

-- how many servers are in the part that one is in, itself too
abbrev pub part_size : List Setting → List Link → Name → ℕ
part_size settings links server = length (servers_where settings (joined links server))

-- ---- what a client does

abbrev pub effects_of_user : RoomMachine → Parsed → Option User → List Effect
effects_of_user machine message None = []
effects_of_user machine message (Some user) =
    effects_among (decide machine.room machine.place user.nick message).steps

abbrev pub effects_said : RoomMachine → Parsed → Option Client → List Effect
effects_said machine message None = []
effects_said machine message (Some (Registering pending)) =
    effects_among (register machine.room machine.place pending message).steps
effects_said machine message (Some (Registered nick)) =
    effects_of_user machine message (row machine.room.users (key nick))

abbrev pub effects_left : Option (List ℕ) → List Effect
effects_left None = []
effects_left (Some nick) = Quit nick lost_text ∷ []

-- the effects of what a client does on the room
abbrev pub effects_at : RoomMachine → ClientEvent → List Effect
effects_at machine (connects conn host) = []
effects_at machine (says conn (Err fault)) = []
effects_at machine (says conn (Ok message)) = effects_said machine message (client_of machine conn)
effects_at machine (goes conn) = effects_left (user_of machine.room (client_of machine conn))

-- each effect, to each other server of the part
abbrev pub most_of_client : List Setting → World → Option Name → ClientEvent → ℕ
most_of_client settings world None client_event = 0
most_of_client settings world (Some home) client_event =
    length (effects_at (machine_at settings world home) client_event)
    * (part_size settings world.links home - 1)

-- ---- links that are made and lost

-- what a server tells of its side: each other server of it, and all that its room has (RFC 2813
-- section 5.3.2)
abbrev pub burst_lines : List Setting → World → Name → ℕ
burst_lines settings world server =
    (part_size settings world.links server - 1) + length (burst server (world.hall server).room)

-- One side tells the other of itself: its server and its burst, each line once for each server
-- there, and once more for an answer to it.
abbrev pub most_told : List Setting → World → Name → Name → ℕ
most_told settings world teller other =
    (1 + burst_lines settings world teller) * (part_size settings world.links other + 1)

-- each server that a side has lost, to each server of that side but the one that lost the link
abbrev pub most_lost : List Setting → List Link → Name → Name → ℕ
most_lost settings left near far = part_size settings left far * (part_size settings left near - 1)

-- PASS of both ends stands in front of what two sides tell each other.
unfoldable pub most : List Setting → World → Item → ℕ
most settings world (connect server host) = 0
most settings world (line client bytes) =
    most_of_client settings world (home_of world client) (says client (read_of bytes))
most settings world (gone client) = most_of_client settings world (home_of world client)
    (goes client)
most settings world (link near far) =
    2 + (most_told settings world near far + most_told settings world far near)
most settings world (cut near far) =
    most_lost settings (links_without world.links near far) near far + most_lost settings
    (links_without world.links near far) far near

-- a server that is alone has nobody to tell
abbrev pub OneServerTellsNobody : Type 0
OneServerTellsNobody =
    (setting : Setting) (world : World) (item : Item) → IsSound (setting ∷ []) world
    → refused (setting ∷ []) world item ≡ None → most (setting ∷ []) world item ≡ 0
