-- What the code makes of one event.
use Rattle.std.specs.Prelude.{ℕ, Option, Some, None, List}
use Rattle.irc_room.specs.Room.{Room}
use Rattle.irc_room.specs.Applying.{ServerRoom}
use Rattle.irc_commands.specs.declared.pending.Registration.{Registration}
use Rattle.irc_commands.specs.RegisteringViews.{registered_of}
use Rattle.irc_stage.specs.declared.clients.Client.{Client}
use Rattle.irc_stage.specs.declared.clients.Client.TheVariants.{Registering, Registered}
use Rattle.irc_stage.specs.ClientTold.{seated}
use Rattle.irc_stage.specs.Handle.{client_after}
use Rattle.irc_stage.specs.View.{View}

-- the room, as its code keeps it, and of a server
abbrev pub room_kept : ServerRoom → Room
room_kept kept = kept.room

abbrev pub room_of : View → Room
room_of view = view.room

-- the nickname by which a client is a user
abbrev pub nick_of : Client → Option (List ℕ)
nick_of (Registered nick) = Some nick
nick_of (Registering pending) = None

-- what a line before registration has given makes its connection this client
abbrev pub given_client : Registration → Client
given_client given = client_after (registered_of given) given.pending.nick

abbrev pub given_view : View → ℕ → Registration → View
given_view view conn given = seated conn (given_client given) view
