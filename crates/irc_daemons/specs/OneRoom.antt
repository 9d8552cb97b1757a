-- Daemons that are joined by links are one room: where links keep order and items do not overlap,
-- what is written to each client is what one room sends it. Links are made and lost, which are
-- items. A client whose outbox overflows is gone, which is an item too.
--
-- a.net, b.net and c.net stand in a line; al is at a.net, cy at c.net, both in #c. al says hi:
--   a.net has read the line   what cy is owed ends in `:al!u@h PRIVMSG #c :hi` and CR LF, and what
--                             was written to cy is a front of that
--   b.net has passed it on    so it is still
--   c.net has read it         it is in the outbox of cy's connection, and some bytes of it may be
--                             written; nothing is in transit, and with the outbox it is all
--   cy's connection takes it  all that cy is owed was written
use Rattle.std.specs.Prelude.{◌≡◌, ℕ, ◌++◌, true, is_some, Option, Some, None, List}
use Rattle.std.specs.List.{flat_map}
use Rattle.irc_relay.specs.Relay.{IsFront}
use Rattle.irc_server.specs.declared.config.Config.{Config}
use Rattle.irc_outbox.specs.Calls.{Call}
use Rattle.irc_world.specs.Owed.{owed_by_network}
use Rattle.irc_world.specs.Stepping.{Item}
use Rattle.irc_world.specs.World.{Setting}
use Rattle.irc_daemons.specs.Daemons.{Daemons, connection_at, unsent}
use Rattle.irc_daemons.specs.Items.{IsQuiet}
use Rattle.irc_daemons.specs.NewDaemons.{AreNew, names_in, settings_in}
use Rattle.irc_daemons.specs.Runs.{Runs}
use Rattle.irc_daemons.specs.Tellings.{Owing}

-- ---- what they send

-- all that a client is owed by these items, its lines joined
abbrev pub stream_owed : List Setting → List Item → ℕ → List ℕ
stream_owed settings items client = flat_map (λ line. line) (owed_by_network settings items client)

-- a connection of the server at a place is that of a client, and is there, closed by the server or
-- not
pub record IsConnected {W : Type 0} (daemons : Daemons W) (client place conn : ℕ) : Type 0 where
  pub seat : daemons.seats place client ≡ Some conn
  pub is_there : is_some (connection_at daemons place conn) ≡ true

-- what was written to it, and behind that what its outbox holds
abbrev pub stream_sent : {W : Type 0} → Daemons W → (client place conn : ℕ) → List ℕ
stream_sent daemons client place conn =
    daemons.written client ++ unsent (connection_at daemons place conn)

-- What was written to each client is a front of what it is owed. So it is with what its outbox
-- holds, while its connection is there; and this is all of it where nothing is in transit between
-- servers, and both ends of each link have been told of it.
pub record SendAsOneRoom {W : Type 0} (settings : List Setting) (items : List Item)
    (owing : Option Owing) (daemons : Daemons W) : Type 0 where
  pub written : (client : ℕ) → IsFront (daemons.written client) (stream_owed settings items client)
  pub sent : (client place conn : ℕ) → IsConnected daemons client place conn
      → IsFront (stream_sent daemons client place conn) (stream_owed settings items client)
  pub all : owing ≡ None → IsQuiet daemons → (client place conn : ℕ)
      → IsConnected daemons client place conn
      → stream_sent daemons client place conn ≡ stream_owed settings items client

-- Daemons that are new and not linked yet run: so it is at every moment.
abbrev pub DaemonsAreOneRoom : {W : Type 0} → (W → List Call → Type 0) → Type 0
DaemonsAreOneRoom {W} is_after = (configs : List Config) (items : List Item) (owing : Option Owing)
    (begin now : Daemons W) (new : AreNew configs begin)
    → Runs is_after (names_in new) (settings_in new) begin items owing now
    → SendAsOneRoom (settings_in new) items owing now
