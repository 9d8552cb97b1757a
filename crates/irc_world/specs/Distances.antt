-- How far two servers are from each other at most.
use Rattle.std.specs.Prelude.{◌≡◌, ◌<◌, true, List}
use Rattle.irc_relay.specs.Links.{Name, AreJoined, distance}
use Rattle.irc_world.specs.World.{Setting, World, is_server}
use Rattle.irc_world.specs.Bounds.{part_size}
use Rattle.irc_world.specs.Sound.{IsSound}

-- fewer links than there are servers in their part
abbrev pub PartsHoldWays : Type 0
PartsHoldWays = (settings : List Setting) (world : World) (s t : Name) → IsSound settings world
    → is_server settings s ≡ true
    → AreJoined world.links s t → distance world.links s t < part_size settings world.links s
