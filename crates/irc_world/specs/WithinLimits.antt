-- The limits of the network: rooms keep to theirs, whatever the items bring that keep to theirs
-- (RFC 2812 sections 1.2, 1.3 and 2.3).
use Rattle.std.specs.Prelude.{◌≡◌, ℕ, true, ⊤, Some, None, List}
use Rattle.std.specs.List.{AllByRecursion}
use Rattle.std.specs.FinMap.{get}
use Rattle.irc_names.specs.Names.{IsHost, IsServer}
use Rattle.irc_line.specs.Carried.{IsCarried}
use Rattle.irc_room.specs.Limits.{IsWithinLimits}
use Rattle.irc_commands.specs.declared.pending.Pending.{Pending}
use Rattle.irc_commands.specs.Sendable.{IsPendingWithin}
use Rattle.irc_relay.specs.Links.{Name}
use Rattle.irc_stage.specs.declared.clients.Client.TheVariants.{Registering}
use Rattle.irc_world.specs.World.{Setting, Hall, World, new_world, is_server}
use Rattle.irc_world.specs.Stepping.{Item, connect, line, step}
use Rattle.irc_world.specs.Refused.{refused}
use Rattle.irc_world.specs.Owed.{world_of}
use Rattle.irc_world.specs.Sound.{IsSound, AreTaken}

-- the room of a hall keeps to its limits, and so does what a client has given that is not
-- registered
pub record IsHallWithin (hall : Hall) : Type 0 where
  pub room : IsWithinLimits hall.room
  pub given : (client : ℕ) (pending : Pending)
      → get hall.clients client ≡ Some (Registering pending) → IsPendingWithin pending

abbrev pub IsWorldWithin : World → Type 0
IsWorldWithin world = (server : Name) → IsHallWithin (world.hall server)

-- what comes from outside: a host is one, and a line has neither NUL, CR nor LF
abbrev pub IsItemWithin : Item → Type 0
IsItemWithin (connect server host) = IsHost host
IsItemWithin (line client bytes) = IsCarried bytes
IsItemWithin other = ⊤

-- each server has a name that one may have
abbrev pub AreNamed : List Setting → Type 0
AreNamed settings = (server : Name) → is_server settings server ≡ true → IsServer server

abbrev pub StepKeepsLimits : Type 0
StepKeepsLimits = (settings : List Setting) (world : World) (item : Item) → AreNamed settings
    → IsSound settings world → IsWorldWithin world
    → IsItemWithin item → refused settings world item ≡ None
    → IsWorldWithin (step settings world item).state

-- so rooms keep to their limits after any such items of which none is refused
abbrev pub RoomsKeepLimits : Type 0
RoomsKeepLimits = (settings : List Setting) (items : List Item) → AreNamed settings
    → AllByRecursion IsItemWithin items
    → AreTaken settings new_world items → IsWorldWithin (world_of settings items)
