-- Each user's home is a server that there is, and is in the user's own part.
use Rattle.std.specs.Prelude.{◌≡◌, None, List}
use Rattle.irc_relay.specs.Links.{Name, joined}
use Rattle.irc_world.specs.World.{Setting, World, new_world, is_server}
use Rattle.irc_world.specs.Stepping.{Item, step}
use Rattle.irc_world.specs.Refused.{refused}
use Rattle.irc_world.specs.Owed.{world_of}
use Rattle.irc_world.specs.Sound.{IsSound, AreTaken}
use Rattle.irc_world.specs.Homes.{HomesPass}

abbrev pub HomesAreServers : List Setting → World → Type 0
HomesAreServers settings world =
    (server : Name) → HomesPass (is_server settings) (world.hall server).room

abbrev pub StepKeepsHomes : Type 0
StepKeepsHomes = (settings : List Setting) (world : World) (item : Item) → IsSound settings world
    → HomesAreServers settings world
    → refused settings world item ≡ None → HomesAreServers settings (step settings world item).state

-- so it is after any items of which none is refused
abbrev pub UsersHomesAreServers : Type 0
UsersHomesAreServers = (settings : List Setting) (items : List Item)
    → AreTaken settings new_world items → HomesAreServers settings (world_of settings items)

-- each user's home is in the part whose room it is in
abbrev pub HomesAreJoined : World → Type 0
HomesAreJoined world =
    (server : Name) → HomesPass (λ home. joined world.links home server) (world.hall server).room

abbrev pub StepKeepsHomesJoined : Type 0
StepKeepsHomesJoined = (settings : List Setting) (world : World) (item : Item)
    → IsSound settings world → HomesAreServers settings world
    → HomesAreJoined world → refused settings world item ≡ None
    → HomesAreJoined (step settings world item).state

-- and so is that after any items of which none is refused
abbrev pub UsersHomesAreJoined : Type 0
UsersHomesAreJoined = (settings : List Setting) (items : List Item)
    → AreTaken settings new_world items → HomesAreJoined (world_of settings items)
