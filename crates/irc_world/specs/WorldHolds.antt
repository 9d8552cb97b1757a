-- All that holds of a network which has come of items of which none was refused, in one record.
use Rattle.std.specs.Prelude.{◌≡◌, None, List}
use Rattle.std.specs.List.{AllByRecursion}
use Rattle.irc_world.specs.World.{Setting, World, new_world}
use Rattle.irc_world.specs.Stepping.{Item, step}
use Rattle.irc_world.specs.Refused.{refused}
use Rattle.irc_world.specs.Owed.{world_of}
use Rattle.irc_world.specs.Sound.{IsSound, AreTaken}
use Rattle.irc_world.specs.UsersHomes.{HomesAreServers, HomesAreJoined}
use Rattle.irc_world.specs.ClientsUsers.{ClientsAreUsers}
use Rattle.irc_world.specs.WithinLimits.{IsWorldWithin, IsItemWithin, AreNamed}

pub record IsWorld (settings : List Setting) (world : World) : Type 0 where
  pub sound : IsSound settings world
  pub homes_there : HomesAreServers settings world
  pub homes_joined : HomesAreJoined world
  pub clients_users : ClientsAreUsers world
  pub within : IsWorldWithin world

abbrev pub StepKeepsWorld : Type 0
StepKeepsWorld = (settings : List Setting) (world : World) (item : Item) → AreNamed settings
    → IsWorld settings world → IsItemWithin item
    → refused settings world item ≡ None → IsWorld settings (step settings world item).state

abbrev pub TakenMakeWorld : Type 0
TakenMakeWorld = (settings : List Setting) (items : List Item) → AreNamed settings
    → AllByRecursion IsItemWithin items → AreTaken settings new_world items
    → IsWorld settings (world_of settings items)
