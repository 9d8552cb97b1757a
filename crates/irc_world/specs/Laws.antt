-- The laws of the network. Each is the contract of a public function of this crate.
use Rattle.std.specs.Prelude.{◌≡◌, None, List}
use Rattle.irc_world.specs.World.{Setting, World, new_world}
use Rattle.irc_world.specs.Stepping.{Item, step}
use Rattle.irc_world.specs.Refused.{refused}
use Rattle.irc_world.specs.Owed.{world_of}
use Rattle.irc_world.specs.Sound.{IsSound, AreTaken}

-- nobody is there yet, and no link
abbrev pub NewWorldIsSound : Type 0
NewWorldIsSound = (settings : List Setting) → IsSound settings new_world

-- an item that is not refused leaves a network sound
abbrev pub StepStaysSound : Type 0
StepStaysSound = (settings : List Setting) (world : World) (item : Item) → IsSound settings world
    → refused settings world item ≡ None
    → IsSound settings (step settings world item).state

-- so the network is sound after any items of which none is refused
abbrev pub WorldIsSound : Type 0
WorldIsSound = (settings : List Setting) (items : List Item) → AreTaken settings new_world items
    → IsSound settings (world_of settings items)
