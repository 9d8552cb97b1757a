-- What each client of the network is owed over a list of items.
use Rattle.std.specs.Prelude.{ℕ, List, [], ◌∷◌, ◌++◌}
use Rattle.irc_world.specs.World.{Setting, World, new_world}
use Rattle.irc_world.specs.Stepping.{Item, step}

-- the network after these items
abbrev pub after_items : List Setting → World → List Item → World
after_items settings world [] = world
after_items settings world (item ∷ items) =
    after_items settings (step settings world item).state items

-- the network after these items alone: nobody was there before
abbrev pub world_of : List Setting → List Item → World
world_of settings items = after_items settings new_world items

-- the lines that a client receives by these items, in order
abbrev pub owed_from : List Setting → World → List Item → ℕ → List (List ℕ)
owed_from settings world [] client = []
owed_from settings world (item ∷ items) client =
    (step settings world item).out client ++ owed_from settings
    (step settings world item).state items client

-- the lines that a client receives over all items, of which the first finds nobody there
unfoldable pub owed_by_network : List Setting → List Item → ℕ → List (List ℕ)
owed_by_network settings items client = owed_from settings new_world items client
