-- Numbers of clients are never given again: each stays with the home of the client that it was
-- given to.
use Rattle.std.specs.Prelude.{◌≡◌, ℕ, suc, Some, None, List, length}
use Rattle.irc_relay.specs.Links.{Name}
use Rattle.irc_world.specs.World.{Setting, World, home_of}
use Rattle.irc_world.specs.Stepping.{Item}
use Rattle.irc_world.specs.Owed.{after_items}

-- whatever comes after, taken or not
abbrev pub NumbersStay : Type 0
NumbersStay = (settings : List Setting) (world : World) (items : List Item) (client : ℕ)
    (home : Name) → home_of world client ≡ Some home
    → home_of (after_items settings world items) client ≡ Some home

-- and who connects next gets a number that nobody has had
abbrev pub NextNumberIsNew : Type 0
NextNumberIsNew = (world : World) → home_of world (suc (length world.homes)) ≡ None
