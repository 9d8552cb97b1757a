-- Whom an item does not touch: connections that wait for registration, other parts of the network,
-- and who is not connected.
use Rattle.std.specs.Prelude.{◌≡◌, ℕ, ⊤, true, Some, None, is_some, List, []}
use Rattle.std.specs.FinMap.{get}
use Rattle.irc_relay.specs.Links.{Name, AreJoined}
use Rattle.irc_commands.specs.declared.pending.Pending.{Pending}
use Rattle.irc_stage.specs.declared.clients.Client.TheVariants.{Registering}
use Rattle.irc_world.specs.World.{Setting, World, home_of, place_at}
use Rattle.irc_world.specs.Stepping.{Item, connect, line, gone, link, cut, step}
use Rattle.irc_world.specs.Refused.{refused, open_client}
use Rattle.irc_world.specs.Sound.{IsSound}

-- ---- links made and lost

abbrev pub IsOfLinks : Item → Type 0
IsOfLinks (link near far) = ⊤
IsOfLinks (cut near far) = ⊤
IsOfLinks other = ⊥

-- A connection that is not registered stays, with what it has given, and sees nothing.
pub record StaysWaiting (settings : List Setting) (world : World) (item : Item) (client : ℕ)
    (home : Name) (pending : Pending) : Type 0 where
  pub waits : get ((step settings world item).state.hall home).clients client
      ≡ Some (Registering pending)
  pub sees_nothing : (step settings world item).out client ≡ []

abbrev pub WaitingStay : Type 0
WaitingStay = (settings : List Setting) (world : World) (item : Item) (client : ℕ) (home : Name)
    (pending : Pending) → IsSound settings world
    → IsOfLinks item → refused settings world item ≡ None → home_of world client ≡ Some home
    → get (world.hall home).clients client ≡ Some (Registering pending)
    → StaysWaiting settings world item client home pending

-- ---- other parts

-- none of the servers that an item is about is in the part of this one
abbrev pub IsElsewhere : World → Item → Name → Type 0
IsElsewhere world (connect at host) server = AreJoined world.links server at → ⊥
IsElsewhere world (line client bytes) server = (home : Name) → home_of world client ≡ Some home
    → AreJoined world.links server home → ⊥
IsElsewhere world (gone client) server = (home : Name) → home_of world client ≡ Some home
    → AreJoined world.links server home → ⊥
IsElsewhere world (link near far) server =
    (AreJoined world.links server near → ⊥) × (AreJoined world.links server far → ⊥)
IsElsewhere world (cut near far) server = AreJoined world.links server near → ⊥

-- There everything is as it was, what the server knows of the network too, and nobody receives
-- anything.
pub record IsUntouched (settings : List Setting) (world : World) (item : Item)
    (server : Name) : Type 0 where
  pub hall : (step settings world item).state.hall server ≡ world.hall server
  pub place : place_at settings (step settings world item).state.links server
      ≡ place_at settings world.links server
  pub lines : (client : ℕ) → is_some (get (world.hall server).clients client) ≡ true
      → (step settings world item).out client ≡ []

abbrev pub OtherPartsStay : Type 0
OtherPartsStay = (settings : List Setting) (world : World) (item : Item) (server : Name)
    → IsSound settings world → refused settings world item ≡ None
    → IsElsewhere world item server → IsUntouched settings world item server

-- ---- nobody there

-- Who is not connected receives nothing.
abbrev pub OnlyConnectedReceive : Type 0
OnlyConnectedReceive = (settings : List Setting) (world : World) (item : Item) (client : ℕ)
    → IsSound settings world → refused settings world item ≡ None
    → open_client world client ≡ None → (step settings world item).out client ≡ []
