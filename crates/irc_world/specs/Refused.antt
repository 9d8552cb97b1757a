-- Which items are refused, and why: the causes in the order in which they are looked for.
use Rattle.std.specs.Prelude.{ℕ, Bool, false, not, ◌&&◌, ◌||◌, Option, Some, None, is_some, List}
use Rattle.std.specs.Prelude.{if◌then◌else◌}
use Rattle.std.specs.List.{find}
use Rattle.std.specs.Option.{option_and_then, option_map}
use Rattle.std.specs.FinMap.{get}
use Rattle.irc_relay.specs.Links.{Name, same, joined}
use Rattle.irc_relay.specs.Links.{linked as are_linked}
use Rattle.irc_stage.specs.declared.clients.Client.{Client}
use Rattle.irc_stage.specs.View.{KnownPeer}
use Rattle.irc_world.specs.World.{Setting, World, setting_of, is_server, home_of}
use Rattle.irc_world.specs.Stepping.{Item, connect, line, gone, link, cut}

-- what may be against an item, seen by one who sees the whole network
pub data Refusal : Type 0 where
  -- no server has such a name
  no_such_server : Refusal
  -- no client of this number is connected
  no_such_client : Refusal
  -- no link joins these two
  not_linked : Refusal
  -- the two are joined already, or one is no peer of the other, or they keep different passwords
  -- for each other
  link_refused : Refusal

-- the client of a number, while it is connected
abbrev pub open_client : World → ℕ → Option Client
open_client world client =
    option_and_then (λ home. get (world.hall home).clients client) (home_of world client)

-- the password that one server keeps for another
abbrev pub password_for : List Setting → Name → Name → Option (List ℕ)
password_for settings server peer =
    option_and_then (λ (s : Setting). option_map (λ (p : KnownPeer). p.password)
    (find (λ (p : KnownPeer). same p.name peer) s.peers))
    (setting_of settings server)

-- a password that is not kept is equal to none, so that strangers are no peers
abbrev pub are_equal : Option (List ℕ) → Option (List ℕ) → Bool
are_equal (Some one) (Some other) = same one other
are_equal one other = false

-- whether two servers are peers of each other, with one password
abbrev pub are_peers : List Setting → Name → Name → Bool
are_peers settings one other =
    are_equal (password_for settings one other) (password_for settings other one)

-- Why two servers that are there are not linked. Nobody looks at their rooms: a link joins them.
abbrev pub link_refusal : List Setting → World → Name → Name → Option Refusal
link_refusal settings world near far =
    if joined world.links near far || not (are_peers settings near far)
    then Some link_refused else None

-- that both are servers is looked at before anything else
abbrev pub needs_servers : List Setting → Name → Name → Option Refusal → Option Refusal
needs_servers settings one other refusal = if is_server settings one && is_server settings other
    then refusal else Some no_such_server

-- only a client that is connected says something, or goes
abbrev pub needs_client : World → ℕ → Option Refusal
needs_client world client = if is_some (open_client world client) then None else Some no_such_client

-- None where the item is taken
unfoldable pub refused : List Setting → World → Item → Option Refusal
refused settings world (connect server host) =
    if is_server settings server then None else Some no_such_server
refused settings world (line client bytes) = needs_client world client
refused settings world (gone client) = needs_client world client
refused settings world (link near far) =
    needs_servers settings near far (link_refusal settings world near far)
refused settings world (cut near far) = needs_servers settings near far
    (if are_linked world.links near far then None else Some not_linked)
