-- A server of a network, and the lines that are on their way from it.
use Rattle.std.specs.Prelude.{◌≡◌, ℕ, ◌-◌, Bool, true, false, not, Option, Some, is_some, is_none}
use Rattle.std.specs.Prelude.{List, [], ◌∷◌, ◌++◌, length, take, unwrap_or, if◌then◌else◌}
use Rattle.std.specs.FinMap.{FinMap, get, insert, keys, remove}
use Rattle.std.specs.List.{find, list_any}
use Rattle.std.specs.Option.{option_and_then, option_map_or}
use Rattle.std.specs.Ordering.{nat_cmp}
use Rattle.irc_batch.specs.Batches.{Sent}
pub use Rattle.irc_stage.specs.EffectTold.{Served}
use Rattle.irc_stage.specs.Handle.{connects, says, goes}
use Rattle.irc_stage.specs.View.{View, password_for}
use Rattle.irc_server.specs.Served.{ReadEvent, of_client, link_up, link_says, link_down, served}

-- A server, none once memory ran out for it; and the lines that it has put out on each of its links
-- and that nobody has taken yet, the oldest first, without their line ends. A link's number at
-- either end is the place of the server at the other.
pub record Node : Type 0 where
  pub server : Option View
  pub queues : FinMap nat_cmp (List (List ℕ))

-- ---- whom it knows

-- the password that it keeps for a peer
abbrev pub kept_for : Node → List ℕ → Option (List ℕ)
kept_for node name = option_and_then (λ (view : View). password_for view name) node.server

-- whether a client is connected to it
abbrev pub is_connected : Node → ℕ → Bool
is_connected node client =
    option_map_or (λ (view : View). is_some (get view.clients client)) node.server false

-- ---- lines on their way

abbrev pub waiting : Node → ℕ → List (List ℕ)
waiting node to = unwrap_or (get node.queues to) []

abbrev pub is_nothing : List (List ℕ) → Bool
is_nothing [] = true
is_nothing (first ∷ rest) = false

-- whether a line waits on the way to a place
abbrev pub waits : Node → ℕ → Bool
waits node to = not (is_nothing (waiting node to))

abbrev pub is_quiet : Node → Bool
is_quiet node = not (list_any (waits node) (keys node.queues))

abbrev pub first_way : Node → Option ℕ
first_way node = find (waits node) (keys node.queues)

-- a line without its CR LF
abbrev pub line_body : List ℕ → List ℕ
line_body text = take (length text - 2) text

-- a line waits behind the others, if there is a way
abbrev pub line_queued : ℕ → List ℕ → Node → Node
line_queued to text node =
    option_map_or (λ lines. record node {
      queues = insert node.queues to
          (lines ++ line_body text ∷ []);
    }) (get node.queues to) node

abbrev pub left : ℕ → List (List ℕ) → Node → Node
left to lines node = record node { queues = insert node.queues to lines }

-- both ends of a way between two servers
abbrev pub with_way : ℕ → Node → Node
with_way to node = record node { queues = insert node.queues to [] }

-- what still waits on a way is lost with it
abbrev pub without_way : ℕ → Node → Node
without_way to node = record node { queues = remove node.queues to }

-- ---- what a server puts out

-- whether a server serves what happens, rather than refusing it: the client or the link is there,
-- or is not there yet
abbrev pub serves_read_event : View → ReadEvent → Bool
serves_read_event view (of_client (connects conn host)) = is_none (get view.clients conn)
serves_read_event view (of_client (says conn read)) = is_some (get view.clients conn)
serves_read_event view (of_client (goes conn)) = is_some (get view.clients conn)
serves_read_event view (link_up number starts) = is_none (get view.ends number)
serves_read_event view (link_says number read) = is_some (get view.ends number)
serves_read_event view (link_down number) = is_some (get view.ends number)

-- a server after something that happens, and what it puts out; what it refuses changes nothing
abbrev pub reply : View → ReadEvent → Served
reply view read_event =
    if serves_read_event view read_event
    then record { state = (served view read_event).state; out = (served view read_event).out }
    else record { state = view; out = [] }

-- the server was there, and replied
pub record Replies (old : Node) (read_event : ReadEvent) (new : Node)
    (out : List Sent) : Type 0 where
  pub view : View
  pub is_view : old.server ≡ Some view
  pub new_is : new ≡ record old { server = Some (reply view read_event).state }
  pub out_is : out ≡ (reply view read_event).out
