-- A network in which lines are on their way in front of all that waits on a way in it.
--
-- what waits from a.net to b.net is `NICK by`; `PING x` is ahead: with it in front there wait `PING
-- x`, `NICK by`
use Rattle.std.specs.Prelude.{ℕ, suc, List, [], ◌∷◌, ◌++◌, map}
use Rattle.std.specs.FinMap.{FinMap, entries, from_entries}
use Rattle.std.specs.Ordering.{nat_cmp}
use Rattle.irc_network.specs.Network.{Progress, Network, Node}

-- lines by the places that they come from and go to
abbrev pub Ahead : Type 0
Ahead = ℕ → ℕ → List (List ℕ)

abbrev pub LineQueues : Type 0
LineQueues = FinMap nat_cmp (List (List ℕ))

-- the lines of each way are changed, by where it goes
abbrev pub each_way : (ℕ → List (List ℕ) → List (List ℕ)) → LineQueues → LineQueues
each_way change ways =
    from_entries (map (λ (e : ℕ × List (List ℕ)). (e.0, change e.0 e.1)) (entries ways))

-- what waits on the ways of a server, with these lines ahead of it
abbrev pub node_behind : (ℕ → List (List ℕ)) → Node → Node
node_behind ahead node =
    record node { queues = each_way (λ to lines. ahead to ++ lines) node.queues }

-- of all servers, by their places
abbrev pub nodes_behind : Ahead → List Node → List Node
nodes_behind ahead [] = []
nodes_behind ahead (node ∷ nodes) =
    node_behind (ahead 0) node ∷ nodes_behind (λ place. ahead (suc place)) nodes

-- the network in which these lines are delivered before those that wait in it
abbrev pub net_behind : Ahead → Network → Network
net_behind ahead net = record net { nodes = nodes_behind ahead net.nodes }

abbrev pub progress_behind : Ahead → Progress Network → Progress Network
progress_behind ahead progress = record progress { state = net_behind ahead progress.state }

-- no line waits on any way
abbrev pub emptied_node : Node → Node
emptied_node node = record node { queues = each_way (λ to lines. []) node.queues }

-- no line waits anywhere, and all else is as it was
abbrev pub emptied : Network → Network
emptied net = record net { nodes = map emptied_node net.nodes }
