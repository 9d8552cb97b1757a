-- A network whose ways were emptied is as before once the lines are put back, behind those that are
-- ahead.
use Rattle.std.proofs.Common.{◌≡◌, ℕ, suc, Option, Some, None, List, [], ◌∷◌, ◌++◌}
use Rattle.std.proofs.Common.{append-nil, refl, ◌∙◌, ap, map, option_map, unwrap_or}
use Rattle.std.specs.FinMap.{get}
use Rattle.std.specs.List.{slice_get}
use Rattle.std.specs.Option.{option_map_or}
use Rattle.irc_network.specs.Network.{Network, Node, waiting}
use Rattle.irc_network.specs.Behind.{Ahead, net_behind, each_way, emptied, emptied_node}
use Rattle.irc_network.specs.Behind.{node_behind, nodes_behind}
use Rattle.irc_network.specs.ByteNetwork.{waiting_at}
use Rattle.irc_network.specs.Lemmas.Ways.{each_alike, each_twice, get-each_way, same_ways}

node_refilled : (ahead now : ℕ → List (List ℕ)) (node : Node)
    → ((to : ℕ) → now to ≡ ahead to ++ waiting node to)
    → node_behind now (emptied_node node) ≡ node_behind ahead node
node_refilled ahead now node are = ap (λ ways. record node { queues = ways })
    (each_twice (λ to lines. now to ++ lines) (λ to lines. []) node.queues
    ∙ each_alike (λ to lines. now to ++ []) (λ to lines. ahead to ++ lines) node.queues
    (λ to lines is.
    append-nil (now to) ∙ are to ∙ ap (λ o. ahead to ++ unwrap_or o []) is))

nodes_refilled : (ahead now : Ahead) (nodes : List Node) → ((place to : ℕ) → now place to
    ≡ ahead place to ++ option_map_or (λ node. waiting node to) (slice_get nodes place) [])
    → nodes_behind now (map emptied_node nodes) ≡ nodes_behind ahead nodes
nodes_refilled ahead now [] are = refl
nodes_refilled ahead now (node ∷ nodes) are = λ i.
    node_refilled (ahead 0) (now 0) node (are 0) i
    ∷ nodes_refilled (λ place. ahead (suc place)) (λ place. now (suc place)) nodes
    (λ place. are (suc place)) i

pub refilled : (ahead now : Ahead) (net : Network)
    → ((from to : ℕ) → now from to ≡ ahead from to ++ waiting_at net from to)
    → net_behind now (emptied net) ≡ net_behind ahead net
refilled ahead now net are =
    ap (λ nodes. record net { nodes = nodes }) (nodes_refilled ahead now net.nodes are)

-- ---- nothing is ahead

node_alone : (ahead : ℕ → List (List ℕ)) (node : Node) → ((to : ℕ) → ahead to ≡ [])
    → node_behind ahead node ≡ node
node_alone ahead node none = ap (λ ways. record node { queues = ways })
    (same_ways (each_way (λ to lines. ahead to ++ lines) node.queues) node.queues (λ to.
    get-each_way (λ to lines. ahead to ++ lines) node.queues to ∙ by to (get node.queues to)))
  where
    by : (to : ℕ) (o : Option (List (List ℕ))) → option_map (λ lines. ahead to ++ lines) o ≡ o
    by to None = refl
    by to (Some lines) = ap (λ front. Some (front ++ lines)) (none to)

nodes_alone : (ahead : Ahead) (nodes : List Node) → ((place to : ℕ) → ahead place to ≡ [])
    → nodes_behind ahead nodes ≡ nodes
nodes_alone ahead [] none = refl
nodes_alone ahead (node ∷ nodes) none = λ i.
    node_alone (ahead 0) node (none 0) i ∷ nodes_alone (λ place. ahead (suc place)) nodes
    (λ place. none (suc place)) i

pub alone : (ahead : Ahead) (net : Network) → ((from to : ℕ) → ahead from to ≡ [])
    → net_behind ahead net ≡ net
alone ahead net none = ap (λ nodes. record net { nodes = nodes }) (nodes_alone ahead net.nodes none)
