-- A network whose ways were emptied has its ways, and no line waits on them.
use Rattle.std.proofs.Common.{◌≡◌, ℕ, zero, suc, is_some, Option, Some, None, List, [], ◌∷◌, refl}
use Rattle.std.proofs.Common.{◌∙◌, ap, map, option_map, unwrap_or}
use Rattle.std.specs.FinMap.{get}
use Rattle.std.specs.List.{slice_get}
use Rattle.std.specs.Option.{option_and_then, option_map_or}
use Rattle.irc_network.specs.Network.{Network, Node, waiting}
use Rattle.irc_network.specs.Behind.{emptied, emptied_node}
use Rattle.irc_network.specs.ByteNetwork.{waiting_at}
use Rattle.irc_network.specs.Whole.{has_way}
use Rattle.irc_network.specs.Lemmas.Ways.{get-each_way}

abbrev pub no_line : List (List ℕ) → List (List ℕ)
no_line lines = []

emptied_get : (nodes : List Node) (place : ℕ)
    → slice_get (map emptied_node nodes) place ≡ option_map emptied_node (slice_get nodes place)
emptied_get [] place = refl
emptied_get (node ∷ nodes) zero = refl
emptied_get (node ∷ nodes) (suc place) = emptied_get nodes place

pub emptied_waits : (net : Network) (from to : ℕ) → waiting_at (emptied net) from to ≡ []
emptied_waits net from to =
    ap (λ o. option_map_or (λ node. waiting node to) o []) (emptied_get net.nodes from)
    ∙ by (slice_get net.nodes from)
  where
    by_way : (o : Option (List (List ℕ)))
        → unwrap_or (option_map (λ lines. no_line lines) o) [] ≡ []
    by_way None = refl
    by_way (Some lines) = refl

    by : (o : Option Node)
        → option_map_or (λ node. waiting node to) (option_map emptied_node o) [] ≡ []
    by None = refl
    by (Some node) = ap (λ o. unwrap_or o []) (get-each_way (λ to lines. []) node.queues to)
        ∙ by_way (get node.queues to)

pub emptied_ways : (net : Network) (from to : ℕ)
    → has_way (emptied net) from to ≡ has_way net from to
emptied_ways net from to =
    ap (λ o. is_some (option_and_then (λ (node : Node). get node.queues to) o))
    (emptied_get net.nodes from) ∙ by (slice_get net.nodes from)
  where
    by_way : (o : Option (List (List ℕ)))
        → is_some (option_map (λ lines. no_line lines) o) ≡ is_some o
    by_way None = refl
    by_way (Some lines) = refl

    by : (o : Option Node) → is_some
        (option_and_then (λ (node : Node). get node.queues to) (option_map emptied_node o))
        ≡ is_some (option_and_then (λ (node : Node). get node.queues to) o)
    by None = refl
    by (Some node) =
        ap is_some (get-each_way (λ to lines. []) node.queues to) ∙ by_way (get node.queues to)
