use Rattle.std.proofs.Common.{◌≡◌, ◌++◌, map}
use Rattle.std.specs.Vec.Iter.{into_iter_items, into_iter_len}
use Rattle.irc_net.specs.Making.{everywhere, new_node}
use Rattle.irc_net.proofs.making.nodes_of.Given as goal

-- the nodes so far, and those of the configurations that are left, are all
abbrev pub invariant-loop-config : goal.invariant-loop-config
invariant-loop-config l =
    l.nodes.items ++ map (new_node (everywhere l.programs)) (into_iter_items l.rest)
    ≡ map (new_node (everywhere l.programs)) l.fn.configs.items

abbrev pub decreases-loop-config : goal.decreases-loop-config
decreases-loop-config l = into_iter_len l.rest
