use Rattle.std.proofs.Common.{rules}
use Rattle.irc_net.specs.Making.{config_name}
use Rattle.irc_net.proofs.Ordered.{sorted_by_bytes}
use Rattle.irc_net.proofs.making.in_order.Goals as goal

pub returns-clause-sorted : goal.returns-clause-sorted
returns-clause-sorted c =
    sorted_by_bytes config_name _ c.sort_unstable_by.ensures.sorted (λ a r f k. search rules)
