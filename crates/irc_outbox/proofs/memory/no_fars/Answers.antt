use Rattle.std.proofs.Common.{ap}
use Rattle.std.specs.Ordering.{nat_cmp}
use Rattle.std.specs.Map.{lookup}
use Rattle.std.specs.BTreeMap.{is_at}
use Rattle.irc_outbox.proofs.AmpleLaws.{none_planned}
use Rattle.irc_outbox.proofs.MemoryLaws.{none_fresh}
use Rattle.irc_outbox.proofs.memory.no_fars.Goals as goal

pub returns-clause-fresh : goal.returns-clause-fresh
returns-clause-fresh c =
    none_fresh c.new.result (λ conn. ap (lookup (is_at (nat_cmp conn))) c.new.ensures.empty)

pub returns-clause-planned : goal.returns-clause-planned
returns-clause-planned c =
    none_planned c.new.result (λ conn. ap (lookup (is_at (nat_cmp conn))) c.new.ensures.empty)
