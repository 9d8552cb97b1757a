use Rattle.std.proofs.Common.{sym, ap, subst}
use Rattle.std.specs.Ordering.{nat_cmp}
use Rattle.std.specs.FinMap.{empty, from_entries}
use Rattle.irc_stage.specs.Loops.Parts.{IsIndex}
use Rattle.irc_stage.proofs.Index.{nobody_indexed}
use Rattle.irc_stage.proofs.clients.no_clients.Goals as goal

pub returns-clause-indexed : goal.returns-clause-indexed
returns-clause-indexed c =
    subst (λ cs. IsIndex cs c.new-2.result)
    (sym (ap (λ es. from_entries {R = nat_cmp} es) c.new.ensures.empty))
    (subst (IsIndex empty) (sym c.new-2.ensures) nobody_indexed)
