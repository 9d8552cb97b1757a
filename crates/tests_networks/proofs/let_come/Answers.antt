use Rattle.std.proofs.Common.{OnOk, sym, subst}
use Rattle.tests_networks.specs.Played.{GoesOn}
use Rattle.tests_networks.proofs.OfRuns.{came, may_go}
use Rattle.tests_networks.proofs.let_come.Goals.{in-Ok, in-Err}
use Rattle.tests_networks.proofs.let_come.Goals as goal

pub returns : goal.returns
returns c = elim c.match-deliver_bytes.branch [
  | in-Ok w ↦ subst (λ r. OnOk r (GoesOn c.args.net.now c.deliver_bytes.new.self)) (sym w.result-is)
      (came _ _ _ _ _ _ _ w.in-Ok.ensures)
  | in-Err w ↦
      subst (λ r. OnOk r (GoesOn c.args.net.now c.deliver_bytes.new.self)) (sym w.result-is)
      (may_go _ _ _ _ _ _ w.unless_refused.result w.in-Err.ensures w.unless_refused.ensures)
]
