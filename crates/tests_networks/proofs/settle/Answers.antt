use Rattle.tests_networks.proofs.OfRuns.{comes_to_rest}
use Rattle.tests_networks.proofs.settle.Goals as goal

pub returns-clause-goes : goal.returns-clause-goes
returns-clause-goes c = comes_to_rest _ _ _ _ c.in_ok-settle.ensures.settled
