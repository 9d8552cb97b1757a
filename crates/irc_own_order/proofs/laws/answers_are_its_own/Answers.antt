use Rattle.irc_own_order.specs.Lemmas.Histories.{answers_are_its_own}
use Rattle.irc_own_order.proofs.laws.answers_are_its_own.Goals as goal

pub returns : goal.returns
returns c = answers_are_its_own
