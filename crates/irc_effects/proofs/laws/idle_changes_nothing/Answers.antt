use Rattle.irc_effects.specs.Lemmas.IdleLaw.{idle_changes_nothing}
use Rattle.irc_effects.proofs.laws.idle_changes_nothing.Goals as goal

pub returns : goal.returns
returns c = idle_changes_nothing
