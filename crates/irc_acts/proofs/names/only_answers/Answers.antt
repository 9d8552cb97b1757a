use Rattle.irc_acts.specs.Laws.NamesLaw.{names_only_answers}
use Rattle.irc_acts.proofs.names.only_answers.Goals as goal

pub returns : goal.returns
returns c = names_only_answers
