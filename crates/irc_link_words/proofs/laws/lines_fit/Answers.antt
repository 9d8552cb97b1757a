use Rattle.irc_link_words.proofs.WholeLines.{pass_fits, greeting_fits}
use Rattle.irc_link_words.proofs.laws.lines_fit.Goals as goal

pub returns-clause-passwords : goal.returns-clause-passwords
returns-clause-passwords c = pass_fits

pub returns-clause-names : goal.returns-clause-names
returns-clause-names c = greeting_fits
