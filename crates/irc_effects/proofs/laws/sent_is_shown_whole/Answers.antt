use Rattle.irc_effects.proofs.ShownWhole.{sent_fits_its_line, sent_is_shown_whole}
use Rattle.irc_effects.proofs.ShownWhole.{named_is_whole_too}
use Rattle.irc_effects.proofs.laws.sent_is_shown_whole.Goals as goal

pub returns-clause-fits : goal.returns-clause-fits
returns-clause-fits c = sent_fits_its_line

pub returns-clause-whole : goal.returns-clause-whole
returns-clause-whole c = sent_is_shown_whole

pub returns-clause-by_nickname : goal.returns-clause-by_nickname
returns-clause-by_nickname c = named_is_whole_too
