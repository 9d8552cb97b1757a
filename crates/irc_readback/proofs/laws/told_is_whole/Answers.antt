use Rattle.irc_readback.specs.Lemmas.CarriedParts.{told_is_carried}
use Rattle.irc_readback.proofs.WholeLines.{told_fits_its_line, told_is_whole}
use Rattle.irc_readback.proofs.laws.told_is_whole.Goals as goal

pub returns-clause-fits : goal.returns-clause-fits
returns-clause-fits c =
    told_fits_its_line c.sent_is_shown_whole.ensures.fits c.sent_is_shown_whole.ensures.by_nickname
    c.names_are_line_words.ensures

pub returns-clause-whole : goal.returns-clause-whole
returns-clause-whole c = told_is_whole c.sent_is_shown_whole.ensures.fits
    c.sent_is_shown_whole.ensures.by_nickname c.names_are_line_words.ensures

pub returns-clause-carried : goal.returns-clause-carried
returns-clause-carried c = told_is_carried c.names_are_line_words.ensures
