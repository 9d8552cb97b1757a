use Rattle.irc_link_words.proofs.KeptWords.{mode_words_so}
use Rattle.irc_link_words.proofs.changes.are_mode_words.Goals as goal

pub returns : goal.returns
returns c = mode_words_so c.args.words.now c.pass_as_mode_words.result c.pass_as_mode_words.ensures
