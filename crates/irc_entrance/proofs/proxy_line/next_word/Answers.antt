use Rattle.std.proofs.Common.{◌∙◌, sym}
use Rattle.irc_entrance.specs.ProxyLines.{is_space}
use Rattle.irc_entrance.proofs.ProxyWords.{first_word_taken, one_word}
use Rattle.irc_entrance.proofs.proxy_line.next_word.Goals as goal

pub returns-in-Some : goal.returns-in-Some
returns-in-Some c =
    first_word_taken is_space c.args.text.now c.in-Some.place
    (sym c.space_at.ensures.place ∙ c.in-Some.is)

pub returns-in-None : goal.returns-in-None
returns-in-None c =
    one_word is_space c.args.text.now (sym c.space_at.ensures.place ∙ c.in-None.is)
