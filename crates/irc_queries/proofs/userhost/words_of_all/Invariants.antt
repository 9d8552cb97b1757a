use Rattle.std.proofs.Common.{◌≡◌, take}
use Rattle.irc_line.specs.PartViews.{words_now}
use Rattle.irc_queries.specs.Userhost.{words_of_all}
use Rattle.irc_queries.proofs.userhost.words_of_all.Given as goal

abbrev pub invariant-loop-parameter : goal.invariant-loop-parameter
invariant-loop-parameter l =
    words_now l.words.items ≡ words_of_all (words_now (take l.parameter-index l.params))
