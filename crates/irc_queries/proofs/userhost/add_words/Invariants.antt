use Rattle.std.proofs.Common.{◌≡◌, ◌++◌, filter, take}
use Rattle.irc_line.specs.PartViews.{words_now}
use Rattle.irc_queries.specs.Userhost.{is_word}
use Rattle.irc_queries.proofs.userhost.add_words.Given as goal

abbrev pub invariant-loop-piece : goal.invariant-loop-piece
invariant-loop-piece l = words_now l.words.items ≡ words_now l.fn.words.items
    ++ filter is_word (words_now (take l.piece-index l.pieces))
