use Rattle.irc_relay.specs.Loops.Settling.{IsSettling, items_coming}
use Rattle.irc_relay.proofs.news.News.settle.Given as goal

abbrev pub invariant-loop-self : goal.invariant-loop-self
invariant-loop-self l = IsSettling l.source l.fn.self l.self

abbrev pub decreases-loop-self : goal.decreases-loop-self
decreases-loop-self l = items_coming l.self l.source
