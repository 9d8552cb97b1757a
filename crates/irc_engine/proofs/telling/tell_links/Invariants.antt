use Rattle.std.proofs.Common.{length}
use Rattle.irc_outbox.specs.Calls.{Keeps}
use Rattle.irc_engine.proofs.ToldSoFar.{Leads}
use Rattle.irc_engine.proofs.telling.tell_links.Given as goal

-- what is left, told behind what was told so far, is all; and the wire keeps its account
abbrev pub invariant-loop-tidings : goal.invariant-loop-tidings
invariant-loop-tidings g l =
    record {
      leads : Leads l.fn.moment l.rest l.journal (g.E.Write.contents l.errors) l.fn.all
          l.fn.journal (g.E.Write.contents l.fn.errors);
      keeps : Keeps g.W.Wire.is_after l.fn.wire l.wire;
    }

abbrev pub decreases-loop-tidings : goal.decreases-loop-tidings
decreases-loop-tidings g l = length l.rest
