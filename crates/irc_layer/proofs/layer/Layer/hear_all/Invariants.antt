use Rattle.std.specs.Vec.Iter.{into_iter_items, into_iter_len}
use Rattle.irc_pieces.specs.Pieces.{lines_of}
use Rattle.irc_engine.specs.Machines.{IsStillConnected}
use Rattle.irc_layer.specs.Layers.{state_of}
use Rattle.irc_layer.proofs.Hearing.{HeardTo}
use Rattle.irc_layer.proofs.layer.Layer.hear_all.Given as goal

-- the lines so far are heard, and those that are left would be all
abbrev pub invariant-loop-line : goal.invariant-loop-line
invariant-loop-line l = record {
  heard : HeardTo l.mark l.link (lines_of l.fn.lines.items) (lines_of (into_iter_items l.rest))
      (state_of l.initial.self l.initial.out) (state_of l.self l.out);
  connected : IsStillConnected l.initial.self.server l.initial.out.outs l.self.server l.out.outs;
}

abbrev pub decreases-loop-line : goal.decreases-loop-line
decreases-loop-line l = into_iter_len l.rest
