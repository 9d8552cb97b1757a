use Rattle.std.proofs.Common.{◌≡◌, ◌++◌, drop}
use Rattle.irc_batch.specs.Batches.{to_others}
use Rattle.irc_batch.specs.Growing.{Grew}
use Rattle.irc_batch.proofs.batch.Batch.send_to_others.Given as goal

-- what was put out so far, with the lines to those behind, is all
abbrev pub invariant-loop-conn : goal.invariant-loop-conn
invariant-loop-conn l = record {
  lines : l.self.outs ++ to_others l.self.held l.one (drop l.conn-index l.conns)
      ≡ l.initial.self.outs ++ to_others l.initial.self.held l.one l.conns;
  held : l.self.held ≡ l.initial.self.held;
  grew : Grew l.initial.self.outs l.self.outs;
}
