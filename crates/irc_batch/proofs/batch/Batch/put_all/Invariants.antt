use Rattle.std.proofs.Common.{◌≡◌, ◌++◌, drop}
use Rattle.irc_batch.specs.Growing.{Grew}
use Rattle.irc_batch.proofs.batch.Batch.put_all.Given as goal

-- what is put out so far, with what is still to be put out behind it, is all
abbrev pub invariant-loop-place : goal.invariant-loop-place
invariant-loop-place l = record {
  lines : l.self.outs ++ drop l.place l.more.outs ≡ l.initial.self.outs ++ l.more.outs;
  grew : Grew l.initial.self.outs l.self.outs;
}
