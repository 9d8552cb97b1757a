use Rattle.std.proofs.Common.{◌≡◌, ◌++◌, drop, map}
use Rattle.irc_batch.specs.Batches.{to_others}
use Rattle.irc_stage.proofs.audience.send_to_others.Given as goal

-- what was put out so far, with the lines to those behind, is all
abbrev pub invariant-loop-row : goal.invariant-loop-row
invariant-loop-row l = record {
  lines : l.out.outs ++ to_others l.out.held l.one
      (map (λ row. row.value) (drop l.row-index l.rows))
      ≡ l.initial.out.outs ++ to_others l.initial.out.held l.one (map (λ row. row.value) l.rows);
  held : l.out.held ≡ l.initial.out.held;
}
