use Rattle.std.proofs.Common.{◌≡◌, ◌++◌, drop}
use Rattle.irc_stage.specs.Loops.Parts.{lines_on}
use Rattle.irc_stage.proofs.parts.send_on_all.Given as goal

-- the lines so far, with those on the links behind, are all
abbrev pub invariant-loop-link : goal.invariant-loop-link
invariant-loop-link l = record {
  lines : l.out.outs ++ lines_on (drop l.link-index l.links) l.line.items ≡ l.initial.out.outs
      ++ lines_on l.links l.line.items;
  held : l.out.held ≡ l.line.items;
}
