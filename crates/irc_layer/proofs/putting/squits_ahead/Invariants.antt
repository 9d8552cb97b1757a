use Rattle.std.proofs.Common.{◌≡◌, ◌+◌, ◌≤◌, drop}
use Rattle.irc_layer.specs.Putting.{squits_ahead}
use Rattle.irc_layer.proofs.putting.squits_ahead.Given as goal

-- those so far, with those of what is left, are all
abbrev pub invariant-loop-place : goal.invariant-loop-place
invariant-loop-place l = record {
  all : l.count + squits_ahead l.link (drop l.place l.held.outs)
      ≡ squits_ahead l.link (drop l.from l.held.outs);
  bound : l.count ≤ l.place;
}
