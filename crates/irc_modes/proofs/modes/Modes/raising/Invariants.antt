use Rattle.std.proofs.Common.{◌≡◌, ◌++◌, drop}
use Rattle.irc_modes.specs.Raised.{raising}
use Rattle.irc_modes.proofs.modes.Modes.raising.Given as goal

-- what was noted, and what is still to come of the modes as they are now
abbrev pub invariant-loop-change : goal.invariant-loop-change
invariant-loop-change l =
    l.raised.items ++ raising (drop l.change-index l.changes) l.now ≡ raising l.changes l.self
