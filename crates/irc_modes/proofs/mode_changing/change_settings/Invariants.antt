use Rattle.std.proofs.Common.{◌≡◌, take}
use Rattle.irc_modes.specs.Loops.ManyChanges.{settings_after}
use Rattle.irc_modes.proofs.mode_changing.change_settings.Given as goal

abbrev pub invariant-loop-change : goal.invariant-loop-change
invariant-loop-change l = l.modes ≡ settings_after (take l.change-index l.changes) l.fn.modes
