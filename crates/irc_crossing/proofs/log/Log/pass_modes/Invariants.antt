use Rattle.std.proofs.Common.{◌≡◌, drop}
use Rattle.irc_crossing.specs.Letters.{letters_left}
use Rattle.irc_crossing.specs.Loops.LettersLeft.{behind_begun, left_of}
use Rattle.irc_crossing.proofs.log.Log.pass_modes.Given as goal

-- what is left so far, and of the letters that are still to come, is what is left of all
abbrev pub invariant-loop-change : goal.invariant-loop-change
invariant-loop-change l =
    behind_begun (left_of l.left)
    (letters_left l.modes.channel (drop l.change-index l.modes.changes) l.self)
    ≡ letters_left l.modes.channel l.modes.changes l.fn.self
