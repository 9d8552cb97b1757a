use Rattle.std.proofs.Common.{◌≡◌, ◌&&◌, drop}
use Rattle.std.specs.Str.{bytes_eq}
use Rattle.irc_doorman.proofs.password.are_alike.Given as goal

-- they are one where they are so far, and from here on
abbrev pub invariant-loop-place : goal.invariant-loop-place
invariant-loop-place l = (l.alike && bytes_eq (drop l.place l.word) (drop l.place l.own))
    ≡ bytes_eq l.fn.word l.fn.own
