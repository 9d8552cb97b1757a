use Rattle.std.proofs.Common.{◌≡◌, drop}
use Rattle.irc_turns.specs.Allowances.{said}
use Rattle.irc_turns.proofs.allowance.Allowance.say.Given as goal

-- what the bytes that are left make of the allowance so far is what all make of it
abbrev pub invariant-loop-byte : goal.invariant-loop-byte
invariant-loop-byte l = said (drop l.byte-index l.given) l.self ≡ said l.given l.fn.self
