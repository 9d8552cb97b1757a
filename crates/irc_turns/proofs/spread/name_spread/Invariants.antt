use Rattle.std.proofs.Common.{◌≡◌, drop}
use Rattle.std.specs.List.{fold}
use Rattle.irc_turns.specs.Spreads.{name_spread, spread_on}
use Rattle.irc_turns.proofs.spread.name_spread.Given as goal

-- what the bytes that are left make of the spread so far is the name's
abbrev pub invariant-loop-byte : goal.invariant-loop-byte
invariant-loop-byte l = fold spread_on l.spread (drop l.byte-index l.name) ≡ name_spread l.name
