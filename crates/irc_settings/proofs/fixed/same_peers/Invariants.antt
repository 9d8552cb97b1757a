use Rattle.std.proofs.Common.{◌≡◌, length}
use Rattle.std.specs.Cmp.Lexicographic.{pointwise}
use Rattle.irc_settings.specs.Fixed.{same_peer}
use Rattle.irc_settings.proofs.fixed.same_peers.Given as goal

-- what is left compares as the whole does
abbrev pub invariant-loop-peer : goal.invariant-loop-peer
invariant-loop-peer l =
    pointwise same_peer l.mine l.theirs ≡ pointwise same_peer l.fn.one l.fn.other

abbrev pub decreases-loop-peer : goal.decreases-loop-peer
decreases-loop-peer l = length l.mine
