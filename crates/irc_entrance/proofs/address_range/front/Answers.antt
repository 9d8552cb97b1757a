use Rattle.std.proofs.Common.{sym}
use Rattle.std.proofs.Math.Nat.{div-eq_of_lt, lt_of_lt_of_le}
use Rattle.std.proofs.Math.Pow.{pow_mono}
use Rattle.irc_entrance.proofs.address_range.front.Goals as goal

pub returns-else-free-lt-IPV6_BITS : goal.returns-else-free-lt-IPV6_BITS
returns-else-free-lt-IPV6_BITS c =
    sym (div-eq_of_lt (lt_of_lt_of_le c.ranges.number.fits
    (pow_mono c.if-free-lt-IPV6_BITS.false)))
