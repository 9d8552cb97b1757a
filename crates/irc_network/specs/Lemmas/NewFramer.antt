-- A framer that has taken nothing is one to which a stream led.
use Rattle.std.proofs.Common.{refl}
use Rattle.irc_line.specs.Bytes.{cut}
use Rattle.irc_line.specs.Lines.{HasTaken, nothing_begun, stream_for, tail}

pub new_is_real : HasTaken nothing_begun (stream_for nothing_begun)
unfolding cut tail
new_is_real = refl
