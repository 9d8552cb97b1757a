use Rattle.std.proofs.Common.{◌≡◌, map, take}
use Rattle.irc_line.specs.Bytes.{cut}
use Rattle.irc_numerics.specs.Replies.{spaced, on_channel}
use Rattle.irc_numerics.proofs.texts.channels_text.Given as goal

abbrev pub invariant-loop-i : goal.invariant-loop-i
invariant-loop-i l = l.text.items ≡ cut (spaced (map on_channel (take l.i l.channels)))
