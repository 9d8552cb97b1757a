use Rattle.std.proofs.Common.{◌≡◌, map, take}
use Rattle.irc_line.specs.Bytes.{cut}
use Rattle.irc_numerics.specs.Replies.{spaced, marked_nick}
use Rattle.irc_numerics.proofs.texts.names_text.Given as goal

abbrev pub invariant-loop-i : goal.invariant-loop-i
invariant-loop-i l = l.text.items ≡ cut (spaced (map marked_nick (take l.i l.names)))
