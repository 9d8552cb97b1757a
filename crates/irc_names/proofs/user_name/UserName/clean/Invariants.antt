use Rattle.std.proofs.Common.{◌≡◌, map, take}
use Rattle.irc_names.specs.UserTexts.{clean_user_byte}
use Rattle.irc_names.proofs.user_name.UserName.clean.Given as goal

abbrev pub invariant-loop-byte : goal.invariant-loop-byte
invariant-loop-byte l = l.name.items ≡ map clean_user_byte (take l.byte-index l.byte-items)
