use Rattle.std.proofs.Common.{◌≡◌, true, drop}
use Rattle.irc_channel_commands.specs.UserMode.{invisible_after}
use Rattle.irc_channel_commands.proofs.user_mode.invisible_after.Given as goal

abbrev pub invariant-loop-byte : goal.invariant-loop-byte
invariant-loop-byte l = invisible_after l.plus l.invisible (drop l.byte-index l.letters)
    ≡ invisible_after true l.initial.invisible l.letters
