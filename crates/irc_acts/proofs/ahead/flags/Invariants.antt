use Rattle.std.proofs.Common.{◌≡◌, fold, take}
use Rattle.irc_acts.specs.Loops.Moving.{flags_by}
use Rattle.irc_acts.proofs.ahead.flags.Given as goal

abbrev pub invariant-loop-act : goal.invariant-loop-act
invariant-loop-act l =
    l.flags ≡ fold (flags_by l.nick l.channel) l.initial.flags (take l.act-index l.steps)
