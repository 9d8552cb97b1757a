use Rattle.std.proofs.Common.{◌≡◌, ◌≤◌, ◌+◌, fold, take}
use Rattle.irc_acts.specs.Loops.Moving.{channels_by}
use Rattle.irc_acts.proofs.ahead.channels.Given as goal

abbrev pub invariant-loop-act : goal.invariant-loop-act
invariant-loop-act l = record {
  counted : l.channels ≡ fold (channels_by l.me.nick) l.initial.channels (take l.act-index l.steps);
  bounded : l.channels ≤ l.initial.channels + l.act-index;
}
