use Rattle.std.proofs.Common.{◌≡◌, ◌≤◌, ◌+◌, fold, take}
use Rattle.irc_acts.specs.Loops.Moving.{members_by}
use Rattle.irc_acts.proofs.ahead.members.Given as goal

abbrev pub invariant-loop-act : goal.invariant-loop-act
invariant-loop-act l = record {
  counted : l.members ≡ fold (members_by l.channel) l.initial.members (take l.act-index l.steps);
  bounded : l.members ≤ l.initial.members + l.act-index;
}
