use Rattle.std.proofs.Common.{◌≡◌, drop}
use Rattle.irc_stage.specs.EffectTold.{all_changed}
use Rattle.irc_server.specs.Loops.Telling.{all_come}
use Rattle.irc_server.proofs.members.come_all.Given as goal

-- those who still come complete what was done so far
abbrev pub invariant-loop-member : goal.invariant-loop-member
invariant-loop-member l =
    all_changed (all_come l.channel (drop l.member-index l.members)) l.serving
    ≡ all_changed (all_come l.channel l.members) l.initial.serving
