use Rattle.std.proofs.Common.{◌≡◌, drop}
use Rattle.irc_stage.specs.EffectTold.{all_changed}
use Rattle.irc_server.specs.Loops.Telling.{quits_by_nick}
use Rattle.irc_server.proofs.quitting.quit_all.Given as goal

-- those who still quit complete what was done so far
abbrev pub invariant-loop-nick : goal.invariant-loop-nick
invariant-loop-nick l =
    all_changed (quits_by_nick l.loss.text (drop l.nick-index l.nick-items)) l.serving
    ≡ all_changed (quits_by_nick l.loss.text l.nick-items) l.initial.serving
