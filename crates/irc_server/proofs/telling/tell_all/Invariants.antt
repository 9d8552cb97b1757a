use Rattle.std.proofs.Common.{◌≡◌, drop}
use Rattle.std.specs.FinMap.{get}
use Rattle.irc_burst.specs.Loops.Deeds.{told_of_deeds}
use Rattle.irc_stage.specs.Ways.{IsMetEnd}
use Rattle.irc_server.specs.DeedTold.{all_told}
use Rattle.irc_server.proofs.telling.tell_all.Given as goal

-- what is still told completes what was done so far
abbrev pub invariant-loop-deed : goal.invariant-loop-deed
invariant-loop-deed l = record {
  completes : all_told l.link (told_of_deeds (drop l.deed-index l.deeds)) l.serving
      ≡ all_told l.link (told_of_deeds l.deeds) l.initial.serving;
  met : IsMetEnd (get l.serving.state.ends l.link);
}
