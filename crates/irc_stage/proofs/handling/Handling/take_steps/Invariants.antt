use Rattle.std.proofs.Common.{◌≡◌, drop}
use Rattle.irc_line.specs.MessageViews.{optional_now}
use Rattle.irc_stage.specs.ClientTold.{steps_told}
use Rattle.irc_stage.specs.Loops.Speaking.{AreSpokenAt}
use Rattle.irc_stage.specs.Loops.Parts.{AreFitAt}
use Rattle.irc_stage.proofs.handling.Handling.take_steps.Given as goal

-- the steps behind complete what was done so far, and are fit and its own user's
abbrev pub invariant-loop-act : goal.invariant-loop-act
invariant-loop-act l = record {
  completes : steps_told l.speaker.conn (optional_now l.speaker.nick) (drop l.act-index l.steps)
      l.self
      ≡ steps_told l.speaker.conn (optional_now l.speaker.nick) l.steps l.initial.self;
  fit : AreFitAt l.self.state (drop l.act-index l.steps);
  spoken : AreSpokenAt l.speaker.conn l.self.state (drop l.act-index l.steps);
}
