use Rattle.std.proofs.Common.{take}
use Rattle.irc_net.specs.Calls.{PlaysSteps}
use Rattle.irc_net.proofs.net.Net.play.Given as goal

-- the steps so far are done
abbrev pub invariant-loop-step : goal.invariant-loop-step
invariant-loop-step g l = PlaysSteps l.fn.self (take l.step-index l.steps) l.answers.items l.self
