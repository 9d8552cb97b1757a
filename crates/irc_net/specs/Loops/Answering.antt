-- How the answers of steps are kept.
use Rattle.std.specs.Prelude.{◌≡◌, true, Result, Ok, Err, [], ◌∷◌, ◌++◌, Vec}
use Rattle.std.specs.declared.alloc.Global.{Global}
use Rattle.irc_net.specs.Calls.{NetView}
use Rattle.irc_net.specs.declared.fault.NetFault.{NetFault}
use Rattle.irc_net.specs.declared.fault.NetFault.TheVariants.{Memory}
use Rattle.irc_net.specs.declared.step.StepAnswer.{StepAnswer}

-- an answer is kept behind those before it, and the network is as it was; or memory is wanting, and
-- the network has failed
abbrev pub KeepsAnswer : NetView → StepAnswer → Vec StepAnswer Global → Vec StepAnswer Global
    → Result (Unit {0}) NetFault → NetView → Type 0
KeepsAnswer old answer before after (Ok _) new =
    (after.items ≡ before.items ++ answer ∷ []) × (new ≡ old)
KeepsAnswer old answer before after (Err fault) new = (fault ≡ Memory) × (new.failed ≡ true)
