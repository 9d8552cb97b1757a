use Rattle.std.proofs.Common.{refl, ◌∙◌}
use Rattle.irc_engine.specs.Turning.{takes_it, runs_out}
use Rattle.irc_engine.proofs.TurnLaws.{unless_due}
use Rattle.irc_engine.proofs.engine.Engine.take.Goals as goal

pub turn-requires : goal.turn-requires
turn-requires g c = c.args.self.now.settled c.requires

pub returns-in-Ok : goal.returns-in-Ok
returns-in-Ok g c = takes_it refl refl c.in-Ok.ensures.done

pub returns-in-Err : goal.returns-in-Err
returns-in-Err g c = runs_out refl (unless_due g.M.Machine.dues _ (λ never order idle.
    let done = c.turn.ensures.quiet never idle.nothing_ready
    (λ q. order.noted q ∙ idle.nothing_left q) in
    let failed = c.in-Err.is in cc))
