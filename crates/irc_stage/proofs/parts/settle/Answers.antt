use Rattle.irc_stage.proofs.EffectsShown.{nothing_said}
use Rattle.irc_stage.proofs.parts.settle.Goals as goal

pub returns-in-Say-clause-after : goal.returns-in-Say-clause-after
returns-in-Say-clause-after c = nothing_said c.args.room.now c.args.effect.now _ _ _ _ c.in-Say.is
