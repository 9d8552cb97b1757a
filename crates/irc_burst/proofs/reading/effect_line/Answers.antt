use Rattle.std.proofs.Common.{inl, rules}
use Rattle.irc_line.specs.MessageViews.{parsed}
use Rattle.irc_burst.proofs.EffectsRead.{effect-err, effect-memory, effect-ok, wants}
use Rattle.irc_burst.proofs.reading.effect_line.Goals as goal

pub returns-in_err-deed-clause-memory : goal.returns-in_err-deed-clause-memory
returns-in_err-deed-clause-memory c =
    wants c.from_residual.result (inl c.in_err-deed.ensures.memory)

pub returns-in_ok-collided-in-Ok-clause-meant : goal.returns-in_ok-collided-in-Ok-clause-meant
returns-in_ok-collided-in-Ok-clause-meant c =
    effect-ok c.args.at (parsed c.args.message.now) c.args.command c.in-Ok.deed
    c.in_ok-collided-in-Ok.field-0 (search rules) c.in_ok-collided-in-Ok.ensures

pub returns-in_err-collided-in-Ok-clause-memory : goal.returns-in_err-collided-in-Ok-clause-memory
returns-in_err-collided-in-Ok-clause-memory c =
    wants c.from_residual-in_err-collided-in-Ok.result
    (effect-memory c.args.at (parsed c.args.message.now) c.args.command c.in-Ok.deed
    (search rules))

pub returns-in-Err-clause-meant : goal.returns-in-Err-clause-meant
returns-in-Err-clause-meant c =
    effect-err c.args.at (parsed c.args.message.now) c.args.command c.in-Err.reason (search rules)
