use Rattle.irc_engine.specs.EngineView.{engine_view}
use Rattle.ircd.specs.Serving.{unread}
use Rattle.ircd.proofs.ReadAgain.{read_anew}
use Rattle.ircd.proofs.rereading.change_to.Goals as goal

pub returns-in-Ok : goal.returns-in-Ok
returns-in-Ok g c = λ of.
    read_anew c.args.first.now c.args.now.now (engine_view c.args.engine.now)
    (engine_view c.alter.new.self) _ _ _ c.in-Ok.change _ of c.in-Ok.ensures.read
    c.alter.ensures c.say_rereading.ensures c.fixed_keys.ensures c.say_restarts.ensures

pub returns-in-Err : goal.returns-in-Err
returns-in-Err g c = λ of.
    unread c.in-Err.why _ c.in-Err.ensures.refused c.say_rereading-in-Err.ensures
