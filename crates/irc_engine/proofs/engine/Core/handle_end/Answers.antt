use Rattle.std.proofs.Common.{sym, subst}
use Rattle.irc_server.specs.declared.event.Event.{Event}
use Rattle.irc_engine.specs.Loops.Moments.{IsToHearIn}
use Rattle.irc_engine.proofs.RunLaws.{on_ok, asks_as}
use Rattle.irc_engine.proofs.engine.Core.handle_end.Goals as goal

pub handle-requires : goal.handle-requires
handle-requires g c =
    subst (λ (e : Event). IsToHearIn g.M.Machine.server_of e c.args.self.now) (sym
    c.end_event.ensures) c.requires

pub returns-clause-asks : goal.returns-clause-asks
returns-clause-asks g c =
    on_ok c.handle.result _ _ (asks_as _ _ _ _ _ c.end_event.ensures) c.handle.ensures.asks
