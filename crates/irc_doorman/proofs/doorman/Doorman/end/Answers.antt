use Rattle.std.proofs.Common.{refl}
use Rattle.irc_server.specs.declared.event.Event.TheVariants.{Line}
use Rattle.irc_engine.specs.Lemmas.Stills.{still_by_event}
use Rattle.irc_doorman.proofs.doorman.Doorman.end.Goals as goal

pub returns-in-Ok-clause-connected : goal.returns-in-Ok-clause-connected
returns-in-Ok-clause-connected g c =
    still_by_event (Line c.args.conn c.quit_line.result) (λ q. refl) (λ q. refl) (λ q. refl)
    (λ q. refl) (g.M.Machine.server_of c.args.self.now.machine)
    (g.M.Machine.server_of c.handle.new.self) c.args.out.now.outs c.handle.new.out.outs
    c.in-Ok.ensures.connected
