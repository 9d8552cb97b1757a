use Rattle.irc_engine.specs.Lemmas.Stills.{connected_on}
use Rattle.irc_doorman.specs.Doormen.{watches}
use Rattle.irc_doorman.proofs.Watching.{unwatched, watched_not}
use Rattle.irc_doorman.proofs.doorman.DoormanMachine.due.Goals as goal

pub returns-in_err-due-clause-due : goal.returns-in_err-due-clause-due
returns-in_err-due-clause-due g c =
    watched_not g.M.Machine.server_of g.M.Machine.handles g.M.Machine.dues c.args.self.now
    c.args.moment c.args.out.now.outs (record {
      machine = c.due.new.self;
      asks = c.args.self.now.asks;
      guests = c.args.self.now.guests;
      moment = c.args.self.now.moment;
      next_look = c.args.self.now.next_look;
      alloc = c.args.self.now.alloc;
    }) c.due.new.out.outs c.from_residual.result c.in_err-due.field-0.0
    c.in_err-due.ensures.refused c.from_residual.ensures.1

pub returns-in_err-watch-clause-due : goal.returns-in_err-watch-clause-due
returns-in_err-watch-clause-due g c =
    unwatched g.M.Machine.server_of g.M.Machine.handles g.M.Machine.dues c.args.self.now
    c.args.moment c.args.out.now.outs c.watch.new.self c.watch.new.out.outs
    c.from_residual-in_err-watch.result c.from_residual-in_err-watch.ensures.1

pub returns-clause-due : goal.returns-clause-due
returns-clause-due g c =
    watches c.due.new.self c.due.new.out.outs c.in_ok-due.ensures.due c.in_ok-watch.ensures.asked
    c.in_ok-watch.ensures.asks c.in_ok-watch.ensures.moment c.in_ok-watch.ensures.look

pub returns-clause-connected : goal.returns-clause-connected
returns-clause-connected g c =
    connected_on (g.M.Machine.server_of c.args.self.now.machine)
    (g.M.Machine.server_of c.due.new.self) (g.M.Machine.server_of c.watch.new.self.machine)
    c.args.out.now.outs c.due.new.out.outs c.watch.new.out.outs c.in_ok-due.ensures.connected
    c.in_ok-watch.ensures.connected
