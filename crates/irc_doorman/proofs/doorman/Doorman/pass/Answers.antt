use Rattle.std.proofs.Common.{refl}
use Rattle.irc_engine.specs.Lemmas.Stills.{memory_owed}
use Rattle.irc_doorman.specs.Doormen.{passes}
use Rattle.irc_doorman.proofs.Passing.{passed_not, passed_unnoted}
use Rattle.irc_doorman.proofs.doorman.Doorman.pass.Goals as goal

pub returns-in_err-handle-clause-passed : goal.returns-in_err-handle-clause-passed
returns-in_err-handle-clause-passed g c =
    passed_not g.M.Machine.handles c.args.self.now (record {
      machine = c.handle.new.self;
      asks = c.args.self.now.asks;
      guests = c.args.self.now.guests;
      moment = c.args.self.now.moment;
      next_look = c.args.self.now.next_look;
      alloc = c.args.self.now.alloc;
    }) c.args.event.now c.args.out.now.outs c.handle.new.out.outs c.from_residual.result
    c.in_err-handle.field-0.0 c.in_err-handle.ensures.handled c.from_residual.ensures.1 refl
    (record { asks = refl; moment = refl; next_look = refl })

pub returns-in_err-note-clause-passed : goal.returns-in_err-note-clause-passed
returns-in_err-note-clause-passed g c =
    passed_unnoted g.M.Machine.handles c.args.self.now (record {
      machine = c.handle.new.self;
      asks = c.args.self.now.asks;
      guests = c.note.new.guests;
      moment = c.args.self.now.moment;
      next_look = c.args.self.now.next_look;
      alloc = c.args.self.now.alloc;
    }) c.args.event.now c.args.out.now.outs c.handle.new.out.outs
    c.from_residual-in_err-note.result c.from_residual-in_err-note.ensures.1

pub returns-in_err-note-clause-refused : goal.returns-in_err-note-clause-refused
returns-in_err-note-clause-refused g c =
    memory_owed (g.M.Machine.server_of c.args.self.now.machine) c.args.event.now
    c.from_residual-in_err-note.result c.from_residual-in_err-note.ensures.1

pub returns-clause-passed : goal.returns-clause-passed
returns-clause-passed g c = passes c.in_ok-handle.ensures.handled c.in_ok-note.ensures
    (record { asks = refl; moment = refl; next_look = refl })
