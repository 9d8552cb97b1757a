use Rattle.irc_engine.specs.Lemmas.Stills.{memory_owed}
use Rattle.irc_doorman.specs.Doormen.{admits, conn_of, given, guest_at}
use Rattle.irc_doorman.proofs.Passing.{admitted_not, admitted_untold, asks_kept, refused_by}
use Rattle.irc_doorman.proofs.Passing.{told_by}
use Rattle.irc_doorman.proofs.Told.{connected_told}
use Rattle.irc_doorman.proofs.doorman.DoormanMachine.handle.Goals as goal

pub returns-in_err-give-clause-handled : goal.returns-in_err-give-clause-handled
returns-in_err-give-clause-handled g c =
    admitted_not g.M.Machine.handles c.args.self.now c.give.new.self c.args.event.now
    c.args.out.now.outs c.give.new.out.outs g.M.Machine.server_of c.from_residual.result
    c.fate-fate.result c.in_err-give.field-0.0 c.fate-fate.ensures c.in_err-give.ensures.passed
    c.from_residual.ensures.1

pub returns-in_err-give-clause-refused : goal.returns-in_err-give-clause-refused
returns-in_err-give-clause-refused g c =
    refused_by c.from_residual.result c.fate-fate.result (guest_at c.args.self.now.guests)
    c.args.event.now (g.M.Machine.server_of c.args.self.now.machine) c.in_err-give.field-0.0
    c.fate-fate.ensures c.in_err-give.ensures.refused c.from_residual.ensures.1

pub returns-in_err-tell-clause-handled : goal.returns-in_err-tell-clause-handled
returns-in_err-tell-clause-handled g c =
    admitted_untold g.M.Machine.handles c.args.self.now c.give.new.self c.args.event.now
    c.args.out.now.outs c.tell.new.out.outs g.M.Machine.server_of
    c.from_residual-in_err-tell.result c.from_residual-in_err-tell.ensures.1

pub returns-in_err-tell-clause-refused : goal.returns-in_err-tell-clause-refused
returns-in_err-tell-clause-refused g c =
    memory_owed (g.M.Machine.server_of c.args.self.now.machine) c.args.event.now
    c.from_residual-in_err-tell.result c.from_residual-in_err-tell.ensures.1

pub returns-clause-handled : goal.returns-clause-handled
returns-clause-handled g c =
    admits c.fate-fate.result c.give.new.out.outs c.fate-fate.ensures c.in_ok-give.ensures.passed
    (told_by
    c.args.self.now.asks c.give.new.self.asks c.fate-fate.result (conn_of c.args.event.now)
    c.conn_of.result c.give.new.out.outs c.tell.new.out.outs
    (asks_kept g.M.Machine.handles c.args.self.now c.give.new.self
    (given c.fate-fate.result c.args.event.now) c.args.out.now.outs c.give.new.out.outs
    c.in_ok-give.ensures.passed) c.conn_of.ensures c.in_ok-tell.ensures)

pub returns-clause-connected : goal.returns-clause-connected
returns-clause-connected g c =
    connected_told c.args.self.now.asks c.fate-fate.result (guest_at c.args.self.now.guests)
    c.args.event.now (g.M.Machine.server_of c.args.self.now.machine)
    (g.M.Machine.server_of c.give.new.self.machine) c.args.out.now.outs c.give.new.out.outs
    c.tell.new.out.outs c.fate-fate.ensures c.in_ok-give.ensures.connected (told_by
    c.args.self.now.asks c.give.new.self.asks c.fate-fate.result (conn_of c.args.event.now)
    c.conn_of.result c.give.new.out.outs c.tell.new.out.outs
    (asks_kept g.M.Machine.handles c.args.self.now c.give.new.self
    (given c.fate-fate.result c.args.event.now) c.args.out.now.outs c.give.new.out.outs
    c.in_ok-give.ensures.passed) c.conn_of.ensures c.in_ok-tell.ensures)
