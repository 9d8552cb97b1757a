use Rattle.std.proofs.Common.{◌∙◌, ◌++◌, ap, refl}
use Rattle.irc_engine.specs.Lemmas.Stills.{memory_owed}
use Rattle.irc_door.specs.Capabilities.{asked_of}
use Rattle.irc_door.specs.Doors.{said_by, server_behind}
use Rattle.irc_door.proofs.Handled.{handled_refused, handled_said, handled_unsaid}
use Rattle.irc_door.proofs.Said.{connected_said}
use Rattle.irc_door.proofs.door.DoorMachine.handle.Goals as goal

pub returns-in_err-handle-clause-handled : goal.returns-in_err-handle-clause-handled
returns-in_err-handle-clause-handled g c =
    handled_refused g.M.Machine.handles c.args.self.now (record {
      machine = c.handle.new.self;
      manner = c.args.self.now.manner;
      held = c.handle.new.out;
      alloc = c.args.self.now.alloc;
    }) c.args.event.now c.args.out.now.outs c.clear.new.self.outs c.handle.new.out.outs
    c.args.out.now.outs c.from_residual.result c.in_err-handle.field-0.0
    (ap (λ b. b.outs) c.clear.ensures) c.in_err-handle.ensures.handled c.from_residual.ensures.1
    refl refl

pub returns-in_err-put_said-clause-handled : goal.returns-in_err-put_said-clause-handled
returns-in_err-put_said-clause-handled g c =
    handled_unsaid g.M.Machine.handles c.args.self.now (record {
      machine = c.handle.new.self;
      manner = c.args.self.now.manner;
      held = c.put_said.new.held;
      alloc = c.args.self.now.alloc;
    }) c.args.event.now c.args.out.now.outs c.clear.new.self.outs c.handle.new.out.outs
    c.put_said.new.out.outs c.from_residual-in_err-put_said.result
    c.from_residual-in_err-put_said.ensures.1

pub returns-in_err-put_said-clause-refused : goal.returns-in_err-put_said-clause-refused
returns-in_err-put_said-clause-refused g c =
    memory_owed (server_behind g.M.Machine.server_of c.args.self.now) c.args.event.now
    c.from_residual-in_err-put_said.result c.from_residual-in_err-put_said.ensures.1

pub returns-clause-handled : goal.returns-clause-handled
returns-clause-handled g c =
    handled_said g.M.Machine.handles c.args.self.now (record {
      machine = c.handle.new.self;
      manner = c.args.self.now.manner;
      held = c.put_said.new.held;
      alloc = c.args.self.now.alloc;
    }) c.args.event.now c.args.out.now.outs c.clear.new.self.outs c.handle.new.out.outs
    c.put_said.new.out.outs (ap (λ b. b.outs) c.clear.ensures) c.in_ok-handle.ensures.handled refl
    (c.in_ok-put_said.ensures ∙ ap (λ asked. c.args.out.now.outs
    ++ said_by c.args.self.now.manner asked c.handle.new.out.outs) c.asked_of-asked.ensures)

pub returns-clause-connected : goal.returns-clause-connected
returns-clause-connected g c =
    connected_said c.args.event.now c.args.self.now.manner
    (asked_of c.args.self.now.manner.programs c.args.event.now)
    (server_behind g.M.Machine.server_of c.args.self.now)
    (g.M.Machine.server_of c.handle.new.self) c.clear.new.self.outs c.handle.new.out.outs
    c.args.out.now.outs c.put_said.new.out.outs (ap (λ b. b.outs) c.clear.ensures)
    c.in_ok-handle.ensures.connected
    (c.in_ok-put_said.ensures ∙ ap (λ asked. c.args.out.now.outs
    ++ said_by c.args.self.now.manner asked c.handle.new.out.outs) c.asked_of-asked.ensures)
