use Rattle.std.proofs.Common.{None, ◌∙◌, ap, sym}
use Rattle.std.proofs.lemmas.List.{nil_from_length}
use Rattle.irc_door.specs.Doors.{server_behind}
use Rattle.irc_door.proofs.Due.{done, failed, nothing_more, unsaid}
use Rattle.irc_door.proofs.Said.{still_said}
use Rattle.irc_door.proofs.door.DoorMachine.due.Goals as goal

pub returns-in_err-due-clause-due : goal.returns-in_err-due-clause-due
returns-in_err-due-clause-due g c =
    failed c.args.self.now c.args.moment c.args.out.now.outs c.new-held.result.outs
    (ap (λ b. b.outs) c.new-held.ensures) g.M.Machine.dues c.from_residual.result c.due.new.self
    (record {
      machine = c.due.new.self;
      manner = c.args.self.now.manner;
      held = c.args.self.now.held;
      alloc = c.args.self.now.alloc;
    }) c.due.new.out.outs c.args.out.now.outs c.in_err-due.field-0.0 c.in_err-due.ensures.due
    c.in_err-due.ensures.refused c.from_residual.ensures.1

pub returns-then-len-eq0-clause-due : goal.returns-then-len-eq0-clause-due
returns-then-len-eq0-clause-due g c =
    done c.args.self.now c.args.moment c.args.out.now.outs c.new-held.result.outs
    (ap (λ b. b.outs) c.new-held.ensures) g.M.Machine.dues c.due.new.self c.args.out.now.outs
    c.due.new.out.outs c.in_ok-due.ensures.due
    (nothing_more c.args.self.now.manner None c.args.out.now.outs c.due.new.out.outs
    (nil_from_length c.due.new.out.outs (sym c.len.ensures ∙ c.if-len-eq0.true)))

pub returns-in_err-put_said-clause-due : goal.returns-in_err-put_said-clause-due
returns-in_err-put_said-clause-due g c =
    unsaid c.args.self.now c.args.moment c.args.out.now.outs c.new-held.result.outs
    (ap (λ b. b.outs) c.new-held.ensures) g.M.Machine.dues
    c.from_residual-in_err-put_said.result c.due.new.self
    (record {
      machine = c.due.new.self;
      manner = c.args.self.now.manner;
      held = c.args.self.now.held;
      alloc = c.args.self.now.alloc;
    }) c.due.new.out.outs c.put_said.new.out.outs c.in_ok-due.ensures.due
    (λ is. c.if-len-eq0.false (c.len.ensures ∙ is)) c.from_residual-in_err-put_said.ensures.1

pub returns-clause-due : goal.returns-clause-due
returns-clause-due g c =
    done c.args.self.now c.args.moment c.args.out.now.outs c.new-held.result.outs
    (ap (λ b. b.outs) c.new-held.ensures) g.M.Machine.dues c.due.new.self c.put_said.new.out.outs
    c.due.new.out.outs c.in_ok-due.ensures.due c.in_ok-put_said.ensures

pub returns-clause-connected : goal.returns-clause-connected
returns-clause-connected g c =
    still_said c.args.self.now.manner None (server_behind g.M.Machine.server_of c.args.self.now)
    (g.M.Machine.server_of c.due.new.self) c.new-held.result.outs c.due.new.out.outs
    c.args.out.now.outs c.put_said.new.out.outs (ap (λ b. b.outs) c.new-held.ensures)
    c.in_ok-due.ensures.connected c.in_ok-put_said.ensures
