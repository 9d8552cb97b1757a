use Rattle.std.proofs.Common.{subst, sym}
use Rattle.irc_engine.specs.Machines.{IsStillConnected}
use Rattle.irc_layer.specs.Layers.{state_of}
use Rattle.irc_layer.proofs.Passing.{still_if}
use Rattle.irc_layer.proofs.layer.Layer.give.Goals as goal

pub returns-clause-connected : goal.returns-clause-connected
returns-clause-connected c =
    subst (λ server. IsStillConnected c.args.self.now.server c.args.out.now.outs server
    c.pass_if_taken.new.out.outs) (sym c.meet.ensures.server)
    (still_if c.args.from.link c.args.line (state_of c.args.self.now c.args.out.now)
    (state_of c.pass_if_taken.new.self c.pass_if_taken.new.out) c.in_ok-pass_if_taken.field-0
    c.in_ok-pass_if_taken.ensures.connected)
