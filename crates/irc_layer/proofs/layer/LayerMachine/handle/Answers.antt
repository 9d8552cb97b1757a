use Rattle.std.proofs.Common.{◌∙◌, sym}
use Rattle.irc_layer.specs.Layers.{state_of}
use Rattle.irc_layer.proofs.Hearing.{passed_on}
use Rattle.irc_layer.proofs.layer.LayerMachine.handle.Goals as goal

pub returns-else-is_heard-clause-handled : goal.returns-else-is_heard-clause-handled
returns-else-is_heard-clause-handled c =
    passed_on (state_of c.args.self.now c.args.out.now) (state_of c.pass.new.self c.pass.new.out)
    c.args.event.now c.pass.result (sym c.is_heard.ensures ∙ c.if-is_heard.false)
    c.pass.ensures.passes c.pass.ensures.refused
