use Rattle.std.proofs.Common.{◌∙◌, ap, subst, sym}
use Rattle.irc_engine.specs.Machines.{IsConnectedBy}
use Rattle.irc_layer.specs.Ends.{end_at}
use Rattle.irc_layer.specs.Layers.{is_heard, state_of}
use Rattle.irc_layer.specs.Layers.Handles.{hears}
use Rattle.irc_layer.proofs.Connecting.{line_by_still}
use Rattle.irc_layer.proofs.Hearing.{no_memory}
use Rattle.irc_engine.specs.Lemmas.Stills.{memory_owed}
use Rattle.irc_layer.proofs.layer.Layer.hear_event.Goals as goal

pub returns-in_err-hear-clause-handled : goal.returns-in_err-hear-clause-handled
returns-in_err-hear-clause-handled c =
    no_memory (state_of c.args.self.now c.args.out.now) (state_of c.hear.new.self c.hear.new.out)
    c.args.event.now c.from_residual.result c.from_residual.ensures.1

pub returns-in_err-hear-clause-refused : goal.returns-in_err-hear-clause-refused
returns-in_err-hear-clause-refused c = memory_owed c.args.self.now.server c.args.event.now
    c.from_residual.result c.from_residual.ensures.1

pub returns-clause-handled : goal.returns-clause-handled
returns-clause-handled c =
    hears c.in-LinkLine.link c.in-LinkLine.line.items c.in-LinkLine.is
    (ap (λ event. is_heard event (end_at c.args.self.now.ends)) (sym c.in-LinkLine.is)
    ∙ c.requires.heard)
    c.in_ok-hear.ensures.heard

pub returns-clause-connected : goal.returns-clause-connected
returns-clause-connected c =
    subst (λ event. IsConnectedBy c.args.self.now.server event c.args.out.now.outs
    c.hear.new.self.server c.hear.new.out.outs) (sym c.in-LinkLine.is)
    (line_by_still c.in-LinkLine.link c.in-LinkLine.line c.args.self.now.server
    c.hear.new.self.server c.args.out.now.outs c.hear.new.out.outs c.in_ok-hear.ensures.connected)
