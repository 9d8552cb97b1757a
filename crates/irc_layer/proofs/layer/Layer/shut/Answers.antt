use Rattle.std.proofs.Common.{◌∙◌, ◌++◌, [], ap, append-nil, sym}
use Rattle.irc_layer.specs.Layers.{closing, state_of}
use Rattle.irc_layer.proofs.Passing.{shut_if}
use Rattle.irc_layer.proofs.layer.Layer.shut.Goals as goal

pub returns-in_ok-close_link-clause-connected : goal.returns-in_ok-close_link-clause-connected
returns-in_ok-close_link-clause-connected c =
    shut_if c.args.link (record { items = [] }) (state_of c.args.self.now c.args.out.now)
    (state_of c.pass_if_taken.new.self c.pass_if_taken.new.out) c.args.reason
    c.close_link.new.self.outs c.in_ok-pass_if_taken.field-0
    c.in_ok-pass_if_taken.ensures.passes c.in_ok-pass_if_taken.ensures.connected
    (ap (λ b. b.outs) c.in_ok-close_link.ensures.ok
    ∙ ap (λ t. c.pass_if_taken.new.out.outs ++ closing t c.args.link c.args.reason)
    (sym c.if-branch.true))

pub returns-else-branch-clause-connected : goal.returns-else-branch-clause-connected
returns-else-branch-clause-connected c =
    shut_if c.args.link (record { items = [] }) (state_of c.args.self.now c.args.out.now)
    (state_of c.pass_if_taken.new.self c.pass_if_taken.new.out) c.args.reason
    c.pass_if_taken.new.out.outs c.in_ok-pass_if_taken.field-0
    c.in_ok-pass_if_taken.ensures.passes c.in_ok-pass_if_taken.ensures.connected
    (sym (append-nil c.pass_if_taken.new.out.outs)
    ∙ ap (λ t. c.pass_if_taken.new.out.outs ++ closing t c.args.link c.args.reason)
    (sym c.if-branch.false))
