use Rattle.std.proofs.Common.{◌∙◌, ap, sym}
use Rattle.irc_net.specs.Calls.{NetView, pipe_between}
use Rattle.irc_network.specs.Loops.Progress.{ends_now}
use Rattle.irc_pipes.specs.Pipes.{through_line_feed}
use Rattle.irc_net.proofs.Calling.{delivery_fails, line_wants, none_came, some_came}
use Rattle.irc_net.proofs.net.Net.deliver.Goals as goal

pub returns-in_err-ends : goal.returns-in_err-ends
returns-in_err-ends g c =
    delivery_fails c.args.self.now c.args.from.now c.args.to.now c.in_err-ends.field-0.0
    c.from_residual.result c.from_residual.ensures.1 c.in_err-ends.ensures

pub returns-then-count-eq0 : goal.returns-then-count-eq0
returns-then-count-eq0 g c =
    none_came c.args.self.now c.args.from.now c.args.to.now c.in_ok-ends.ends c.new.result.items
    c.in_ok-ends.ensures
    (sym (c.through_line_feed-count.ensures
    ∙ ap (λ (n : NetView). through_line_feed
    (pipe_between n.network (ends_now c.in_ok-ends.ends)).bytes) c.self.view_is)
    ∙ c.if-count-eq0.true) c.new.ensures.items

pub come-requires : goal.come-requires
come-requires g c = record { stands = c.in_ok-ends.ensures.stands }

pub returns-in_err-lines : goal.returns-in_err-lines
returns-in_err-lines g c =
    line_wants c.args.self.now c.come.new.self c.args.from.now c.args.to.now c.in_ok-ends.ends
    c.in_err-lines.field-0.0 c.from_residual-in_err-lines.result
    c.from_residual-in_err-lines.ensures.1 c.in_ok-ends.ensures c.in_err-lines.ensures

pub returns : goal.returns
returns g c =
    some_came c.args.self.now c.come.new.self c.args.from.now c.args.to.now c.in_ok-ends.ends
    c.through_line_feed-count.result _ c.in_ok-lines.lines.items
    c.in_ok-ends.ensures
    (c.through_line_feed-count.ensures
    ∙ ap (λ (n : NetView). through_line_feed
    (pipe_between n.network (ends_now c.in_ok-ends.ends)).bytes) c.self.view_is)
    c.if-count-eq0.false c.in_ok-lines.ensures
