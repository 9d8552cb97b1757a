use Rattle.irc_net.proofs.Calling.{pieces_came, taking_fails}
use Rattle.irc_net.specs.Views.{counted_now}
use Rattle.irc_net.proofs.net.Net.deliver_bytes.Goals as goal

pub returns-in_err-ends : goal.returns-in_err-ends
returns-in_err-ends g c =
    taking_fails c.args.self.now c.args.from.now c.args.to.now c.args.count c.in_err-ends.field-0.0
    c.from_residual.result c.from_residual.ensures.1
    c.in_err-ends.ensures

pub come-requires : goal.come-requires
come-requires g c = record { stands = c.in_ok-ends.ensures.stands }

pub returns : goal.returns
returns g c =
    pieces_came c.args.self.now c.come.new.self c.args.from.now c.args.to.now c.in_ok-ends.ends
    c.args.count (counted_now c.come.result) c.in_ok-ends.ensures
    c.come.ensures
