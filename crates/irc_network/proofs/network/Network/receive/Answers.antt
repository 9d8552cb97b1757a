use Rattle.std.proofs.Common.{◌≡◌, ap, arith, subst}
use Rattle.irc_network.specs.ByteNetwork.{ByteNetwork}
use Rattle.irc_network.specs.Loops.Progress.{progress_of, with_pipes}
use Rattle.irc_network.specs.Network.{has_received, receipt}
use Rattle.irc_network.proofs.Places.{received_one, seen, whole}
use Rattle.irc_network.proofs.network.Network.receive.Goals as goal

pub returns : goal.returns
returns g c =
    let i = c.self.inside in
    let old = seen i.forest i.nodes.items i.homes.items (g.H.History.past i.history) i.taken in
    let past = g.H.History.past c.add_line.new.self in
    subst (λ (net : ByteNetwork). progress_of
    (whole i.forest i.nodes.items i.pipes i.homes.items past i.taken) c.push.new.self.items
    ≡ with_pipes net.pipes (has_received c.args.client c.args.text.now
    (progress_of net.network c.args.lines.now.items))) c.self.view_is
    (ap (with_pipes i.pipes)
    (received_one old c.args.lines.now.items c.push.new.self.items c.args.client c.in-Some.earlier
    c.args.text.now past
    (record { client = c.args.client; text = c.copied.result }) c.self.invariant
    c.in-Some.ensures
    (omega (arith, c.if-earlier-len.false, c.len.ensures))
    c.in_ok-add_line.ensures c.in_ok-push.ensures.items
    (ap (receipt c.args.client) c.copied.ensures)))
