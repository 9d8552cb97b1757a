use Rattle.std.proofs.Common.{◌∙◌, ap}
use Rattle.irc_network.specs.ByteNetwork.{ByteNetwork}
use Rattle.irc_network.specs.Histories.{Past}
use Rattle.irc_network.specs.Loops.Progress.{progress_of}
use Rattle.irc_network.specs.Views.{item_of}
use Rattle.irc_network.proofs.Calls.{byte_kept, was_given}
use Rattle.irc_network.proofs.Places.{whole}
use Rattle.irc_network.proofs.network.Network.give.Goals as goal

pub returns : goal.returns
returns g c =
    let item = item_of c.args.item in
    let i = c.self.inside in
    let lines = c.do_item.new.output.lines.items in
    ap (λ (past : Past). progress_of (whole i.forest i.nodes.items i.pipes i.homes.items past 0)
    lines) c.in_ok-add_item.ensures
    ∙ ap (λ (net : ByteNetwork). byte_kept item (progress_of net lines)) c.self.view_is
    ∙ was_given c.args.self.now item
    (progress_of c.do_item.new.self lines) c.in_ok-do_item.ensures
