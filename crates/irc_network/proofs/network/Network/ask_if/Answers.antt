use Rattle.std.proofs.Common.{◌∙◌, ap, sym}
use Rattle.irc_server.specs.ReadEvents.{read_event_of}
use Rattle.irc_network.specs.ByteNetwork.{progress_without_pipes, progress_written}
use Rattle.irc_network.specs.Loops.Progress.{progress_of}
use Rattle.irc_network.specs.Network.{node_asked_if}
use Rattle.irc_network.proofs.SentOut.{tidy_alone}
use Rattle.irc_network.proofs.network.Network.ask_if.Goals as goal

pub returns-in-None : goal.returns-in-None
returns-in-None g c =
    let now = progress_of c.args.self.now c.args.output.now.lines.items in
    sym (tidy_alone now c.requires.tidy)
    ∙ ap (λ place. progress_written (node_asked_if place (read_event_of c.args.event.now)
    (progress_without_pipes now)) c.args.self.now.pipes) (sym c.in-None.is)
