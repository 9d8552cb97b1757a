use Rattle.std.proofs.Common.{◌≡◌, ◌∙◌, Some, None, ap, subst, sym}
use Rattle.std.specs.List.{slice_get, slice_set}
use Rattle.std.proofs.lemmas.Option.{slice_get_past}
use Rattle.irc_server.specs.ReadEvents.{read_event_of}
use Rattle.irc_network.specs.ByteNetwork.{ByteNetwork, progress_without_pipes, progress_written}
use Rattle.irc_network.specs.Lemmas.FoundAtPlaces.{found_at}
use Rattle.irc_network.specs.Lemmas.Outcomes.{on_ok}
use Rattle.irc_network.specs.Loops.Progress.{asked_out, progress_of}
use Rattle.irc_network.specs.Network.{Node, all_sent_out}
use Rattle.irc_network.specs.Whole.{IsTidy}
use Rattle.irc_network.proofs.Places.{whole}
use Rattle.irc_network.proofs.SentOut.{nobody_asked, somebody_asked}
use Rattle.irc_network.proofs.StaysTidy.{put_tidy}
use Rattle.irc_network.proofs.network.Network.ask.Goals as goal

pub returns-in_default : goal.returns-in_default
returns-in_default g c =
    let lines = c.args.output.now.lines.items in
    let i = c.self.inside in
    let old = whole i.forest i.nodes.items i.pipes i.homes.items (g.H.History.past i.history)
    i.taken in
    subst (λ (net : ByteNetwork). progress_of old lines ≡ asked_out c.args.place
    (read_event_of c.args.event.now) (progress_of net lines)) c.self.view_is
    (nobody_asked c.args.place (read_event_of c.args.event.now) (progress_of old lines)
    (subst IsTidy (sym c.self.view_is) c.requires.tidy)
    (subst (λ place. slice_get old.network.nodes place ≡ None) c.index.ensures
    (slice_get_past old.network.nodes c.index.result c.in_default.ensures.item.3)))

pub send_out-requires : goal.send_out-requires
send_out-requires g c =
    let i = c.self.inside in
    let old = whole i.forest i.nodes.items i.pipes i.homes.items (g.H.History.past i.history)
    i.taken in
    record {
      tidy = put_tidy old c.index.result c.in-Some.node.now c.serve.new.self
          (subst IsTidy (sym c.self.view_is) c.requires.tidy)
          (found_at old.network.nodes c.index.result c.in-Some.node.now
          c.in-Some.ensures.item.3.0 c.in-Some.ensures.item.1)
          (ap (λ (node : Node). node.queues) c.in_ok-serve.ensures.new_is);
    }

pub returns : goal.returns
returns g c =
    let lines = c.args.output.now.lines.items in
    let i = c.self.inside in
    let old = whole i.forest i.nodes.items i.pipes i.homes.items (g.H.History.past i.history)
    i.taken in
    let outs = c.serve.new.out.outs in
    on_ok c.send_out.result c.send_out.ensures (λ sent.
    sent
    ∙ ap (λ place. progress_written (all_sent_out c.args.place outs (progress_without_pipes
    (progress_of (whole i.forest (slice_set i.nodes.items place c.serve.new.self) i.pipes
    i.homes.items (g.H.History.past i.history) i.taken) lines))) i.pipes) c.index.ensures
    ∙ somebody_asked c.args.place (read_event_of c.args.event.now)
    (progress_of old lines) c.in-Some.node.now c.serve.new.self outs
    (subst (λ place. slice_get old.network.nodes place ≡ Some c.in-Some.node.now) c.index.ensures
    (found_at old.network.nodes c.index.result c.in-Some.node.now c.in-Some.ensures.item.3.0
    c.in-Some.ensures.item.1)) c.in_ok-serve.ensures
    ∙ ap (λ (net : ByteNetwork). asked_out c.args.place (read_event_of c.args.event.now)
    (progress_of net lines)) c.self.view_is)
