use Rattle.irc_network.specs.ByteNetwork.{ByteNetwork}
use Rattle.std.proofs.Common.{◌≡◌, ◌∙◌, Some, None, ap, subst, sym}
use Rattle.irc_server.specs.Served.{link_up}
use Rattle.irc_network.specs.Network.{Progress}
use Rattle.irc_network.specs.Lemmas.Outcomes.{on_ok}
use Rattle.irc_network.specs.Loops.Progress.{asked_out, ends_now, progress_of}
use Rattle.irc_network.specs.Whole.{IsTidy}
use Rattle.irc_network.proofs.ItemsDone.{none_linked, opened, opened_so, opened_tidily}
use Rattle.irc_network.proofs.ItemsDone.{servers_were_linked}
use Rattle.irc_network.proofs.StaysTidy.{asked_tidy}
use Rattle.irc_network.proofs.network.Network.link.Goals as goal

pub returns-in_default : goal.returns-in_default
returns-in_default g c =
    ap (progress_of c.args.self.now) c.requires.begins
    ∙ none_linked c.args.near.now c.args.far.now c.args.self.now c.requires.tidy
    (sym c.in_default.ensures.ends)

pub ask-requires : goal.ask-requires
ask-requires g c =
    let i = c.self.inside in
    let ends = c.in-Some.ends in
    let past = g.H.History.past i.history in
    record {
      tidy =
          opened_tidily c.args.near.now c.args.far.now ends i.forest c.link.new.self i.nodes.items
          i.pipes i.homes.items past i.taken c.args.self.now c.open_way.new.self
          c.open_way-2.new.self
          c.self.view_is c.in_ok-link.ensures.ok c.in-Some.ensures.named c.in_ok-open_way.ensures
          c.in_ok-open_way-2.ensures c.requires.tidy;
    }

pub ask-requires-2 : goal.ask-requires-2
ask-requires-2 g c =
    let i = c.self.inside in
    let ends = c.in-Some.ends in
    let past = g.H.History.past i.history in
    record {
      tidy =
          subst (λ (progress : Progress ByteNetwork). IsTidy progress.state)
          (sym c.in_ok-ask.ensures)
          (asked_tidy ends.near (link_up c.link-2.result (Some c.copy.result))
          (progress_of c.open_way-2.new.self c.args.output.now.lines.items)
          (opened_tidily c.args.near.now c.args.far.now ends i.forest c.link.new.self i.nodes.items
          i.pipes i.homes.items past i.taken c.args.self.now c.open_way.new.self
          c.open_way-2.new.self
          c.self.view_is c.in_ok-link.ensures.ok c.in-Some.ensures.named c.in_ok-open_way.ensures
          c.in_ok-open_way-2.ensures c.requires.tidy));
    }

pub returns : goal.returns
returns g c =
    let i = c.self.inside in
    let ends = c.in-Some.ends in
    let past = g.H.History.past i.history in
    let before : c.open_way-2.new.self ≡ opened c.args.near.now c.args.far.now (ends_now ends)
    c.args.self.now =
    opened_so c.args.near.now c.args.far.now ends i.forest c.link.new.self i.nodes.items
    i.pipes i.homes.items past i.taken c.args.self.now c.open_way.new.self c.open_way-2.new.self
    c.self.view_is c.in_ok-link.ensures.ok c.in-Some.ensures.named c.in_ok-open_way.ensures
    c.in_ok-open_way-2.ensures in
    let middle = progress_of c.ask.new.self c.ask.new.output.lines.items in
    on_ok c.ask-2.result c.ask-2.ensures (λ last.
    servers_were_linked c.same_pipes.ensures c.args.near.now c.args.far.now (ends_now ends)
    c.args.self.now middle (progress_of c.ask-2.new.self c.ask-2.new.output.lines.items)
    c.requires.tidy (sym c.in-Some.ensures.ends)
    (c.in_ok-ask.ensures
    ∙ (λ j. asked_out ends.near (link_up (c.link-2.ensures j) (Some (c.copy.ensures j)))
    (progress_of (before j) (c.requires.begins j))))
    (last ∙ ap (λ link. asked_out ends.far (link_up link None) middle) c.link-3.ensures))
