use Rattle.irc_network.specs.ByteNetwork.{ByteNetwork}
use Rattle.std.proofs.Common.{◌≡◌, ◌∙◌, ap, subst, sym}
use Rattle.irc_server.specs.Served.{link_down}
use Rattle.irc_network.specs.Network.{Progress}
use Rattle.irc_network.specs.Lemmas.Outcomes.{on_ok}
use Rattle.irc_network.specs.Loops.Progress.{asked_out, ends_now, progress_of}
use Rattle.irc_network.specs.Whole.{IsTidy}
use Rattle.irc_network.proofs.ItemsDone.{closed, closed_so, closed_tidily, none_parted}
use Rattle.irc_network.proofs.ItemsDone.{servers_were_parted}
use Rattle.irc_network.proofs.StaysTidy.{asked_tidy}
use Rattle.irc_network.proofs.network.Network.cut.Goals as goal

pub returns-in_default : goal.returns-in_default
returns-in_default g c =
    ap (progress_of c.args.self.now) c.requires.begins
    ∙ none_parted c.args.near.now c.args.far.now c.args.self.now c.requires.tidy
    (sym c.in_default.ensures.ends)

pub ask-requires : goal.ask-requires
ask-requires g c =
    let i = c.self.inside in
    let ends = c.in-Some.ends in
    let past = g.H.History.past i.history in
    record {
      tidy = closed_tidily c.args.near.now c.args.far.now ends i.forest c.cut.new.self i.nodes.items
          i.pipes i.homes.items past i.taken c.args.self.now c.close_way.new.self
          c.close_way-2.new.self
          c.self.view_is c.cut.ensures c.in-Some.ensures.named c.close_way.ensures
          c.close_way-2.ensures c.requires.tidy;
    }

pub ask-requires-2 : goal.ask-requires-2
ask-requires-2 g c =
    let i = c.self.inside in
    let ends = c.in-Some.ends in
    let past = g.H.History.past i.history in
    record {
      tidy =
          subst (λ (progress : Progress ByteNetwork). IsTidy progress.state)
          (sym c.in_ok-ask.ensures)
          (asked_tidy ends.near (link_down c.link.result)
          (progress_of c.close_way-2.new.self c.args.output.now.lines.items)
          (closed_tidily c.args.near.now c.args.far.now ends i.forest c.cut.new.self i.nodes.items
          i.pipes i.homes.items past i.taken c.args.self.now c.close_way.new.self
          c.close_way-2.new.self
          c.self.view_is c.cut.ensures c.in-Some.ensures.named c.close_way.ensures
          c.close_way-2.ensures c.requires.tidy));
    }

pub returns : goal.returns
returns g c =
    let i = c.self.inside in
    let ends = c.in-Some.ends in
    let past = g.H.History.past i.history in
    let before : c.close_way-2.new.self ≡ closed c.args.near.now c.args.far.now (ends_now ends)
    c.args.self.now =
    closed_so c.args.near.now c.args.far.now ends i.forest c.cut.new.self i.nodes.items
    i.pipes i.homes.items past i.taken c.args.self.now c.close_way.new.self c.close_way-2.new.self
    c.self.view_is c.cut.ensures c.in-Some.ensures.named c.close_way.ensures c.close_way-2.ensures
    in
    let middle = progress_of c.ask.new.self c.ask.new.output.lines.items in
    on_ok c.ask-2.result c.ask-2.ensures (λ last.
    servers_were_parted c.same_pipes.ensures c.args.near.now c.args.far.now (ends_now ends)
    c.args.self.now middle (progress_of c.ask-2.new.self c.ask-2.new.output.lines.items)
    c.requires.tidy (sym c.in-Some.ensures.ends)
    (c.in_ok-ask.ensures ∙ (λ j. asked_out ends.near (link_down (c.link.ensures j))
    (progress_of (before j) (c.requires.begins j))))
    (last ∙ ap (λ link. asked_out ends.far (link_down link) middle) c.link-2.ensures))
