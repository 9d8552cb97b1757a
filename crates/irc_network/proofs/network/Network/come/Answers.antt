use Rattle.std.proofs.Common.{◌++◌, ◌∙◌, ap, subst, sym}
use Rattle.irc_line.specs.Framed.{bytes_of}
use Rattle.irc_pipes.specs.Pipes.{Pipes, lines_by, pipe_at}
use Rattle.irc_network.specs.ByteNetwork.{ByteNetwork}
use Rattle.irc_network.specs.Loops.Coming.{come_between}
use Rattle.irc_network.specs.Loops.Progress.{all_heard_out, progress_of}
use Rattle.irc_network.specs.Whole.{IsTidy}
use Rattle.irc_network.proofs.Calls.{come_tidy, have_come}
use Rattle.irc_network.proofs.Places.{whole}
use Rattle.irc_network.proofs.network.Network.come.Goals as goal

pub hear_all-requires : goal.hear_all-requires
hear_all-requires g c =
    let i = c.self.inside in
    let old = whole i.forest i.nodes.items i.pipes i.homes.items (g.H.History.past i.history)
    i.taken in
    record {
      tidy = subst (λ (pipes : Pipes). IsTidy (record old { pipes = pipes }))
          (sym c.in_ok-bytes.ensures.pipes)
          (come_tidy c.args.ends.near c.args.ends.far c.args.count old
          (subst IsTidy (sym c.self.view_is) c.requires.tidy));
    }

pub returns-clause-come : goal.returns-clause-come
returns-clause-come g c =
    let near = c.args.ends.near in
    let far = c.args.ends.far in
    let i = c.self.inside in
    let before = c.args.output.now.lines.items in
    let old = whole i.forest i.nodes.items i.pipes i.homes.items (g.H.History.past i.history)
    i.taken in
    c.in_ok-hear_all.ensures
    ∙ ap (λ (pipes : Pipes). all_heard_out near far
    (progress_of (record old { pipes = pipes }) before) (bytes_of c.take.new.lines.items))
    c.in_ok-bytes.ensures.pipes
    ∙ ap (all_heard_out near far (progress_of (record old {
      pipes = _;
    }) before))
    (c.in_ok-bytes.ensures.lines
    ∙ ap (λ items. bytes_of items ++ lines_by c.args.count (pipe_at i.pipes near far))
    c.new-lines.ensures.items)
    ∙ have_come c.same_pipes.ensures near far c.args.count (progress_of old before)
    (subst IsTidy (sym c.self.view_is) c.requires.tidy)
    ∙ ap (λ (net : ByteNetwork). come_between c.args.ends c.args.count (progress_of net before))
    c.self.view_is
