use Rattle.irc_network.specs.ByteNetwork.{ByteNetwork}
use Rattle.std.proofs.Common.{◌∙◌, ap, subst, sym}
use Rattle.std.specs.Vec.Iter.{into_iter_items}
use Rattle.irc_line.specs.Framed.{bytes_of}
use Rattle.irc_network.specs.Network.{Progress}
use Rattle.irc_network.specs.Loops.Progress.{all_heard_out, progress_of}
use Rattle.irc_network.specs.Whole.{IsTidy}
use Rattle.irc_network.proofs.StaysTidy.{heard_tidy}
use Rattle.irc_network.proofs.network.Network.hear_all.Goals as goal

pub loop-line-preserved : goal.loop-line-preserved
loop-line-preserved g c =
    let from = c.args.from in
    let to = c.args.to in
    let now = progress_of c.loop-line.self c.loop-line.output.lines.items in (
      ap (λ progress. all_heard_out from to progress (bytes_of (into_iter_items c.next.new.self)))
          c.in_ok-hear.ensures
          ∙ ap (λ items. all_heard_out from to now (bytes_of items)) (sym c.in-Some.ensures.items)
          ∙ c.loop-line.invariant.0,
      subst (λ (progress : Progress ByteNetwork). IsTidy progress.state) (sym c.in_ok-hear.ensures)
          (heard_tidy from to now c.in-Some.line.items c.loop-line.invariant.1),
    )
