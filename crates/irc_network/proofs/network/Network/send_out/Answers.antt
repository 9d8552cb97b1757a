use Rattle.std.proofs.Common.{◌∙◌, ap, arith, refl, sym}
use Rattle.std.specs.List.{slice_get}
use Rattle.irc_batch.specs.Batches.{Batch}
use Rattle.irc_network.specs.ByteNetwork.{progress_without_pipes}
use Rattle.irc_network.specs.Loops.Progress.{byte_sent_at, progress_of}
use Rattle.irc_network.proofs.SentOut.{one_more_written, tidy_alone}
use Rattle.irc_network.proofs.network.Network.send_out.Goals as goal

pub loop-at-init : goal.loop-at-init
loop-at-init g c =
    let start = progress_of c.args.self.now c.args.output.now.lines.items in
    (sym (tidy_alone start c.requires.tidy), refl)

pub loop-at-preserved : goal.loop-at-preserved
loop-at-preserved g c =
    let outs = c.args.output.now.out.outs in
    let start = progress_of c.args.self.now c.args.output.now.lines.items in
    let now = progress_of c.loop-at.self c.loop-at.output.lines.items in
    let tidy = c.requires.tidy in (
      c.in_ok-send.ensures.sent
          ∙ ap (λ (out : Batch). byte_sent_at c.args.place (slice_get out.outs c.loop-at.at) now)
          c.loop-at.invariant.1
          ∙ one_more_written c.same_pipes.ensures c.args.self.now.pipes tidy.lean c.args.place
          outs c.loop-at.at (progress_without_pipes start) now tidy.rows
          (omega (arith, c.loop-at-test.true, c.len-at-end.ensures)) c.loop-at.invariant.0,
      c.in_ok-send.ensures.out ∙ c.loop-at.invariant.1,
    )
