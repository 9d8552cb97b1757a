use Rattle.std.proofs.Common.{◌∙◌, ap, sym, map, take}
use Rattle.std.proofs.lemmas.List.{take-map}
use Rattle.irc_batch.specs.Batches.{Batch}
use Rattle.irc_batch.specs.Loops.Marks.{bytes_at, sent_by}
use Rattle.irc_batch.proofs.batch.Batch.truncate.Goals as goal

pub returns : goal.returns
returns c =
    let held = bytes_at c.self.inside.bytes.items c.self.inside.held in
    ap (λ marks. record { outs = map (sent_by c.self.inside.bytes.items) marks; held = held })
    c.truncate.ensures.items
    ∙ ap (λ outs. record { outs = outs; held = held })
    (sym (take-map (sent_by c.self.inside.bytes.items) c.args.count c.self.inside.marks.items))
    ∙ ap (λ (batch : Batch). record { outs = take c.args.count batch.outs; held = batch.held })
    c.self.view_is
