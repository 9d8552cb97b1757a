use Rattle.std.proofs.Common.{◌≡◌, ◌∙◌, ap, map, length, ◌++◌, arith}
use Rattle.std.specs.List.{slice_range}
use Rattle.irc_batch.specs.Batches.{Batch, batch_of}
use Rattle.irc_batch.specs.Loops.Marks.{sent_by}
use Rattle.irc_batch.proofs.KeptLines.{held_there, marks_kept}
use Rattle.irc_batch.proofs.batch.Batch.hold.Goals as goal

pub returns-clause-ok : goal.returns-clause-ok
returns-clause-ok c =
    let bytes = c.self.inside.bytes.items in
    let line = c.args.line.now in
    let marks = c.self.inside.marks.items in
    let items : c.extend_from_slice.new.self.items ≡ bytes ++ line =
    c.in_ok-extend_from_slice.ensures.items in
    let start : c.len-start.result ≡ length bytes =
    omega (arith, c.len-start.ensures, c.self.inside.bytes.ok.0) in
    let end : c.len-end.result ≡ length (bytes ++ line) =
    omega (arith, c.len-end.ensures, c.extend_from_slice.new.self.ok.0, ap length items) in
    ap (λ bs. batch_of (map (sent_by bs) marks)
    (slice_range bs c.len-start.result c.len-end.result)) items
    ∙ ap (λ s. batch_of (map (sent_by (bytes ++ line)) marks)
    (slice_range (bytes ++ line) s c.len-end.result)) start
    ∙ ap (batch_of (map (sent_by (bytes ++ line)) marks))
    (held_there bytes line c.len-end.result end)
    ∙ ap (λ outs. batch_of outs line) (marks_kept bytes line marks c.self.invariant.marks_within)
    ∙ ap (λ (batch : Batch). batch_of batch.outs line) c.self.view_is
