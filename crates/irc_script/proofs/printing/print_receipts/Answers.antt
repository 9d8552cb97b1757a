use Rattle.std.proofs.Common.{◌+◌, drop, sym, subst}
use Rattle.irc_script.specs.Sinks.{Prints, Loses, sink}
use Rattle.irc_script.specs.Lemmas.Sinking.{prints_both, prints_loses, loses_more, printing_failed}
use Rattle.irc_script.proofs.Receiving.{receipt_more, receipts_around, text_of}
use Rattle.irc_script.proofs.printing.print_receipts.Goals as goal

pub loop-line-preserved : goal.loop-line-preserved
loop-line-preserved g c =
    let old = sink (g.W.Write.contents c.args.output.now) c.args.waiting.now.items in
    let new =
    sink (g.W.Write.contents c.print_receipt.new.output) c.print_receipt.new.waiting.items in
    subst (λ bytes. Prints old new bytes)
    (sym (receipt_more c.args.lines.now c.loop-line.line-index c.line-item.result
    c.loop-line-test.true c.line-item.is))
    (prints_both c.loop-line.invariant c.in_ok-print_receipt.ensures)

pub returns-in_err-print_receipt : goal.returns-in_err-print_receipt
returns-in_err-print_receipt g c =
    let old = sink (g.W.Write.contents c.args.output.now) c.args.waiting.now.items in
    let new =
    sink (g.W.Write.contents c.print_receipt.new.output) c.print_receipt.new.waiting.items in
    printing_failed _ _ _ _ c.from_residual.ensures.0
    (subst (λ bytes. Loses old new bytes)
    (sym (receipts_around c.args.lines.now c.loop-line.line-index c.line-item.result
    c.loop-line-test.true c.line-item.is))
    (loses_more (text_of (drop (c.loop-line.line-index + 1) c.args.lines.now))
    (prints_loses c.loop-line.invariant c.in_err-print_receipt.ensures)))
