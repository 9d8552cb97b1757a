use Rattle.irc_script.specs.Printing.{count_line}
use Rattle.irc_script.specs.Lemmas.Sinking.{loses_more, printed_behind, printing_failed}
use Rattle.irc_script.proofs.Receiving.{text_of}
use Rattle.irc_script.proofs.printing.print_taken.Goals as goal

pub returns-in_err-print_receipts : goal.returns-in_err-print_receipts
returns-in_err-print_receipts g c = printing_failed _ _ _ _ c.from_residual.ensures.0
    (loses_more (count_line c.args.count) c.in_err-print_receipts.ensures)

pub returns : goal.returns
returns g c = printed_behind c.print_count.result _ _ _ (text_of c.args.lines.now)
    (count_line c.args.count) c.in_ok-print_receipts.ensures c.print_count.ensures
