use Rattle.std.proofs.Common.{◌++◌, ◌∙◌, ap, codes, arith}
use Rattle.std.proofs.lemmas.Grind.{common_steps}
use Rattle.irc_line.specs.Bytes.{cut}
use Rattle.irc_line.specs.Lemmas.CutLaws.{cut_two}
use Rattle.irc_link_writer.specs.Lemmas.ModeLines.{mode_written}
use Rattle.irc_burst_lines.proofs.mode_line.mode_text.Goals as goal

pub returns : goal.returns
returns c =
    let head = c.push_head.ensures.head
    ∙ ap (λ channel. cut (codes ":" ++ c.args.doer.now ++ codes " MODE " ++ channel ++ codes " "))
    c.as_bytes.ensures.value in
    mode_written _ _ _ _ _ _ _ head (cut_two _ _ _ _ _ c.push_letters.ensures.pushed
    c.push_words.ensures.pushed) (grind (arith, common_steps))
