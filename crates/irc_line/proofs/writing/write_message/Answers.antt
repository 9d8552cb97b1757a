use Rattle.std.proofs.Common.{◌++◌, ◌∙◌, ap, arith}
use Rattle.std.proofs.lemmas.Grind.{common_steps}
use Rattle.irc_line.specs.Bytes.{cut}
use Rattle.irc_line.specs.Messages.{prefix_text, prefix_of}
use Rattle.irc_line.specs.PartViews.{written}
use Rattle.irc_line.proofs.WrittenLaws.{all_written}
use Rattle.irc_line.proofs.writing.write_message.Goals as goal

pub returns : goal.returns
returns c =
    let parts = written c.args.parts.now in
    all_written _ _ _ _ _ parts (c.push_prefix.ensures.pushed
    ∙ ap (λ old. cut (old ++ prefix_text (prefix_of parts.sender))) c.new-line.ensures)
    c.push_cut.ensures.appended c.push_words.ensures.pushed c.push_last.ensures.pushed
    (grind (arith, common_steps))
