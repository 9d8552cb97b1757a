use Rattle.std.proofs.Common.{◌++◌, ◌∙◌, ap, arith, map}
use Rattle.std.proofs.lemmas.Grind.{common_steps}
use Rattle.irc_line.specs.Bytes.{cut}
use Rattle.irc_line.specs.Messages.{prefix_text, prefix_of, named}
use Rattle.irc_numerics.specs.Loops.Heads.{line_behind, row_now}
use Rattle.irc_numerics.specs.Replies.{three_digits}
use Rattle.irc_numerics.proofs.Written.{row_written}
use Rattle.irc_numerics.proofs.writing.ReplyHead.row.Goals as goal

pub returns : goal.returns
unfolding line_behind
returns c =
    let server = c.args.self.server.now in
    let given = row_now c.args.number c.args.words.now c.args.text in
    row_written server c.args.self.name.now (three_digits c.args.number) given.words
    _ _ _ _ _ _ _
    (c.push_prefix.ensures.pushed
    ∙ ap (λ old. cut (old ++ prefix_text (prefix_of (named server)))) c.new-line.ensures)
    (c.push_cut.ensures.appended
    ∙ ap (λ digits. cut (c.push_prefix.new.line.items ++ digits)) c.digits_of.ensures)
    c.push_cut-2.ensures.appended c.push_cut-3.ensures.appended c.push_each.ensures.pushed
    c.push_text.ensures.pushed (grind (arith, common_steps))
