use Rattle.std.proofs.Common.{◌∙◌, ap}
use Rattle.irc_line.specs.MessageViews.{optional_now}
use Rattle.irc_line.specs.Messages.{text}
use Rattle.irc_crossing.proofs.WrittenAgain.{written_as}
use Rattle.irc_crossing.proofs.hearing.written_with.Goals as goal

pub returns : goal.returns
returns c =
    c.write_message.ensures
    ∙ ap text
    (written_as (optional_now c.args.prefix) c.args.message.now c.args.words.now
    c.before_last.result.now c.sender_again.result c.last_of.result
    c.sender_again.ensures c.before_last.ensures c.last_of.ensures)
