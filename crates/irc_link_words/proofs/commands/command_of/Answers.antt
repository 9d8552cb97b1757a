use Rattle.irc_link_words.specs.Commands.{command_of}
use Rattle.irc_link_words.proofs.NamedRows.{row_passed}
use Rattle.irc_link_words.proofs.commands.command_of.Goals as goal

pub loop-name-preserved : goal.loop-name-preserved
loop-name-preserved c =
    row_passed c.args.word.now _ c.loop-name.name-index _ c.is_command.result
    (command_of c.args.word.now) c.loop-name-test.true c.is_command.ensures
    c.if-is_command.false c.loop-name.invariant
