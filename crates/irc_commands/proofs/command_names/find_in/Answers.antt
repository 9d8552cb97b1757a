use Rattle.std.proofs.Common.{map}
use Rattle.irc_commands.proofs.NamedCommands.{row_passed}
use Rattle.irc_commands.proofs.command_names.find_in.Goals as goal
use Rattle.irc_commands.specs.CommandNames.{found, row_view}

pub loop-name-preserved : goal.loop-name-preserved
loop-name-preserved c =
    row_passed c.args.word.now _ c.loop-name.name-index _ c.is_word.result
    (found c.args.word.now (map row_view c.args.rows.now)) c.loop-name-test.true c.is_word.ensures
    c.if-is_word.false c.loop-name.invariant
