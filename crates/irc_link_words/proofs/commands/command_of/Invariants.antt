use Rattle.std.proofs.Common.{◌≡◌, drop}
use Rattle.irc_link_words.specs.Commands.{command_of}
use Rattle.irc_link_words.specs.Loops.Rows.{found}
use Rattle.irc_link_words.proofs.commands.command_of.Given as goal

-- the command is that of the rows that are left
abbrev pub invariant-loop-name : goal.invariant-loop-name
invariant-loop-name l = command_of l.word ≡ found l.word (drop l.name-index l.name-items)
