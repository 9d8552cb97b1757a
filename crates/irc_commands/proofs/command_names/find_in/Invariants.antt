use Rattle.std.proofs.Common.{◌≡◌, drop, map}
use Rattle.irc_commands.proofs.command_names.find_in.Given as goal
use Rattle.irc_commands.specs.CommandNames.{found, row_view}

-- the row is that of those that are left
abbrev pub invariant-loop-name : goal.invariant-loop-name
invariant-loop-name l =
    found l.word (map row_view l.rows) ≡ found l.word (map row_view (drop l.name-index l.rows))
