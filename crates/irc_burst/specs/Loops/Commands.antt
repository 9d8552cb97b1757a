-- What is looked at in a line of each command of servers.
use Rattle.std.specs.Prelude.{ℕ, Option, Result, List, codes}
use Rattle.irc_batch.specs.declared.close_reason.CloseReason.{CloseReason}
use Rattle.irc_link_reader.specs.Loops.Readings.{reader}
use Rattle.irc_link_reader.specs.declared.arrival.Arrival.{Arrival}
use Rattle.irc_link_words.specs.declared.commands.ServerCommand.{ServerCommand}
use Rattle.irc_link_words.specs.declared.commands.ServerCommand.TheVariants as command
use Rattle.irc_burst.specs.DeedsMeant.{BurstRow, Told, first_reason, burst_line, server_line}
use Rattle.irc_burst.specs.DeedsMeant.{squit_line, kill_line, njoin_line, pass_line}

abbrev pub burst_row : ServerCommand → BurstRow
burst_row command.Server =
    burst_line (codes "SERVER") (λ reader known room. server_line reader known)
burst_row command.Squit = burst_line (codes "SQUIT") (λ reader known room. squit_line reader known)
burst_row command.Kill = burst_line (codes "KILL") (λ reader known room. kill_line reader room)
burst_row command.Njoin = burst_line (codes "NJOIN") (λ reader known room. njoin_line reader room)
burst_row command.Pass = burst_line (codes "PASS") (λ reader known room. pass_line)

-- what a line of a command comes to that came so
abbrev pub comes_to : ServerCommand → Arrival → Option (List ℕ) → List (List ℕ)
    → Result (List Told) CloseReason
comes_to command at prefix words =
    first_reason ((burst_row command).judge (reader at) at.routes.now at.room.now.room prefix words)
