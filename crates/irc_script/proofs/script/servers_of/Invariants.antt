use Rattle.std.proofs.Common.{◌≡◌, ℕ, List, drop, length}
use Rattle.irc_script.specs.Scripts.{servers_behind, servers_of}
use Rattle.irc_script.specs.ScriptViews.{lines_now}
use Rattle.irc_script.proofs.script.servers_of.Given as goal

-- each line so far named a server, and the lines that are left go on from there
pub record HasNamed (servers lines left : List (List ℕ)) (place : ℕ) : Type 0 where
  pub all : servers_of lines ≡ servers_behind servers left
  pub each : length servers ≡ place

abbrev pub invariant-loop-line : goal.invariant-loop-line
invariant-loop-line l =
    HasNamed l.servers.items (lines_now l.lines)
    (lines_now (drop l.line-index l.lines)) l.line-index
