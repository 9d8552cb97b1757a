-- What the code's scripts and commands say.
use Rattle.std.specs.Prelude.{◌≡◌, ℕ, Result, Ok, Err, List, map, ⊤}
use Rattle.irc_script.specs.declared.fault.SimFault.{SimFault}
use Rattle.irc_script.specs.declared.fault.SimFault.TheVariants.{BadScript, Failed, Device}
use Rattle.irc_script.specs.declared.commands.ScriptCommand.{ScriptCommand}
use Rattle.irc_script.specs.declared.commands.ScriptCommand.TheVariants as command
use Rattle.irc_script.specs.declared.script.Script.{Script}
use Rattle.irc_script.specs.Scripts.{Request, connects, says, goes, links, cuts, delivers, takes}
use Rattle.irc_script.specs.Scripts.{settles, Cut, Pair, ScriptAsked, script_read}
use denote.Ref.{Bor}

abbrev pub lines_now : List (Bor (List ℕ)) → List (List ℕ)
lines_now = map (λ line. line.now)

abbrev pub cut_now : Bor (List ℕ) × Bor (List ℕ) → Cut
cut_now parts = record { before = parts.0.now; behind = parts.1.now }

abbrev pub pair_now : List ℕ × List ℕ → Pair
pair_now names = record { near = names.0; far = names.1 }

abbrev pub request : ScriptCommand → Request
request (command.Connect server host) = connects server host
request (command.Say client rest) = says client rest.now
request (command.Gone client) = goes client
request (command.Link near far) = links near far
request (command.Cut near far) = cuts near far
request (command.Deliver from to) = delivers from to
request (command.Bytes from to count) = takes from to count
request command.Settle = settles

abbrev pub requests : List ScriptCommand → List Request
requests = map request

abbrev pub script_asked : Script → ScriptAsked
script_asked script =
    record { servers = script.servers.items; requests = requests script.commands.items }

-- A script that was read is what the text asks for, and a bad line is its first. Want of memory
-- says nothing.
abbrev pub IsScriptRead : Result Script SimFault → List ℕ → Type 0
IsScriptRead (Ok script) text = script_read text ≡ Ok (script_asked script)
IsScriptRead (Err (BadScript line)) text = script_read text ≡ Err line
IsScriptRead (Err Failed) text = ⊤
IsScriptRead (Err Device) text = ⊥
