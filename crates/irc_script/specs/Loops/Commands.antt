-- The commands of a script, as the code reads them.
use Rattle.std.specs.Prelude.{◌≡◌, ℕ, Option, List, ◌++◌, Vec}
use Rattle.std.specs.List.{filter_map}
use Rattle.std.specs.Option.{option_map, option_to_list}
use Rattle.std.specs.declared.alloc.Global.{Global}
use denote.Ref.{Bor}
use Rattle.irc_script.specs.declared.commands.ScriptCommand.{ScriptCommand}
use Rattle.irc_script.specs.Scripts.{Request, request_in, request_of}
use Rattle.irc_script.specs.ScriptViews.{lines_now, request, requests}

-- what a word asks for with words behind it
abbrev pub request_by : List ℕ → List ℕ → Option Request
request_by word words = request_in (record { before = word; behind = words })

-- what these lines ask for, one after another
abbrev pub requests_in : List (Bor (List ℕ)) → List Request
requests_in lines = filter_map request_of (lines_now lines)

-- a command, if there is one, stands behind the others
abbrev pub AddsCommand : Option ScriptCommand → Vec ScriptCommand Global → Vec ScriptCommand Global
    → Type 0
AddsCommand command old new =
    requests new.items ≡ requests old.items ++ option_to_list (option_map request command)
