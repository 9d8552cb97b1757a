-- What is printed: each line that a client receives, how many lines or bytes came, and each
-- refusal.
use Rattle.std.specs.Prelude.{ℕ, ◌-◌, Option, Some, None, List, [], ◌∷◌, ◌++◌, length, take, drop}
use Rattle.std.specs.Prelude.{codes, decimal, if◌then◌else◌}
use Rattle.std.specs.List.{flat_map}
use Rattle.std.specs.Str.{bytes_eq}
use Rattle.irc_line.specs.Bytes.{crlf, space, line_feed}
use Rattle.irc_net.specs.declared.fault.NetFault.{NetFault}
use Rattle.irc_net.specs.declared.fault.NetFault.TheVariants.{NotAtRest, NoSuchServer, NoSuchClient}
use Rattle.irc_net.specs.declared.fault.NetFault.TheVariants.{NotLinked, LinkRefused, Memory}
use Rattle.irc_net.specs.declared.fault.NetFault.TheVariants.{Failed}
use Rattle.irc_net.specs.Faults.{is_refusal}
use Rattle.irc_net.specs.Network.{Receipt}

-- a text without the CR LF at its end, if it has one
abbrev pub body_of : List ℕ → List ℕ
body_of text = let front = length text - 2 in if bytes_eq crlf (drop front text)
    then take front text else text

-- the number of the client, a space, the line
abbrev pub printed_line : ℕ → List ℕ → List ℕ
printed_line client text = decimal client ++ space ∷ body_of text ++ line_feed ∷ []

abbrev pub printed : Receipt → List ℕ
printed receipt = printed_line receipt.client receipt.text

-- so many lines or bytes came
abbrev pub count_line : ℕ → List ℕ
count_line count = codes "= " ++ decimal count ++ line_feed ∷ []

-- behind what clients received by that
abbrev pub taken_text : ℕ → List Receipt → List ℕ
taken_text count receipts = flat_map printed receipts ++ count_line count

-- The number of a fault of a network. 6 is none.
abbrev pub fault_number : NetFault → ℕ
fault_number NotAtRest = 1
fault_number NoSuchServer = 2
fault_number NoSuchClient = 3
fault_number NotLinked = 4
fault_number LinkRefused = 5
fault_number Memory = 7
fault_number Failed = 8

abbrev pub refusal_line : ℕ → List ℕ
refusal_line number = codes "! " ++ decimal number ++ line_feed ∷ []

-- want of memory is no refusal
abbrev pub refusal_number : NetFault → Option ℕ
refusal_number fault = if is_refusal fault then Some (fault_number fault) else None
