-- What the code's messages say, without where their bytes lie.
use Rattle.std.specs.Prelude.{ℕ, Option, Some, None, Result, Ok, Err, List, map}
use Rattle.std.specs.Borrow.{Bor}
use Rattle.irc_line.specs.declared.reading.LineFault.{LineFault}
use Rattle.irc_line.specs.declared.reading.Message.{Message}
use Rattle.irc_line.specs.Messages.{Parsed}
use Rattle.arrayvec.specs.ArrayVec.{ArrayVec}

abbrev pub optional_now : Option (Bor (List ℕ)) → Option (List ℕ)
optional_now None = None
optional_now (Some bytes) = Some (bytes.now)

abbrev pub params_now : ArrayVec (Bor (List ℕ)) → List (List ℕ)
params_now params = map (λ p. p.now) params.items

abbrev pub parsed : Message → Parsed
parsed m =
    record { prefix = optional_now m.prefix; command = m.command.now; params = params_now m.params }

abbrev pub parsed_result : Result Message LineFault → Result Parsed LineFault
parsed_result (Ok m) = Ok (parsed m)
parsed_result (Err fault) = Err fault
