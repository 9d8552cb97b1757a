-- What is told of a line of effects, by what it means.
use Rattle.std.proofs.Common.{◌≡◌, ℕ, Bool, true, false, not, Option, Result, Ok, Err, List}
use Rattle.std.proofs.Common.{map, if◌then◌else◌, refl}
use Rattle.irc_batch.specs.declared.close_reason.CloseReason.{CloseReason}
use Rattle.irc_batch.specs.declared.close_reason.CloseReason.TheVariants as reason
use Rattle.irc_room.specs.effect.Effect.{Effect}
use Rattle.irc_link_words.specs.declared.fault.WireFault.{WireFault}
use Rattle.irc_link_words.specs.declared.fault.WireFault.TheVariants as fault
use Rattle.irc_link_reader.specs.Means.{Checked, first_fault}
use Rattle.irc_link_reader.specs.Told.{Told, first_reason, judged, told_of, wire_reason}

-- the effects that a line means, as they are told, or why it closes the link
abbrev pub effects_told_of : Option (List ℕ) → Result (List Effect) WireFault
    → Result (List Told) CloseReason
effects_told_of prefix (Ok effects) = Ok (map (told_of prefix) effects)
effects_told_of prefix (Err given) = Err (wire_reason given)

pub said_so : (prefix : Option (List ℕ)) (checked : Checked)
    → first_reason (judged prefix checked) ≡ effects_told_of prefix (first_fault checked)
said_so prefix checked = tests checked.parameters checked.token checked.direction checked.names
  where
    tests : (parameters token direction names : Bool)
        → (if not parameters then Err reason.Parameters
        else (if not token then Err reason.BadToken
        else (if not direction then Err reason.WrongDirection
        else (if not names then Err reason.BadName
        else Ok (map (told_of prefix) checked.effects)))))
        ≡ effects_told_of prefix (if not parameters then Err fault.Parameters
        else (if not token then Err fault.BadToken
        else (if not direction then Err fault.WrongDirection
        else (if not names then Err fault.BadName else Ok checked.effects))))
    tests false token direction names = refl
    tests true false direction names = refl
    tests true true false names = refl
    tests true true true false = refl
    tests true true true true = refl
