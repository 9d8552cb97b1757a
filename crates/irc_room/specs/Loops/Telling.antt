-- What an effect shows to the users of one server.
use Rattle.std.specs.Prelude.{◌≡◌, ℕ, Bool, false, not, Some, None, Result, Ok, Err, List, []}
use Rattle.arrayvec.specs.ArrayVec.{ArrayVec}
use Rattle.irc_effects.specs.declared.effect.Effect.{Effect}
use Rattle.irc_effects.specs.declared.fault.RoomFault.{RoomFault}
use Rattle.irc_effects.specs.declared.fault.RoomFault.TheVariants.{Memory}
use Rattle.irc_effects.specs.declared.shown_line.ShownLine.{ShownLine}
use Rattle.irc_effects.specs.Room.{Room}
use Rattle.irc_effects.specs.Effects.{is_idle}
use Rattle.irc_effects.specs.Applying.{ServerRoom, pairs_of, room_fault, shown_here}

-- what an effect on a room shows at the server of this name
abbrev pub shown_at : List ℕ → Room → Effect → List (List ℕ × ArrayVec ℕ)
shown_at own room effect = shown_here (record { own = own; failed = false; room = room }) effect

-- An effect is shown before it is made, and whether it does anything is told. One that is refused
-- for a cause is shown to nobody, and memory runs out for none that does nothing.
abbrev pub IsTold : ServerRoom → Effect → Result Bool RoomFault → ShownLine → Type 0
IsTold kept effect (Ok busy) shown =
    (room_fault kept effect ≡ None) × (busy ≡ not (is_idle kept.room effect))
    × (pairs_of shown ≡ shown_here kept effect)
IsTold kept effect (Err Memory) shown =
    (room_fault kept effect ≡ None) × (is_idle kept.room effect ≡ false)
IsTold kept effect (Err fault) shown =
    (room_fault kept effect ≡ Some fault) × (shown.viewers.items ≡ [])
