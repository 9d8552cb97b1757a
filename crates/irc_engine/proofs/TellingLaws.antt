-- Turns, with what is said behind each.
use Rattle.std.proofs.Common.{◌≡◌, ℕ, ◌<◌, IsErrAnd, Option, Result, Ok, Err, List, sym, subst}
use Rattle.irc_outbox.specs.Calls.{Call}
use Rattle.irc_engine.specs.declared.engine.EngineFault.{EngineFault}
use Rattle.irc_engine.specs.EngineView.{EngineViewOf}
use Rattle.irc_engine.specs.Machines.{Dues, Handles}
use Rattle.irc_stage.specs.View.{View}
use Rattle.irc_engine.specs.Telling.{RunsTellingBy, TellsTurnedBy, ToldTurnsBy, told_stopped}

-- one turn is not taken, behind those that were
pub told_stops : {W M : Type 0} {server_of : M → Option View} {handles : Handles M}
    {dues : Dues M} (is_after : W → List Call → Type 0) (old between new : EngineViewOf W M)
    (held then after : Option (List ℕ)) (taken turns : ℕ)
    (result : Result (Unit {0}) EngineFault) (fault : EngineFault) → taken < turns
    → ToldTurnsBy is_after server_of handles dues old held taken between then
    → TellsTurnedBy is_after server_of handles dues between new then after (Err fault)
    → IsErrAnd result (λ e. e ≡ fault)
    → RunsTellingBy is_after server_of handles dues old held turns new after result
told_stops is_after old between new held
    then after taken turns (Ok done) fault less so_far last fails = absurd fails
told_stops {server_of = server_of} {handles = handles} {dues = dues} is_after old between new held
    then after taken turns (Err e) fault less so_far last fails =
    told_stopped taken between then e less so_far
    (subst (λ f. TellsTurnedBy is_after server_of handles dues between new then after (Err f)) (sym
    fails) last)
