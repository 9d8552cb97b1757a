-- What is said behind turns, and of a configuration that is read again behind them, is lines of the
-- journal.
use Rattle.std.proofs.Common.{◌≡◌, ◌∙◌, ◌<◌, ◌+◌, ℕ, Bool, true, false, Option, Result, Ok, Err}
use Rattle.std.proofs.Common.{IsErrAnd, List, [], ◌∷◌, refl, arith}
use Rattle.std.specs.Prelude.{⊤}
use Rattle.irc_sockets.specs.declared.mio_wire.MioWire.{MioWire}
use Rattle.irc_engine.specs.declared.engine.EngineFault.{EngineFault}
use Rattle.irc_engine.specs.EngineView.{EngineViewOf}
use Rattle.irc_engine.specs.Telling.{no_told, told_more, told_stopped}
use Rattle.irc_engine.specs.Laws.Tellings.{runs_tell_some, turns_tell_some}
use Rattle.irc_journal.specs.Saying.{AreSomeSaid, of_rereading, of_restart}
use Rattle.irc_journal.specs.Laws.Sayings.{line_said, some_said_both}
use Rattle.irc_journal.specs.declared.rereading.Rereading.TheVariants.{Taken}
use Rattle.irc_settings.specs.declared.fixed.FixedKey.{FixedKey}
use Rattle.irc_settings.specs.declared.settings.Settings.{Settings}
use Rattle.irc_settings.specs.Fixed.{differs_at, fixed_keys, key_name}
use Rattle.irc_endings.specs.declared.fault.Stop.{Stop}
use Rattle.irc_endings.specs.declared.fault.Stop.TheVariants.{Failed}
use Rattle.ircd.specs.Loops.Turns.{TakesTurn, TakesTurns, TurnsOnce}
use Rattle.ircd.specs.Serving.{AreRestartsSaid, Front, FrontTurn, FrontTurns, IsRestartSaid}
use Rattle.ircd.specs.Serving.{Rereads, no_turn, one_more, reread, unasked, unread}

nothing_said : (held : Option (List ℕ)) → AreSomeSaid held held
nothing_said held = ([], refl)

-- ---- a configuration is read again

restart_said : (differs : Bool) (key : List ℕ) (held after : Option (List ℕ))
    → IsRestartSaid differs key held after → AreSomeSaid held after
restart_said false key held after said = ([], said)
restart_said true key held after said = line_said _ held after (of_restart key refl) said

restarts_said : (keys : List FixedKey) (first now : Settings) (held after : Option (List ℕ))
    → AreRestartsSaid keys first now held after → AreSomeSaid held after
restarts_said [] first now held after said = ([], said)
restarts_said (key ∷ keys) first now held after said =
    some_said_both held said.0 after
    (restart_said (differs_at key first now) (key_name key) held said.0 said.1)
    (restarts_said keys first now said.0 after said.2)

look_said : (first : Settings) (old : EngineViewOf MioWire Front)
    (held : Option (List ℕ)) (new : EngineViewOf MioWire Front) (after : Option (List ℕ))
    → Rereads first old held new after → AreSomeSaid held after
look_said first old held new after unasked = nothing_said held
look_said first old held new after (unread what end refused said) =
    line_said _ held end (of_rereading what refl) said
look_said first old held new after (reread text setup is engine between end changed said
    restarts) =
    some_said_both held between end (line_said _ held between (of_rereading Taken refl) said)
    (restarts_said fixed_keys first is.settings between end restarts)

-- ---- turns

-- one turn, whatever came of it
pub turn_said : (old : EngineViewOf MioWire Front) (held : Option (List ℕ))
    (new : EngineViewOf MioWire Front) (after : Option (List ℕ))
    (r : Result (Unit {0}) EngineFault) → FrontTurn old held new after r → AreSomeSaid held after
turn_said old held new after (Ok done) turned =
    turns_tell_some (λ wire calls. ⊤) old held 1 new after
    (told_more 0 old new held after no_told turned)
turn_said old held new after (Err fault) turned =
    let one_left : 0 < 1 = omega arith in
    runs_tell_some (λ wire calls. ⊤) old held 1 new after (Err fault)
    (told_stopped 0 old held fault one_left no_told turned)

turns_said : (first : Settings) (old : EngineViewOf MioWire Front)
    (held : Option (List ℕ)) (turns : ℕ) (new : EngineViewOf MioWire Front)
    (after : Option (List ℕ)) → FrontTurns first old held turns new after → AreSomeSaid held after
turns_said first old held turns new after no_turn = nothing_said held
turns_said first old held turns new after (one_more n between turned last then told end so_far
    turn look) =
    some_said_both held then end (turns_said first old held n between then so_far)
    (some_said_both then told end (turn_said between then turned told (Ok tt) turn)
    (look_said first turned told last end look))

-- one turn is not taken
pub turn_lost : (first : Settings) (old turned new : EngineViewOf MioWire Front)
    (held after : Option (List ℕ)) (r : Result (Unit {0}) EngineFault)
    → FrontTurn old held turned after r → TakesTurn first old new held after (Err Failed)
turn_lost first old turned new held after r turn = (refl, turn_said old held turned after r turn)

-- so it is of one behind others
pub turns_lost : (first : Settings) (old between new : EngineViewOf MioWire Front)
    (held then after : Option (List ℕ)) (taken turns : ℕ) (r : Result (Unit {0}) Stop)
    (stop : Stop) → FrontTurns first old held taken between then
    → TakesTurn first between new then after (Err stop) → IsErrAnd r (λ e. e ≡ stop)
    → TakesTurns first old turns new held after r
turns_lost first old between new held then after taken turns (Ok done) stop so_far last failed =
    absurd failed
turns_lost first old between new held then after taken turns (Err e) stop so_far last failed = (
  failed ∙ last.0,
  some_said_both held then after (turns_said first old held taken between then so_far) last.1,
)

-- one more is taken
pub turn_added : (first : Settings) (old between new : EngineViewOf MioWire Front)
    (held then after : Option (List ℕ)) (taken : ℕ) → FrontTurns first old held taken between then
    → TurnsOnce first between new then after → FrontTurns first old held (taken + 1) new after
turn_added first old between new held then after taken so_far once =
    one_more taken between once.turned new then once.told after so_far once.is_turned once.look
