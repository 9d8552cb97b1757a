-- Turns that are taken, one after another.
use Rattle.std.specs.Prelude.{◌≡◌, ℕ, Option, List}
use Rattle.irc_stage.specs.View.{View}
use Rattle.irc_outbox.specs.Calls.{Call}
use Rattle.irc_engine.specs.declared.engine.Engine.{Engine}
use Rattle.irc_engine.specs.Machines.{Dues, Handles}
use Rattle.irc_engine.specs.Turning.{HasFailed, TurnsBy}
use Rattle.irc_engine.specs.EngineView.{engine_view}

-- So many were taken so far. An engine that had failed before is as it was.
pub record HasTaken {W M : Type 0} {g : _} (is_after : W → List Call → Type 0)
    (server_of : M → Option View) (handles : Handles M) (dues : Dues M) (old : Engine W M g)
    (turns : ℕ) (now : Engine W M g) : Type 0 where
  pub taken : TurnsBy is_after server_of handles dues (engine_view old) turns (engine_view now)
  pub failed_before : HasFailed (engine_view old) → now ≡ old
