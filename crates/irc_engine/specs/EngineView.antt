-- An engine as those who have one see it.
use Rattle.std.specs.Prelude.{◌≡◌, ⊤, Bool, Option, Result, Err}
use Rattle.irc_stage.specs.View.{View}
use Rattle.irc_engine.specs.declared.engine.Engine.{Engine}
use Rattle.irc_engine.specs.declared.engine.EngineFault.{EngineFault}
use Rattle.irc_engine.specs.declared.engine.EngineFault.TheVariants.{Device}
use Rattle.irc_engine.specs.declared.engine.OutboxSizes.{OutboxSizes}
use Rattle.irc_engine.specs.Moments.{moment_of}
use Rattle.irc_engine.specs.Running.{MomentOf}

-- An engine, as those who have one see it: whether memory ran out for it, how many bytes its
-- outboxes have room for, and how it is now.
pub record EngineViewOf (W M : Type 0) : Type 0 where
  pub failed : Bool
  pub sizes : OutboxSizes
  pub now : MomentOf W M

-- one of a server
abbrev pub EngineView : Type 0 → Type 0
EngineView W = EngineViewOf W (Option View)

-- what that is in the code
abbrev pub engine_view : {W M : Type 0} {g : _} → Engine W M g → EngineViewOf W M
engine_view engine =
    record { failed = engine.failed; sizes = engine.sizes; now = moment_of engine.core }

-- Where the wire could not tell what is ready, nothing but the wire has changed.
abbrev pub with_wire : {W M : Type 0} {g : _} → W → Engine W M g → Engine W M g
with_wire wire engine =
    record engine {
      core = record engine.core {
        connections =
            record engine.core.connections { wire = wire };
      };
      settled = engine.settled;
    }

abbrev pub ChangesWireAlone : {W M : Type 0} {g : _}
    → Result (Unit {0}) EngineFault → Engine W M g → Engine W M g → Type 0
ChangesWireAlone (Err Device) old new = new ≡ with_wire new.core.connections.wire old
ChangesWireAlone result old new = ⊤
