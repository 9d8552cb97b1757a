-- A change of an engine between two of its turns.
use Rattle.std.specs.Prelude.{◌≡◌, Option, List}
use Rattle.irc_outbox.specs.Calls.{Call, Keeps}
use Rattle.irc_stage.specs.View.{View}
use Rattle.irc_engine.specs.EngineView.{EngineViewOf}

-- The wire and the machine are changed so: the wire has answered no call by that, and the machine's
-- server is the same one. Nothing else has changed.
pub record IsAltered {W M : Type 0} (is_after : W → List Call → Type 0)
    (server_of : M → Option View) (alters : W → M → W → M → Type 0) (old new : EngineViewOf W M) :
    Type 0 where
  pub altered : alters old.now.wire old.now.server new.now.wire new.now.server
  pub keeps : Keeps is_after old.now.wire new.now.wire
  pub server_stays : server_of new.now.server ≡ server_of old.now.server
  pub same : new
      ≡ record old { now = record old.now { wire = new.now.wire; server = new.now.server } }
