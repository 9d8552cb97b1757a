-- What comes of opening a server, and of turns, one after another.
use Rattle.std.specs.Prelude.{◌≡◌, ℕ, ◌⊎◌, Option, Result, Ok, Err, List}
use Rattle.std.specs.Io.KnownBytes.{Appends}
use Rattle.irc_settings.specs.declared.settings.Settings.{Settings}
use Rattle.irc_settings.specs.Configuration.{AreSettingsOf}
use Rattle.irc_sockets.specs.declared.mio_wire.MioWire.{MioWire}
use Rattle.irc_engine.specs.declared.engine.Engine.{Engine}
use Rattle.irc_engine.specs.EngineView.{EngineViewOf, engine_view}
use Rattle.irc_journal.specs.Saying.{AreSomeSaid}
use Rattle.irc_endings.specs.Ready.{ready_text}
use Rattle.irc_endings.specs.Sinks.{Wrote}
use Rattle.irc_endings.specs.declared.fault.Stop.{Stop}
use Rattle.irc_endings.specs.declared.fault.Stop.TheVariants.{BadConfiguration, Failed}
use Rattle.ircd.specs.declared.setup.Setup.{Setup}
use Rattle.ircd.specs.Serving.{Front, FrontTurn, FrontTurns, IsNotServed, IsOpened, IsSetUp}
use Rattle.ircd.specs.Serving.{IsUnopened, Rereads, ServesText}

-- what was set up is open, and nothing was said; or the program failed
abbrev pub Opens : {g : _} → Setup → Result (Engine MioWire Front g) Stop
    → (errors errors_after : Option (List ℕ)) → Type 0
Opens setup (Ok engine) errors errors_after =
    IsOpened setup (engine_view engine) × (errors_after ≡ errors)
Opens setup (Err stop) errors errors_after = (stop ≡ Failed) × IsUnopened setup errors errors_after

-- what settings set up is open
pub record IsOpenedBy (settings : Settings) (engine : EngineViewOf MioWire Front) : Type 0 where
  pub setup : Setup
  pub is_set_up : IsSetUp settings setup
  pub is_opened : IsOpened setup engine

-- so no text is served that has these settings
abbrev pub AreNotServed : Settings → Stop
    → (printed printed_after errors errors_after : Option (List ℕ)) → Type 0
AreNotServed settings stop printed printed_after errors errors_after = (text : List ℕ)
    → AreSettingsOf text (Ok settings)
    → IsNotServed text stop printed printed_after errors errors_after

-- it is open, and nothing was said; or it is not, and nothing was printed
abbrev pub OpensBy : {g : _} → Settings → Result (Engine MioWire Front g) Stop
    → (errors errors_after : Option (List ℕ)) → Type 0
OpensBy settings (Ok engine) errors errors_after =
    IsOpenedBy settings (engine_view engine) × (errors_after ≡ errors)
OpensBy settings (Err stop) errors errors_after = (printed : Option (List ℕ))
    → AreNotServed settings stop printed printed errors errors_after

-- it is open, and `ready` was printed
abbrev pub Begins : {g : _} → Settings → Result (Engine MioWire Front g) Stop
    → (printed printed_after errors errors_after : Option (List ℕ)) → Type 0
Begins settings (Ok engine) printed printed_after errors errors_after =
    IsOpenedBy settings (engine_view engine)
    × Appends printed printed_after ready_text
    × Wrote printed printed_after ready_text
    × (errors_after ≡ errors)
Begins settings (Err stop) printed printed_after errors errors_after =
    AreNotServed settings stop printed printed_after errors errors_after

-- a text that has these settings is served so
abbrev pub ServesSettings : Settings → ℕ → Result (Unit {0}) Stop
    → (printed printed_after errors errors_after : Option (List ℕ)) → Type 0
ServesSettings settings turns result printed printed_after errors errors_after = (text : List ℕ)
    → AreSettingsOf text (Ok settings)
    → ServesText text turns result printed printed_after errors errors_after

-- one turn was taken, and a look behind it or none; what was said is that of them
pub record TurnsOnce (first : Settings) (old new : EngineViewOf MioWire Front)
    (errors errors_after : Option (List ℕ)) : Type 0 where
  pub turned : EngineViewOf MioWire Front
  pub told : Option (List ℕ)
  pub is_turned : FrontTurn old errors turned told (Ok tt)
  pub look : Rereads first turned told new errors_after

-- a turn was taken; or it was not, and the program failed
abbrev pub TakesTurn : Settings → EngineViewOf MioWire Front → EngineViewOf MioWire Front
    → Option (List ℕ) → Option (List ℕ) → Result (Unit {0}) Stop → Type 0
TakesTurn first old new errors errors_after (Ok _) = TurnsOnce first old new errors errors_after
TakesTurn first old new errors errors_after (Err stop) =
    (stop ≡ Failed) × AreSomeSaid errors errors_after

-- all of so many turns were taken, or one was not, and the program failed; what was said is of
-- links, and of what was read again
abbrev pub TakesTurns : Settings → EngineViewOf MioWire Front → ℕ → EngineViewOf MioWire Front
    → Option (List ℕ) → Option (List ℕ) → Result (Unit {0}) Stop → Type 0
TakesTurns first old turns new errors errors_after (Ok _) =
    FrontTurns first old errors turns new errors_after
TakesTurns first old turns new errors errors_after (Err stop) =
    (stop ≡ Failed) × AreSomeSaid errors errors_after

-- why a file is not read
abbrev pub IsOfFile : Stop → Type 0
IsOfFile stop = (stop ≡ BadConfiguration) ⊎ (stop ≡ Failed)
