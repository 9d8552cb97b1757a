-- Daemons of which none has served anybody yet, and no two are linked: so daemons can begin.
use Rattle.std.specs.Prelude.{◌≡◌, ℕ, ⊤, false, Option, Some, None, List, [], map}
use Rattle.std.specs.List.{slice_get}
use Rattle.std.specs.List.Sorted.{IsPermutation, IsSortedByKey}
use Rattle.std.specs.Cmp.Lexicographic.{slice_cmp}
use Rattle.std.specs.Ordering.{nat_cmp}
use Rattle.irc_relay.specs.Links.{Name}
use Rattle.irc_routes.specs.declared.programs.Programs.{Programs}
use Rattle.irc_server.specs.Configuring.{served_view}
use Rattle.irc_server.specs.declared.config.Config.{Config}
use Rattle.irc_world.specs.World.{Setting}
use Rattle.irc_net.specs.Making.{config_name, configs_fault, setting_given}
use Rattle.irc_engine.specs.Turning.{IsNew}
use Rattle.irc_engine.specs.EngineView.{EngineView}
use Rattle.irc_daemons.specs.Daemons.{Daemons}

-- an engine over any wire for a new server of this configuration, whose links tell who is away, and
-- whose clients have what programs expect or not
pub record IsNewOf {W : Type 0} (programs : Programs) (config : Config)
    (engine : EngineView W) : Type 0 where
  pub wire : W
  pub client_room : ℕ
  pub link_room : ℕ
  pub is_new : IsNew (Some (served_view programs config)) wire client_room link_room engine

-- at one place
abbrev pub IsNewIf : {W : Type 0} → (Name → Programs) → Option Config → Option (EngineView W)
    → Type 0
IsNewIf programs None None = ⊤
IsNewIf programs (Some config) (Some engine) =
    IsNewOf (programs (config_name config)) config engine
IsNewIf programs None (Some engine) = ⊥
IsNewIf programs (Some config) None = ⊥

-- These are engines of the configurations, in order of name. Some may have for their clients what
-- programs expect, and others not. No link is between them, and nobody has come.
pub record AreNew {W : Type 0} (configs : List Config) (daemons : Daemons W) : Type 0 where
  pub possible : configs_fault configs ≡ None
  pub programs : Name → Programs
  pub ordered : List Config
  pub same_ones : IsPermutation configs ordered
  pub in_order : IsSortedByKey config_name (slice_cmp nat_cmp) ordered
  pub engines : (place : ℕ)
      → IsNewIf programs (slice_get ordered place) (slice_get daemons.engines place)
  pub no_link : (x y : ℕ) → daemons.ends x y ≡ None
  pub no_way : (x y : ℕ) → daemons.ways x y ≡ false
  pub no_seat : (place client : ℕ) → daemons.seats place client ≡ None
  pub nobody : daemons.came ≡ 0
  pub nothing_moves : (x y : ℕ) → daemons.transit x y ≡ []
  pub nothing_written : (client : ℕ) → daemons.written client ≡ []

-- their names, and how they are set up
abbrev pub names_in : {W : Type 0} {configs : List Config} {daemons : Daemons W}
    → AreNew configs daemons → List Name
names_in new = map config_name new.ordered

abbrev pub settings_in : {W : Type 0} {configs : List Config} {daemons : Daemons W}
    → AreNew configs daemons → List Setting
settings_in new = map (setting_given new.programs) new.ordered
