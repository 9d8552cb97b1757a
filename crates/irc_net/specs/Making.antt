-- Of which configurations a network is made.
use Rattle.std.specs.Prelude.{◌≡◌, Bool, true, false, ◌||◌, Option, Some, None, Result, Ok, Err}
use Rattle.std.specs.Prelude.{List, [], ◌∷◌, length, map, nat_lt, if◌then◌else◌}
use Rattle.std.specs.List.{list_any}
use Rattle.std.specs.List.Sorted.{IsPermutation, IsSortedByKey}
use Rattle.std.specs.FinMap.{empty}
use Rattle.std.specs.Ordering.{nat_cmp}
use Rattle.std.specs.Cmp.Lexicographic.{slice_cmp}
use Rattle.irc_relay.specs.Links.{Name, same}
use Rattle.irc_routes.specs.About.{about_of, serves}
use Rattle.irc_routes.specs.declared.programs.Programs.{Programs}
use Rattle.irc_server.specs.Configuring.{config_fault, served_view}
use Rattle.irc_server.specs.declared.config.Config.{Config}
use Rattle.irc_server.specs.declared.config.ConfigFault.{ConfigFault}
use Rattle.irc_server.specs.declared.config.ConfigFault.TheVariants as one
use Rattle.irc_world.specs.OneServer.{configured}
use Rattle.irc_world.specs.World.{Setting}
use Rattle.irc_net.specs.declared.making.NetConfigFault.{NetConfigFault}
use Rattle.irc_net.specs.declared.making.NetConfigFault.TheVariants.{BadName, DoubleName, TooMany}
use Rattle.irc_net.specs.declared.making.NetConfigFault.TheVariants.{Memory}
use Rattle.irc_net.specs.Calls.{NetView}
use Rattle.irc_network.specs.ByteNetwork.{ByteNetwork}
use Rattle.irc_network.specs.Whole.{no_pipes}
use Rattle.irc_network.specs.Network.{Network, Node}

abbrev pub config_name : Config → Name
config_name config = config.own.name.items

-- a name, a text or a password of it is outside its limits
abbrev pub is_bad_name : Option ConfigFault → Bool
is_bad_name (Some one.BadName) = true
is_bad_name fault = false

abbrev pub is_bad_config : Config → Bool
is_bad_config config = is_bad_name (config_fault config)

-- a peer of it is there twice, or is the server itself
abbrev pub is_double_name : Option ConfigFault → Bool
is_double_name (Some one.DoubleName) = true
is_double_name fault = false

abbrev pub is_double : Config → Bool
is_double config = is_double_name (config_fault config)

abbrev pub is_config_of : Name → Config → Bool
is_config_of name config = same (config_name config) name

-- two servers have one name
abbrev pub has_name_twice : List Config → Bool
has_name_twice [] = false
has_name_twice (config ∷ configs) =
    list_any (is_config_of (config_name config)) configs || has_name_twice configs

-- why no network is made of configurations: the causes in the order in which they are looked for
abbrev pub configs_fault : List Config → Option NetConfigFault
configs_fault configs =
    if list_any is_bad_config configs then Some BadName
    else (if list_any is_double configs || has_name_twice configs then Some DoubleName
    else (if nat_lt 256 (length configs) then Some TooMany else None))

-- ---- the network that they make

-- Which servers' clients have what programs expect: those of all, or of none. It may be any
-- function of their names.
abbrev pub everywhere : Programs → Name → Programs
everywhere programs server = programs

-- links tell it who is away
abbrev pub new_node : (Name → Programs) → Config → Node
new_node programs config =
    record { server = Some (served_view (programs (config_name config)) config); queues = empty }

-- servers in this order: no link, and nobody connected
abbrev pub made_of : (Name → Programs) → List Config → Network
made_of programs ordered = record {
  names = map config_name ordered;
  nodes = map (new_node programs) ordered;
  links = [];
  homes = [];
  received = [];
  items = [];
  taken = 0;
}

-- how the server of a configuration is set up
abbrev pub setting_given : (Name → Programs) → Config → Setting
setting_given programs config =
    configured (serves (programs (config_name config)) (about_of config.own)) config

-- the settings of servers with these configurations, in order of name
pub record AreSettingsOf (programs : Name → Programs) (configs : List Config)
    (settings : List Setting) : Type 0 where
  pub ordered : List Config
  pub same_ones : IsPermutation configs ordered
  pub in_order : IsSortedByKey config_name (slice_cmp nat_cmp) ordered
  pub settings_are : settings ≡ map (setting_given programs) ordered

-- in order of name, and nothing is on its way
pub record IsMadeOf (programs : Name → Programs) (configs : List Config)
    (net : ByteNetwork) : Type 0 where
  pub ordered : List Config
  pub same_ones : IsPermutation configs ordered
  pub in_order : IsSortedByKey config_name (slice_cmp nat_cmp) ordered
  pub network_is : net ≡ no_pipes (made_of programs ordered)

-- what comes of configurations
abbrev pub IsNetMade : (Name → Programs) → List Config → Result NetView NetConfigFault → Type 0
IsNetMade programs configs (Ok net) = (configs_fault configs ≡ None) × (net.failed ≡ false)
    × IsMadeOf programs configs net.network
IsNetMade programs configs (Err Memory) = configs_fault configs ≡ None
IsNetMade programs configs (Err fault) = configs_fault configs ≡ Some fault
