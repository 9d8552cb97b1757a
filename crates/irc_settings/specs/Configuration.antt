-- Which texts are configurations, and what is read of one.
use Rattle.std.specs.Prelude.{◌≡◌, ℕ, zero, ℤ, pos, Bool, true, false, Option, Some, None}
use Rattle.std.specs.Prelude.{Result, Ok, Err}
use Rattle.std.specs.Prelude.{option_map, option_and_then, List, [], map, codes, string_bytes}
use Rattle.std.specs.List.{filter_map}
use Rattle.std.specs.Option.{option_map_or, unwrap_or}
use Rattle.toml.specs.Data.{Data, Members, get_member, as_str, as_integer, as_bool, as_array}
use Rattle.toml.specs.Data.{as_table}
use Rattle.toml.specs.Parse.{parse_document}
use Rattle.irc_settings.specs.declared.settings.Settings.{Settings}
use Rattle.irc_settings.specs.declared.settings.PeerSettings.{PeerSettings}
use Rattle.irc_settings.specs.declared.settings.LinesPace.{LinesPace}
use Rattle.irc_settings.specs.declared.fault.SettingsFault.{SettingsFault}
use Rattle.irc_settings.specs.declared.fault.SettingsFault.TheVariants.{BadConfiguration, Memory}
use Rattle.irc_settings.specs.Keys.{is_server, values_in}

-- the text and the integer that a table has at a key
abbrev pub text_at : List ℕ → Members → Option (List ℕ)
text_at key table = option_and_then as_str (get_member key table)

abbrev pub integer_at : List ℕ → Members → Option ℤ
integer_at key table = option_and_then as_integer (get_member key table)

-- whether a table says so at a key: where it has nothing there, it does not
abbrev pub flag_at : List ℕ → Members → Bool
flag_at key table = unwrap_or (option_and_then as_bool (get_member key table)) false

-- the limit that a number sets: 0 is no limit
abbrev pub limit_set : ℤ → Option ℤ
limit_set (pos zero) = None
limit_set number = Some number

-- the limit that a table sets at a key; where it has nothing there, the one that this number sets
abbrev pub limit_at : List ℕ → ℕ → Members → Option ℤ
limit_at key left_out table = limit_set (unwrap_or (integer_at key table) (pos left_out))

-- the tables in an array, and those in the array at a key; none where there is none
abbrev pub tables_in : Data → List Members
tables_in value = option_map_or (λ items. filter_map as_table (values_in items)) (as_array value) []

abbrev pub tables_at : List ℕ → Members → List Members
tables_at key table = option_map_or tables_in (get_member key table) []

-- likewise the texts
abbrev pub texts_in : Data → List (List ℕ)
texts_in value = option_map_or (λ items. filter_map as_str (values_in items)) (as_array value) []

abbrev pub texts_at : List ℕ → Members → List (List ℕ)
texts_at key table = option_map_or texts_in (get_member key table) []

-- what a table tells of a peer
pub record PeerTold : Type 0 where
  pub name : Option (List ℕ)
  pub password : Option (List ℕ)
  pub connect : Option (List ℕ)
  pub retry : Option ℤ
  pub plain : Bool

abbrev pub peer_at : Members → PeerTold
peer_at table = record {
  name = text_at (codes "name") table;
  password = text_at (codes "password") table;
  connect = text_at (codes "connect") table;
  retry = integer_at (codes "retry") table;
  plain = flag_at (codes "plain") table;
}

abbrev pub peer_told : PeerSettings → PeerTold
peer_told peer = record {
  name = Some (string_bytes peer.name);
  password = Some (string_bytes peer.password);
  connect = option_map string_bytes peer.connect;
  retry = option_map pos peer.retry;
  plain = peer.plain;
}

-- how many lines of a client a table lets through: in a second, where it says so, and at once,
-- which are 10 where it does not say
pub record PaceTold : Type 0 where
  pub per_second : ℤ
  pub burst : ℤ

abbrev pub pace_of : Option ℤ → ℤ → PaceTold
pace_of burst per_second = record { per_second = per_second; burst = unwrap_or burst (pos 10) }

abbrev pub pace_at : Members → Option PaceTold
pace_at table = option_map (pace_of (integer_at (codes "burst_lines") table))
    (integer_at (codes "lines_per_second") table)

abbrev pub pace_told : LinesPace → PaceTold
pace_told pace = record { per_second = pos pace.per_second; burst = pos pace.burst }

-- the settings are what the document has at their keys
pub record Tells (document : Members) (settings : Settings) : Type 0 where
  pub name : text_at (codes "name") document ≡ Some (string_bytes settings.name)
  pub info : text_at (codes "info") document ≡ Some (string_bytes settings.info)
  pub created : text_at (codes "created") document ≡ Some (string_bytes settings.created)
  pub listen : text_at (codes "listen") document ≡ Some (string_bytes settings.listen)
  pub client_room : integer_at (codes "client_room") document ≡ Some (pos settings.client_room)
  pub link_room : integer_at (codes "link_room") document ≡ Some (pos settings.link_room)
  pub listen_links : text_at (codes "listen_links") document
      ≡ option_map string_bytes settings.listen_links
  pub connections_per_address :
      integer_at (codes "connections_per_address") document
      ≡ option_map pos settings.connections_per_address
  pub name_within : limit_at (codes "name_within") 10 document
      ≡ option_map pos settings.name_within
  pub links_per_address : limit_at (codes "links_per_address") 16 document
      ≡ option_map pos settings.links_per_address
  pub register_within : integer_at (codes "register_within") document
      ≡ option_map pos settings.register_within
  pub pace : pace_at document ≡ option_map pace_told settings.pace
  pub programs : flag_at (codes "programs") document ≡ settings.programs
  pub motd : text_at (codes "motd") document ≡ option_map string_bytes settings.motd
  pub password : text_at (codes "password") document ≡ option_map string_bytes settings.password
  pub ping_after : integer_at (codes "ping_after") document ≡ option_map pos settings.ping_after
  pub deny : texts_at (codes "deny") document ≡ map string_bytes settings.deny.items
  pub proxies : texts_at (codes "proxies") document ≡ map string_bytes settings.proxies.items
  pub peers : map peer_at (tables_at (codes "peer") document) ≡ map peer_told settings.peers.items

-- whether a text is a configuration: a TOML document with the keys that it has to have, and no
-- others
abbrev pub is_configuration : List ℕ → Bool
is_configuration text = option_map_or is_server (parse_document text) false

-- what comes of reading a text
abbrev pub AreSettingsOf : List ℕ → Result Settings SettingsFault → Type 0
AreSettingsOf text (Ok settings) = (document : Members) × (parse_document text ≡ Some document)
    × (is_server document ≡ true) × Tells document settings
AreSettingsOf text (Err BadConfiguration) = is_configuration text ≡ false
AreSettingsOf text (Err Memory) = Unit {0}
