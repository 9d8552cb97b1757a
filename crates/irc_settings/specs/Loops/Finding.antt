-- What the code finds at one key of a table, and what it reads a value as.
use Rattle.std.specs.Prelude.{◌≡◌, ℕ, pos, Bool, true, false, Option, Some, None, Result, Ok, Err}
use Rattle.std.specs.Prelude.{is_some, option_map, ◌&&◌, List, map, codes, String, Vec}
use Rattle.std.specs.Prelude.{string_bytes}
use Rattle.std.specs.List.{filter_map, list_all, list_any}
use Rattle.std.specs.Option.{unwrap_or}
use Rattle.std.specs.Str.{bytes_eq}
use Rattle.toml.specs.Data.{Data, Members, as_bool, as_integer, as_str, as_table}
use Rattle.toml.specs.Parse.{parse_document}
use Rattle.toml.specs.View.{table_view, view}
use Rattle.toml.specs.declared.value.Value.{Value}
use Rattle.std.specs.BTreeMap.{BTreeMap}
use Rattle.std.specs.declared.alloc.Global.{Global}
use Rattle.irc_settings.specs.Configuration.{Tells, flag_at, integer_at, limit_at, pace_at}
use Rattle.irc_settings.specs.Configuration.{pace_told, peer_at, peer_told, tables_at, tables_in}
use Rattle.irc_settings.specs.Configuration.{text_at, texts_at, texts_in}
use Rattle.irc_settings.specs.Keys.{flag, integer, is_in_form, is_kept, is_of_kind, is_peer}
use Rattle.irc_settings.specs.Keys.{is_server, is_table, needed, optional, server_keys, tables}
use Rattle.irc_settings.specs.Keys.{is_text, text, texts}
use Rattle.irc_settings.specs.declared.settings.LinesPace.{LinesPace}
use Rattle.irc_settings.specs.declared.settings.PeerSettings.{PeerSettings}
use Rattle.irc_settings.specs.declared.settings.Settings.{Settings}
use denote.Ref.{Bor}
use Rattle.irc_settings.specs.declared.fault.SettingsFault.{SettingsFault}
use Rattle.irc_settings.specs.declared.fault.SettingsFault.TheVariants.{BadConfiguration, Memory}

-- where a test is passed, what is found is so; where it is not, that is the fault
abbrev pub FindsValue : {X : Type 0} → Bool → (X → Type 0) → Result X SettingsFault → Type 0
FindsValue passes Is (Ok found) = (passes ≡ true) × Is found
FindsValue passes Is (Err BadConfiguration) = passes ≡ false
FindsValue passes Is (Err Memory) = Unit {0}

-- the document that a text is
abbrev pub IsParsedAs : List ℕ → Result (BTreeMap (String Global) Value) SettingsFault → Type 0
IsParsedAs bytes (Ok document) = parse_document bytes ≡ Some (table_view document)
IsParsedAs bytes (Err BadConfiguration) = parse_document bytes ≡ None
IsParsedAs bytes (Err Memory) = Unit {0}

-- the data of a value that is lent
abbrev pub view_now : Bor Value → Data
view_now value = view value.now

-- whether a key is one of these names
abbrev pub is_allowed : List (Bor (List ℕ)) → String Global → Bool
is_allowed names key = list_any (λ name. bytes_eq (string_bytes key) name.now) names

-- ---- one value

-- a text
abbrev pub ReadsAsText : Data → Result (String Global) SettingsFault → Type 0
ReadsAsText value =
    FindsValue (is_some (as_str value)) (λ found. as_str value ≡ Some (string_bytes found))

-- a number of bytes, of so many at most
abbrev pub ReadsAsRoom : ℕ → Data → Result ℕ SettingsFault → Type 0
ReadsAsRoom most value =
    FindsValue (is_of_kind (integer 512 most) value) (λ found. as_integer value ≡ Some (pos found))

-- a number from the first of these to the second
abbrev pub ReadsAsNumber : ℕ → ℕ → Data → Result ℕ SettingsFault → Type 0
ReadsAsNumber least most value =
    FindsValue (is_of_kind (integer least most) value)
    (λ found. as_integer value ≡ Some (pos found))

-- a boolean
abbrev pub ReadsAsFlag : Data → Result Bool SettingsFault → Type 0
ReadsAsFlag value = FindsValue (is_of_kind flag value) (λ found. as_bool value ≡ Some found)

-- ---- what stands at a key

-- a text that has to be there
abbrev pub FindsText : List ℕ → Members → Result (String Global) SettingsFault → Type 0
FindsText key table = FindsValue (is_kept table (needed key text))
    (λ found. text_at key table ≡ Some (string_bytes found))

-- a text that may be left out
abbrev pub FindsOptionalText : List ℕ → Members → Result (Option (String Global)) SettingsFault
    → Type 0
FindsOptionalText key table = FindsValue (is_kept table (optional key text))
    (λ found. text_at key table ≡ option_map string_bytes found)

-- a number of bytes that has to be there, of so many at most
abbrev pub FindsRoom : List ℕ → ℕ → Members → Result ℕ SettingsFault → Type 0
FindsRoom key most table = FindsValue (is_kept table (needed key (integer 512 most)))
    (λ found. integer_at key table ≡ Some (pos found))

-- a number that may be left out, from 1 to so many
abbrev pub FindsOptionalNumber : List ℕ → ℕ → Members → Result (Option ℕ) SettingsFault → Type 0
FindsOptionalNumber key most table = FindsValue (is_kept table (optional key (integer 1 most)))
    (λ found. integer_at key table ≡ option_map pos found)

-- a limit, of so many at most; where it is left out, the one that the other number sets
abbrev pub FindsLimit : List ℕ → ℕ → ℕ → Members → Result (Option ℕ) SettingsFault → Type 0
FindsLimit key most left_out table = FindsValue (is_kept table (optional key (integer 0 most)))
    (λ found. limit_at key left_out table ≡ option_map pos found)

-- a boolean that may be left out
abbrev pub FindsFlag : List ℕ → Members → Result Bool SettingsFault → Type 0
FindsFlag key table =
    FindsValue (is_kept table (optional key flag)) (λ found. flag_at key table ≡ found)

-- ---- the pace of lines

-- of numbers of lines in a second and at once
abbrev pub paced : (per_second burst : Option ℕ) → Option LinesPace
paced per_second burst =
    option_map (λ count. record { per_second = count; burst = unwrap_or burst 10 }) per_second

-- the numbers at both keys, of which the second is left out where the first is
abbrev pub FindsPace : Members → Result (Option LinesPace) SettingsFault → Type 0
FindsPace table =
    FindsValue (is_kept table (optional (codes "lines_per_second") (integer 1 1000))
    && is_kept table (optional (codes "burst_lines") (integer 1 1000)))
    (λ found. pace_at table ≡ option_map pace_told found)

-- ---- peers

-- a table tells of a peer, and so does a value that is such a table
abbrev pub ReadsPeer : Members → Result PeerSettings SettingsFault → Type 0
ReadsPeer table = FindsValue (is_peer table) (λ found. peer_at table ≡ peer_told found)

abbrev pub ReadsAsPeer : Data → Result PeerSettings SettingsFault → Type 0
ReadsAsPeer value = FindsValue (is_table is_peer value)
    (λ found. option_map peer_at (as_table value) ≡ Some (peer_told found))

-- each of these values is such a table
abbrev pub ReadsEachPeer : List Data → Result (Vec PeerSettings Global) SettingsFault → Type 0
ReadsEachPeer values =
    FindsValue (list_all (is_table is_peer) values)
    (λ found. map peer_at (filter_map as_table values) ≡ map peer_told found.items)

-- a value is an array of such tables
abbrev pub ReadsAsPeers : Data → Result (Vec PeerSettings Global) SettingsFault → Type 0
ReadsAsPeers value = FindsValue (is_of_kind (tables is_peer) value)
    (λ found. map peer_at (tables_in value) ≡ map peer_told found.items)

-- the array of such tables at the key `peer`, which may be left out
abbrev pub FindsPeers : Members → Result (Vec PeerSettings Global) SettingsFault → Type 0
FindsPeers table =
    FindsValue (is_kept table (optional (codes "peer") (tables is_peer)))
    (λ found. map peer_at (tables_at (codes "peer") table) ≡ map peer_told found.items)

-- ---- lists of texts

-- each of these values is a text
abbrev pub ReadsEachText : List Data → Result (Vec (String Global) Global) SettingsFault → Type 0
ReadsEachText values =
    FindsValue (list_all is_text values)
    (λ found. filter_map as_str values ≡ map string_bytes found.items)

-- a value is an array of texts
abbrev pub ReadsAsTexts : Data → Result (Vec (String Global) Global) SettingsFault → Type 0
ReadsAsTexts value = FindsValue (is_of_kind texts value)
    (λ found. texts_in value ≡ map string_bytes found.items)

-- the array of texts at a key, which may be left out
abbrev pub FindsTexts : List ℕ → Members → Result (Vec (String Global) Global) SettingsFault
    → Type 0
FindsTexts key table = FindsValue (is_kept table (optional key texts))
    (λ found. texts_at key table ≡ map string_bytes found.items)

-- ---- the document

-- what a document tells at its keys, where these are in form
abbrev pub ReadsKeys : Members → Result Settings SettingsFault → Type 0
ReadsKeys document = FindsValue (is_in_form server_keys document) (Tells document)

-- what a document tells
abbrev pub ReadsSettings : Members → Result Settings SettingsFault → Type 0
ReadsSettings document = FindsValue (is_server document) (Tells document)
