-- The keys that a configuration may have, and what may stand at each (our own choice).
use Rattle.std.specs.Prelude.{ℕ, ℤ, pos, negsuc, nat_le, Bool, true, false, not, ◌&&◌, ◌||◌}
use Rattle.std.specs.Prelude.{is_some, List, [], ◌∷◌, codes}
use Rattle.std.specs.List.{list_any, list_all}
use Rattle.std.specs.Str.{bytes_eq}
use Rattle.std.specs.Option.{option_map_or}
use Rattle.toml.specs.Data.{Data, Items, no_items, item, Members, no_members, member, get_member}
use Rattle.toml.specs.Data.{as_str, as_integer, as_bool, as_array, as_table}

-- what may stand at a key
pub data Kind : Type 0 where
  text : Kind
  -- an integer from the first of these numbers to the second
  integer : ℕ → ℕ → Kind
  flag : Kind
  -- an array of texts
  texts : Kind
  -- an array of tables that all pass this test
  tables : (Members → Bool) → Kind

pub record SettingKey : Type 0 where
  pub name : List ℕ
  pub kind : Kind
  -- whether it has to be there
  pub is_needed : Bool

abbrev pub needed : List ℕ → Kind → SettingKey
needed name kind = record { name = name; kind = kind; is_needed = true }

abbrev pub optional : List ℕ → Kind → SettingKey
optional name kind = record { name = name; kind = kind; is_needed = false }

abbrev pub is_number_between : ℕ → ℕ → ℤ → Bool
is_number_between least most (pos number) = nat_le least number && nat_le number most
is_number_between least most (negsuc number) = false

-- the values of an array, and the keys of a table
abbrev pub values_in : Items → List Data
values_in no_items = []
values_in (item value items) = value ∷ values_in items

abbrev pub keys_in : Members → List (List ℕ)
keys_in no_members = []
keys_in (member key value members) = key ∷ keys_in members

-- whether a value is a table that passes a test, and an array of such
abbrev pub is_table : (Members → Bool) → Data → Bool
is_table test value = option_map_or test (as_table value) false

abbrev pub are_tables : (Members → Bool) → Items → Bool
are_tables test items = list_all (is_table test) (values_in items)

-- whether an array has texts alone
abbrev pub is_text : Data → Bool
is_text value = is_some (as_str value)

abbrev pub are_texts : Items → Bool
are_texts items = list_all is_text (values_in items)

-- whether a value may stand at a key of this kind
abbrev pub is_of_kind : Kind → Data → Bool
is_of_kind text value = is_some (as_str value)
is_of_kind (integer least most) value =
    option_map_or (is_number_between least most) (as_integer value) false
is_of_kind flag value = is_some (as_bool value)
is_of_kind texts value = option_map_or are_texts (as_array value) false
is_of_kind (tables test) value = option_map_or (are_tables test) (as_array value) false

-- whether what a table has at a key may stand there: where it has nothing, whether the key may be
-- left out
abbrev pub is_kept : Members → SettingKey → Bool
is_kept table key =
    option_map_or (is_of_kind key.kind) (get_member key.name table) (not key.is_needed)

-- whether a name is one of these keys
abbrev pub is_known_key : List SettingKey → List ℕ → Bool
is_known_key keys name = list_any (λ key. bytes_eq name key.name) keys

-- whether a table has these keys, each with what may stand there, and no others
abbrev pub is_in_form : List SettingKey → Members → Bool
is_in_form keys table =
    list_all (is_known_key keys) (keys_in table) && list_all (is_kept table) keys

-- the keys of a table `peer`: a server that may be linked to
abbrev pub peer_keys : List SettingKey
peer_keys =
    needed (codes "name") text ∷ needed (codes "password") text
    ∷ optional (codes "connect") text ∷ optional (codes "retry") (integer 1 3600)
    ∷ optional (codes "plain") flag ∷ []

-- whether a table has something at a key
abbrev pub has_key : List ℕ → Members → Bool
has_key key table = is_some (get_member key table)

-- whether a server of which it is said how it is called is one that is called
abbrev pub is_called_if_told_how : Members → Bool
is_called_if_told_how table =
    (not (has_key (codes "retry") table) && not (has_key (codes "plain") table))
    || has_key (codes "connect") table

-- whether a table is one `peer`
abbrev pub is_peer : Members → Bool
is_peer table = is_in_form peer_keys table && is_called_if_told_how table

-- the keys of the document
abbrev pub server_keys : List SettingKey
server_keys =
    needed (codes "name") text ∷ needed (codes "info") text ∷ needed (codes "created") text ∷ needed
    (codes "listen") text
    ∷ needed (codes "client_room") (integer 512 1048576) ∷ needed (codes "link_room")
    (integer 512 16777216)
    ∷ optional (codes "listen_links") text ∷ optional (codes "connections_per_address")
    (integer 1 65535)
    ∷ optional (codes "name_within") (integer 0 3600) ∷ optional (codes "links_per_address")
    (integer 0 65535)
    ∷ optional (codes "register_within") (integer 1 3600)
    ∷ optional (codes "lines_per_second") (integer 1 1000)
    ∷ optional (codes "burst_lines") (integer 1 1000) ∷ optional (codes "programs") flag
    ∷ optional (codes "motd") text ∷ optional (codes "password") text
    ∷ optional (codes "ping_after") (integer 1 3600) ∷ optional (codes "deny") texts
    ∷ optional (codes "proxies") texts
    ∷ optional (codes "peer") (tables is_peer) ∷ []

-- whether a number of lines at once goes with one of lines in a second
abbrev pub bursts_are_paced : Members → Bool
bursts_are_paced table =
    not (has_key (codes "burst_lines") table) || has_key (codes "lines_per_second") table

-- whether a table is a document of settings
abbrev pub is_server : Members → Bool
is_server table = is_in_form server_keys table && bursts_are_paced table
