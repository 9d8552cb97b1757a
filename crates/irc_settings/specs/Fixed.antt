-- What a server keeps until it starts again, whatever its file says meanwhile: who it is, where it
-- listens, its peers, rooms and times, what clients are asked and told. Whether a file that is read
-- again says something else there is told by key.
use Rattle.std.specs.Prelude.{ℕ, Bool, true, false, not, ◌&&◌, Option, Some, None, List, codes}
use Rattle.std.specs.Prelude.{[], ◌∷◌}
use Rattle.std.specs.Prelude.{option_map, string_bytes, nat_eq}
use Rattle.std.specs.Cmp.Lexicographic.{pointwise}
use Rattle.irc_settings.specs.declared.fixed.FixedKey.{FixedKey}
use Rattle.irc_settings.specs.declared.fixed.FixedKey.TheVariants.{Name, Info, Created, Listen}
use Rattle.irc_settings.specs.declared.fixed.FixedKey.TheVariants.{ListenLinks, ClientRoom}
use Rattle.irc_settings.specs.declared.fixed.FixedKey.TheVariants.{LinkRoom, NameWithin}
use Rattle.irc_settings.specs.declared.fixed.FixedKey.TheVariants.{RegisterWithin, Programs}
use Rattle.irc_settings.specs.declared.fixed.FixedKey.TheVariants.{Password, PingAfter, Peer}
use Rattle.irc_settings.specs.declared.settings.Settings.{Settings}
use Rattle.irc_settings.specs.declared.settings.PeerSettings.{PeerSettings}

-- all of them, in the order of the settings
abbrev pub fixed_keys : List FixedKey
fixed_keys = Name ∷ Info ∷ Created ∷ Listen ∷ ListenLinks ∷ ClientRoom ∷ LinkRoom ∷ NameWithin
    ∷ RegisterWithin ∷ Programs ∷ Password ∷ PingAfter ∷ Peer ∷ []

-- how a key is written in the file
abbrev pub key_name : FixedKey → List ℕ
key_name Name = codes "name"
key_name Info = codes "info"
key_name Created = codes "created"
key_name Listen = codes "listen"
key_name ListenLinks = codes "listen_links"
key_name ClientRoom = codes "client_room"
key_name LinkRoom = codes "link_room"
key_name NameWithin = codes "name_within"
key_name RegisterWithin = codes "register_within"
key_name Programs = codes "programs"
key_name Password = codes "password"
key_name PingAfter = codes "ping_after"
key_name Peer = codes "peer"

-- texts are compared by their bytes
abbrev pub same_text : List ℕ → List ℕ → Bool
same_text = pointwise nat_eq

abbrev pub same_text_if : Option (List ℕ) → Option (List ℕ) → Bool
same_text_if None None = true
same_text_if (Some one) (Some other) = same_text one other
same_text_if one other = false

abbrev pub same_number : Option ℕ → Option ℕ → Bool
same_number None None = true
same_number (Some one) (Some other) = nat_eq one other
same_number one other = false

abbrev pub same_flag : Bool → Bool → Bool
same_flag true other = other
same_flag false other = not other

-- all that stands in two tables `peer` is the same
abbrev pub same_peer : PeerSettings → PeerSettings → Bool
same_peer one other = same_text (string_bytes one.name) (string_bytes other.name)
    && (same_text (string_bytes one.password) (string_bytes other.password)
    && (same_text_if (option_map string_bytes one.connect) (option_map string_bytes other.connect)
    && (same_number one.retry other.retry && same_flag one.plain other.plain)))

-- the same stands at a key
abbrev pub same_at : FixedKey → Settings → Settings → Bool
same_at Name one other = same_text (string_bytes one.name) (string_bytes other.name)
same_at Info one other = same_text (string_bytes one.info) (string_bytes other.info)
same_at Created one other = same_text (string_bytes one.created) (string_bytes other.created)
same_at Listen one other = same_text (string_bytes one.listen) (string_bytes other.listen)
same_at ListenLinks one other = same_text_if
    (option_map string_bytes one.listen_links) (option_map string_bytes other.listen_links)
same_at ClientRoom one other = nat_eq one.client_room other.client_room
same_at LinkRoom one other = nat_eq one.link_room other.link_room
same_at NameWithin one other = same_number one.name_within other.name_within
same_at RegisterWithin one other = same_number one.register_within other.register_within
same_at Programs one other = same_flag one.programs other.programs
same_at Password one other =
    same_text_if (option_map string_bytes one.password) (option_map string_bytes other.password)
same_at PingAfter one other = same_number one.ping_after other.ping_after
same_at Peer one other = pointwise same_peer one.peers.items other.peers.items

abbrev pub differs_at : FixedKey → Settings → Settings → Bool
differs_at key one other = not (same_at key one other)
