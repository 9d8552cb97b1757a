-- The bytes with which a proxy says for whom it comes, version 2 of the PROXY protocol
-- (proxy-protocol.txt section 2.2).
use Rattle.std.specs.Prelude.{◌≡◌, ℕ, ◌+◌, ◌-◌, ◌*◌, Bool, true, ◌&&◌, ◌||◌, nat_eq, nat_lt, nat_le}
use Rattle.std.specs.Prelude.{if◌then◌else◌, Option, Some, None, List, length, take, drop}
use Rattle.std.specs.Prelude.{slice_index}
use Rattle.std.specs.Net.Addr.{segments_of}
use Rattle.std.specs.declared.net.ip_addr.IpAddr.{IpAddr}
use Rattle.std.specs.declared.net.ip_addr.IpAddr.TheVariants.{V4, V6}

-- a byte by its place, the first at 0; 0 where there is none
abbrev pub byte_at : ℕ → List ℕ → ℕ
byte_at place bytes = slice_index bytes place

-- how many bytes follow the first 16, as the last two of these say, the high one first
abbrev pub behind : List ℕ → ℕ
behind bytes = byte_at 14 bytes * 256 + byte_at 15 bytes

-- version 2 with the command LOCAL: the proxy comes for itself, as for a check
abbrev pub is_local : List ℕ → Bool
is_local bytes = nat_eq (byte_at 12 bytes) 0x20

-- TCP over IPv4 has 12 bytes of addresses and ports, over IPv6 36; more may follow
abbrev pub is_tcp4 : List ℕ → Bool
is_tcp4 bytes = nat_eq (byte_at 13 bytes) 0x11 && nat_le 12 (behind bytes)

abbrev pub is_tcp6 : List ℕ → Bool
is_tcp6 bytes = nat_eq (byte_at 13 bytes) 0x21 && nat_le 36 (behind bytes)

-- version 2 with the command PROXY: it comes for somebody
abbrev pub has_ends : List ℕ → Bool
has_ends bytes = nat_eq (byte_at 12 bytes) 0x21 && (is_tcp4 bytes || is_tcp6 bytes)

-- a header is taken with at most 512 bytes behind its first 16 (ours)
abbrev pub is_taken : List ℕ → Bool
is_taken bytes = nat_le (behind bytes) 512 && (is_local bytes || has_ends bytes)

-- how many more bytes a header has at least, of which these are the first
abbrev pub more_of_bytes : List ℕ → ℕ
more_of_bytes bytes =
    if nat_lt (length bytes) 16 then 16 - length bytes
    else (if is_taken bytes then (16 + behind bytes) - length bytes else 0)

abbrev pub is_whole : List ℕ → Bool
is_whole bytes = is_taken bytes && nat_eq (length bytes) (16 + behind bytes)

-- the address with which some bytes begin, by four octets or by eight segments of two; none, where
-- there are fewer
abbrev pub ipv4_of : List ℕ → Option IpAddr
ipv4_of bytes =
    if nat_lt (length bytes) 4 then None else Some (V4 (record { octets = take 4 bytes }))

abbrev pub ipv6_of : List ℕ → Option IpAddr
ipv6_of bytes =
    if nat_lt (length bytes) 16 then None
    else Some (V6 (record { segments = segments_of (take 16 bytes) }))

-- the source stands first behind the 16 bytes
abbrev pub source_in : List ℕ → Option IpAddr
source_in bytes = if is_tcp4 bytes then ipv4_of (drop 16 bytes) else ipv6_of (drop 16 bytes)

abbrev pub named_by : List ℕ → Option IpAddr
named_by bytes = if is_local bytes then None else source_in bytes

-- bytes are a header that names somebody, or nobody
pub record IsBytes (bytes : List ℕ) (named : Option IpAddr) : Type 0 where
  pub is_whole : is_whole bytes ≡ true
  pub named_is : named ≡ named_by bytes
