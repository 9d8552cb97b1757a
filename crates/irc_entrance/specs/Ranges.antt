-- Ranges of addresses: who has the same first bits.
use Rattle.std.specs.Prelude.{◌≡◌, ℕ, Bool, ◌+◌, ◌-◌, ◌/◌, ◌^◌, nat_eq, nat_le, if◌then◌else◌}
use Rattle.std.specs.Prelude.{Option, Some, None, option_map, option_and_then, List, [], ◌∷◌}
use Rattle.std.specs.Prelude.{Vec, take, drop, position}
use Rattle.std.specs.List.{list_any}
use Rattle.std.specs.Option.{option_map_or}
use Rattle.std.specs.Net.Grammar.{IsIpText}
use Rattle.std.specs.declared.alloc.Global.{Global}
use Rattle.std.specs.declared.net.ip_addr.IpAddr.{IpAddr}
use Rattle.std.specs.declared.net.ip_addr.IpAddr.TheVariants.{V4, V6}
use Rattle.irc_decimals.specs.Numbers.{written_number}
use Rattle.irc_entrance.specs.Crowds.{address_number}
use Rattle.irc_entrance.specs.declared.address_range.AddressRange.{AddressRange}

-- how many bits an address has
abbrev pub width_of : IpAddr → ℕ
width_of (V4 ip) = 32
width_of (V6 ip) = 128

-- those that have so many first bits with an address: of its number so many last bits are free
abbrev pub range_of : IpAddr → ℕ → AddressRange
range_of address bits =
    record { base = address_number address; free = width_of address - bits }

-- an address is within a range: without the bits that are free the two numbers are the same
abbrev pub is_within : IpAddr → AddressRange → Bool
is_within address range =
    nat_eq (address_number address / 2 ^ range.free) (range.base / 2 ^ range.free)

abbrev pub is_within_any : IpAddr → List AddressRange → Bool
is_within_any address ranges = list_any (is_within address) ranges

-- ---- how a range is written (RFC 4632 section 3.1, RFC 4291 section 2.3)

abbrev pub is_slash : ℕ → Bool
is_slash byte = nat_eq byte 47

-- what stands in front of the first slash, or all, and what behind it, if there is one
abbrev pub before_slash : List ℕ → List ℕ
before_slash text = option_map_or (λ place. take place text) (position is_slash text) text

abbrev pub behind_slash : List ℕ → Option (List ℕ)
behind_slash text = option_map (λ place. drop (place + 1) text) (position is_slash text)

-- so many bits, if an address has so many
abbrev pub bits_within : ℕ → ℕ → Option ℕ
bits_within width bits = if nat_le bits width then Some bits else None

-- how many bits count: all, where there is no slash; else as many as are written in decimal digits
-- without a zero in front of others
abbrev pub bits_said : IpAddr → Option (List ℕ) → Option ℕ
bits_said address None = Some (width_of address)
bits_said address (Some digits) =
    option_and_then (bits_within (width_of address)) (written_number digits)

-- the address that a text writes, if it writes one
abbrev pub WritesAddress : List ℕ → Option IpAddr → Type 0
WritesAddress text (Some address) = IsIpText text address
WritesAddress text None = (address : IpAddr) → ¬ (IsIpText text address)

abbrev pub range_said : Option IpAddr → Option (List ℕ) → Option AddressRange
range_said None digits = None
range_said (Some address) digits = option_map (range_of address) (bits_said address digits)

-- the range that a text writes, if it writes one
pub record ReadsRange (text : List ℕ) (range : Option AddressRange) : Type 0 where
  pub address : Option IpAddr
  pub is_written : WritesAddress (before_slash text) address
  pub range_is : range ≡ range_said address (behind_slash text)

-- the ranges that texts write, in order
pub data AreRanges : List (List ℕ) → List AddressRange → Type 0 where
  nothing : AreRanges [] []
  one_more : {text : List ℕ} {range : AddressRange} {texts : List (List ℕ)}
      {ranges : List AddressRange} → ReadsRange text (Some range) → AreRanges texts ranges
      → AreRanges (text ∷ texts) (range ∷ ranges)

-- one of some texts writes none
pub data IsSomeNoRange : List (List ℕ) → Type 0 where
  this : {text : List ℕ} {texts : List (List ℕ)} → ReadsRange text None
      → IsSomeNoRange (text ∷ texts)
  later : {text : List ℕ} {texts : List (List ℕ)} → IsSomeNoRange texts
      → IsSomeNoRange (text ∷ texts)

abbrev pub ReadsRanges : List (List ℕ) → Option (Vec AddressRange Global) → Type 0
ReadsRanges texts (Some ranges) = AreRanges texts ranges.items
ReadsRanges texts None = IsSomeNoRange texts
