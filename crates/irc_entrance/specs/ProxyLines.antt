-- The line with which a proxy says for whom it comes, version 1 of the PROXY protocol
-- (proxy-protocol.txt section 2.1).
use Rattle.std.specs.Prelude.{◌≡◌, ℕ, ◌-◌, Bool, true, false, ◌&&◌, ◌||◌, nat_eq}
use Rattle.std.specs.Prelude.{nat_lt, nat_le, if◌then◌else◌, min, ⊤, Option}
use Rattle.std.specs.Prelude.{Some, None, List, [], ◌∷◌, length}
use Rattle.std.specs.Prelude.{take, drop, codes}
use Rattle.std.specs.List.{slice_split, starts_with, ends_with}
use Rattle.std.specs.Option.{option_map_or}
use Rattle.std.specs.Str.{bytes_eq}
use Rattle.std.specs.Net.Addr.{is_ipv4}
use Rattle.std.specs.Net.Grammar.{IsIpText}
use Rattle.std.specs.declared.net.ip_addr.IpAddr.{IpAddr}
use Rattle.irc_decimals.specs.Numbers.{written_number}
use Rattle.irc_entrance.specs.declared.proxy_line.LineEnds.{LineEnds}
use Rattle.irc_entrance.specs.declared.proxy_line.LineFamily.{LineFamily}
use Rattle.irc_entrance.specs.declared.proxy_line.LineFamily.TheVariants.{Tcp4, Tcp6, Unknown}
use Rattle.irc_entrance.specs.declared.proxy_line.LineFamily.TheVariants.{Other}

-- ---- where a line ends

-- CR LF, and CR
abbrev pub line_end : List ℕ
line_end = 13 ∷ 10 ∷ []

abbrev pub ends_in : List ℕ → List ℕ → Bool
ends_in end bytes = ends_with nat_eq bytes end

-- how many more bytes a line has at least, of which these are the first: the shortest has 15, the
-- longest 107, and each ends with its first CR LF
abbrev pub more_of_line : List ℕ → ℕ
more_of_line bytes =
    if nat_lt (length bytes) 15 then 15 - length bytes
    else (if ends_in line_end bytes then 0
    else min (if ends_in (13 ∷ []) bytes then 1 else 2) (107 - length bytes))

abbrev pub is_line : List ℕ → Bool
is_line bytes = ends_in line_end bytes && nat_le (length bytes) 107

-- ---- what a line says

abbrev pub is_space : ℕ → Bool
is_space byte = nat_eq byte 32

-- its words, with one space between two
abbrev pub words_of : List ℕ → List (List ℕ)
words_of text = slice_split is_space text

-- a port: 0 to 65535, with no zero in front of other digits
abbrev pub is_port : List ℕ → Bool
is_port word = option_map_or (λ port. nat_le port 65535) (written_number word) false

-- a word is an address of a family
pub record IsAddress (is_of_ipv4 : Bool) (word : List ℕ) (address : IpAddr) : Type 0 where
  pub is_written : IsIpText word address
  pub family : is_ipv4 address ≡ is_of_ipv4

-- what stands behind the family: the source, the destination and the ports of both
pub record AreEnds (is_of_ipv4 : Bool) (text : List ℕ) (source : IpAddr) : Type 0 where
  pub from : List ℕ
  pub to : List ℕ
  pub from_port : List ℕ
  pub to_port : List ℕ
  pub destination : IpAddr
  pub words_are : words_of text ≡ from ∷ to ∷ from_port ∷ to_port ∷ []
  pub source_is : IsAddress is_of_ipv4 from source
  pub destination_is : IsAddress is_of_ipv4 to destination
  pub from_port_is : is_port from_port ≡ true
  pub to_port_is : is_port to_port ≡ true

-- a line that names nobody may have more behind the word, which says nothing
abbrev pub is_unknown : List ℕ → Bool
is_unknown text =
    bytes_eq text (codes "PROXY UNKNOWN") || starts_with nat_eq text (codes "PROXY UNKNOWN ")

abbrev pub family_of : List ℕ → LineFamily
family_of text =
    if starts_with nat_eq text (codes "PROXY TCP4 ") then Tcp4
    else (if starts_with nat_eq text (codes "PROXY TCP6 ") then Tcp6
    else (if is_unknown text then Unknown else Other))

-- whom a line names, without its CR LF
abbrev pub IsSource : Bool → List ℕ → Option IpAddr → Type 0
IsSource is_of_ipv4 text (Some source) = AreEnds is_of_ipv4 text source
IsSource is_of_ipv4 text None = ⊥

abbrev pub IsNobody : Option IpAddr → Type 0
IsNobody (Some source) = ⊥
IsNobody None = ⊤

abbrev pub IsNamed : LineFamily → List ℕ → Option IpAddr → Type 0
IsNamed Tcp4 text = IsSource true (drop 11 text)
IsNamed Tcp6 text = IsSource false (drop 11 text)
IsNamed Unknown text = IsNobody
IsNamed Other text = λ named. ⊥

abbrev pub without_end : List ℕ → List ℕ
without_end bytes = take (length bytes - 2) bytes

-- bytes are a line that names somebody, or nobody
pub record IsLine (bytes : List ℕ) (named : Option IpAddr) : Type 0 where
  pub is_line : is_line bytes ≡ true
  pub named_is : IsNamed (family_of (without_end bytes)) (without_end bytes) named

-- ---- what is found

abbrev pub FindsAddress : Bool → List ℕ → Option IpAddr → Type 0
FindsAddress is_of_ipv4 word (Some address) = IsAddress is_of_ipv4 word address
FindsAddress is_of_ipv4 word None = (address : IpAddr) → ¬ (IsAddress is_of_ipv4 word address)

abbrev pub FindsSource : Bool → List ℕ → Option IpAddr → Type 0
FindsSource is_of_ipv4 text (Some source) = AreEnds is_of_ipv4 text source
FindsSource is_of_ipv4 text None = (source : IpAddr) → ¬ (AreEnds is_of_ipv4 text source)

-- the four words of a text, if it has four
abbrev pub AreWords : List ℕ → Option LineEnds → Type 0
AreWords text (Some ends) =
    words_of text
    ≡ ends.source.now ∷ ends.destination.now ∷ ends.source_port.now ∷ ends.destination_port.now ∷ []
AreWords text None = nat_eq (length (words_of text)) 4 ≡ false
