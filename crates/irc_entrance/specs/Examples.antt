-- Who is in a range, and what a header is: the examples of `Ranges.antt`, `ProxyLines.antt` and
-- `ProxyBytes.antt`.
use Rattle.std.specs.Prelude.{◌≡◌, ℕ, true, false, Some, None, List, [], ◌∷◌, ◌++◌, codes}
use Rattle.std.specs.Prelude.{replicate}
use Rattle.std.specs.declared.net.ip_addr.IpAddr.{IpAddr}
use Rattle.std.specs.declared.net.ip_addr.IpAddr.TheVariants.{V4, V6}
use Rattle.irc_entrance.specs.ProxyBytes.{is_whole, named_by}
use Rattle.irc_entrance.specs.ProxyLines.{family_of, is_line, is_port, words_of}
use Rattle.irc_entrance.specs.Proxying.{kind_of, more_of, signature}
use Rattle.irc_entrance.specs.Ranges.{before_slash, behind_slash, bits_said, is_within, range_of}
use Rattle.irc_entrance.specs.declared.proxy_header.HeaderKind.TheVariants.{Neither}
use Rattle.irc_entrance.specs.declared.proxy_line.LineFamily.TheVariants.{Tcp4, Tcp6, Unknown}
use Rattle.irc_entrance.specs.declared.proxy_line.LineFamily.TheVariants.{Other}

-- an address of IPv4 by its octets, and one of IPv6 by its first segment, its second and its last
abbrev pub ipv4 : (a b c d : ℕ) → IpAddr
ipv4 a b c d = V4 (record { octets = a ∷ b ∷ c ∷ d ∷ [] })

abbrev pub ipv6 : (first second last : ℕ) → IpAddr
ipv6 first second last =
    V6 (record { segments = first ∷ second ∷ 0 ∷ 0 ∷ 0 ∷ 0 ∷ 0 ∷ last ∷ [] })

-- ::ffff:10.1.2.3, which is 10.1.2.3
abbrev pub mapped_ten : IpAddr
mapped_ten = V6 (record { segments = 0 ∷ 0 ∷ 0 ∷ 0 ∷ 0 ∷ 0xffff ∷ 0x0a01 ∷ 0x0203 ∷ [] })

-- 10.1.0.0/16, 192.0.2.7, 10.0.0.0/15, 0.0.0.0/0, 2001:db8::/32 and ::/0
pub record RangesHave : Type 0 where
  pub first : is_within (ipv4 10 1 0 0) (range_of (ipv4 10 1 0 0) 16) ≡ true
  pub last : is_within (ipv4 10 1 255 255) (range_of (ipv4 10 1 0 0) 16) ≡ true
  pub behind : is_within (ipv4 10 2 0 0) (range_of (ipv4 10 1 0 0) 16) ≡ false
  pub before : is_within (ipv4 10 0 255 255) (range_of (ipv4 10 1 0 0) 16) ≡ false
  pub host_bits : is_within (ipv4 10 1 0 9) (range_of (ipv4 10 1 77 7) 16) ≡ true
  pub mapped : is_within mapped_ten (range_of (ipv4 10 1 0 0) 16) ≡ true
  pub itself : is_within (ipv4 192 0 2 7) (range_of (ipv4 192 0 2 7) 32) ≡ true
  pub beside : is_within (ipv4 192 0 2 6) (range_of (ipv4 192 0 2 7) 32) ≡ false
  pub odd : is_within (ipv4 10 1 0 0) (range_of (ipv4 10 0 0 0) 15) ≡ true
  pub all_of_ipv4 : is_within (ipv4 255 255 255 255) (range_of (ipv4 0 0 0 0) 0) ≡ true
  pub none_of_ipv6 : is_within (ipv6 0x2001 0xdb8 1) (range_of (ipv4 0 0 0 0) 0) ≡ false
  pub in_net : is_within (ipv6 0x2001 0xdb8 1) (range_of (ipv6 0x2001 0xdb8 0) 32) ≡ true
  pub other_net : is_within (ipv6 0x2001 0xdb9 1) (range_of (ipv6 0x2001 0xdb8 0) 32) ≡ false
  pub all : is_within (ipv4 10 1 2 3) (range_of (ipv6 0 0 0) 0) ≡ true
  pub front : before_slash (codes "10.1.0.0/16") ≡ codes "10.1.0.0"
  pub bits : behind_slash (codes "10.1.0.0/16") ≡ Some (codes "16")
  pub no_bits : behind_slash (codes "10.1.0.0") ≡ None
  pub said : bits_said (ipv4 10 1 0 0) (Some (codes "16")) ≡ Some 16
  pub none_said : bits_said (ipv4 10 1 0 0) (Some (codes "0")) ≡ Some 0
  pub too_many : bits_said (ipv4 10 1 0 0) (Some (codes "33")) ≡ None
  pub too_many_of_ipv6 : bits_said (ipv6 0 0 0) (Some (codes "129")) ≡ None
  pub zero_in_front : bits_said (ipv4 10 1 0 0) (Some (codes "016")) ≡ None
  pub sign : bits_said (ipv4 10 1 0 0) (Some (codes "+16")) ≡ None
  pub no_digit : bits_said (ipv4 10 1 0 0) (Some []) ≡ None

-- how many more bytes of a line are wanted, and what lines are
pub record LinesAreWanted : Type 0 where
  pub nothing : more_of [] ≡ 15
  pub word : more_of (codes "PROXY ") ≡ 9
  pub another : more_of (codes "NICK al") ≡ 0
  pub is_another : kind_of (codes "NICK al") ≡ Neither
  pub without_space : kind_of (codes "PROXYTCP4 ") ≡ Neither
  pub shortest : more_of (codes "PROXY UNKNOWN" ++ 13 ∷ 10 ∷ []) ≡ 0
  pub two : more_of (codes "PROXY TCP4 10.0.0.1 ") ≡ 2
  pub one : more_of (codes "PROXY TCP4 10.0.0.1 " ++ 13 ∷ []) ≡ 1
  pub nearly_longest : more_of (codes "PROXY " ++ replicate 100 65) ≡ 1
  pub longest : more_of (codes "PROXY " ++ replicate 101 65) ≡ 0
  pub no_line : is_line (codes "PROXY " ++ replicate 101 65) ≡ false
  pub too_long : is_line (codes "PROXY " ++ replicate 100 65 ++ 13 ∷ 10 ∷ []) ≡ false
  pub just_fits : is_line (codes "PROXY " ++ replicate 99 65 ++ 13 ∷ 10 ∷ []) ≡ true
  pub tcp4 : family_of (codes "PROXY TCP4 1.2.3.4 5.6.7.8 9 10") ≡ Tcp4
  pub tcp6 : family_of (codes "PROXY TCP6 ::1 ::2 9 10") ≡ Tcp6
  pub unknown : family_of (codes "PROXY UNKNOWN") ≡ Unknown
  pub unknown_more : family_of (codes "PROXY UNKNOWN ::1 ::2 9 10") ≡ Unknown
  pub unknown_word : family_of (codes "PROXY UNKNOWNS") ≡ Other
  pub udp : family_of (codes "PROXY UDP4 1.2.3.4 5.6.7.8 9 10") ≡ Other
  pub small : family_of (codes "PROXY tcp4 1.2.3.4 5.6.7.8 9 10") ≡ Other
  pub words : words_of (codes "a b  c") ≡ codes "a" ∷ codes "b" ∷ [] ∷ codes "c" ∷ []
  pub port : is_port (codes "65535") ≡ true
  pub no_port : is_port (codes "0") ≡ true
  pub great_port : is_port (codes "65536") ≡ false
  pub padded_port : is_port (codes "080") ≡ false
  pub signed_port : is_port (codes "-1") ≡ false
  pub empty_port : is_port [] ≡ false

-- a header of version 2 with a command and a family, which says that so many bytes follow
abbrev pub fixed : (command family length : ℕ) → List ℕ
fixed command family length = signature ++ command ∷ family ∷ 0 ∷ length ∷ []

-- 10.1.2.3 and 192.0.2.1, and their ports
abbrev pub ends_of_ipv4 : List ℕ
ends_of_ipv4 = 10 ∷ 1 ∷ 2 ∷ 3 ∷ 192 ∷ 0 ∷ 2 ∷ 1 ∷ 0x10 ∷ 0x92 ∷ 0x1A ∷ 0x0B ∷ []

-- 2001:db8::1 twice, and ports
abbrev pub one_of_ipv6 : List ℕ
one_of_ipv6 = 0x20 ∷ 0x01 ∷ 0x0d ∷ 0xb8 ∷ replicate 11 0 ++ 1 ∷ []

abbrev pub ends_of_ipv6 : List ℕ
ends_of_ipv6 = one_of_ipv6 ++ one_of_ipv6 ++ 0x10 ∷ 0x92 ∷ 0x1A ∷ 0x0B ∷ []

pub record BytesAreRead : Type 0 where
  pub front : more_of (13 ∷ []) ≡ 15
  pub other_front : kind_of (13 ∷ 10 ∷ 13 ∷ 13 ∷ []) ≡ Neither
  pub fixed_part : more_of signature ≡ 4
  pub follow : more_of (fixed 0x21 0x11 12) ≡ 12
  pub follow_more : more_of (fixed 0x21 0x11 19) ≡ 19
  pub too_few : more_of (fixed 0x21 0x11 11) ≡ 0
  pub too_few_of_ipv6 : more_of (fixed 0x21 0x21 35) ≡ 0
  pub most : more_of (signature ++ 0x21 ∷ 0x11 ∷ 2 ∷ 0 ∷ []) ≡ 512
  pub too_many : more_of (signature ++ 0x21 ∷ 0x11 ∷ 2 ∷ 1 ∷ []) ≡ 0
  pub too_many_is_none : is_whole (signature ++ 0x21 ∷ 0x11 ∷ 2 ∷ 1 ∷ []) ≡ false
  pub version_1 : more_of (fixed 0x11 0x11 12) ≡ 0
  pub other_command : more_of (fixed 0x22 0x11 12) ≡ 0
  pub udp : more_of (fixed 0x21 0x12 12) ≡ 0
  pub udp_of_ipv6 : more_of (fixed 0x21 0x22 36) ≡ 0
  pub unix : more_of (fixed 0x21 0x31 216) ≡ 0
  pub unspecified : more_of (fixed 0x21 0x00 0) ≡ 0
  pub local : is_whole (fixed 0x20 0x00 0) ≡ true
  pub local_named : named_by (fixed 0x20 0x00 0) ≡ None
  pub local_of_ipv4 : named_by (fixed 0x20 0x11 12 ++ ends_of_ipv4) ≡ None
  pub half : is_whole (fixed 0x21 0x11 12) ≡ false
  pub whole : is_whole (fixed 0x21 0x11 12 ++ ends_of_ipv4) ≡ true
  pub named : named_by (fixed 0x21 0x11 12 ++ ends_of_ipv4) ≡ Some (ipv4 10 1 2 3)
  pub named_with_more :
      named_by (fixed 0x21 0x11 19 ++ ends_of_ipv4 ++ replicate 7 4) ≡ Some (ipv4 10 1 2 3)
  pub whole_of_ipv6 : is_whole (fixed 0x21 0x21 36 ++ ends_of_ipv6) ≡ true
  pub named_of_ipv6 :
      named_by (fixed 0x21 0x21 36 ++ ends_of_ipv6) ≡ Some (ipv6 0x2001 0xdb8 1)
