-- How many connections are open from one address.
use Rattle.std.specs.Prelude.{ℕ, Bool, true, not, if◌then◌else◌, nat_eq, nat_lt, List, [], ◌∷◌}
use Rattle.std.specs.Prelude.{◌++◌, filter, count_by, Option, Some, None}
use Rattle.std.specs.Net.Addr.{ipv6_bits, embedded_segments}
use Rattle.std.specs.Option.{is_some}
use Rattle.std.specs.declared.net.ip_addr.IpAddr.{IpAddr}
use Rattle.std.specs.declared.net.ipv4_addr.Ipv4Addr.{Ipv4Addr}
use Rattle.std.specs.declared.net.ipv6_addr.Ipv6Addr.{Ipv6Addr}
use Rattle.std.specs.declared.net.ip_addr.IpAddr.TheVariants.{V4, V6}
use Rattle.irc_entrance.specs.declared.crowd.Comer.{Comer}

-- those that are open, and how many may be from one address, if there is a limit
pub record Crowded : Type 0 where
  pub comers : List Comer
  pub most : Option ℕ

abbrev pub nobody_open : Option ℕ → Crowded
nobody_open most = record { comers = []; most = most }

-- from now on another number may be
abbrev pub limited_to : Option ℕ → Crowded → Crowded
limited_to most crowd = record crowd { most = most }

-- ---- addresses

-- the address of IPv6 that stands for one of IPv4, ::ffff:a.b.c.d (RFC 4291 section 2.5.5.2)
abbrev pub mapped : Ipv4Addr → Ipv6Addr
mapped ip = record { segments = embedded_segments 65535 ip }

-- an address as one number: one of IPv4 has that of the address that stands for it
abbrev pub address_number : IpAddr → ℕ
address_number (V4 ip) = ipv6_bits (mapped ip)
address_number (V6 ip) = ipv6_bits ip

-- ---- who is let in

-- how many connections are open from the address of a number
abbrev pub open_from : ℕ → List Comer → ℕ
open_from address comers = count_by (λ comer. nat_eq comer.address address) comers

-- any number is below where there is no limit
abbrev pub is_below : ℕ → Option ℕ → Bool
is_below count None = true
is_below count (Some most) = nat_lt count most

-- whether one more is let in from an address: fewer are open than may be
abbrev pub is_let_in : Crowded → IpAddr → Bool
is_let_in crowd address = is_below (open_from (address_number address) crowd.comers) crowd.most

-- ---- who comes and goes

-- one more is open, from an address; without a limit it is not kept
abbrev pub one_more_open : ℕ → IpAddr → Crowded → Crowded
one_more_open number address crowd =
    if is_some crowd.most
    then record crowd {
      comers = crowd.comers
          ++ record { number = number; address = address_number address } ∷ [];
    }
    else crowd

-- the connection under a number is open no more
abbrev pub open_without : ℕ → Crowded → Crowded
open_without number crowd =
    record crowd { comers = filter (λ comer. not (nat_eq comer.number number)) crowd.comers }
