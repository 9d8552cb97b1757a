-- What is wanted of a header is never more than it has, and a whole one is taken.
use Rattle.std.specs.Prelude.{◌≡◌, ℕ, ◌≤◌, Bool, true, false, Option, List, ◌++◌, length}
use Rattle.std.specs.declared.net.ip_addr.IpAddr.{IpAddr}
use Rattle.irc_entrance.specs.Proxying.{IsHeader, Tells, more_of}
use Rattle.irc_entrance.specs.declared.proxy_header.ProxyHeader.{ProxyHeader}
use Rattle.irc_entrance.specs.declared.proxy_header.ProxyHeader.TheVariants.{Wants, Bad, Unnamed}
use Rattle.irc_entrance.specs.declared.proxy_header.ProxyHeader.TheVariants.{Names}

-- of bytes with which a header begins no more are wanted than are left of it: who reads just these,
-- again and again, has read nothing of what follows it
abbrev pub NothingBehindIsWanted : Type 0
NothingBehindIsWanted =
    (bytes rest : List ℕ) (named : Option IpAddr) → IsHeader (bytes ++ rest) named
    → more_of bytes ≤ length rest

-- whatever is told of a header, it is neither that more is wanted nor that it is none
abbrev pub is_taken : ProxyHeader → Bool
is_taken (Wants count) = false
is_taken Bad = false
is_taken Unnamed = true
is_taken (Names address) = true

abbrev pub HeadersAreTaken : Type 0
HeadersAreTaken =
    (bytes : List ℕ) (named : Option IpAddr) (told : ProxyHeader) → IsHeader bytes named
    → Tells bytes told → is_taken told ≡ true
