-- The header with which a proxy says for whom it comes, as the PROXY protocol has it
-- (proxy-protocol.txt).
use Rattle.std.specs.Prelude.{◌≡◌, ℕ, ◌<◌, Bool, ◌||◌, nat_eq, if◌then◌else◌, Option, Some, None}
use Rattle.std.specs.Prelude.{List, [], ◌∷◌, codes}
use Rattle.std.specs.List.{starts_with}
use Rattle.std.specs.declared.net.ip_addr.IpAddr.{IpAddr}
use Rattle.irc_entrance.specs.ProxyBytes.{IsBytes, more_of_bytes}
use Rattle.irc_entrance.specs.ProxyLines.{IsLine, more_of_line}
use Rattle.irc_entrance.specs.declared.proxy_header.HeaderKind.{HeaderKind}
use Rattle.irc_entrance.specs.declared.proxy_header.HeaderKind.TheVariants.{Line, Bytes, Neither}
use Rattle.irc_entrance.specs.declared.proxy_header.ProxyHeader.{ProxyHeader}
use Rattle.irc_entrance.specs.declared.proxy_header.ProxyHeader.TheVariants.{Wants, Bad, Unnamed}
use Rattle.irc_entrance.specs.declared.proxy_header.ProxyHeader.TheVariants.{Names}

-- ---- what bytes are by what headers are

-- they are no header; or one that names nobody; or one that names an address
abbrev pub NamesBy : (Option IpAddr → Type 0) → ProxyHeader → Type 0
NamesBy Is (Wants more) = ⊥
NamesBy Is Bad = (named : Option IpAddr) → ¬ (Is named)
NamesBy Is Unnamed = Is None
NamesBy Is (Names address) = Is (Some address)

-- so many bytes more are wanted; or none, and they are that
pub data TellsBy (more : ℕ) (Is : Option IpAddr → Type 0) : ProxyHeader → Type 0 where
  wants : {count : ℕ} → count ≡ more → 0 < count → TellsBy more Is (Wants count)
  tells : {header : ProxyHeader} → more ≡ 0 → NamesBy Is header → TellsBy more Is header

-- ---- two kinds

-- the twelve bytes with which version 2 begins (section 2.2)
abbrev pub signature : List ℕ
signature =
    0x0D ∷ 0x0A ∷ 0x0D ∷ 0x0A ∷ 0x00 ∷ 0x0D ∷ 0x0A ∷ 0x51 ∷ 0x55 ∷ 0x49 ∷ 0x54 ∷ 0x0A ∷ []

-- one of two begins with the other
abbrev pub agrees : List ℕ → List ℕ → Bool
agrees bytes mark = starts_with nat_eq bytes mark || starts_with nat_eq mark bytes

abbrev pub kind_of : List ℕ → HeaderKind
kind_of bytes =
    if agrees bytes (codes "PROXY ") then Line
    else (if agrees bytes signature then Bytes else Neither)

-- how many more bytes a header of a kind has at least that begins with these; none where they are a
-- header, or none does
abbrev pub more_in : HeaderKind → List ℕ → ℕ
more_in Line bytes = more_of_line bytes
more_in Bytes bytes = more_of_bytes bytes
more_in Neither bytes = 0

abbrev pub more_of : List ℕ → ℕ
more_of bytes = more_in (kind_of bytes) bytes

-- bytes are a header, which names an address or nobody
abbrev pub IsOfKind : HeaderKind → List ℕ → Option IpAddr → Type 0
IsOfKind Line bytes = IsLine bytes
IsOfKind Bytes bytes = IsBytes bytes
IsOfKind Neither bytes = λ named. ⊥

abbrev pub IsHeader : List ℕ → Option IpAddr → Type 0
IsHeader bytes = IsOfKind (kind_of bytes) bytes

-- what bytes are
abbrev pub Tells : List ℕ → ProxyHeader → Type 0
Tells bytes header = TellsBy (more_of bytes) (IsHeader bytes) header
