-- What is told of a header, by parts.
use Rattle.std.proofs.Common.{◌≡◌, ◌∙◌, ◌≤◌, refl, sym, ℕ, true, false, Option, List}
use Rattle.std.proofs.Common.{arith, true≢false}
use Rattle.std.specs.declared.net.ip_addr.IpAddr.{IpAddr}
use Rattle.irc_entrance.specs.ProxyLines.{IsLine, IsNamed, family_of, is_line, without_end}
use Rattle.irc_entrance.specs.Proxying.{IsOfKind, NamesBy, TellsBy, more_in, tells}
use Rattle.irc_entrance.specs.declared.proxy_header.HeaderKind.{HeaderKind}
use Rattle.irc_entrance.specs.declared.proxy_header.HeaderKind.TheVariants.{Line, Bytes, Neither}
use Rattle.irc_entrance.specs.declared.proxy_header.ProxyHeader.{ProxyHeader}
use Rattle.irc_entrance.specs.declared.proxy_header.ProxyHeader.TheVariants.{Wants, Bad, Unnamed}
use Rattle.irc_entrance.specs.declared.proxy_header.ProxyHeader.TheVariants.{Names}

-- where no more is wanted, none is
pub none_left : {more wanted : ℕ} → more ≡ wanted → more ≤ 0 → wanted ≡ 0
none_left e none = omega (arith, e, none)

pub no_line : {bytes : List ℕ} → is_line bytes ≡ false → (named : Option IpAddr)
    → IsLine bytes named → ⊥
no_line none named is = true≢false (sym is.is_line ∙ none)

-- whom a line names, by what stands in front of its end
pub line_named : (bytes : List ℕ) (header : ProxyHeader) → is_line bytes ≡ true
    → NamesBy (IsNamed (family_of (without_end bytes)) (without_end bytes)) header
    → NamesBy (IsLine bytes) header
line_named bytes (Wants more) line named = named
line_named bytes Bad line named = λ whom is. named whom is.named_is
line_named bytes Unnamed line named = record { is_line = line; named_is = named }
line_named bytes (Names address) line named = record { is_line = line; named_is = named }

-- what is of no version is no header
pub no_kind : (bytes : List ℕ) (kind : HeaderKind) → kind ≡ Neither
    → TellsBy (more_in kind bytes) (IsOfKind kind bytes) Bad
no_kind bytes Neither none = tells refl (λ named is. is)
no_kind bytes Line none = cc none
no_kind bytes Bytes none = cc none
