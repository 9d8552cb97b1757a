-- The two lines with which a link begins are not cut, by the limits (RFC 2812 section 2.3: 510
-- bytes before CR LF).
use Rattle.std.specs.Prelude.{ℕ, List}
use Rattle.irc_names.specs.Names.{IsServer}
use Rattle.irc_room.specs.Laws.{IsWhole}
use Rattle.irc_routes.specs.Info.{IsInfo}
use Rattle.irc_routes.specs.Known.{Known}
use Rattle.irc_link_words.specs.GreetingLines.{pass_parts, greeting}
use Rattle.irc_link_words.specs.Passwords.{IsPassword}

abbrev pub PassFits : Type 0
PassFits = (password : List ℕ) → IsPassword password → IsWhole (pass_parts password)

abbrev pub GreetingFits : Type 0
GreetingFits = (known : Known) → IsServer known.name → IsInfo known.about.info
    → IsWhole (greeting known)
