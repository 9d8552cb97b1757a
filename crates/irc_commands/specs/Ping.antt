-- PING.
use Rattle.std.specs.Prelude.{ℕ, Some, List, [], ◌∷◌, codes}
use Rattle.irc_line.specs.Messages.{named, text}
use Rattle.irc_numerics.specs.declared.replies.Reply.TheVariants.{NoOrigin}
use Rattle.irc_routes.specs.Place.{Place}
use Rattle.irc_acts.specs.declared.act.Act.{Act}
use Rattle.irc_acts.specs.declared.act.Act.TheVariants.{Answer, Raw}
use Rattle.irc_acts.specs.Acts.{bytes_kept}

-- the answer to a PING: the server names itself, and gives the word back (RFC 2812 section 3.7.3)
abbrev pub pong_line : List ℕ → List ℕ → List ℕ
pong_line server word = text (record {
  sender = named server;
  command = codes "PONG";
  middle = server ∷ [];
  last = Some word;
})

-- what a PING does (RFC 2812 section 3.7.2)
unfoldable pub ping_steps : Place → List (List ℕ) → List Act
ping_steps place [] = Answer NoOrigin ∷ []
ping_steps place (word ∷ more) = Raw (bytes_kept (pong_line place.name word)) ∷ []
