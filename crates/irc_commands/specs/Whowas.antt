-- WHOWAS. No memory is kept of who was there (our own choice).
use Rattle.std.specs.Prelude.{ℕ, List, [], ◌∷◌}
use Rattle.irc_numerics.specs.declared.replies.Reply.TheVariants.{NoNicknameGiven, WasNoSuchNick}
use Rattle.irc_numerics.specs.declared.replies.Reply.TheVariants.{EndOfWhoWas}
use Rattle.irc_acts.specs.declared.act.Act.{Act}
use Rattle.irc_acts.specs.declared.act.Act.TheVariants.{Answer}
use Rattle.irc_acts.specs.Acts.{client_words}

-- what a WHOWAS does (RFC 2812 section 3.6.3): nobody is known to have had the name, which is the
-- first parameter as it was given
unfoldable pub whowas_steps : List (List ℕ) → List Act
whowas_steps [] = Answer NoNicknameGiven ∷ []
whowas_steps (name ∷ more) =
    Answer (WasNoSuchNick (client_words name)) ∷ Answer (EndOfWhoWas (client_words name)) ∷ []
