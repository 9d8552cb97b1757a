-- What the code that reads the lines with which a link begins gives.
use Rattle.std.specs.Prelude.{ℕ, List}
use Rattle.irc_link_words.specs.declared.openings.Greeting.{Greeting}

abbrev pub greeting_told : Greeting → List ℕ × List ℕ
greeting_told greeting = (greeting.name.now, greeting.info)
