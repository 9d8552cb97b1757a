-- What the parts of reading a line do.
use Rattle.std.specs.Prelude.{◌≡◌, ℕ, false, List, ◌++◌}
use Rattle.irc_line.specs.Bytes.{is_space, begins}
use Rattle.irc_line.specs.Grammar.{IsGap, HasNoSpace, EndsWord}

-- what follows the spaces at the front of a text
pub record AfterGap (text rest : List ℕ) : Type 0 where
  pub gap : List ℕ
  pub gap_is : IsGap gap
  pub text_is : text ≡ gap ++ rest
  pub no_space : begins is_space rest ≡ false

-- the word at the front of a text, perhaps an empty one, and what follows it
pub record WordAt (text word more : List ℕ) : Type 0 where
  pub no_space : HasNoSpace word
  pub whole : EndsWord more
  pub text_is : text ≡ word ++ more
