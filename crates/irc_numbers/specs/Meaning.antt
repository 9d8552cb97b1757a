-- What a line of a link is to two servers that are alike but for numbers.
use Rattle.std.specs.Prelude.{◌≡◌, ℕ, Some, Result}
use Rattle.irc_line.specs.declared.reading.LineFault.{LineFault}
use Rattle.irc_line.specs.Messages.{Parsed}
use Rattle.irc_stage.specs.View.{End, View}
use Rattle.irc_server.specs.Heard.{heard}
use Rattle.irc_numbers.specs.Alike.{AreAlike, AreApart, Numbers}

-- It is the same to both, at an end of which both know the same: the first half of serving it
-- alike. What it then does is the second.
abbrev pub LinesAreHeardAlike : Type 0
LinesAreHeardAlike = (numbers : Numbers) (own other : View) (place conn : ℕ) (end : End)
    (read : Result Parsed LineFault) → AreApart numbers
    → AreAlike numbers own other → numbers.link place ≡ Some conn
    → heard other place end read ≡ heard own conn end read
