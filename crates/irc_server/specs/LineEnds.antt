-- Each line that a server with links puts out on a link ends in CR LF (RFC 2812 section 2.3): the
-- server at the other end tells by nothing else where it ends.
--
-- a.net has the client al, and the links 3 to b.net and 4 to d.net; all share #c.
--   al says hi in #c   on 3 and 4 `:al PRIVMSG #c :hi` and CR LF: the body, and two bytes more
--   b.net loses c.net  on 4 `:b.net SQUIT c.net :gone` and CR LF
-- A line that is too long is cut in front of its CR LF, never within it.
use Rattle.std.specs.Prelude.{◌≡◌, ℕ, ⊤, ◌-◌, ◌++◌, Result, length, take}
use Rattle.std.specs.FinMap.{get}
use Rattle.std.specs.List.{AllByRecursion}
use Rattle.irc_line.specs.Bytes.{crlf}
use Rattle.irc_line.specs.declared.reading.LineFault.{LineFault}
use Rattle.irc_line.specs.Messages.{Parsed}
use Rattle.irc_batch.specs.Batches.{Sent, line_on}
use Rattle.irc_stage.specs.View.{View}
use Rattle.irc_server.specs.Served.{ReadEvent, served}
use Rattle.irc_server.specs.LinesThatSet.{line_set}

-- a text on a link is its body, all but two bytes, and CR LF; of all else nothing is asked
abbrev pub EndsInLineEnd : Sent → Type 0
EndsInLineEnd (line_on link text) = text ≡ take (length text - 2) text ++ crlf
EndsInLineEnd other = ⊤

-- Whatever is served, each line that is put out on a link is such a text.
abbrev pub ServedLinesEnd : Type 0
ServedLinesEnd = (view : View) (read_event : ReadEvent)
    → AllByRecursion EndsInLineEnd (served view read_event).out

-- So it is of a line by which a server sets.
abbrev pub SetLinesEnd : Type 0
SetLinesEnd = (view : View) (link : ℕ) (read : Result Parsed LineFault)
    → AllByRecursion EndsInLineEnd (line_set view link read (get view.ends link)).out
