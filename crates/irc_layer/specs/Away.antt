-- Lines that tell who is away: a MODE of a user, whose letters are `+a` or `-a`, whatever follows
-- them (`UserChanges.antt` of irc_link_words).
--   :al MODE al +a :at lunch      al is away
--   :al MODE al -a                al is back
-- On a link whose two ends have not both offered to tell it (`away1` in PASS) none goes, also in a
-- burst, and one that comes closes it: Parameters, as a server does that knows no such line.
use Rattle.std.specs.Prelude.{ℕ, Bool, false, not, ◌&&◌, ◌||◌, Result, Ok, Err, List}
use Rattle.std.specs.Str.{bytes_eq}
use Rattle.irc_line.specs.declared.reading.LineFault.{LineFault}
use Rattle.irc_line.specs.Messages.{Parsed}
use Rattle.irc_line.specs.Reading.{read_of}
use Rattle.irc_link_words.specs.Words.{is_for_channel, with_a, without_a}
use Rattle.irc_link_end.specs.LinkEnds.{tells_away, EndOfLink}
use Rattle.irc_crossing.specs.Lines.{is_mode_line, word_at}

abbrev pub is_away_word : List ℕ → Bool
is_away_word word = bytes_eq word with_a || bytes_eq word without_a

abbrev pub is_away_line : Parsed → Bool
is_away_line message = is_mode_line message
    && (not (is_for_channel (word_at 0 message)) && is_away_word (word_at 1 message))

abbrev pub is_away_read : Result Parsed LineFault → Bool
is_away_read (Ok message) = is_away_line message
is_away_read (Err fault) = false

-- whether a link has no place for a line, without its CR LF
abbrev pub has_no_place : List ℕ → EndOfLink → Bool
has_no_place line end = not (tells_away end) && is_away_read (read_of line)
