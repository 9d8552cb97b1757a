-- What holds of reading and writing, whatever is read and written.
use Rattle.std.specs.Prelude.{◌≡◌, ℕ, ◌≤◌, Result, Ok, List, [], ◌∷◌, ◌++◌, length}
use Rattle.irc_line.specs.declared.reading.LineFault.{LineFault}
use Rattle.irc_line.specs.Limits.{max_line}
use Rattle.irc_line.specs.Messages.{Parsed, Written, joined_text, line_text, message_of, IsPlain}
use Rattle.irc_line.specs.Grammar.{Reads, IsReadAs}
use Rattle.irc_line.specs.Reading.{read_of}
use Rattle.irc_line.specs.Bytes.{crlf}
use Rattle.irc_line.specs.Lines.{Begun, HasTaken, IsLine, Takes, begun_behind, completed}
use Rattle.irc_line.specs.Lines.{nothing_begun, stream_for}
use Rattle.irc_line.specs.Carried.{AreCarriedParts, AreLineWords, IsCarried}

-- What is written from plain parts, and was not cut, is read as these parts.
abbrev pub WrittenIsRead : Type 0
WrittenIsRead = (parts : Written) → IsPlain parts → length (joined_text parts) ≤ max_line
    → Reads (line_text parts) (message_of parts)

-- Every line is read so by the grammar.
abbrev pub EveryLineIsRead : Type 0
EveryLineIsRead = (line : List ℕ) → IsReadAs line (read_of line)

-- The grammar reads a line as nothing else.
abbrev pub IsReadSoAlone : Type 0
IsReadSoAlone = (line : List ℕ) (read : Result Parsed LineFault) → IsReadAs line read
    → read ≡ read_of line

-- Each line of a stream is bytes that a line can carry.
abbrev pub LinesAreCarried : Type 0
LinesAreCarried = (line : List ℕ) → IsLine line → IsCarried line

-- The words of a message that was read from such bytes are words of the line.
abbrev pub WordsAreOfTheLine : Type 0
WordsAreOfTheLine = (line : List ℕ) (message : Parsed) → IsCarried line → read_of line ≡ Ok message
    → AreLineWords line message

-- What is written of parts that a line can carry is a line.
abbrev pub WrittenIsLine : Type 0
WrittenIsLine = (parts : Written) → AreCarriedParts parts → IsLine (line_text parts)

-- ---- bytes that come to a framer

-- of two pieces, one behind the other
pub record AreTakenInTurn (framer : Begun) (first second : List ℕ) : Type 0 where
  pub lines : completed framer (first ++ second) ≡ completed framer first
      ++ completed (begun_behind framer first) second
  pub begun : begun_behind framer (first ++ second) ≡ begun_behind
      (begun_behind framer first) second

-- that of no byte, of bytes that come in two pieces, and what it is then again
pub record CompletesInTurn (framer : Begun) : Type 0 where
  pub none : completed framer [] ≡ []
  pub none_begun : begun_behind framer [] ≡ framer
  pub in_turn : (first second : List ℕ) → AreTakenInTurn framer first second
  pub taken : (bytes : List ℕ)
      → HasTaken (begun_behind framer bytes) (stream_for (begun_behind framer bytes))
  pub takes : (bytes : List ℕ) (found : List (List ℕ)) (new : Begun) → Takes framer bytes found new
      → (found ≡ completed framer bytes) × (new ≡ begun_behind framer bytes)

-- However a stream is cut, its bytes complete the same lines.
abbrev pub PiecesCompleteTheSame : Type 0
PiecesCompleteTheSame = (framer : Begun) → HasTaken framer (stream_for framer)
    → CompletesInTurn framer

-- A line and its CR LF complete just that line, behind a whole line, and leave nothing begun.
pub record IsCompleted (line : List ℕ) : Type 0 where
  pub alone : completed nothing_begun (line ++ crlf) ≡ line ∷ []
  pub nothing_left : begun_behind nothing_begun (line ++ crlf) ≡ nothing_begun

abbrev pub LinesAreCompleted : Type 0
LinesAreCompleted = (line : List ℕ) → IsLine line → IsCompleted line
