-- What a line can carry, and what is known of the words of a line that was read (RFC 2812 section
-- 2.3.1).
use Rattle.std.specs.Prelude.{◌≢◌, ℕ, ◌≤◌, Bool, not, ◌||◌, List, [], length, unwrap_or, IsTrue}
use Rattle.std.specs.List.{list_all, AllByRecursion}
use Rattle.std.specs.Option.{IfSome}
use Rattle.irc_line.specs.Limits.{max_parameters}
use Rattle.irc_line.specs.Bytes.{is_nul, is_line_end}
use Rattle.irc_line.specs.Lines.{earlier_pieces}
use Rattle.irc_line.specs.Messages.{Parsed, Written, prefix_of, IsPlainWord}
use Rattle.irc_line.specs.Grammar.{HasNoSpace}

-- NUL, CR and LF are in no line
abbrev pub is_carried_byte : ℕ → Bool
is_carried_byte b = not (is_nul b || is_line_end b)

-- whether a line can carry these bytes
abbrev pub is_carried : List ℕ → Bool
is_carried bytes = list_all is_carried_byte bytes

-- the same, as a condition in clauses
abbrev pub IsCarried : List ℕ → Type 0
IsCarried bytes = IsTrue (is_carried bytes)

-- a word of a line: no longer than the line, and without the bytes that a line cannot carry
pub record IsWordOf (line word : List ℕ) : Type 0 where
  pub fits : length word ≤ length line
  pub carried : IsCarried word

-- What is known of a message that was read from a line. Only its last parameter may be empty, have
-- spaces or begin with a colon.
pub record AreLineWords (line : List ℕ) (message : Parsed) : Type 0 where
  pub prefix : IfSome message.prefix (IsWordOf line)
  pub prefix_no_space : IfSome message.prefix HasNoSpace
  pub command : IsWordOf line message.command
  pub command_some : message.command ≢ []
  pub command_no_space : HasNoSpace message.command
  pub params : AllByRecursion (IsWordOf line) message.params
  pub earlier_params : AllByRecursion IsPlainWord (earlier_pieces message.params)
  pub count : length message.params ≤ max_parameters

-- parts of which each is bytes that a line can carry
pub record AreCarriedParts (parts : Written) : Type 0 where
  pub sender : IsCarried (unwrap_or (prefix_of parts.sender) [])
  pub command : IsCarried parts.command
  pub command_some : parts.command ≢ []
  pub middle : AllByRecursion IsCarried parts.middle
  pub last : IsCarried (unwrap_or parts.last [])
