-- Who claims to be at the other end of a link (RFC 2813 section 4.1.2): a server names itself by a
-- line such as `SERVER b.net 1 1 :B`. Whether that is so is told by no such line.
--
--   `SERVER b.net 1 1 :B`       b.net is claimed
--   `:c.net server b.net`       so it is: neither who says it nor what follows is looked at
--   `SERVER b 1 1 :B`, `PASS pw 0210010001 TREE|`, `SERVER`     nobody is
use Rattle.std.specs.Prelude.{ℕ, Bool, Option, Some, None, Result, Ok, Err, List, [], ◌∷◌, codes}
use Rattle.std.specs.Prelude.{map, if◌then◌else◌}
use Rattle.std.specs.Char.{to_ascii_lowercase}
use Rattle.std.specs.Str.{bytes_eq}
use Rattle.irc_line.specs.declared.reading.LineFault.{LineFault}
use Rattle.irc_line.specs.Messages.{Parsed}
use Rattle.irc_line.specs.Reading.{read_of}
use Rattle.irc_names.specs.Names.{is_server}

-- whether a command is SERVER, in any case of letters
abbrev pub names_server : List ℕ → Bool
names_server command =
    bytes_eq (map to_ascii_lowercase command) (map to_ascii_lowercase (codes "SERVER"))

-- the name that a word is, if it is a server's
abbrev pub name_in : List ℕ → Option (List ℕ)
name_in word = if is_server word then Some word else None

-- the name that the first of these words is
abbrev pub first_name : List (List ℕ) → Option (List ℕ)
first_name [] = None
first_name (word ∷ words) = name_in word

abbrev pub claim_of : Parsed → Option (List ℕ)
claim_of message = if names_server message.command then first_name message.params else None

abbrev pub claim_read : Result Parsed LineFault → Option (List ℕ)
claim_read (Ok message) = claim_of message
claim_read (Err fault) = None

-- the name that is claimed in a line, if one is
unfoldable pub claimed_in : List ℕ → Option (List ℕ)
claimed_in line = claim_read (read_of line)
