-- The two lines with which a link begins (RFC 2813 section 4.1); each end writes both:
--   PASS pw 0210010001 TREE|
--   SERVER a.net 1 1 :A
use Rattle.std.specs.Prelude.{ℕ, Option, Some, None, List, [], ◌∷◌, codes}
use Rattle.irc_line.specs.Messages.{Written, nobody}
use Rattle.irc_routes.specs.Known.{Known}

-- The version that PASS tells of (RFC 2813 section 4.1.1): four digits of the protocol, and what
-- else is agreed (our own choice). It stands here alone, and changes with what servers write to
-- each other.
abbrev pub version : List ℕ
version = codes "0210010001"

-- the name of what the servers agree on, without flags (RFC 2813 section 4.1.1; the name is our own
-- choice)
abbrev pub agreement : List ℕ
agreement = codes "TREE|"

-- a line from nobody
abbrev pub from_nobody : List ℕ → List (List ℕ) → Option (List ℕ) → Written
from_nobody command middle last =
    record { sender = nobody; command = command; middle = middle; last = last }

-- the first line of a greeting (RFC 2813 section 4.1.1)
abbrev pub pass_parts : List ℕ → Written
pass_parts password = from_nobody (codes "PASS") (password ∷ version ∷ agreement ∷ []) None

-- A server names itself, one link away and with number 1 (RFC 2813 section 4.1.2).
abbrev pub greeting : Known → Written
greeting known =
    from_nobody (codes "SERVER") (known.name ∷ codes "1" ∷ codes "1" ∷ []) (Some known.about.info)
