-- The line by which something is told of a link (our own choice).
--
--   ircd: link to b.net: up                                      this side called
--   ircd: link from c.net: up                                    this side was called
--   ircd: link to b.net: closed: a line from the wrong direction
--   ircd: link from an unknown server: refused: an unknown peer
--   ircd: link from b.net at 10.0.0.5: refused: a wrong password (3 more)
--   ircd: link to b.net at 10.0.0.6: lost before it was up
--   ircd: link to b.net: lost
--   ircd: link to b.net: not reached: Connection refused (os error 111)
use Rattle.std.specs.Prelude.{◌≡◌, ⊤, ℕ, Bool, true, false, Option, Some, None, List, [], ◌++◌}
use Rattle.std.specs.Prelude.{codes, decimal, nat_eq, if◌then◌else◌}
use Rattle.irc_journal.specs.declared.tidings.Tidings.{Tidings}
use Rattle.irc_journal.specs.declared.tidings.Outcome.{Outcome}
use Rattle.irc_journal.specs.declared.tidings.Outcome.TheVariants as outcome

-- by whose call the link was made
abbrev pub side_text : Bool → List ℕ
side_text true = codes "ircd: link to "
side_text false = codes "ircd: link from "

-- who is at the other end
abbrev pub far_text : Option (List ℕ) → List ℕ
far_text None = codes "an unknown server"
far_text (Some name) = name

abbrev pub outcome_text : Outcome → List ℕ
outcome_text outcome.Up = codes "up"
outcome_text (outcome.Refused reason) = codes "refused: "
outcome_text (outcome.Closed reason) = codes "closed: "
outcome_text outcome.LostEarly = codes "lost before it was up"
outcome_text outcome.Lost = codes "lost"
outcome_text (outcome.Unreached error) = codes "not reached: "

-- From where it came, or to where it went, is told only of one that was not up: there nobody is
-- known at the other end.
abbrev pub shown_host : Outcome → Option (List ℕ) → Option (List ℕ)
shown_host (outcome.Refused reason) host = host
shown_host outcome.LostEarly host = host
shown_host outcome.Up host = None
shown_host (outcome.Closed reason) host = None
shown_host outcome.Lost host = None
shown_host (outcome.Unreached error) host = None

abbrev pub host_text : Option (List ℕ) → List ℕ
host_text None = []
host_text (Some host) = codes " at " ++ host

-- how many lines of that address were left out before this one
abbrev pub more_text : ℕ → List ℕ
more_text more = if nat_eq more 0 then [] else codes " (" ++ decimal more ++ codes " more)"

-- The words behind it. Those of a reason are the reason's own, by its `Display`, which no clause
-- has; where there is no reason, there are none.
abbrev pub AreWords : Outcome → List ℕ → Type 0
AreWords outcome.Up words = words ≡ []
AreWords (outcome.Refused reason) words = ⊤
AreWords (outcome.Closed reason) words = ⊤
AreWords outcome.LostEarly words = words ≡ []
AreWords outcome.Lost words = words ≡ []
AreWords (outcome.Unreached error) words = ⊤

-- the front of the line, with the address that is shown, if one is
abbrev pub head_text : Tidings → Option (List ℕ) → List ℕ
head_text told host =
    side_text told.is_called ++ far_text told.name ++ host_text host ++ codes ": "

abbrev pub line_of : Tidings → Option (List ℕ) → ℕ → List ℕ → List ℕ
line_of told host more words =
    head_text told host ++ outcome_text told.outcome ++ words ++ more_text more ++ codes "\n"

pub record IsLineOf (told : Tidings) (host : Option (List ℕ)) (more : ℕ) (line : List ℕ) :
    Type 0 where
  pub words : List ℕ
  pub are_words : AreWords told.outcome words
  pub line_is : line ≡ line_of told host more words

-- ---- whether connections can be taken

abbrev pub connections_line : Bool → List ℕ
connections_line false = codes "ircd: no descriptor or memory for another connection\n"
connections_line true = codes "ircd: connections are taken again\n"
