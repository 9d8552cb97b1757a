-- What is said on a stream, line by line: each whole, or a front of it where the stream does not
-- take it.
use Rattle.std.specs.Prelude.{◌≡◌, ℕ, Bool, Option, Some, None, List, [], ◌∷◌, take}
use Rattle.std.specs.Io.KnownBytes.{Appends}
use Rattle.irc_journal.specs.declared.journal.Journal.{Journal}
use Rattle.irc_journal.specs.declared.tidings.Tidings.{Tidings}
use Rattle.irc_journal.specs.Lines.{connections_line, shown_host, IsLineOf}
use Rattle.irc_journal.specs.Pace.{count_if, rows_if}
use Rattle.irc_journal.specs.declared.rereading.Rereading.{Rereading}
use Rattle.irc_journal.specs.Rereadings.{rereading_line, restart_line}

-- a front of this line was said, which may be all of it, or nothing
pub record IsFrontSaid (line : List ℕ) (old new : Option (List ℕ)) : Type 0 where
  pub count : ℕ
  pub appended : Appends old new (take count line)

-- so it is of the line that tells this, with the address that is shown and the lines left out
pub record IsSaid (told : Tidings) (host : Option (List ℕ)) (more : ℕ)
    (old new : Option (List ℕ)) : Type 0 where
  pub line : List ℕ
  pub is_line : IsLineOf told host more line
  pub is_said : IsFrontSaid line old new

-- it is said, with so many lines left out before it; or it is left out
abbrev pub IsSaidIf : Option ℕ → Tidings → Option (List ℕ) → Option (List ℕ) → Option (List ℕ)
    → Type 0
IsSaidIf None told host old new = new ≡ old
IsSaidIf (Some more) told host old new = IsSaid told host more old new

-- This is told at a moment of a link whose other end is at that address, if it is known: it is said
-- unless a line of the address was said within a second before, and that is kept.
pub record IsTold (moment : ℕ) (host : Option (List ℕ)) (told : Tidings) (old new : Journal)
    (held after : Option (List ℕ)) : Type 0 where
  pub said : IsSaidIf (count_if (shown_host told.outcome host) moment old.lately.rows.items) told
      (shown_host told.outcome host) held after
  pub lately : new.lately.rows.items
      ≡ rows_if (shown_host told.outcome host) moment old.lately.rows.items
  pub same : new ≡ record old { lately = new.lately }

-- so it is told, wherever the other end is
pub record TellsOne (moment : ℕ) (told : Tidings) (old new : Journal)
    (held after : Option (List ℕ)) : Type 0 where
  pub host : Option (List ℕ)
  pub is_told : IsTold moment host told old new held after

-- one is told, and then others
pub record TellsFirst (moment : ℕ) (told : Tidings) (old : Journal) (held : Option (List ℕ))
    (rest : Journal → Option (List ℕ) → Type 0) : Type 0 where
  pub between : Journal
  pub then : Option (List ℕ)
  pub tells_one : TellsOne moment told old between held then
  pub rest_is : rest between then

-- these are told, one after another, and nothing else
abbrev pub AreTold : ℕ → List Tidings → Journal → Journal → Option (List ℕ) → Option (List ℕ)
    → Type 0
AreTold moment [] old new held after = (new ≡ old) × (after ≡ held)
AreTold moment (told ∷ others) old new held after =
    TellsFirst moment told old held (λ between then. AreTold moment others between new then after)

-- ---- whatever is said

-- a line of a link, that connections can be taken or not, or of a configuration that is read again
pub data IsJournalLine (line : List ℕ) : Type 0 where
  of_link : (told : Tidings) (host : Option (List ℕ)) (more : ℕ) → IsLineOf told host more line
      → IsJournalLine line
  of_connections : (are_taken : Bool) → line ≡ connections_line are_taken → IsJournalLine line
  of_rereading : (what : Rereading) → line ≡ rereading_line what → IsJournalLine line
  of_restart : (key : List ℕ) → line ≡ restart_line key → IsJournalLine line

-- one line is said, and then others
pub record SaysFirst (line : List ℕ) (old : Option (List ℕ))
    (rest : Option (List ℕ) → Type 0) : Type 0 where
  pub is_line : IsJournalLine line
  pub between : Option (List ℕ)
  pub is_said : IsFrontSaid line old between
  pub rest_is : rest between

-- these lines are said, one after another, and nothing else
abbrev pub AreSaid : List (List ℕ) → Option (List ℕ) → Option (List ℕ) → Type 0
AreSaid [] old new = new ≡ old
AreSaid (line ∷ others) old new = SaysFirst line old (λ between. AreSaid others between new)

-- some lines are said, and nothing else
abbrev pub AreSomeSaid : Option (List ℕ) → Option (List ℕ) → Type 0
AreSomeSaid old new = (lines : List (List ℕ)) × AreSaid lines old new
