-- What a batch's marks stand for.
use Rattle.std.specs.Prelude.{◌≡◌, ℕ, ⊤, ◌≤◌, ◌+◌, List}
use Rattle.std.specs.List.{All, slice_range}
use Rattle.irc_line.specs.Limits.{max_text}
use Rattle.irc_batch.specs.Batches.{Sent, end_of, end_of_link, line_on, line_to}
use Rattle.irc_batch.specs.declared.batch.OutMark.{OutMark}
use Rattle.irc_batch.specs.declared.batch.OutMark.TheVariants.{Line, Close, LinkLine, LinkClose}
use Rattle.irc_batch.specs.declared.batch.Span.{Span}

abbrev pub bytes_at : List ℕ → Span → List ℕ
bytes_at bytes span = slice_range bytes span.start span.end

abbrev pub sent_by : List ℕ → OutMark → Sent
sent_by bytes (Line conn span) = line_to conn (bytes_at bytes span)
sent_by bytes (Close conn) = end_of conn
sent_by bytes (LinkLine link span) = line_on link (bytes_at bytes span)
sent_by bytes (LinkClose link reason) = end_of_link link reason

-- it lies within so many bytes, and is no longer than a line
pub record IsSpan (length : ℕ) (span : Span) : Type 0 where
  pub forward : span.start ≤ span.end
  pub within_bytes : span.end ≤ length
  pub fits : span.end ≤ span.start + max_text

abbrev pub IsMark : ℕ → OutMark → Type 0
IsMark length (Line conn span) = IsSpan length span
IsMark length (LinkLine link span) = IsSpan length span
IsMark length other = ⊤

-- How a batch lies in its bytes: the line at hand is the last of them, so a batch without a line at
-- hand, as one that is cleared, keeps none.
pub record Lies (length : ℕ) (held : Span) (marks : List OutMark) : Type 0 where
  pub at_hand : IsSpan length held
  pub last : held.end ≡ length
  pub marks_within : All (IsMark length) marks
