-- When a server is called again.
use Rattle.std.specs.Prelude.{ℕ, Bool, true, false, not, ◌&&◌, ◌-◌, ◌*◌, min, nat_eq, nat_le}
use Rattle.std.specs.Prelude.{nat_lt, if◌then◌else◌, Option, Some, None, is_none, is_some, List}
use Rattle.std.specs.Prelude.{length, ◌+◌, set}
use Rattle.std.specs.List.{slice_get}
use Rattle.irc_moments.specs.Moments.{later}
use Rattle.irc_turns.specs.declared.retries.Retries.{Retries}
use Rattle.irc_turns.specs.declared.retry.Retry.{Retry}

-- one that is called after so many milliseconds again, or once, and was not called yet
abbrev pub not_called : Option ℕ → Retry
not_called after = record {
  after = after;
  is_calling = false;
  link = None;
  visits = 0;
  has_crossed = false;
  since = None;
}

-- so many seconds in milliseconds
abbrev pub milliseconds : Option ℕ → Option ℕ
milliseconds None = None
milliseconds (Some seconds) = Some (seconds * 1000)

abbrev pub call_begun : Retry → ℕ → Retry
call_begun row visits = record row { is_calling = true; link = None; visits = visits; since = None }

abbrev pub call_reached : Retry → ℕ → Retry
call_reached row link = record row { is_calling = false; link = Some link }

-- a call that has failed at a moment, or its link that has ended: it may have crossed another where
-- a server has connected meanwhile
abbrev pub call_ended : Retry → ℕ → ℕ → Retry
call_ended row visits now = record row {
  has_crossed = not (nat_eq row.visits visits);
  is_calling = false;
  link = None;
  since = Some now;
}

-- no call is under way, and no link of one is open
abbrev pub is_free : Retry → Bool
is_free row = not row.is_calling && is_none row.link

-- so long is waited, and twice as long by who yields behind a call that has crossed another, as far
-- as a number goes
abbrev pub wait_after : ℕ → Bool → ℕ
wait_after after yields = if yields then min (after * 2) 18446744073709551615 else after

-- whether it is called again at all, and was seen unknown for that long, and for as much longer as
-- this server's spread is
abbrev pub has_waited : Option ℕ → Option ℕ → Bool → ℕ → ℕ → Bool
has_waited None since yields spread now = false
has_waited (Some after) None yields spread now = false
has_waited (Some after) (Some since) yields spread now =
    nat_le (wait_after (later after spread) yields) (now - since)

-- it is to be called: it is free, not known, and was so for long enough
abbrev pub is_due : Retry → ℕ → Bool → Bool → ℕ → Bool
is_due row now is_known yields spread =
    (is_free row && not is_known)
    && has_waited row.after row.since (row.has_crossed && yields) spread now

-- since when it is unknown: since now, where it was not so far
abbrev pub unknown_since : Option ℕ → ℕ → Bool → Option ℕ
unknown_since since now false = None
unknown_since None now true = Some now
unknown_since (Some since) now true = Some since

-- what is known of it then; where it is known, no call has crossed another any more
abbrev pub seen : Retry → ℕ → Bool → Retry
seen row now is_known = record row {
  since = unknown_since row.since now (is_free row && not is_known);
  has_crossed = row.has_crossed && not is_known;
}

-- ---- all of them

abbrev pub row_changed_if : (Retry → Retry) → ℕ → List Retry → Option Retry → List Retry
row_changed_if change place rows None = rows
row_changed_if change place rows (Some row) = set rows place (change row)

-- the one at a place, if there is one, is changed
abbrev pub row_changed : (Retry → Retry) → ℕ → List Retry → List Retry
row_changed change place rows = row_changed_if change place rows (slice_get rows place)

-- the place behind another, all round
abbrev pub place_behind : ℕ → ℕ → ℕ
place_behind place count = if nat_lt (place + 1) count then place + 1 else 0

-- one that is called again at all, where no call of it is under way or open
abbrev pub may_be_called : Option Retry → Bool
may_be_called None = false
may_be_called (Some row) = is_some row.after && is_free row

-- whether it is to be called
abbrev pub is_due_at : Option Retry → ℕ → Bool → Bool → ℕ → Bool
is_due_at None now is_known yields spread = false
is_due_at (Some row) now is_known yields spread = is_due row now is_known yields spread

-- whether none was called again within the last second
abbrev pub is_apart : Option ℕ → ℕ → Bool
is_apart None now = true
is_apart (Some called_at) now = nat_le 1000 (now - called_at)

-- whether a row is of a link
abbrev pub is_of_link : ℕ → Retry → Bool
is_of_link link row = is_some_link link row.link
  where
    is_some_link : ℕ → Option ℕ → Bool
    is_some_link link None = false
    is_some_link link (Some other) = nat_eq other link

-- ---- which one would be called

abbrev pub place_if_called : List Retry → ℕ → Option ℕ
place_if_called rows place = if may_be_called (slice_get rows place) then Some place else None

-- the next place is looked at, if its server may be called again
abbrev pub looked_on : Retries → Retries
looked_on retries = record retries {
  at = place_behind retries.at (length retries.rows.items);
  looked_at =
      place_if_called retries.rows.items (place_behind retries.at (length retries.rows.items));
}

abbrev pub is_due_now : Retries → ℕ → Bool → Bool → ℕ → Bool
is_due_now retries now is_known yields place =
    is_due_at (slice_get retries.rows.items place) now is_known yields retries.spread
    && is_apart retries.called_at now

-- a place, if its server is to be called at a moment
abbrev pub due_place : Retries → ℕ → Bool → Bool → Option ℕ → Option ℕ
due_place retries now is_known yields None = None
due_place retries now is_known yields (Some place) = if is_due_now retries now is_known yields place
    then Some place else None

-- what is known of a place then
abbrev pub seen_at : Retries → ℕ → Bool → Option ℕ → List Retry
seen_at retries now is_known None = retries.rows.items
seen_at retries now is_known (Some place) =
    row_changed (λ row. seen row now is_known) place retries.rows.items
