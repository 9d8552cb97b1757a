-- Calls of other servers, by the places of those that are to be called.
use Rattle.std.specs.Prelude.{◌≡◌, ◌⊎◌, ℕ, Bool, if◌then◌else◌, is_some, Option, None, Some, List}
use Rattle.std.specs.Prelude.{position}
use Rattle.std.specs.List.{slice_get}
use Rattle.irc_turns.specs.declared.retries.Retries.{Retries}
use Rattle.irc_turns.specs.declared.retry.Retry.{Retry}
use Rattle.irc_turns.specs.Retries.{row_changed, call_begun, call_reached, call_ended, is_of_link}
use Rattle.irc_turns.specs.Retries.{due_place, seen_at}
use Rattle.irc_turns.specs.Spreads.{spread_on}
use Rattle.irc_sockets.specs.declared.calls.Callee.{Callee}

abbrev pub name_of : Option Callee → Option (List ℕ)
name_of None = None
name_of (Some callee) = Some callee.name

-- the name of the one that would be called, if one would be
abbrev pub name_at : List Callee → Option ℕ → Option (List ℕ)
name_at callees None = None
name_at callees (Some place) = name_of (slice_get callees place)

-- the call of the one at a place is a link of this number
abbrev pub rows_reached : ℕ → ℕ → List Retry → List Retry
rows_reached place link rows = row_changed (λ row. call_reached row link) place rows

-- the call of the one at a place has failed at a moment, or its link has ended
abbrev pub rows_ended : ℕ → ℕ → ℕ → List Retry → List Retry
rows_ended place visits now rows = row_changed (λ row. call_ended row visits now) place rows

-- the link of the call at a place has ended, if it is that of one
abbrev pub rows_ended_if : Option ℕ → ℕ → ℕ → List Retry → List Retry
rows_ended_if None visits now rows = rows
rows_ended_if (Some place) visits now rows = rows_ended place visits now rows

abbrev pub rows_closed : ℕ → ℕ → Retries → List Retry
rows_closed link now retries =
    rows_ended_if (position (is_of_link link) retries.rows.items) retries.visits now
    retries.rows.items

abbrev pub rows_begun : ℕ → ℕ → List Retry → List Retry
rows_begun place visits rows = row_changed (λ row. call_begun row visits) place rows

-- the one at a place is called; and its call is under way, or has failed at once
abbrev pub IsCalled : ℕ → ℕ → ℕ → List Retry → List Retry → Type 0
IsCalled place visits now old new =
    (new ≡ rows_begun place visits old)
    ⊎ (new ≡ rows_ended place visits now (rows_begun place visits old))

-- one is called, if it is due; else nobody is
abbrev pub IsCalledIfDue : Option ℕ → ℕ → ℕ → List Retry → List Retry → Type 0
IsCalledIfDue None visits now old new = new ≡ old
IsCalledIfDue (Some place) visits now old new = IsCalled place visits now old new

-- what is known at a moment of the one that was looked at; and it is called, where that is due
pub record Knows (is_known yields : Bool) (now : ℕ) (old new : Retries) : Type 0 where
  pub rows :
      IsCalledIfDue (due_place old now is_known yields old.looked_at) old.visits now
      (seen_at old now is_known old.looked_at) new.rows.items
  pub looked : new.looked_at ≡ None
  pub called :
      new.called_at
      ≡ (if is_some (due_place old now is_known yields old.looked_at) then Some now
      else old.called_at)
  pub spread :
      new.spread
      ≡ (if is_some (due_place old now is_known yields old.looked_at) then spread_on old.spread 1
      else old.spread)
  pub visits : new.visits ≡ old.visits
