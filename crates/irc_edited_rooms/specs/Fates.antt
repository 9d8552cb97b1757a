-- What becomes of one row by an edit, and what is left of that behind another edit: of a user under
-- a nickname, or of a member of a channel under one.
use Rattle.std.specs.Prelude.{Bool, true, false, Option, Some, None, unwrap_or, if◌then◌else◌}
use Rattle.std.specs.Option.{option_map}
use Rattle.irc_edited_rooms.specs.Writes.{Row, Writes, blank_row, no_writes, written}
use Rattle.irc_edited_rooms.specs.Writes.{writes_behind}

-- A row stays, and something is written in it; it goes; or it comes, with what is written over a
-- blank one, or over what is there.
pub data Fate (Place : Type 0) : Type 0 where
  stays : (writes : Writes Place) → Fate Place
  goes : Fate Place
  comes : (writes : Writes Place) → Fate Place

module _ {Place : Type 0} where
  abbrev pub untouched : Fate Place
  untouched = stays no_writes

  abbrev pub is_going : Fate Place → Bool
  is_going (stays writes) = false
  is_going goes = true
  is_going (comes writes) = false

  abbrev pub is_coming : Fate Place → Bool
  is_coming (stays writes) = false
  is_coming goes = false
  is_coming (comes writes) = true

  -- a row after its fate; where there is none, none goes and nothing is written
  abbrev pub after_fate : Fate Place → Option (Row Place) → Option (Row Place)
  after_fate (stays writes) row = option_map (written writes) row
  after_fate goes row = None
  after_fate (comes writes) row = Some (written writes (unwrap_or row blank_row))

  -- What is left of their fate behind ours, where both are of one row, and it is there or not.
  -- Where it is not there, nothing of theirs is for whoever comes by ours; where it is, it goes if
  -- either end says so. If it comes at both ends, that meets.
  --   a.net   :al KICK #c bo :out    b.net   :bo PART #c :bye
  --   bo goes by either, and nothing of it is left to be done
  abbrev pub fate_behind : (meeting : Writes Place → Writes Place → Fate Place)
      → (is_there : Bool) → Fate Place → Fate Place → Fate Place
  fate_behind meeting is_there (stays theirs) (stays ours) = stays (writes_behind theirs ours)
  fate_behind meeting is_there (stays theirs) goes = stays theirs
  fate_behind meeting is_there (stays theirs) (comes ours) =
      if is_there then stays (writes_behind theirs ours) else untouched
  fate_behind meeting is_there goes (stays ours) = goes
  fate_behind meeting is_there goes goes = goes
  fate_behind meeting is_there goes (comes ours) = if is_there then goes else untouched
  fate_behind meeting is_there (comes theirs) (stays ours) =
      if is_there then comes (writes_behind theirs ours) else comes theirs
  fate_behind meeting is_there (comes theirs) goes = if is_there then untouched else comes theirs
  fate_behind meeting is_there (comes theirs) (comes ours) = meeting theirs ours

  -- Two who take one nickname both go.
  --   a.net   NICK zed 1 zed h 1 :Zed      b.net   NICK zed 1 zee h 1 :Zee
  abbrev pub both_go : Writes Place → Writes Place → Fate Place
  both_go theirs ours = goes

  -- One member who comes by both ends is one member, of whom the greater is kept.
  abbrev pub is_one : Writes Place → Writes Place → Fate Place
  is_one theirs ours = comes (writes_behind theirs ours)

  abbrev pub user_behind : (is_there : Bool) → Fate Place → Fate Place → Fate Place
  user_behind = fate_behind both_go

  abbrev pub member_behind : (is_there : Bool) → Fate Place → Fate Place → Fate Place
  member_behind = fate_behind is_one
