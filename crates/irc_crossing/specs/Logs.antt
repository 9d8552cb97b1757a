-- The log of an end of a link: what it has put out that the other end had not read when it wrote
-- last, in order; and what becomes of what comes behind that.
--
-- a.net has put out, and b.net has not read
--   5   :al NICK ally           Rename al ally
--   6   :a.net KILL bo :..      Go bo
-- then from b.net comes
--   :bo NICK bob                Rename bo bob: nothing behind 6, which is Go bob from then on
--   :bob NICK rob               nothing again, and 6 is Go rob
--   COUNT 6 0                   both are read, and the log is empty
use Rattle.std.specs.Prelude.{ℕ, Bool, false, Option, Some, None, List, [], ◌∷◌, ◌++◌, nat_le}
use Rattle.std.specs.Prelude.{map, if◌then◌else◌}
use Rattle.std.specs.Option.{option_and_then, option_map_or}
use Rattle.irc_crossing.specs.declared.change.Change.{Change}
use Rattle.irc_crossing.specs.declared.log.Entry.{Entry}
use Rattle.irc_crossing.specs.Changes.{crossed, member_now, nick_now}

-- what becomes of a change, if one is left, behind what is left of another
abbrev pub crossed_if : (theirs ours : Option Change) → Option Change
crossed_if None ours = None
crossed_if (Some theirs) None = Some theirs
crossed_if (Some theirs) (Some ours) = crossed theirs ours

-- what becomes of a change of the other end behind all of a log
abbrev pub through : Option Change → List Entry → Option Change
through theirs [] = theirs
through theirs (entry ∷ log) = through (crossed_if theirs entry.change) log

-- and what becomes of the log behind the change
abbrev pub log_behind : Option Change → List Entry → List Entry
log_behind theirs [] = []
log_behind theirs (entry ∷ log) =
    record entry { change = crossed_if entry.change theirs }
    ∷ log_behind (crossed_if theirs entry.change) log

-- The nickname now of whom the other end means by one; none where that user is gone.
abbrev pub nick_behind : Entry → List ℕ → Option (List ℕ)
nick_behind entry nick = option_map_or (λ change. nick_now change nick) entry.change (Some nick)

abbrev pub means : List Entry → List ℕ → Option (List ℕ)
means [] nick = Some nick
means (entry ∷ log) nick = option_and_then (means log) (nick_behind entry nick)

-- The same of whom it means as a member of a channel; none also where that user is out of it.
abbrev pub member_behind : Entry → (channel nick : List ℕ) → Option (List ℕ)
member_behind entry channel nick =
    option_map_or (λ change. member_now change channel nick) entry.change (Some nick)

abbrev pub means_in : List Entry → (channel nick : List ℕ) → Option (List ℕ)
means_in [] channel nick = Some nick
means_in (entry ∷ log) channel nick =
    option_and_then (means_in log channel) (member_behind entry channel nick)

-- the same of a member of a channel, or of whoever it is
abbrev pub means_as : List Entry → Option (List ℕ) → List ℕ → Option (List ℕ)
means_as log None = means log
means_as log (Some channel) = means_in log channel

-- A piece is put out, and so much is to be passed by what comes.
abbrev pub put_out : ℕ → List (Option Change) → List Entry → List Entry
put_out piece changes log = log ++ map (λ change. record { piece = piece; change = change }) changes

-- whether the first change of a log is read, once so many pieces are
abbrev pub is_first_read : ℕ → List Entry → Bool
is_first_read read [] = false
is_first_read read (entry ∷ log) = nat_le entry.piece read

-- What is left of a log once so many pieces are read: those go that are at its front.
abbrev pub unread : ℕ → List Entry → List Entry
unread read [] = []
unread read (entry ∷ log) = if nat_le entry.piece read then unread read log else entry ∷ log
