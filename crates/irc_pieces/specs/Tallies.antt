-- How many pieces one end of a link has put out, and how many it has read. Of two ends:
--   a puts out a piece of one line        nothing stands in front: nothing was read
--   b reads it, and puts out one          COUNT 1 1, and its line
--   b puts out another of one line        the line alone: all that was read is told
--   b puts out one of two lines           COUNT 1 2, and both
--   b reads 64 more, and says nothing     COUNT 65 0
use Rattle.std.specs.Prelude.{ℕ, ◌+◌, ◌-◌, Bool, not, is_some, ◌&&◌, ◌||◌, nat_eq, nat_le, min}
use Rattle.std.specs.Prelude.{Option}
use Rattle.std.specs.Prelude.{Some, None, if◌then◌else◌}
use Rattle.irc_pieces.specs.declared.count.Count.{Count}
use Rattle.irc_pieces.specs.declared.count.Mark.{Mark}
use Rattle.irc_pieces.specs.declared.counts.Counts.{Counts}

-- as both ends have named themselves
abbrev pub none_counted : Counts
none_counted = record { sent = 0; taken = 0; read = 0; told = 0; untold_bytes = 0 }

-- numbers have 64 bits, and stay at the greatest
abbrev pub and_more : ℕ → ℕ → ℕ
and_more n more = min (n + more) 18446744073709551615

-- the other end may have read so many: of those that were put out, and no fewer than before
abbrev pub is_possible : Counts → ℕ → Bool
is_possible counts read = nat_le counts.taken read && nat_le read counts.sent

abbrev pub unread : Counts → ℕ
unread counts = counts.sent - counts.taken

-- ---- read

abbrev pub one_read : ℕ → Counts → Counts
one_read bytes counts = record counts {
  read = and_more counts.read 1;
  untold_bytes = and_more counts.untold_bytes bytes;
}

-- ---- put out

abbrev pub all_told : Counts → Counts
all_told counts = record counts { told = counts.read; untold_bytes = 0 }

abbrev pub put_one_out : Counts → Counts
put_one_out counts = all_told (record counts { sent = and_more counts.sent 1 })

abbrev pub count_now : ℕ → Option Mark → Counts → Count
count_now lines mark counts = record { read = counts.read; lines = lines; mark = mark }

-- a line alone tells its piece where all that was read is told
abbrev pub is_plain : ℕ → Option Mark → Counts → Bool
is_plain lines mark counts =
    (nat_eq counts.told counts.read && nat_eq lines 1) && not (is_some mark)

abbrev pub count_for : ℕ → Option Mark → Counts → Option Count
count_for lines mark counts =
    if is_plain lines mark counts then None else Some (count_now lines mark counts)

-- where nothing is said, 64 pieces or 65,536 bytes that were read are told
abbrev pub is_due : Counts → Bool
is_due counts = nat_le 64 (counts.read - counts.told) || nat_le 65536 counts.untold_bytes

abbrev pub count_alone : Counts → Option Count
count_alone counts = if is_due counts then Some (count_now 0 None counts) else None
