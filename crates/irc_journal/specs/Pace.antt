-- How often a line is said of one address (our own choice: else whoever connects and goes fills the
-- log of whoever runs a server). Within a second behind a line that was said of an address each
-- other of it is left out; the next that is said tells how many were. What was said is kept of the
-- 64 addresses of which something was to be said last.
--
-- Of 10.0.0.5 there is something to say at these moments, in milliseconds:
--   7000      it is said
--   7001, 7400, 7999      left out
--   8000      it is said, and that there were 3 more
--   9000      it is said
use Rattle.std.specs.Prelude.{ℕ, ◌+◌, ◌-◌, Bool, nat_lt, min, Option, Some, None, List, [], ◌∷◌}
use Rattle.std.specs.Prelude.{◌++◌, drop, length, if◌then◌else◌}
use Rattle.std.specs.List.{position, remove, slice_get}
use Rattle.std.specs.Str.{bytes_eq}
use Rattle.irc_journal.specs.declared.lately.LastSaid.{LastSaid}

-- how many milliseconds lie between two lines of one address
unfoldable pub pace : ℕ
pace = 1000

-- of how many addresses it is kept
unfoldable pub most_addresses : ℕ
most_addresses = 64

-- one more, of which no more are told than a number has room for
abbrev pub one_more : ℕ → ℕ
one_more count = min (count + 1) 18446744073709551615

-- ---- one address

-- of it a line is said at this moment
abbrev pub said_at : List ℕ → ℕ → LastSaid
said_at host moment = record { host = host; at = moment; left_out = 0 }

-- whether a line of it is left out at this moment
abbrev pub is_too_soon : ℕ → LastSaid → Bool
is_too_soon moment last = nat_lt (moment - last.at) pace

-- What comes of a line of an address, by what was said of it last: how many were left out before
-- it; or none, where it is left out itself.
abbrev pub count_then : ℕ → Option LastSaid → Option ℕ
count_then moment None = Some 0
count_then moment (Some last) = if is_too_soon moment last then None else Some last.left_out

abbrev pub last_then : List ℕ → ℕ → Option LastSaid → LastSaid
last_then host moment None = said_at host moment
last_then host moment (Some last) =
    if is_too_soon moment last then record last { left_out = one_more last.left_out }
    else said_at host moment

-- ---- all of them, the one of which something was to be said last behind the others

abbrev pub is_of : List ℕ → LastSaid → Bool
is_of host last = bytes_eq last.host host

-- where an address stands, if it does
abbrev pub place_of : List ℕ → List LastSaid → Option ℕ
place_of host rows = position (is_of host) rows

abbrev pub row_at : List LastSaid → Option ℕ → Option LastSaid
row_at rows None = None
row_at rows (Some place) = slice_get rows place

abbrev pub rows_without : List LastSaid → Option ℕ → List LastSaid
rows_without rows None = rows
rows_without rows (Some place) = remove rows place

-- what was said of it last
abbrev pub last_of : List ℕ → List LastSaid → Option LastSaid
last_of host rows = row_at rows (place_of host rows)

-- the others
abbrev pub others_than : List ℕ → List LastSaid → List LastSaid
others_than host rows = rows_without rows (place_of host rows)

-- one more is kept, for which the first goes where there is no room
abbrev pub with_room : List LastSaid → List LastSaid
with_room rows = if nat_lt (length rows) most_addresses then rows else drop 1 rows

abbrev pub kept_also : LastSaid → List LastSaid → List LastSaid
kept_also last rows = with_room rows ++ last ∷ []

-- how many lines of an address were left out before one at this moment; or none, where that one is
-- left out too
abbrev pub count_at : List ℕ → ℕ → List LastSaid → Option ℕ
count_at host moment rows = count_then moment (last_of host rows)

abbrev pub rows_after : List ℕ → ℕ → List LastSaid → List LastSaid
rows_after host moment rows =
    kept_also (last_then host moment (last_of host rows)) (others_than host rows)

-- ---- a line, of which the address is known or not: else it is said

abbrev pub count_if : Option (List ℕ) → ℕ → List LastSaid → Option ℕ
count_if None moment rows = Some 0
count_if (Some host) moment rows = count_at host moment rows

abbrev pub rows_if : Option (List ℕ) → ℕ → List LastSaid → List LastSaid
rows_if None moment rows = rows
rows_if (Some host) moment rows = rows_after host moment rows
