-- What is written at the places of one row: of a user, of a member, or of a channel. Of two writes
-- of one place that cross, the greater stays at both ends.
--
--   a.net   :al TOPIC #c :one      b.net   :bo TOPIC #c :two
--   both have the topic two; a.net reads a write that is greater than its own, and b.net one that
--   is not, of which nothing is left
-- A value is bytes: what is not set is empty, and what is set is greater.
use Rattle.std.specs.Prelude.{ℕ, Option, Some, None, List, [], unwrap_or, if◌then◌else◌}
use Rattle.std.specs.Ordering.{is_lt}
use Rattle.irc_names.specs.Greater.{bytes_cmp}

-- what stands at each place
abbrev pub Row : Type 0 → Type 0
Row Place = Place → List ℕ

-- what is to stand there, where that is written
abbrev pub Writes : Type 0 → Type 0
Writes Place = Place → Option (List ℕ)

abbrev pub blank_row : {Place : Type 0} → Row Place
blank_row place = []

abbrev pub no_writes : {Place : Type 0} → Writes Place
no_writes place = None

abbrev pub written : {Place : Type 0} → Writes Place → Row Place → Row Place
written writes row place = unwrap_or (writes place) (row place)

-- every place is written
abbrev pub all_of : {Place : Type 0} → Row Place → Writes Place
all_of row place = Some (row place)

-- what is left of a write behind another one of its place
abbrev pub less : Option (List ℕ) → Option (List ℕ) → Option (List ℕ)
less None ours = None
less (Some theirs) None = Some theirs
less (Some theirs) (Some ours) = if is_lt (bytes_cmp ours theirs) then Some theirs else None

abbrev pub writes_behind : {Place : Type 0} → Writes Place → Writes Place → Writes Place
writes_behind theirs ours place = less (theirs place) (ours place)
