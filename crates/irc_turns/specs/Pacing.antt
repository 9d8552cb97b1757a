-- How many lines of a client one turn takes.
use Rattle.std.specs.Prelude.{ℕ, Bool, true, false, ◌+◌, ◌*◌, ◌/◌, min, if◌then◌else◌, nat_eq}
use Rattle.std.specs.Prelude.{nat_le, ◌||◌, not}

-- how many lines a turn takes, how many turns have taken so many, how often somebody had come by
-- the last, and whether nothing of the client is left
pub record Paced : Type 0 where
  pub lines : ℕ
  pub turns : ℕ
  pub visits : ℕ
  pub is_idle : Bool

abbrev pub paced : ℕ → ℕ → ℕ → Bool → Paced
paced lines turns visits is_idle =
    record { lines = lines; turns = turns; visits = visits; is_idle = is_idle }

-- that of a client who has sent nothing
abbrev pub at_first : Paced
at_first = paced 2 0 0 true

-- nothing of it is left, so it begins anew
abbrev pub at_rest : Paced → Paced
at_rest pace = record pace { is_idle = true }

-- one line a turn, for now
abbrev pub slowed : Paced → Paced
slowed pace = record pace { lines = 1; turns = 0 }

-- ---- the turn at hand, where somebody has come so often

-- two of one of whom nothing was left, one where somebody has come since its last turn, and
-- otherwise as many as before
abbrev pub paced_lines : Paced → ℕ → ℕ
paced_lines pace visits =
    if pace.is_idle then 2 else (if nat_eq pace.visits visits then pace.lines else 1)

-- turns are counted from here on where it begins, or somebody has come
abbrev pub turns_for : Paced → ℕ → ℕ
turns_for pace visits = if pace.is_idle || not (nat_eq pace.visits visits)
    then 0 else pace.turns

abbrev pub at_turn : Paced → ℕ → Paced
at_turn pace visits = paced (paced_lines pace visits) (turns_for pace visits) visits false

-- ---- behind a turn in which the client was answered so many bytes, and so many were put out to
-- others

-- whether that was much for a client, which is to take them first
abbrev pub is_much_answered : ℕ → Bool
is_much_answered answered = nat_le 4096 answered

-- whether the next turn takes more: it was the 32nd of as many, or its time went into what it put
-- out
abbrev pub is_quickened : Paced → ℕ → Bool
is_quickened pace shown = nat_le 31 pace.turns || nat_le pace.lines (shown / 512)

-- twice as many lines, 32 at most
abbrev pub quickened : Paced → Paced
quickened pace = record pace { lines = min (pace.lines * 2) 32; turns = 0 }

-- one more turn of as many
abbrev pub turn_counted : Paced → Paced
turn_counted pace = record pace { turns = pace.turns + 1 }

abbrev pub behind_turn : Paced → ℕ → ℕ → Paced
behind_turn pace answered shown =
    if is_much_answered answered then slowed pace
    else (if is_quickened pace shown then quickened pace else turn_counted pace)
