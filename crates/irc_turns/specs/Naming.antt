-- Those who have come by a door and have yet to name themselves, or to become users, and until
-- when.
use Rattle.std.specs.Prelude.{ℕ, ◌*◌, nat_lt, if◌then◌else◌, Option, Some, None, List, [], ◌∷◌}
use Rattle.std.specs.Prelude.{◌++◌}
use Rattle.irc_moments.specs.Moments.{later}
use Rattle.irc_turns.specs.declared.strangers.Stranger.{Stranger}
use Rattle.irc_turns.specs.declared.talker.TalkerMark.{TalkerMark}

-- how many milliseconds each has, if there is a limit; and who has come, in order
pub record TimedStrangers : Type 0 where
  pub within : Option ℕ
  pub comers : List Stranger

abbrev pub milliseconds_in : Option ℕ → Option ℕ
milliseconds_in None = None
milliseconds_in (Some seconds) = Some (seconds * 1000)

-- nobody has come
abbrev pub strangers_of : Option ℕ → TimedStrangers
strangers_of seconds = record { within = milliseconds_in seconds; comers = [] }

-- one has come at a moment; where there is no limit it need not be known
abbrev pub come_at : Option ℕ → TalkerMark → ℕ → List Stranger → List Stranger
come_at None mark now comers = comers
come_at (Some within) mark now comers =
    comers ++ record { mark = mark; until = later now within } ∷ []

abbrev pub stranger_too : TalkerMark → ℕ → TimedStrangers → TimedStrangers
stranger_too mark now strangers =
    record strangers { comers = come_at strangers.within mark now strangers.comers }

-- the first one's time is over at a moment, or nobody's is
abbrev pub over_first : ℕ → List Stranger → Option TalkerMark
over_first now [] = None
over_first now (first ∷ others) = if nat_lt now first.until then None else Some first.mark

abbrev pub first_over : ℕ → TimedStrangers → Option TalkerMark
first_over now strangers = over_first now strangers.comers

abbrev pub without_over : ℕ → List Stranger → List Stranger
without_over now [] = []
without_over now (first ∷ others) = if nat_lt now first.until then first ∷ others else others

abbrev pub others_of : ℕ → TimedStrangers → TimedStrangers
others_of now strangers = record strangers { comers = without_over now strangers.comers }
