-- Clients that have come and are to become users in time, and the one of which it is asked whether
-- it is.
use Rattle.std.specs.Prelude.{ℕ, Bool, is_some, Option, Some, None}
use Rattle.irc_turns.specs.Naming.{TimedStrangers, first_over, others_of, stranger_too}
use Rattle.irc_turns.specs.Naming.{strangers_of}
use Rattle.irc_turns.specs.declared.newcomers.Newcomers.{Newcomers}
use Rattle.irc_turns.specs.declared.talker.TalkerMark.{TalkerMark}

-- nobody has come
abbrev pub newcomers_of : Option ℕ → Newcomers
newcomers_of seconds = record { comers = strangers_of seconds; late = None }

-- one has come at a moment
abbrev pub newcomer_too : TalkerMark → ℕ → Newcomers → Newcomers
newcomer_too mark now newcomers =
    record newcomers { comers = stranger_too mark now newcomers.comers }

-- where it is asked of none, it is of the next whose time is over at a moment, who leaves the
-- others
abbrev pub looked_for : ℕ → TimedStrangers → Option TalkerMark → Newcomers
looked_for now comers None = record { comers = others_of now comers; late = first_over now comers }
looked_for now comers (Some mark) = record { comers = comers; late = Some mark }

abbrev pub looked_at : ℕ → Newcomers → Newcomers
looked_at now newcomers = looked_for now newcomers.comers newcomers.late

abbrev pub asks_of_one : Newcomers → Bool
asks_of_one newcomers = is_some newcomers.late

abbrev pub number_of_mark : TalkerMark → ℕ
number_of_mark mark = mark.number

-- it is told of the one
abbrev pub asked_no_more : Newcomers → Newcomers
asked_no_more newcomers = record newcomers { late = None }
