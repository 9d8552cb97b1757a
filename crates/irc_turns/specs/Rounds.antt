-- A round, and the turn at hand.
use Rattle.std.specs.Prelude.{ℕ, Bool, false, not, ◌&&◌, ◌||◌, ◌+◌, ◌-◌, ◌%◌, min, nat_eq, nat_lt}
use Rattle.std.specs.Prelude.{if◌then◌else◌, Option, Some, None}
use Rattle.irc_turns.specs.declared.round.Round.{Round}
use Rattle.irc_turns.specs.declared.round.TooMuch.{TooMuch}
use Rattle.irc_turns.specs.declared.round.TooMuch.TheVariants as too_much

-- before the first round, and before turn 65
abbrev pub no_round : ℕ → Round
no_round now = record {
  began = now;
  left = 0;
  is_quiet = false;
  visits = 0;
  turn = 64;
  reader = None;
  reads_link = false;
  may_wait = false;
  answered = 0;
  shown = 0;
  filled = None;
  grown = None;
  has_more = false;
}

-- one more is counted, by a count that begins anew behind 2 ^ 64 - 1
abbrev pub count_after : ℕ → ℕ
count_after count = (count + 1) % 18446744073709551616

-- a round begins at a moment, with so many sockets: it is quiet where nobody has come
abbrev pub round_begun : Round → ℕ → ℕ → Bool → Round
round_begun round now left has_come =
    record round {
      began = now;
      left = left;
      is_quiet = not has_come;
      visits = if has_come
          then count_after round.visits else round.visits;
    }

-- a sum of which no more is told than that it is as large as a number can be
abbrev pub at_most_word : ℕ → ℕ
at_most_word sum = min sum 18446744073709551615

-- a turn begins: nobody is read in it yet, and nothing has come of it
abbrev pub turn_begun : Round → Round
turn_begun round =
    record round {
      turn = at_most_word (round.turn + 1);
      reader = None;
      reads_link = false;
      answered = 0;
      shown = 0;
      filled = None;
      grown = None;
      has_more = false;
    }

-- somebody is read in it, a client or a link
abbrev pub read_by : Round → ℕ → Bool → Round
read_by round number is_client =
    record round { reader = Some number; reads_link = not is_client }

-- whether it is the one that is read
abbrev pub is_one : ℕ → Option ℕ → Bool
is_one number None = false
is_one number (Some other) = nat_eq other number

-- too much waits for a client, or for a link, or it does not
abbrev pub too_much_noted : Round → ℕ → TooMuch → Round
too_much_noted round number too_much.No = round
too_much_noted round number too_much.OfClient = record round { filled = Some number }
too_much_noted round number too_much.OfLink = record round { grown = Some number }

-- so many bytes more wait for a socket: its reader's own, which are its answer, or another's, to
-- whom they are shown; for that one too much may wait, if there are any
abbrev pub wait_more : Round → ℕ → ℕ → TooMuch → Round
wait_more round number more too_much =
    if is_one number round.reader
    then record round { answered = at_most_word (round.answered + more) }
    else if nat_lt 0 more then too_much_noted
    (record round { shown = at_most_word (round.shown + more) }) number too_much
    else record round { shown = at_most_word (round.shown + more) }

-- bytes may wait though nothing is in their way
abbrev pub more_noted : Round → Bool → Round
more_noted round has_more = record round { has_more = round.has_more || has_more }

-- ---- how it goes on

-- all that were ready are reported, and nobody waits at a door
abbrev pub is_round_over : Round → Bool → Bool
is_round_over round has_arrivals = nat_eq round.left 0 && not has_arrivals

-- one of those that were ready is reported
abbrev pub one_reported : Round → Round
one_reported round = record round { left = round.left - 1 }

-- whether another turn follows soon: of this round; or of the next one, where somebody stands in
-- the queue, and nobody came for whom that would be late
abbrev pub next_turn_noted : Round → Bool → Bool → Round
next_turn_noted round has_arrivals is_waiting =
    record round {
      may_wait = (nat_lt 0 round.left || has_arrivals) || (round.is_quiet && is_waiting);
    }
