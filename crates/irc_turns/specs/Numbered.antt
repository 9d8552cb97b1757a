-- Those who talk to the server, by their numbers, the queue of those that are to be reported, and
-- who is held back.
use Rattle.std.specs.Prelude.{◌≡◌, ◌≤◌, ◌⊎◌, ℕ, Bool, true, false, not, ◌&&◌, ◌||◌, ◌-◌, nat_eq}
use Rattle.std.specs.Prelude.{if◌then◌else◌, Option, Some, None, is_none, List, [], ◌∷◌}
use Rattle.std.specs.Prelude.{length}
use Rattle.std.specs.List.{slice_get, swap_remove}
use Rattle.std.specs.Option.{option_or}
use Rattle.slab.specs.Slab.{Slab, get, with_value, Updates}
use Rattle.irc_brakes.specs.Reading.{is_read_beside}
use Rattle.irc_turns.specs.declared.allowance.LinesPace.{LinesPace}
use Rattle.irc_turns.specs.declared.marks.Marks.{Marks}
use Rattle.irc_turns.specs.declared.round.Round.{Round}
use Rattle.irc_turns.specs.Rounds.{wait_more, more_noted, read_by}
use Rattle.irc_turns.specs.declared.talker.AddedTo.{AddedTo}
use Rattle.irc_turns.specs.declared.talker.TalkerMark.{TalkerMark}
use Rattle.irc_turns.specs.declared.talker.Talker.{Talker}
use Rattle.irc_turns.specs.declared.talker.Readiness.{Readiness}
use Rattle.irc_turns.specs.declared.talkers.Report.{Report}
use Rattle.irc_turns.specs.declared.talkers.Report.TheVariants as report
use Rattle.irc_turns.specs.HeldBack.{held_too, is_for_client, may_wait_at}
use Rattle.irc_turns.specs.declared.holding.Held.{Held}
use Rattle.irc_turns.specs.declared.holding.Reason.{Reason}
use Rattle.irc_turns.specs.declared.holding.Reason.TheVariants as reason
use Rattle.irc_turns.specs.Queues.{Queued, stands_in, queued_behind, queued_as, queue_without}
use Rattle.irc_turns.specs.Queues.{is_first}
use Rattle.irc_turns.specs.Talking.{new_talker, is_asked, too_much_for, may_take_more, is_put_off}
use Rattle.irc_turns.specs.Talking.{written, takes_again, told_so, turn_over, held_back, named}
use Rattle.irc_turns.specs.Talking.{held_no_more, is_over, is_over_soft, is_over_hard, may_be_held}
use Rattle.irc_turns.specs.Talking.{may_be_eased, given_up, wants_signal, lines_allowed}

-- the talkers, the numbers of those that are to be reported, who is held back, the links for which
-- far too much waits, how much is too much, how many came, and the pace of clients, if they keep to
-- one
pub record NumberedTalkers : Type 0 where
  pub by_number : Slab Talker
  pub queue : List ℕ
  pub holding : List Held
  pub full : List ℕ
  pub marks : Marks
  pub count : ℕ
  pub pace : Option LinesPace

-- clients keep to another pace from now on, or to none
abbrev pub kept_to : Option LinesPace → NumberedTalkers → NumberedTalkers
kept_to pace talkers = record talkers { pace = pace }

-- there is room for each talker in the queue, and among those for whom far too much waits
pub record HasRoom (by_number : Slab Talker) (queue full : Queued) : Type 0 where
  pub in_queue : length by_number.slots ≤ queue.room
  pub in_full : length by_number.slots ≤ full.room

-- the talker under a number, if there is one
abbrev pub talker_at : NumberedTalkers → ℕ → Option Talker
talker_at talkers number = get talkers.by_number number

-- one that is to be reported stands behind the others, unless it stands among them
abbrev pub queued_if : Bool → ℕ → List ℕ → List ℕ
queued_if true number queue = queued_behind number queue
queued_if false number queue = queue

-- all but the queue is as it was
abbrev pub SameButQueue : NumberedTalkers → NumberedTalkers → Type 0
SameButQueue old new = new ≡ record old { queue = new.queue }

-- and those for whom far too much waits
abbrev pub SameButQueueAndFull : NumberedTalkers → NumberedTalkers → Type 0
SameButQueueAndFull old new = new ≡ record old { queue = new.queue; full = new.full }

-- all but the talkers and their count is as it was
pub record SameLists (old new : NumberedTalkers) : Type 0 where
  pub queue : new.queue ≡ old.queue
  pub holding : new.holding ≡ old.holding
  pub full : new.full ≡ old.full
  pub marks : new.marks ≡ old.marks
  pub pace : new.pace ≡ old.pace

-- ---- one talker comes, or changes

-- a number has a new talker that has come at a moment, with the count of all for its serial; the
-- others stay
abbrev pub IsTalkerAdded : Bool → ℕ → NumberedTalkers → NumberedTalkers → ℕ → Type 0
IsTalkerAdded is_client now old new number =
    Updates old.by_number new.by_number number (Some (new_talker is_client new.count now old.pace))

abbrev pub talker_changed_if : (Talker → Talker) → ℕ → Slab Talker → Option Talker → Slab Talker
talker_changed_if change number slab None = slab
talker_changed_if change number slab (Some talker) = with_value slab number (change talker)

-- the talker under a number, if there is one, is changed; the others stay
abbrev pub talker_changed_at : (Talker → Talker) → ℕ → Slab Talker → Slab Talker
talker_changed_at change number slab = talker_changed_if change number slab (get slab number)

abbrev pub only : (Talker → Talker) → ℕ → NumberedTalkers → NumberedTalkers
only change number talkers =
    record talkers { by_number = talker_changed_at change number talkers.by_number }

-- one that was full is tried again
abbrev pub tried_again : Talker → Talker
tried_again talker = record talker { is_full = false }

-- what the system tells has it reported, where it takes bytes again, or has something to say
abbrev pub is_told : Readiness → ℕ → Option Talker → Bool
is_told told now None = false
is_told told now (Some talker) = takes_again talker told || is_asked (told_so talker told now)

-- the queue then
abbrev pub queue_told : Readiness → ℕ → ℕ → NumberedTalkers → List ℕ
queue_told told number now talkers =
    queued_if (is_told told now (talker_at talkers number)) number talkers.queue

abbrev pub is_asked_behind : Readiness → ℕ → Option Talker → Bool
is_asked_behind told now None = false
is_asked_behind told now (Some talker) = is_asked (told_so talker told now)

-- somebody has come by it who was not waiting
abbrev pub has_come : Readiness → ℕ → ℕ → NumberedTalkers → Bool
has_come told number now talkers =
    is_asked_behind told now (talker_at talkers number) && not (stands_in number talkers.queue)

-- one that is held back no more is reported, if it has something to say
abbrev pub is_asked_again : Option Talker → Bool
is_asked_again None = false
is_asked_again (Some talker) = is_asked (held_no_more talker)

abbrev pub asked_again : ℕ → NumberedTalkers → NumberedTalkers
asked_again number talkers = record (only held_no_more number talkers) {
  queue = queued_if (is_asked_again (talker_at talkers number)) number talkers.queue;
}

-- one of whom something is left is reported, if it is to be asked
abbrev pub is_asked_one : Option Talker → Bool
is_asked_one None = false
is_asked_one (Some talker) = is_asked talker

abbrev pub queue_asked : ℕ → NumberedTalkers → List ℕ
queue_asked number talkers =
    queued_if (is_asked_one (talker_at talkers number)) number talkers.queue

-- ---- how much one may say by time

abbrev pub lines_allowed_one : Option LinesPace → ℕ → Option Talker → ℕ
lines_allowed_one pace now None = 18446744073709551615
lines_allowed_one pace now (Some talker) = lines_allowed pace now talker

-- how many lines of one may begin at a moment; of one that is gone, too, as many as can be
abbrev pub lines_allowed_at : ℕ → ℕ → NumberedTalkers → ℕ
lines_allowed_at number now talkers =
    lines_allowed_one talkers.pace now (talker_at talkers number)

abbrev pub is_paced_one : Option LinesPace → ℕ → Option Talker → Bool
is_paced_one pace now slot = nat_eq 0 (lines_allowed_one pace now slot)

-- none may: it is a client that has said all that it may for now
abbrev pub is_paced : NumberedTalkers → ℕ → ℕ → Bool
is_paced talkers now number = is_paced_one talkers.pace now (talker_at talkers number)

-- ---- writes

abbrev pub put_off_one : Round → ℕ → Bool → Option Talker → Option Bool
put_off_one round all may_wait None = None
put_off_one round all may_wait (Some talker) =
    if is_over round.began talker then None else Some (is_put_off talker round.turn all may_wait)

-- whether a write of so many bytes in all waits, if there is one to whom it is and whose writes do
-- not fail; that of who is next to be reported waits for nothing but its socket
abbrev pub put_off_at : NumberedTalkers → Round → ℕ → ℕ → Option Bool
put_off_at talkers round number all =
    put_off_one round all (round.may_wait && not (is_first number talkers.queue))
    (talker_at talkers number)

-- behind a write, which took so many bytes, or failed, one that is to be asked is reported
abbrev pub is_asked_then : Round → ℕ → Option ℕ → Option Talker → Bool
is_asked_then round all taken None = false
is_asked_then round all taken (Some talker) =
    is_asked (written round.turn round.began all taken talker)

abbrev pub queue_written : Round → ℕ → Option ℕ → ℕ → NumberedTalkers → List ℕ
queue_written round all taken number talkers =
    queued_if (is_asked_then round all taken (talker_at talkers number)) number talkers.queue

-- whether far too much waits for it is known from then on
abbrev pub full_written_one : Round → ℕ → Option ℕ → ℕ → NumberedTalkers → Option Talker → List ℕ
full_written_one round all taken number talkers None = talkers.full
full_written_one round all taken number talkers (Some talker) =
    queued_as (is_over_hard talkers.marks (written round.turn round.began all taken talker)) number
    talkers.full

abbrev pub full_written : Round → ℕ → Option ℕ → ℕ → NumberedTalkers → List ℕ
full_written round all taken number talkers =
    full_written_one round all taken number talkers (talker_at talkers number)

-- what the round knows of it: how much more waits than before, whether that is too much, and
-- whether a wait would be too long, since what others are told of a failure is yet to be written,
-- or bytes wait for a socket that takes some
abbrev pub round_behind : Marks → ℕ → ℕ → Option ℕ → Round → Option Talker → Round
round_behind marks number all taken round None = round
round_behind marks number all taken round (Some talker) =
    more_noted (wait_more round number (all - talker.waiting.bytes)
    (too_much_for marks round.reads_link (written round.turn round.began all taken talker)))
    (is_none taken || may_take_more (written round.turn round.began all taken talker))

-- ---- marks

abbrev pub mark_if : ℕ → Option Talker → Option TalkerMark
mark_if number None = None
mark_if number (Some talker) = Some (record { number = number; serial = talker.serial })

-- what tells a talker from each other that there is or was
abbrev pub talker_mark : NumberedTalkers → ℕ → Option TalkerMark
talker_mark talkers number = mark_if number (talker_at talkers number)

abbrev pub mark_of_one : NumberedTalkers → Option ℕ → Option TalkerMark
mark_of_one talkers None = None
mark_of_one talkers (Some number) = talker_mark talkers number

-- to whom was added in a turn, so that its reader is to wait
abbrev pub added_in : Round → NumberedTalkers → AddedTo
added_in round talkers = record {
  client = mark_of_one talkers round.filled;
  link = mark_of_one talkers round.grown;
}

-- a turn is over for the one that was read in it, if one was
abbrev pub turn_ended : Round → Option ℕ → NumberedTalkers → NumberedTalkers
turn_ended round None talkers = talkers
turn_ended round (Some reader) talkers =
    only (λ talker. turn_over talker round.answered round.shown (added_in round talkers)) reader
    talkers

-- ---- who names itself, and who does not

-- a link is met, and what waits for it then keeps nobody waiting
abbrev pub link_named_if : ℕ → NumberedTalkers → Option Talker → NumberedTalkers
link_named_if number talkers None = talkers
link_named_if number talkers (Some talker) = record talkers {
  by_number = with_value talkers.by_number number (named talker);
  full = queue_without number talkers.full;
}

abbrev pub link_named : ℕ → NumberedTalkers → NumberedTalkers
link_named number talkers = link_named_if number talkers (talker_at talkers number)

-- the time of one is over: it is given up, unless it has named itself or is gone
abbrev pub time_ended_if : TalkerMark → NumberedTalkers → Option Talker → NumberedTalkers
time_ended_if mark talkers None = talkers
time_ended_if mark talkers (Some talker) =
    if nat_eq talker.serial mark.serial && not talker.is_named then record talkers {
      by_number = with_value talkers.by_number mark.number (given_up talker);
      queue = queued_behind mark.number talkers.queue;
    } else talkers

abbrev pub time_ended : TalkerMark → NumberedTalkers → NumberedTalkers
time_ended mark talkers = time_ended_if mark talkers (talker_at talkers mark.number)

abbrev pub wants_signal_one : Option Talker → Bool
wants_signal_one None = false
wants_signal_one (Some talker) = wants_signal talker

-- ---- who is held back

abbrev pub is_grown_one : Marks → TalkerMark → Option Talker → Bool
is_grown_one marks mark None = false
is_grown_one marks mark (Some talker) =
    nat_eq talker.serial mark.serial && is_over_soft marks talker

-- too much waits for the link of this mark
abbrev pub is_grown : NumberedTalkers → TalkerMark → Bool
is_grown talkers mark = is_grown_one talkers.marks mark (talker_at talkers mark.number)

abbrev pub is_filled_one : TalkerMark → Option Talker → Bool
is_filled_one mark None = false
is_filled_one mark (Some talker) = nat_eq talker.serial mark.serial && talker.is_full

-- the client of this mark takes no bytes
abbrev pub is_filled : NumberedTalkers → TalkerMark → Bool
is_filled talkers mark = is_filled_one mark (talker_at talkers mark.number)

abbrev pub grown_reason : NumberedTalkers → Option TalkerMark → Option Reason
grown_reason talkers None = None
grown_reason talkers (Some mark) =
    if is_grown talkers mark then Some (reason.Grown mark) else None

-- far too much waits for others
abbrev pub full_reason : NumberedTalkers → ℕ → Option Reason
full_reason talkers number =
    if not (is_read_beside nat_eq talkers.full number) then Some reason.OthersFull else None

abbrev pub filled_reason : NumberedTalkers → Bool → Option TalkerMark → Option Reason
filled_reason talkers may_wait None = None
filled_reason talkers may_wait (Some mark) =
    if may_wait && is_filled talkers mark then Some (reason.Filled mark) else None

abbrev pub paced_reason : NumberedTalkers → ℕ → ℕ → Option Reason
paced_reason talkers now number =
    if is_paced talkers now number then Some reason.Paced else None

abbrev pub reason_for_one : NumberedTalkers → ℕ → ℕ → Option Talker → Option Reason
reason_for_one talkers now number None = None
reason_for_one talkers now number (Some talker) =
    if not (may_be_held talker) then None else option_or (option_or
    (option_or (grown_reason talkers talker.grows) (full_reason talkers number))
    (filled_reason talkers (may_be_eased talker now) talker.fills))
    (paced_reason talkers now number)

-- why one that would be asked is to wait: for a link that it has added to; or for others for which
-- far too much waits; or for a client that it has added to; or for its pace
abbrev pub reason_for : NumberedTalkers → ℕ → ℕ → Option Reason
reason_for talkers now number = reason_for_one talkers now number (talker_at talkers number)

abbrev pub held_for : Reason → ℕ → ℕ → NumberedTalkers → NumberedTalkers
held_for why number now talkers =
    record (only (held_back (is_for_client why) now) number talkers)
    { holding = held_too talkers.holding number why now }

-- it is held back for a reason, from this moment on; or not, where memory runs out
abbrev pub IsHeldFor : Option Reason → ℕ → ℕ → NumberedTalkers → NumberedTalkers → Type 0
IsHeldFor None number now old new = new ≡ old
IsHeldFor (Some why) number now old new = (new ≡ held_for why number now old) ⊎ (new ≡ old)

-- ---- the report of one

-- one that is not asked may take bytes, since it stood in the queue
abbrev pub talker_report : ℕ → Option Talker → Option Report
talker_report number None = None
talker_report number (Some talker) =
    Some (if is_asked talker then report.Readable number else report.Writable number)

-- what it has to say is heard
abbrev pub talker_heard : Talker → Talker
talker_heard talker =
    if is_asked talker then record talker { is_readable = false; was_held = false } else talker

-- who is read in the turn
abbrev pub turn_read : ℕ → Option Talker → Round → Round
turn_read number None round = round
turn_read number (Some talker) round =
    if is_asked talker then read_by round number talker.is_client else round

-- it has left the queue, is held back if it is to be, and is reported as it stands then
pub record IsReported (number : ℕ) (old new : NumberedTalkers) (round : Round)
    (result : Option Report) (round_after : Round) : Type 0 where
  pub held : NumberedTalkers
  pub is_held :
      IsHeldFor (reason_for old round.began number) number round.began
      (record old { queue = new.queue }) held
  pub result_is : result ≡ talker_report number (talker_at held number)
  pub left : new ≡ only talker_heard number held
  pub reader_is : round_after ≡ turn_read number (talker_at held number) round

abbrev pub ReportsOf : List ℕ → NumberedTalkers → NumberedTalkers → Round → Option Report → Round
    → Type 0
ReportsOf [] old new round result round_after =
    (result ≡ None) × (SameButQueue old new × (round_after ≡ round))
ReportsOf (number ∷ behind) old new round result round_after =
    IsReported number old new round result round_after

-- the first of the queue is reported; where none is queued, nothing is
abbrev pub ReportsFirst : NumberedTalkers → NumberedTalkers → Round → Option Report → Round → Type 0
ReportsFirst old new round result round_after = ReportsOf old.queue old new round result round_after

-- ---- who is let go

abbrev pub is_due_for : ℕ → NumberedTalkers → Held → Reason → Bool
is_due_for now talkers held reason.OthersFull = is_read_beside nat_eq talkers.full held.who
is_due_for now talkers held (reason.Grown mark) = not (is_grown talkers mark)
is_due_for now talkers held (reason.Filled mark) =
    not (may_wait_at now held && is_filled talkers mark)
is_due_for now talkers held reason.Paced = not (is_paced talkers now held.who)

-- at this moment the reason is gone: far too much waits for no other; no more than may waits for
-- the link; the client takes bytes again, or its time is over; it may say a line. So it is where
-- that one is gone
abbrev pub is_due : ℕ → NumberedTalkers → Held → Bool
is_due now talkers held = is_due_for now talkers held held.reason

-- a client for which somebody has waited is tried again
abbrev pub tried_for : Reason → NumberedTalkers → NumberedTalkers
tried_for (reason.Filled mark) talkers = only tried_again mark.number talkers
tried_for other talkers = talkers

-- the one that it has waited for is tried again, and it is reported, if it has something to say;
-- the last of those who are held takes its place
abbrev pub let_go_one : ℕ → Held → NumberedTalkers → NumberedTalkers
let_go_one place held talkers =
    record (asked_again held.who (tried_for held.reason talkers))
    { holding = swap_remove talkers.holding place held }

-- whoever is held at a place is let go
pub record LetsGoAt (place : ℕ) (old new : NumberedTalkers) : Type 0 where
  pub held : Held
  pub there : slice_get old.holding place ≡ Some held
  pub left : new ≡ let_go_one place held old

-- whoever is held at a place, and is due, is let go
pub record LetsOneGo (now : ℕ) (old new : NumberedTalkers) (place : ℕ) (held : Held)
    : Type 0 where
  pub there : slice_get old.holding place ≡ Some held
  pub due : is_due now old held ≡ true
  pub left : new ≡ let_go_one place held old

-- some are let go at a moment, one after another
pub data LetsGo (now : ℕ) (old : NumberedTalkers) : NumberedTalkers → Type 0 where
  nobody : LetsGo now old old
  one_more : (between new : NumberedTalkers) (place : ℕ) (held : Held)
      → LetsGo now old between → LetsOneGo now between new place held → LetsGo now old new
