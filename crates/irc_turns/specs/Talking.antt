-- One that talks to the server, a client or a link: what is asked of it, what is told of it, and
-- what a turn leaves of it.
use Rattle.std.specs.Prelude.{◌≡◌, ◌≤◌, ◌⊎◌, ⊤, ℕ, Bool, true, false, not, ◌&&◌, ◌||◌, ◌-◌, nat_eq}
use Rattle.std.specs.Prelude.{nat_lt, nat_le, if◌then◌else◌, Option, Some, None, List, [], ◌++◌}
use Rattle.std.specs.Prelude.{length}
use Rattle.std.specs.Prelude.{take, drop, min}
use Rattle.irc_turns.specs.Allowances.{allowance_of, lines_at, spent}
use Rattle.irc_turns.specs.Fronts.{GivesLines, IsFront}
use Rattle.irc_moments.specs.Moments.{later}
use Rattle.irc_turns.specs.Gathering.{nothing_waits, waits_behind}
use Rattle.irc_turns.specs.Gathering.{is_put_off as waits_for_more}
use Rattle.irc_turns.specs.Pacing.{at_first, at_rest, at_turn, behind_turn, paced_lines}
use Rattle.irc_turns.specs.declared.allowance.LinesPace.{LinesPace}
use Rattle.irc_turns.specs.declared.marks.Marks.{Marks}
use Rattle.irc_turns.specs.declared.round.TooMuch.{TooMuch}
use Rattle.irc_turns.specs.declared.round.TooMuch.TheVariants as too_much
use Rattle.irc_turns.specs.declared.talker.AddedTo.{AddedTo}
use Rattle.irc_turns.specs.declared.talker.Reading.{Reading}
use Rattle.irc_turns.specs.declared.talker.Reading.TheVariants as reading
use Rattle.irc_turns.specs.declared.talker.Talker.{Talker}
use Rattle.irc_turns.specs.declared.talker.Readiness.{Readiness}

-- one that has come at a moment, and of which the system has told nothing yet; by this pace it may
-- say something, or by none
abbrev pub new_talker : Bool → ℕ → ℕ → Option LinesPace → Talker
new_talker is_client serial now lines_pace = record {
  is_client = is_client;
  serial = serial;
  is_readable = false;
  is_named = false;
  is_given_up = false;
  is_full = false;
  is_behind = false;
  is_ending = false;
  is_held = false;
  was_held = false;
  may_have_more = false;
  rest = [];
  pace = at_first;
  waiting = nothing_waits;
  is_just_met = false;
  spared = 0;
  silent_since = now;
  free_until = 0;
  fills = None;
  grows = None;
  allowance = allowance_of lines_pace now;
}

-- ---- what is asked of it

-- it has something to say, is not held back, and is no client that has not taken its answers; or it
-- is given up, which its next read shows
abbrev pub is_asked : Talker → Bool
is_asked talker =
    talker.is_given_up || (talker.is_readable
    && not (talker.is_held || (talker.is_client && talker.is_behind)))

-- it would be asked, and may be kept waiting: a client, or a link that was met
abbrev pub may_be_held : Talker → Bool
may_be_held talker =
    (is_asked talker && not talker.is_given_up) && (talker.is_client || talker.is_named)

-- it may be kept waiting at a moment for a client: not one that was let go and not asked since, nor
-- a link that was within the last second
abbrev pub may_be_eased : Talker → ℕ → Bool
may_be_eased talker now =
    not talker.was_held && (talker.is_client || not (nat_lt now talker.free_until))

-- ---- how much it may say by time

-- how many lines may begin at a moment: of a client, where there is a pace; else as many as can be
abbrev pub lines_allowed : Option LinesPace → ℕ → Talker → ℕ
lines_allowed None now talker = 18446744073709551615
lines_allowed (Some pace) now talker =
    if talker.is_client then lines_at pace now talker.allowance else 18446744073709551615

-- a client says these bytes at a moment
abbrev pub has_said : Option LinesPace → ℕ → List ℕ → Talker → Talker
has_said None now bytes talker = talker
has_said (Some pace) now bytes talker =
    if talker.is_client
    then record talker { allowance = spent pace now bytes talker.allowance } else talker

-- ---- how much waits for it

-- for a link that was met all that waits, but for what is left of what waited at the first write
-- since: a burst keeps nobody waiting. One that was not met is told no more than how a link begins
abbrev pub load : Talker → ℕ
load talker =
    if (talker.is_client || not talker.is_named) || talker.is_just_met then 0
    else talker.waiting.bytes - talker.spared

abbrev pub is_over_soft : Marks → Talker → Bool
is_over_soft marks talker = nat_lt marks.soft (load talker)

abbrev pub is_over_hard : Marks → Talker → Bool
is_over_hard marks talker = nat_lt marks.hard (load talker)

-- it is given up; or it is a link for which something waits, which for 30 seconds took none of it,
-- and of which all was read that came, and nothing came
abbrev pub is_over : ℕ → Talker → Bool
is_over now talker =
    talker.is_given_up || (not talker.is_client && ((nat_lt 0 talker.waiting.bytes
    && nat_le 30000 (now - talker.silent_since)) && not talker.is_readable))

-- it takes bytes, and some wait
abbrev pub may_take_more : Talker → Bool
may_take_more talker = not talker.is_full && nat_lt 0 talker.waiting.bytes

-- it is a client that takes no bytes, and more wait for it than may before a client that adds to
-- it, or a link that does, is kept waiting
abbrev pub is_stuck : Marks → Bool → Talker → Bool
is_stuck marks by_link talker =
    (talker.is_client && talker.is_full)
    && nat_lt (if by_link then marks.client else 8192) talker.waiting.bytes

-- whether too much waits for it, where a client, or a link, adds to it
abbrev pub too_much_for : Marks → Bool → Talker → TooMuch
too_much_for marks by_link talker =
    if is_stuck marks by_link talker then too_much.OfClient
    else if is_over_soft marks talker then too_much.OfLink
    else too_much.No

-- a link that is not read, and to which nothing is written, so that its other end might take this
-- one for gone
abbrev pub wants_signal : Talker → Bool
wants_signal talker =
    (talker.is_held && not talker.is_client) && not (nat_lt 0 talker.waiting.bytes)

-- ---- what the system tells of it

-- its socket took no bytes, and does again; or it has failed, which the next write shows
abbrev pub takes_again : Talker → Readiness → Bool
takes_again talker told = talker.is_full && told.has_room

-- bytes may be there to read, or their end, until a read shows that none are
abbrev pub may_have_more : Talker → Readiness → Bool
may_have_more talker told = talker.may_have_more || (told.is_readable || told.is_over)

abbrev pub told_so : Talker → Readiness → ℕ → Talker
told_so talker told now = record talker {
  silent_since = if told.is_readable || told.is_over then now else talker.silent_since;
  is_ending = talker.is_ending || told.is_over;
  may_have_more = may_have_more talker told;
  is_readable = talker.is_readable || may_have_more talker told;
  is_full = talker.is_full && not (takes_again talker told);
}

-- ---- its turns

-- its pace goes by the turn where something of it is left; to whom it has added is known until its
-- next turn
abbrev pub turn_over : Talker → ℕ → ℕ → AddedTo → Talker
turn_over talker answered shown added = record talker {
  pace =
      if nat_eq 0 (length talker.rest) then talker.pace else behind_turn talker.pace answered shown;
  fills = added.client;
  grows = added.link;
}

-- for a client it is held back once in a second
abbrev pub held_back : Bool → ℕ → Talker → Talker
held_back for_client now talker = record talker {
  is_held = true;
  pace = at_rest talker.pace;
  free_until = if for_client then later now 1000 else talker.free_until;
}

abbrev pub held_no_more : Talker → Talker
held_no_more talker = record talker { was_held = talker.is_held; is_held = false }

-- ---- a read

-- one begins, where somebody has come so often
abbrev pub read_begun : ℕ → Talker → Talker
read_begun visits talker = record talker { pace = at_turn talker.pace visits }

-- how many lines are for this turn, of which one may not begin more than so many
abbrev pub turn_lines : ℕ → ℕ → Talker → ℕ
turn_lines visits most talker = min (paced_lines talker.pace visits) most

-- of what was left of the last read so many lines are given, as far as the buffer has room
pub record GivesRest (visits most : ℕ) (old : Talker) (buffer : List ℕ) (count : ℕ) (new : Talker)
    (filled : List ℕ) : Type 0 where
  pub some : nat_eq 0 (length old.rest) ≡ false
  pub lines : GivesLines (turn_lines visits most old) (length buffer) old.rest count
  pub given : filled ≡ take count old.rest ++ drop count buffer
  pub left : new ≡ record (read_begun visits old) { rest = drop count old.rest }

-- nothing was left, so the system is asked, and so many lines are for this turn
pub record AsksAnew (visits most : ℕ) (old : Talker) (buffer : List ℕ) (lines : ℕ) (new : Talker)
    (filled : List ℕ) : Type 0 where
  pub none : nat_eq 0 (length old.rest) ≡ true
  pub lines_are : lines ≡ turn_lines visits most old
  pub begun : new ≡ read_begun visits old
  pub same : filled ≡ buffer

abbrev pub BeginsRead : ℕ → ℕ → Talker → List ℕ → Reading → Talker → List ℕ → Type 0
BeginsRead visits most old buffer (reading.Given count) new filled =
    GivesRest visits most old buffer count new filled
BeginsRead visits most old buffer (reading.Anew lines) new filled =
    AsksAnew visits most old buffer lines new filled

abbrev pub IsWithin : Reading → ℕ → Type 0
IsWithin (reading.Given count) room = count ≤ room
IsWithin (reading.Anew lines) room = ⊤

-- how many of the bytes that were read are for this turn: so many lines of a client, and all of a
-- link
abbrev pub IsTurnFront : Bool → ℕ → List ℕ → ℕ → Type 0
IsTurnFront true lines read front = IsFront lines read front
IsTurnFront false lines read front = front ≡ length read

-- these wait for the next turn; there may be more behind what filled a buffer, and at the end
abbrev pub kept : List ℕ → Bool → Talker → Talker
kept bytes is_whole talker = record talker {
  rest = bytes;
  may_have_more = talker.is_ending || is_whole;
}

-- what is behind a front waits; or, where no memory is left for it, all that was read is for this
-- turn
abbrev pub KeepsBehind : List ℕ → Bool → ℕ → Talker → ℕ → Talker → Type 0
KeepsBehind read is_whole front old count new =
    ((count ≡ front) × (new ≡ kept (drop front read) is_whole old))
    ⊎ ((count ≡ length read) × (new ≡ kept [] is_whole old))

pub record Keeps (lines : ℕ) (read : List ℕ) (is_whole : Bool) (old : Talker) (count : ℕ)
    (new : Talker) : Type 0 where
  pub front : ℕ
  pub is_front : IsTurnFront old.is_client lines read front
  pub behind : KeepsBehind read is_whole front old count new

-- no bytes were read, and there may be some
abbrev pub none_read : Bool → Talker → Talker
none_read may_have talker = record talker { may_have_more = may_have }

-- something of it is left to be given, or to be read
abbrev pub is_left : Talker → Bool
is_left talker = talker.may_have_more || not (nat_eq 0 (length talker.rest))

-- a read is over: it has something to say where something is left; else it begins anew
abbrev pub read_over : Talker → Talker
read_over talker = record talker {
  is_readable = talker.is_readable || is_left talker;
  pace = if is_left talker then talker.pace else at_rest talker.pace;
}

-- ---- a write

-- so many bytes in all wait for later: its socket is full; or another turn follows, and the last
-- write took all
abbrev pub is_put_off : Talker → ℕ → ℕ → Bool → Bool
is_put_off talker turn all may_wait =
    talker.is_full || ((may_wait && not talker.is_behind) && waits_for_more talker.waiting turn all)

-- its socket took so many of so many bytes; one that took fewer is full
abbrev pub has_taken : ℕ → ℕ → Talker → Talker
has_taken taken given talker = record talker {
  is_full = nat_lt taken given;
  is_behind = nat_lt taken given;
}

-- it took none, and does not for now, or was interrupted or has failed
abbrev pub took_none : Bool → Talker → Talker
took_none is_blocked talker = record talker {
  is_behind = true;
  is_full = talker.is_full || is_blocked;
}

-- a write is over, of so many bytes in all, and has taken so many; where it failed no more is known
abbrev pub written : ℕ → ℕ → ℕ → Option ℕ → Talker → Talker
written turn now all None talker = talker
written turn now all (Some taken) talker = record talker {
  waiting = waits_behind talker.waiting turn all (all - taken);
  spared = (if talker.is_just_met then all else talker.spared) - taken;
  is_just_met = false;
  silent_since =
      if nat_lt 0 taken || not (nat_lt 0 talker.waiting.bytes) then now else talker.silent_since;
}

-- ---- what becomes of it

-- the link is met: what waits for it then keeps nobody waiting
abbrev pub named : Talker → Talker
named talker = record talker { is_named = true; is_just_met = true }

abbrev pub given_up : Talker → Talker
given_up talker = record talker { is_given_up = true }

-- a signal was given, of which it took so many bytes of so many: a part of one could not be told
-- from what comes behind it
abbrev pub signalled : ℕ → ℕ → Talker → Talker
signalled taken given talker = record talker {
  is_given_up = talker.is_given_up || (nat_lt 0 taken && nat_lt taken given);
}
