-- Which step of a wire in memory is served next, what that changes, and what the wire answers.
use Rattle.std.specs.Prelude.{◌≡◌, ℕ, ◌≤◌, suc, zero, Bool, true, false, not, ◌&&◌, nat_eq, min}
use Rattle.std.specs.Prelude.{Option, Some, None, Result, Ok, Err, List, [], ◌∷◌, ◌++◌, length}
use Rattle.std.specs.Prelude.{take, drop, if◌then◌else◌}
use Rattle.std.specs.List.{list_any}
use Rattle.std.specs.Option.{option_map}
use Rattle.irc_outbox.specs.declared.memory.MemoryWire.{MemoryWire}
use Rattle.irc_outbox.specs.declared.memory.WireStep.{WireStep}
use Rattle.irc_outbox.specs.declared.memory.Way.TheVariants as way
use Rattle.irc_outbox.specs.declared.wire.Got.{Got}
use Rattle.irc_outbox.specs.declared.wire.Got.TheVariants.{Bytes, Later, End}
use Rattle.irc_outbox.specs.declared.wire.IoFault.{IoFault}
use Rattle.irc_outbox.specs.declared.wire.IoFault.TheVariants.{Failed}
use Rattle.irc_outbox.specs.declared.wire.Ready.{Ready}
use Rattle.irc_outbox.specs.declared.wire.Ready.TheVariants as ready
use Rattle.irc_outbox.specs.Ample.{at_hand}
use Rattle.irc_outbox.specs.Calls.{Call, is_some_bytes}
use Rattle.irc_outbox.specs.Memory.{WireTold, told_at, told_or_none, AllWiresTold}
use Rattle.irc_outbox.specs.Steps.{fails_at, giver_of, is_served, step_bytes, step_conn}
use Rattle.irc_outbox.specs.Steps.{step_report, told_then}

-- a wire may have answered the calls that say of each connection what is told of it
abbrev pub MayHaveAnswered : MemoryWire → List Call → Type 0
MayHaveAnswered wire calls = AllWiresTold wire.fars calls

-- the steps that were not looked at yet
abbrev pub left_of : MemoryWire → List WireStep
left_of wire = drop wire.at wire.steps.items

-- A step is served: its connection stands as it says, and its bytes are at hand, if there is the
-- room for them that a wire is made with.
pub record IsServed (step : WireStep) (old new : MemoryWire) : Type 0 where
  pub stands : (q : ℕ) → told_at new.fars q ≡ (if nat_eq (step_conn step) q
      then option_map (told_then step) (told_at old.fars q) else told_at old.fars q)
  pub giver : new.hand ≡ giver_of step
  pub bytes : length (step_bytes step) ≤ old.pending.capacity → new.pending.items ≡ step_bytes step
  pub same_room : new.pending.capacity ≡ old.pending.capacity

-- no step is served
pub record IsIdle (old new : MemoryWire) : Type 0 where
  pub none_left : left_of new ≡ []
  pub stands : (q : ℕ) → told_at new.fars q ≡ told_at old.fars q
  pub giver : new.hand ≡ None
  pub same_room : new.pending.capacity ≡ old.pending.capacity

-- Of the steps that were not looked at, the first is served that is to be reported, and those
-- before it are passed over. Where there is none, nothing is ready.
pub data ServesNext (old new : MemoryWire) (report : Ready) : Type 0 where
  serves_step : (passed : List WireStep) (step : WireStep) → left_of old ≡ passed ++ step
      ∷ left_of new → list_any (is_served old.fars) passed ≡ false → is_served old.fars step ≡ true
      → IsServed step old new → report ≡ step_report step → ServesNext old new report
  serves_none : list_any (is_served old.fars) (left_of old) ≡ false → IsIdle old new
      → report ≡ ready.Idle → ServesNext old new report

-- whether the step at hand is reported once more: some of its bytes were read since it was
-- reported, others were not, and the connection is not closed
abbrev pub is_at_hand : ℕ → MemoryWire → Bool
is_at_hand conn wire = wire.was_read && is_some_bytes wire.pending.items
    && not (told_or_none (told_at wire.fars conn)).closed

abbrev pub if_at_hand : Option ℕ → MemoryWire → Option ℕ
if_at_hand None wire = None
if_at_hand (Some conn) wire = if is_at_hand conn wire then Some conn else None

-- its connection then
abbrev pub again_of : MemoryWire → Option ℕ
again_of wire = if_at_hand wire.hand wire

-- a wire is as it was, but that the step at hand was not read since
pub record IsUnread (old new : MemoryWire) : Type 0 where
  pub steps : new.steps ≡ old.steps
  pub at : new.at ≡ old.at
  pub hand : new.hand ≡ old.hand
  pub pending : new.pending ≡ old.pending
  pub fars : new.fars ≡ old.fars
  pub was_read : new.was_read ≡ false

-- What is told to be ready: the step at hand once more, or the next one.
pub data Reports (old new : MemoryWire) (report : Ready) : Type 0 where
  once_more : (conn : ℕ) → again_of old ≡ Some conn → IsUnread old new
      → report ≡ ready.Readable conn → Reports old new report
  next_one : again_of old ≡ None → new.was_read ≡ false → ServesNext old new report
      → Reports old new report

-- how many bytes a read gives: all that are at hand of the connection, or as many as it has room
-- for
abbrev pub given_now : ℕ → ℕ → MemoryWire → ℕ
given_now conn room wire = min room (at_hand conn wire.hand wire.pending.items)

-- what it answers where it gives so many
abbrev pub got : ℕ → WireTold → Got
got zero t = if t.ended then End else Later
got (suc n) t = Bytes (suc n)

abbrev pub answer_of_read : ℕ → ℕ → MemoryWire → Result Got IoFault
answer_of_read conn room wire =
    if fails_at way.In (told_at wire.fars conn) then Err Failed
    else Ok (got (given_now conn room wire) (told_or_none (told_at wire.fars conn)))

-- A write takes all that is offered, or as much as there is room for.
abbrev pub answer_of_write : ℕ → ℕ → MemoryWire → Result ℕ IoFault
answer_of_write conn offered wire =
    if fails_at way.Out (told_at wire.fars conn) then Err Failed
    else Ok (min (told_or_none (told_at wire.fars conn)).room offered)

-- A read gives the first bytes of the step at hand, which then are not at hand any more, and it is
-- noted that it was read. Of another connection it gives none.
pub record GivesFirst (conn count : ℕ) (old new : MemoryWire) (buffer : List ℕ) : Type 0 where
  pub first : old.hand ≡ Some conn → take count buffer ≡ take count old.pending.items
  pub left : old.hand ≡ Some conn → new.pending.items ≡ drop count old.pending.items
  pub was_read : old.hand ≡ Some conn → new.was_read ≡ true
  pub none : (old.hand ≡ Some conn → ⊥) → (count ≡ 0) × (new ≡ old)
