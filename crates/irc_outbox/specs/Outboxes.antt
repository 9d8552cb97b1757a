-- What an outbox holds, and what its calls do.
use Rattle.std.specs.Prelude.{◌≡◌, ℕ, ◌+◌, ◌<◌, ◌≤◌, Result, Ok, Err, List, ◌++◌, length, IfOk}
use Rattle.irc_outbox.specs.declared.outbox.Overflow.{Overflow}
use Rattle.irc_outbox.specs.declared.wire.IoFault.{IoFault}
use Rattle.irc_outbox.specs.Calls.{Call, writes, bytes_taken, Adds}

-- the bytes that are still to be written, in order, and how many there may be
pub record Held : Type 0 where
  pub bytes : List ℕ
  pub room : ℕ

abbrev pub holding : List ℕ → ℕ → Held
holding bytes room = record { bytes = bytes; room = room }

-- All of the bytes are behind what was there, or they do not fit and nothing has changed.
abbrev pub IsPushed : Held → List ℕ → Result (Unit {0}) Overflow → Held → Type 0
IsPushed old bytes (Ok done) new =
    (length old.bytes + length bytes ≤ old.room) × (new ≡ holding (old.bytes ++ bytes) old.room)
IsPushed old bytes (Err overflow) new = (old.room < length old.bytes + length bytes) × (new ≡ old)

-- bytes at the front of others; not none of them where there are some
pub record IsFront (bytes front : List ℕ) : Type 0 where
  pub behind : List ℕ
  pub bytes_are : bytes ≡ front ++ behind
  pub some : 0 < length bytes → 0 < length front

-- One write was made, of bytes at the front of the outbox; just those that the wire took have left
-- it.
pub record WritesSome {W : Type 0} (is_after : W → List Call → Type 0) (conn : ℕ) (old : Held)
    (wire : W) (result : Result ℕ IoFault) (new : Held) (wire_after : W)
    : Type 0 where
  pub front : List ℕ
  pub is_front : IsFront old.bytes front
  pub account : Adds is_after wire (writes conn front result) wire_after
  pub within : IfOk result (λ n. n ≤ length front)
  pub left : old.bytes ≡ bytes_taken front result ++ new.bytes
  pub same_room : new.room ≡ old.room
