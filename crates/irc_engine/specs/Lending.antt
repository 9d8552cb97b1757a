-- An outbox that is lent to a connection as long as bytes wait for it.
use Rattle.std.specs.Prelude.{◌≡◌, ℕ, ◌<◌, Option, Some, None, [], length}
use Rattle.irc_outbox.specs.Outboxes.{Held, holding}

-- What waits for a connection that has room for so many bytes: what is in the outbox that is lent
-- to it, or nothing, where none is.
abbrev pub waiting_in : Option Held → ℕ → Held
waiting_in None room = holding [] room
waiting_in (Some held) room = held

-- An outbox that is lent has just that room, and is not empty.
pub record IsInUse (room : ℕ) (held : Held) : Type 0 where
  pub same_room : held.room ≡ room
  pub some : 0 < length held.bytes
