-- What waits for a socket, and which writes wait for more.
use Rattle.std.specs.Prelude.{ℕ, Bool, ◌-◌, nat_eq, nat_lt, nat_le, ◌&&◌, ◌||◌, if◌then◌else◌}

-- how many bytes wait, the last turn in which there were more, and the turn since which they do
pub record Gathered : Type 0 where
  pub bytes : ℕ
  pub grown_at : ℕ
  pub since : ℕ

abbrev pub gathered : ℕ → ℕ → ℕ → Gathered
gathered bytes grown_at since = record { bytes = bytes; grown_at = grown_at; since = since }

abbrev pub nothing_waits : Gathered
nothing_waits = gathered 0 0 0

-- one of few bytes, where there were more within the last 16 turns, and which does not wait for 64
-- turns yet
abbrev pub is_put_off : Gathered → ℕ → ℕ → Bool
is_put_off waiting turn bytes =
    nat_lt bytes 4096 && (nat_le (turn - waiting.grown_at) 16
    && (nat_eq waiting.bytes 0 || nat_lt (turn - waiting.since) 64))

-- behind a turn that had so many bytes and has left some: they wait since this one where none did
-- before, or where some of them went
abbrev pub waits_behind : Gathered → ℕ → ℕ → ℕ → Gathered
waits_behind waiting turn bytes left = record {
  bytes = left;
  grown_at = if nat_lt waiting.bytes bytes then turn else waiting.grown_at;
  since = if nat_eq waiting.bytes 0 || nat_lt left bytes then turn else waiting.since;
}
