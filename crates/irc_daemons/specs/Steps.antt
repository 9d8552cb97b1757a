-- A step of a run of engines: one takes a turn, by which no link is made and none is lost. What a
-- client says and when it comes and goes is anything.
--
-- b.net (place 1) takes a turn in which it reads `PING x` and CR LF by its link with a.net (place
-- 0), and c.net's end takes 30 of 80 bytes:
--   transit 0 1    these eight bytes are gone from its front
--   transit 1 2    the 30 bytes are behind what was there; the other 50 are in the outbox of b.net
use Rattle.std.specs.Prelude.{◌≡◌, ℕ, suc, true, false, nat_eq, is_some, Option, Some, None, List}
use Rattle.std.specs.Prelude.{◌++◌, if◌then◌else◌}
use Rattle.std.specs.List.{slice_get, slice_set}
use Rattle.irc_outbox.specs.Calls.{Call}
use Rattle.irc_engine.specs.Running.{Turn}
use Rattle.irc_engine.specs.EngineView.{EngineView}
use Rattle.irc_daemons.specs.Daemons.{Daemons}
use Rattle.irc_daemons.specs.Doings.{Doings, newcomer, taken_at, turn_did, written_at}

-- ---- who is where

-- a seat is nobody's any more whose number another client has taken
abbrev pub unless_taken : ℕ → Option ℕ → Option ℕ
unless_taken conn None = None
unless_taken conn (Some seat) = if nat_eq seat conn then None else Some seat

abbrev pub seat_after : {W : Type 0} → Daemons W → ℕ → ℕ → ℕ → ℕ → Option ℕ
seat_after old place conn x client =
    if nat_eq x place then
    (if nat_eq client (suc old.came) then Some conn else unless_taken conn (old.seats x client))
    else old.seats x client

-- a client that has come is the next by number
abbrev pub seats_after : {W : Type 0} → Daemons W → ℕ → Option ℕ → ℕ → ℕ → Option ℕ
seats_after old place None = old.seats
seats_after old place (Some conn) = seat_after old place conn

abbrev pub came_after : ℕ → Option ℕ → ℕ
came_after came None = came
came_after came (Some conn) = suc came

-- ---- the step

-- Memory does not run out: for the engine, nor for its server.
pub record Steps {W : Type 0} (is_after : W → List Call → Type 0) (place : ℕ)
    (old new : Daemons W) : Type 0 where
  pub engine : EngineView W
  pub after : EngineView W
  pub at : slice_get old.engines place ≡ Some engine
  pub serves : engine.failed ≡ false
  pub still_serves : after.failed ≡ false
  pub has_server : is_some after.now.server ≡ true
  pub same_rooms : after.sizes ≡ engine.sizes
  pub turn : Turn is_after engine.sizes engine.now after.now
  pub engines_are : new.engines ≡ slice_set old.engines place after
  pub same_ends : new.ends ≡ old.ends
  pub same_ways : new.ways ≡ old.ways
  pub seats_are : new.seats ≡ seats_after old place
      (newcomer is_after engine.sizes engine.now after.now turn)
  pub came_is : new.came ≡ came_after old.came
      (newcomer is_after engine.sizes engine.now after.now turn)
  pub did : Doings
  pub did_is : did ≡ turn_did is_after engine.sizes engine.now after.now turn
  pub reads : (from : ℕ)
      → old.transit from place ≡ taken_at (old.ends place from) did.calls ++ new.transit from place
  pub writes : (to : ℕ)
      → new.transit place to ≡ old.transit place to ++ written_at (old.ends place to) did.calls
  pub elsewhere : (from to : ℕ) → nat_eq from place ≡ false → nat_eq to place ≡ false
      → new.transit from to ≡ old.transit from to
  pub sends : (client : ℕ) → new.written client ≡ old.written client
      ++ written_at (new.seats place client) did.calls
