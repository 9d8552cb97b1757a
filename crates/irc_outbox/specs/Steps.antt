-- The steps of a wire in memory: what each is reported as, and how its connection stands then.
use Rattle.std.specs.Prelude.{ℕ, ◌+◌, ◌-◌, ◌^◌, Bool, true, false, not, ◌&&◌, min, max, Option}
use Rattle.std.specs.Prelude.{Some, None, List, [], length, if◌then◌else◌}
use Rattle.std.specs.List.{fold}
use Rattle.std.specs.BTreeMap.{BTreeMap}
use Rattle.irc_outbox.specs.declared.memory.Far.{Far}
use Rattle.irc_outbox.specs.declared.memory.WireStep.{WireStep}
use Rattle.irc_outbox.specs.declared.memory.WireStep.TheVariants as step
use Rattle.irc_outbox.specs.declared.memory.Way.{Way}
use Rattle.irc_outbox.specs.declared.memory.Way.TheVariants as way
use Rattle.irc_outbox.specs.declared.wire.Ready.{Ready}
use Rattle.irc_outbox.specs.declared.wire.Ready.TheVariants as ready
use Rattle.irc_outbox.specs.Memory.{WireTold, told_at}

-- the connection that a step is about
abbrev pub step_conn : WireStep → ℕ
step_conn (step.Client conn host) = conn
step_conn (step.Linked conn name) = conn
step_conn (step.Bytes conn bytes) = conn
step_conn (step.End conn) = conn
step_conn (step.ReadFails conn) = conn
step_conn (step.Room conn room) = conn
step_conn (step.WriteFails conn) = conn

-- what it is reported as
abbrev pub step_report : WireStep → Ready
step_report (step.Client conn host) = ready.Client conn host
step_report (step.Linked conn name) = ready.Linked conn name
step_report (step.Bytes conn bytes) = ready.Readable conn
step_report (step.End conn) = ready.Readable conn
step_report (step.ReadFails conn) = ready.Readable conn
step_report (step.Room conn room) = ready.Writable conn
step_report (step.WriteFails conn) = ready.Writable conn

-- the bytes that it gives, and the connection that gives some
abbrev pub step_bytes : WireStep → List ℕ
step_bytes (step.Bytes conn bytes) = bytes.items
step_bytes step = []

abbrev pub giver_of : WireStep → Option ℕ
giver_of (step.Bytes conn bytes) = Some conn
giver_of step = None

-- Whether a step is reported, as its connection stands: one that reports a number, if none did
-- before; any other, if one did, and the connection is not closed.
abbrev pub is_reported : WireStep → WireTold → Bool
is_reported (step.Client conn host) t = not t.known
is_reported (step.Linked conn name) t = not t.known
is_reported step t = t.known && not t.closed

-- how its connection stands then
abbrev pub told_then : WireStep → WireTold → WireTold
told_then (step.Client conn host) t = record t { known = true }
told_then (step.Linked conn name) t = record t { known = true }
told_then (step.Bytes conn bytes) t = t
told_then (step.End conn) t = record t { ended = true }
told_then (step.ReadFails conn) t = record t { read_fails = true }
told_then (step.Room conn room) t = record t { room = min (t.room + room) (2 ^ 64 - 1) }
told_then (step.WriteFails conn) t = record t { write_fails = true }

-- a step that is not reported changes nothing
abbrev pub meets : WireStep → WireTold → WireTold
meets step t = if is_reported step t then told_then step t else t

-- whether a step of a connection of which this is told is reported
abbrev pub is_reported_at : WireStep → Option WireTold → Bool
is_reported_at step None = false
is_reported_at step (Some t) = is_reported step t

abbrev pub is_served : BTreeMap ℕ Far → WireStep → Bool
is_served fars step = is_reported_at step (told_at fars (step_conn step))

-- A step has said that the next read, or the next write, fails.
abbrev pub fails : Way → WireTold → Bool
fails way.In t = t.read_fails
fails way.Out t = t.write_fails

abbrev pub fails_at : Way → Option WireTold → Bool
fails_at which None = false
fails_at which (Some t) = fails which t

-- and none behind it does
abbrev pub failed_once : Way → WireTold → WireTold
failed_once way.In t = record t { read_fails = false }
failed_once way.Out t = record t { write_fails = false }

-- how many bytes the longest of some steps gives
abbrev pub longest_of : List WireStep → ℕ
longest_of steps = fold (λ n step. max n (length (step_bytes step))) 0 steps
