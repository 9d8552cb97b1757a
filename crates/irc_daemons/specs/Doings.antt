-- What a turn of an engine has done: what the server was told, what it put out, and which calls
-- were made of the wire, in order.
use Rattle.std.specs.Prelude.{ℕ, Option, Some, None, List, [], ◌∷◌, ◌++◌}
use Rattle.irc_outbox.specs.declared.wire.Ready.{Ready}
use Rattle.irc_outbox.specs.declared.wire.Ready.TheVariants.{Client, Linked, Idle, Readable}
use Rattle.irc_outbox.specs.declared.wire.Ready.TheVariants.{Writable}
use Rattle.irc_outbox.specs.Calls.{Call, reads, taken, written}
use Rattle.irc_batch.specs.Batches.{Sent}
use Rattle.irc_server.specs.declared.event.Event.{Event}
use Rattle.irc_server.specs.declared.event.Event.TheVariants.{Connect, LinkUp}
use Rattle.irc_engine.specs.declared.engine.OutboxSizes.{OutboxSizes}
use Rattle.irc_engine.specs.declared.kind.ConnectionKind.{ConnectionKind}
use Rattle.irc_engine.specs.declared.kind.ConnectionKind.TheVariants as kinds
use Rattle.irc_engine.specs.Hearing.{nothing_of, only_of}
use Rattle.irc_engine.specs.Running.{Answers, Moment, Ran, Reads, Starts, Turn, in_use}
use Rattle.irc_engine.specs.Running.{makes_connection, not_open, read_once}

pub record Doings : Type 0 where
  pub events : List Event
  pub outs : List Sent
  pub calls : List Call

-- and then other things
abbrev pub and_then : Doings → Doings → Doings
and_then one other = record {
  events = one.events ++ other.events;
  outs = one.outs ++ other.outs;
  calls = one.calls ++ other.calls;
}

module _ {W : Type 0} (is_after : W → List Call → Type 0) where
  abbrev pub ran_did : (exchanges : List Call) (first : List Event) (came : ℕ → List ℕ)
      (old new : Moment W) → Ran is_after exchanges first came old new → Doings
  ran_did exchanges first came old new ran = record {
    events = first ++ ran.events;
    outs = ran.outs;
    calls = ran.calls;
  }

  abbrev pub starts_did : (kind : ConnectionKind) (room conn : ℕ) (event : Event)
      (old new : Moment W) → Starts is_after kind room conn event old new → Doings
  starts_did kind room conn event old new (in_use used ran) = ran_did [] [] nothing_of old new ran
  starts_did kind room conn event old new
      (makes_connection between free server journal wire lost waiting size set ran) =
      ran_did [] (event ∷ []) nothing_of between new ran

  abbrev pub reads_did : (conn : ℕ) (old new : Moment W) → Reads is_after conn old new → Doings
  reads_did conn old new (not_open closed ran) = ran_did [] [] nothing_of old new ran
  reads_did conn old new (read_once room answer bytes is_open as_large ran) =
      ran_did (reads conn room answer bytes ∷ []) [] (only_of conn bytes) old new ran

  abbrev pub answers_did : (sizes : OutboxSizes) (report : Ready) (old new : Moment W)
      → Answers is_after sizes report old new → Doings
  answers_did sizes Idle old new ran = ran_did [] [] nothing_of old new ran
  answers_did sizes (Client conn host) old new starts =
      starts_did kinds.Client sizes.client conn (Connect conn host) old new starts
  answers_did sizes (Linked conn called) old new starts =
      starts_did kinds.Link sizes.link conn (LinkUp conn called) old new starts
  answers_did sizes (Readable conn) old new done = reads_did conn old new done
  answers_did sizes (Writable conn) old new ran = ran_did [] [] nothing_of old new ran

  -- what is ready is done, and then outboxes are written
  abbrev pub turn_did : (sizes : OutboxSizes) (old new : Moment W) → Turn is_after sizes old new
      → Doings
  turn_did sizes old new turn =
      and_then (answers_did sizes turn.report
      (record old { wire = turn.wire }) turn.does.between turn.does.answers)
      (ran_did turn.does.writes.exchanges [] nothing_of turn.does.between new turn.does.writes.ran)

  -- ---- who has come

  abbrev pub started : (kind : ConnectionKind) (room conn : ℕ) (event : Event) (old new : Moment W)
      → Starts is_after kind room conn event old new → Option ℕ
  started kind room conn event old new (in_use used ran) = None
  started kind room conn event old new
      (makes_connection between free server journal wire lost waiting size set ran) = Some conn

  abbrev pub newcomer_in : (sizes : OutboxSizes) (report : Ready) (old new : Moment W)
      → Answers is_after sizes report old new → Option ℕ
  newcomer_in sizes (Client conn host) old new starts =
      started kinds.Client sizes.client conn (Connect conn host) old new starts
  newcomer_in sizes (Linked conn called) old new starts = None
  newcomer_in sizes Idle old new ran = None
  newcomer_in sizes (Readable conn) old new done = None
  newcomer_in sizes (Writable conn) old new ran = None

  -- the connection of the client that has come by a turn, if one has
  abbrev pub newcomer : (sizes : OutboxSizes) (old new : Moment W) → Turn is_after sizes old new
      → Option ℕ
  newcomer sizes old new turn = newcomer_in sizes turn.report
      (record old { wire = turn.wire }) turn.does.between turn.does.answers

-- ---- what was read and written, of a connection that may not be there

abbrev pub taken_at : Option ℕ → List Call → List ℕ
taken_at None calls = []
taken_at (Some conn) calls = taken conn calls

abbrev pub written_at : Option ℕ → List Call → List ℕ
written_at None calls = []
written_at (Some conn) calls = written conn calls
