-- What follows of turns: an engine is in order between them, and what waited before a turn is
-- written once.
use Rattle.std.proofs.Common.{◌≡◌, ℕ, Bool, true, false, cond, nat_eq, is_some, Option, Some, None}
use Rattle.std.proofs.Common.{Result, List, [], ◌∷◌, ◌++◌, refl, sym, ◌∙◌, ap, subst}
use Rattle.std.specs.List.{filter}
use Rattle.std.proofs.lemmas.Bool.{eqb-true}
use Rattle.irc_outbox.specs.declared.wire.Ready.{Ready}
use Rattle.irc_outbox.specs.declared.wire.Ready.TheVariants.{Client, Linked, Idle, Readable}
use Rattle.irc_outbox.specs.declared.wire.Ready.TheVariants.{Writable}
use Rattle.irc_outbox.specs.Calls.{Call, asks, reads, writes, closes, is_some_bytes, times_written}
use Rattle.irc_outbox.specs.Calls.{written, written_by}
use Rattle.irc_server.specs.declared.event.Event.{Event}
use Rattle.irc_batch.specs.Batches.{Sent}
use Rattle.irc_engine.specs.declared.engine.EngineFault.{EngineFault}
use Rattle.irc_engine.specs.declared.engine.OutboxSizes.{OutboxSizes}
use Rattle.irc_engine.specs.declared.kind.ConnectionKind.{ConnectionKind}
use Rattle.irc_engine.specs.declared.connection_table.Connection.{Connection}
use Rattle.irc_engine.specs.Carrying.{fresh_connection, has_some_at, is_exchange, bytes_owed, Fate}
use Rattle.irc_engine.specs.Running.{MomentOf, IsInOrder, RanBy, StartsBy, in_use, makes_connection}
use Rattle.irc_engine.specs.Running.{ReadsBy, not_open, read_once, AnswersBy, TurnBy}
use Rattle.irc_engine.specs.Turning.{TurnedBy, takes_turn, device_failed, wants_memory}
use Rattle.irc_engine.specs.EngineView.{EngineViewOf}
use Rattle.irc_engine.specs.Machines.{never_due, Dues, Handles}
use Rattle.irc_stage.specs.View.{View}
use Rattle.irc_engine.specs.Turning.{has_failed, TurnsBy, no_turn, one_more}
use Rattle.irc_engine.specs.Writing.{one_if}

order_as : {W M : Type 0} (now : MomentOf W M) (wire : W) → IsInOrder now
    → IsInOrder (record now { wire = wire })
order_as now wire order =
    record { all_told = order.all_told; noted = order.noted; none_done = order.none_done }

module _ {W M : Type 0} {server_of : M → Option View} {handles : Handles M}
    {dues : Dues M} (is_after : W → List Call → Type 0) where
  -- a turn that does not want memory leaves an engine in order
  pub in_order_after : (old new : EngineViewOf W M) (result : Result (Unit {0}) EngineFault)
      → TurnedBy is_after server_of handles dues old new result → new.failed ≡ false
      → IsInOrder old.now → IsInOrder new.now
  in_order_after old new result (takes_turn serves still room turn) well order =
      (turn.does.in_order (order_as old.now turn.wire order)).1
  in_order_after old new result (device_failed fault serves still room account same) well order =
      subst (λ (now : MomentOf W M). IsInOrder now) (sym same) (order_as old.now new.now.wire order)
  in_order_after old new result (wants_memory report wire serves failed account busy) well order =
      cc (sym failed ∙ well)
  in_order_after old new result (has_failed failed same) well order =
      cc (sym failed ∙ sym (ap (λ (e : EngineViewOf W M). e.failed) same) ∙ well)

  pub in_order_after_all : (old : EngineViewOf W M) (turns : ℕ) (new : EngineViewOf W M)
      → TurnsBy is_after server_of handles dues old turns new → IsInOrder old.now
      → IsInOrder new.now
  in_order_after_all old turns new no_turn order = order
  in_order_after_all old turns new
      (one_more n between last so_far (takes_turn serves still room turn)) order =
      (turn.does.in_order
      (order_as between.now turn.wire (in_order_after_all old n between so_far order))).1

-- what was written is among the calls that ask, read or write
written_in : (conn : ℕ) (calls : List Call)
    → written conn calls ≡ written conn (filter is_exchange calls)
written_in conn [] = refl
written_in conn (closes which ∷ calls) = written_in conn calls
written_in conn (asks answer ∷ calls) = written_in conn calls
written_in conn (reads from room answer bytes ∷ calls) = written_in conn calls
written_in conn (writes to bytes answer ∷ calls) =
    ap (λ xs. written_by conn (writes to bytes answer) ++ xs) (written_in conn calls)

some_still : (held more left : List ℕ) → is_some_bytes held ≡ true → held ++ more ≡ left
    → is_some_bytes left ≡ true
some_still [] more left some is = cc some
some_still (b ∷ held) more left some is = sym (ap is_some_bytes is)

-- where nothing is written, what waits still does
still_waits : (conn : ℕ) (old new : Option Connection) (calls : List Call) (outs : List Sent)
    → Fate conn old calls outs new → written conn calls ≡ [] → has_some_at old ≡ true
    → is_some new ≡ true → has_some_at new ≡ true
still_waits conn None new calls outs fate nothing some there = cc some
still_waits conn (Some old) None calls outs fate nothing some there = cc there
still_waits conn (Some old) (Some new) calls outs fate nothing some there =
    some_still old.outbox.bytes (bytes_owed (is_some old.framer) conn outs) new.outbox.bytes some
    (fate.carried ∙ ap (λ xs. xs ++ new.outbox.bytes) nothing)

-- a connection that is there was there before
pub was_there : (conn : ℕ) (old new : Option Connection) (calls : List Call) (outs : List Sent)
    → Fate conn old calls outs new → is_some new ≡ true → is_some old ≡ true
was_there conn None None calls outs fate there = there
was_there conn None (Some new) calls outs fate there = absurd fate
was_there conn (Some old) new calls outs fate there = refl

other_connection : (old new : Option Connection) (connection : Option Connection) (t : Bool)
    → (t ≡ true → old ≡ None) → new ≡ cond t connection old → has_some_at old ≡ true → new ≡ old
other_connection old new connection true none set some = cc (sym some ∙ ap has_some_at (none refl))
other_connection old new connection false none set some = set

module _ {W M : Type 0} (is_after : W → List Call → Type 0) (server_of : M → Option View)
    (handles : Handles M) (sizes : OutboxSizes) (conn : ℕ) where
  ran_waits : (exchanges : List Call) (first : List Event) (came : ℕ → List ℕ)
      (old new : MomentOf W M)
      → written conn exchanges ≡ [] → RanBy is_after server_of handles exchanges first came old new
      → has_some_at (old.connections conn) ≡ true → is_some (new.connections conn) ≡ true
      → has_some_at (new.connections conn) ≡ true
  ran_waits exchanges first came old new nothing ran some there =
      still_waits conn (old.connections conn) (new.connections conn) ran.calls ran.outs
      (ran.fates conn) (written_in conn ran.calls ∙ ap (written conn) ran.exchanged
      ∙ nothing) some there

  starts_waits : (kind : ConnectionKind) (room which : ℕ) (event : Event) (old new : MomentOf W M)
      → StartsBy is_after server_of handles kind room which event old new
      → has_some_at (old.connections conn) ≡ true
      → is_some (new.connections conn) ≡ true → has_some_at (new.connections conn) ≡ true
  starts_waits kind room which event old new (in_use used ran) some there =
      ran_waits [] [] _ old new refl ran some there
  starts_waits kind room which event old new
      (makes_connection between free server journal wire lost waiting size set ran) some there =
      let same = other_connection (old.connections conn) (between.connections conn)
      (Some (fresh_connection kind room)) (nat_eq which conn)
      (λ one. ap old.connections (sym (eqb-true which conn one)) ∙ free) (set conn) some in
      ran_waits [] _ _ between new refl ran (ap has_some_at same ∙ some) there

  reads_waits : (which : ℕ) (old new : MomentOf W M) → ReadsBy is_after server_of handles which old
      new
      → has_some_at (old.connections conn) ≡ true → is_some (new.connections conn) ≡ true
      → has_some_at (new.connections conn) ≡ true
  reads_waits which old new (not_open closed ran) some there =
      ran_waits [] [] _ old new refl ran some there
  reads_waits which old new (read_once size answer bytes is_open as_large ran) some there =
      ran_waits _ [] _ old new refl ran some there

  answers_wait : (report : Ready) (old new : MomentOf W M)
      → AnswersBy is_after server_of handles sizes report old new
      → has_some_at (old.connections conn) ≡ true → is_some (new.connections conn) ≡ true
      → has_some_at (new.connections conn) ≡ true
  answers_wait Idle old new ran some there = ran_waits [] [] _ old new refl ran some there
  answers_wait (Client which host) old new done some there =
      starts_waits _ _ which _ old new done some there
  answers_wait (Linked which starts) old new done some there =
      starts_waits _ _ which _ old new done some there
  answers_wait (Readable which) old new done some there = reads_waits which old new done some there
  answers_wait (Writable which) old new ran some there =
      ran_waits [] [] _ old new refl ran some there

  -- A connection whose outbox was not empty before a turn, and which the turn does not close, is
  -- written to once, where nothing is ever due.
  pub written_in_turn : (old new : MomentOf W M)
      (turn : TurnBy is_after server_of handles never_due sizes old new) → IsInOrder old
      → has_some_at (old.connections conn) ≡ true → is_some (new.connections conn) ≡ true
      → times_written conn turn.does.writes.exchanges ≡ 1
  written_in_turn old new turn order some there =
      ((turn.does.writes.each (turn.does.in_order (order_as old turn.wire order)).0).each
      conn).unless_closed there
      ∙ ap one_if (answers_wait turn.report
      (record old { wire = turn.wire }) turn.does.between turn.does.answers some
      (was_there conn (turn.does.between.connections conn)
      (new.connections conn) turn.does.writes.ran.calls turn.does.writes.ran.outs
      (turn.does.writes.ran.fates conn) there))
