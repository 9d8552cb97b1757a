-- A turn, from what the wire told and what was done then.
use Rattle.std.proofs.Common.{◌≡◌, ℕ, ◌<◌, true, false, IsErrAnd, Option, Result, Ok, Err, OnOk}
use Rattle.std.proofs.Common.{List, ◌⊎◌, inl, inr, refl, sym, subst}
use Rattle.irc_outbox.specs.declared.wire.Ready.{Ready}
use Rattle.irc_outbox.specs.declared.wire.Ready.TheVariants.{Idle, Writable}
use Rattle.irc_outbox.specs.Calls.{Call, asks, Adds, Keeps}
use Rattle.irc_engine.specs.declared.engine.Core.{Core}
use Rattle.irc_engine.specs.declared.engine.Engine.{Engine}
use Rattle.irc_engine.specs.declared.engine.OutboxSizes.{OutboxSizes}
use Rattle.irc_engine.specs.declared.engine.EngineFault.{EngineFault}
use Rattle.irc_engine.specs.Machines.{due_by, is_never, never_due, Dues, Handles, UnlessDue}
use Rattle.irc_stage.specs.View.{View}
use Rattle.irc_engine.specs.Running.{MomentOf, AllTold, AnswersBy, DoesBy, EndsBy, FlushesBy}
use Rattle.irc_engine.specs.Running.{IsDoneBy, IsInOrder}
use Rattle.irc_engine.specs.Loops.Connections.{IsMarkedAt, KeepsMarks, KeepsNotes}
use Rattle.irc_engine.specs.Moments.{moment_of}
use Rattle.irc_engine.specs.EngineView.{ChangesWireAlone, EngineViewOf}
use Rattle.irc_engine.proofs.RunLaws.{ran_none}
use Rattle.irc_engine.specs.Turning.{TakenBy, takes_it, runs_out, TurnedBy, takes_turn}
use Rattle.irc_engine.specs.Turning.{wants_memory, TurnsBy, RunsBy, stopped}

-- so it is, unless something may be due
pub unless_due : {M : Type 0} (dues : Dues M) (P : Type 0) → (is_never dues ≡ true → P)
    → UnlessDue dues P
unless_due never_due P so = so refl
unless_due (due_by is_due) P so = tt

unless_as : {M : Type 0} (dues : Dues M) (P Q : Type 0) → (P → Q) → UnlessDue dues P
    → UnlessDue dues Q
unless_as never_due P Q so holds = so holds
unless_as (due_by is_due) P Q so holds = tt

-- a call behind something that is no call
pub kept_then : {W : Type 0} (is_after : W → List Call → Type 0) (old between new : W) (call : Call)
    → Keeps is_after old between → Adds is_after between call new → Adds is_after old call new
kept_then is_after old between new call keeps adds calls after = adds calls (keeps calls after)

module _ {W M : Type 0} {server_of : M → Option View} {handles : Handles M}
    {dues : Dues M} (is_after : W → List Call → Type 0) (old new : EngineViewOf W M) (ready : Ready)
    (asked : W) where
  pub turned_from : (result : Result (Unit {0}) EngineFault)
      → old.failed ≡ false → Adds is_after old.now.wire (asks (Ok ready)) asked
      → TakenBy is_after server_of handles dues ready
      (record old { now = record old.now { wire = asked } }) new result
      → TurnedBy is_after server_of handles dues old new result
  turned_from (Ok done) serves account (takes_it still same does) =
      takes_turn serves still same
      (record { report = ready; wire = asked; account = account; does = does })
  turned_from (Err fault) serves account (runs_out failed busy) =
      wants_memory ready asked serves failed account
      (unless_as dues _ _ (λ never order idle. never
      (record { all_told = order.all_told; noted = order.noted; none_done = order.none_done })
      (record { nothing_ready = idle.nothing_ready; nothing_left = idle.nothing_left })) busy)

-- a turn for which the wire has told what is ready
pub told_ready : {W M : Type 0} {server_of : M → Option View} {handles : Handles M}
    {dues : Dues M} {g : _} (is_after : W → List Call → Type 0) (ready : Ready)
    (old new : EngineViewOf W M) (before after : Engine W M g)
    (result : Result (Unit {0}) EngineFault) → TakenBy is_after server_of handles dues ready old new
    result
    → ChangesWireAlone result before after
told_ready is_after ready old new before after (Ok done) (takes_it still same does) = tt
told_ready is_after ready old new before after (Err fault) (runs_out failed busy) = tt

-- nothing is ready, or only that a connection takes bytes again
pub nothing_to_do : {W M : Type 0} (is_after : W → List Call → Type 0)
    (server_of : M → Option View) (handles : Handles M) (sizes : OutboxSizes)
    (now : MomentOf W M) (ready : Ready) → (ready ≡ Idle) ⊎ ((conn : ℕ) × (ready ≡ Writable conn))
    → AnswersBy is_after server_of handles sizes ready now now
nothing_to_do is_after server_of handles sizes now ready (inl is) =
    subst (λ r. AnswersBy is_after server_of handles sizes r now now) (sym is) (ran_none is_after
    now)
nothing_to_do is_after server_of handles sizes now ready (inr is) =
    subst (λ r. AnswersBy is_after server_of handles sizes r now now) (sym is.1) (ran_none is_after
    now)

order_between : {W M : Type 0} (old between : Core W M)
    → (AllTold (moment_of old) → AllTold (moment_of between))
    → KeepsNotes old.connections between.connections → IsInOrder (moment_of old)
    → IsInOrder (moment_of between)
order_between old between told notes order = record {
  all_told = told order.all_told;
  noted = λ q. (marked q).noted_is;
  none_done = λ q. (marked q).not_done;
}
  where
    marked : (q : ℕ) → IsMarkedAt q false between.connections
    marked q = notes q (record { noted_is = order.noted q; not_done = order.none_done q })

-- what is due is done, and then outboxes are written
ends_both : {W M : Type 0} (is_after : W → List Call → Type 0) (server_of : M → Option View)
    (handles : Handles M) (dues : Dues M) (old between new : MomentOf W M)
    → IsDoneBy is_after server_of handles dues old between
    → FlushesBy is_after server_of handles between new
    → EndsBy is_after server_of handles dues old new
ends_both {W} {M} is_after server_of handles never_due old between new done writes =
    subst (λ (now : MomentOf W M). FlushesBy is_after server_of handles now new) done writes
ends_both is_after server_of handles (due_by is_due) old between new done writes =
    (between, done, writes)

-- what is ready is done, and what is due, and then outboxes are written
module _ {W M : Type 0} (is_after : W → List Call → Type 0)
    (server_of : M → Option View) (handles : Handles M) (dues : Dues M)
    (old between mid new : Core W M) where
  pub does_all : {E : Type 0} (sizes : OutboxSizes) (ready : Ready) (result : Result (Unit {0}) E)
      → AnswersBy is_after server_of handles sizes ready (moment_of old) (moment_of between)
      → (AllTold (moment_of old) → AllTold (moment_of between))
      → KeepsNotes old.connections between.connections
      → IsDoneBy is_after server_of handles dues (moment_of between) (moment_of mid)
      → (AllTold (moment_of between) → AllTold (moment_of mid))
      → KeepsMarks between.connections mid.connections
      → OnOk result (FlushesBy is_after server_of handles (moment_of mid) (moment_of new))
      → OnOk result (AllTold (moment_of mid) → AllTold (moment_of new))
      → OnOk result (IsInOrder (moment_of mid) → IsInOrder (moment_of new))
      → OnOk result (DoesBy is_after server_of handles dues sizes ready (moment_of old)
      (moment_of new))
  does_all sizes ready (Ok done) answers told notes due then marks writes later still = record {
    between = moment_of between;
    answers = answers;
    writes = ends_both is_after server_of handles dues (moment_of between) (moment_of mid)
        (moment_of new) due writes;
    all_told = λ before. (told before, later (then (told before)));
    in_order = λ order. let first = order_between old between told notes order in (
      first,
      still (order_between between mid then (λ q. marks q false) first),
    );
  }
  does_all sizes ready (Err fault) answers told notes due then marks writes later still = tt

-- one turn is not taken, behind those that were
pub stops_by : {W M : Type 0} {server_of : M → Option View} {handles : Handles M}
    {dues : Dues M} (is_after : W → List Call → Type 0) (old between new : EngineViewOf W M)
    (taken turns : ℕ) (result : Result (Unit {0}) EngineFault) (fault : EngineFault)
    → taken < turns → TurnsBy is_after server_of handles dues old taken between
    → TurnedBy is_after server_of handles dues between new (Err fault)
    → IsErrAnd result (λ e. e ≡ fault) → RunsBy is_after server_of handles dues old turns new result
stops_by is_after old between new taken turns (Ok done) fault less so_far last fails = absurd fails
stops_by {server_of = server_of} {handles = handles} {dues = dues} is_after old between new
    taken turns (Err e) fault less so_far last fails =
    stopped taken between e less so_far
    (subst (λ f. TurnedBy is_after server_of handles dues between new (Err f)) (sym fails) last)
