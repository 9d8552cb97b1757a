-- What an engine says of its links behind a turn, and behind each of several.
use Rattle.std.specs.Prelude.{◌≡◌, ℕ, ◌+◌, ◌<◌, true, false, Option, Some, None, Result, Ok, Err}
use Rattle.std.specs.Prelude.{List}
use Rattle.irc_outbox.specs.declared.wire.Notice.{Notice}
use Rattle.irc_outbox.specs.declared.wire.Notice.TheVariants as notices
use Rattle.irc_outbox.specs.declared.wire.Unreached.{Unreached as FailedCall}
use Rattle.irc_outbox.specs.Calls.{Call, Keeps}
use Rattle.irc_journal.specs.declared.journal.Journal.{Journal}
use Rattle.irc_journal.specs.declared.tidings.Tidings.{Tidings}
use Rattle.irc_journal.specs.declared.tidings.Outcome.TheVariants.{Unreached}
use Rattle.irc_journal.specs.Signs.{IsEmptied}
use Rattle.irc_journal.specs.Lines.{connections_line}
use Rattle.irc_journal.specs.Saying.{AreTold, IsFrontSaid, IsSaid}
use Rattle.irc_engine.specs.declared.engine.EngineFault.{EngineFault}
use Rattle.irc_server.specs.ReadEvents.{IsHandled}
use Rattle.irc_stage.specs.View.{View}
use Rattle.irc_engine.specs.Machines.{itself, never_due, Dues, Handles}
use Rattle.irc_engine.specs.Turning.{TurnedBy}
use Rattle.irc_engine.specs.EngineView.{EngineView, EngineViewOf}

-- what is told of a call that has failed
abbrev pub call_told : FailedCall → Tidings
call_told call =
    record {
      link = None;
      name = Some call.name;
      is_called = true;
      outcome = Unreached call.error;
    }

-- what a wire has to tell is said, if there is something
abbrev pub IsNoticeSaid : Option Notice → Option (List ℕ) → Option (List ℕ) → Type 0
IsNoticeSaid None held after = after ≡ held
IsNoticeSaid (Some (notices.Unreached call)) held after = IsSaid (call_told call) None 0 held after
IsNoticeSaid (Some notices.DescriptorsGone) held after =
    IsFrontSaid (connections_line false) held after
IsNoticeSaid (Some notices.DescriptorsBack) held after =
    IsFrontSaid (connections_line true) held after

-- All that there was to tell of links is told, at some moment and of each from some address, as the
-- wire answers; and then what the wire itself has to tell is said. Nothing else has changed.
pub record Tells {W M : Type 0} (is_after : W → List Call → Type 0) (old new : EngineViewOf W M)
    (held after : Option (List ℕ)) : Type 0 where
  pub emptied : Journal
  pub is_emptied : IsEmptied old.now.journal emptied
  pub moment : ℕ
  pub journal : Journal
  pub between : Option (List ℕ)
  pub are_told : AreTold moment old.now.journal.tidings.items emptied journal held between
  pub notice : Option Notice
  pub notice_said : IsNoticeSaid notice between after
  pub wire : W
  pub keeps : Keeps is_after old.now.wire wire
  pub new_is : new ≡ record old { now = record old.now { journal = journal; wire = wire } }

-- ---- of any machine

module _ {W M : Type 0} (is_after : W → List Call → Type 0) (server_of : M → Option View)
    (handles : Handles M) (dues : Dues M) where
  -- a turn is asked for, and then what there is to tell is said
  pub record TellsTurnedBy (old new : EngineViewOf W M) (held after : Option (List ℕ))
      (result : Result (Unit {0}) EngineFault) : Type 0 where
    pub between : EngineViewOf W M
    pub turned : TurnedBy is_after server_of handles dues old between result
    pub tells : Tells is_after between new held after

  -- so many turns, one after another, with what is said behind each
  pub data ToldTurnsBy (old : EngineViewOf W M) (held : Option (List ℕ)) : ℕ → EngineViewOf W M
      → Option (List ℕ) → Type 0 where
    no_told : ToldTurnsBy old held 0 old held
    told_more : (n : ℕ) (between new : EngineViewOf W M) (then after : Option (List ℕ))
        → ToldTurnsBy old held n between then → TellsTurnedBy between new then after (Ok tt)
        → ToldTurnsBy old held (n + 1) new after

  -- All of so many turns were taken; or the one behind some of them was not, and that is the last.
  -- What there is to tell is said behind each, that one too.
  pub data RunsTellingBy (old : EngineViewOf W M) (held : Option (List ℕ)) (turns : ℕ)
      (new : EngineViewOf W M) (after : Option (List ℕ))
      : Result (Unit {0}) EngineFault → Type 0 where
    all_told : ToldTurnsBy old held turns new after
        → RunsTellingBy old held turns new after (Ok tt)
    told_stopped : (taken : ℕ) (between : EngineViewOf W M) (then : Option (List ℕ))
        (fault : EngineFault) → taken < turns → ToldTurnsBy old held taken between then
        → TellsTurnedBy between new then after (Err fault)
        → RunsTellingBy old held turns new after (Err fault)

-- ---- of a server

module _ {W : Type 0} (is_after : W → List Call → Type 0) where
  abbrev pub TellsTurned : EngineView W → EngineView W → (held after : Option (List ℕ))
      → Result (Unit {0}) EngineFault → Type 0
  TellsTurned = TellsTurnedBy is_after itself IsHandled never_due

  abbrev pub ToldTurns : EngineView W → Option (List ℕ) → ℕ → EngineView W → Option (List ℕ)
      → Type 0
  ToldTurns = ToldTurnsBy is_after itself IsHandled never_due

  abbrev pub RunsTelling : EngineView W → Option (List ℕ) → ℕ → EngineView W → Option (List ℕ)
      → Result (Unit {0}) EngineFault → Type 0
  RunsTelling = RunsTellingBy is_after itself IsHandled never_due
