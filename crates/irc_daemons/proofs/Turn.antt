-- What any turn is: its first part, from where a newcomer's connection is made, and then what is
-- written.
use Rattle.std.proofs.Common.{◌≡◌, ℕ, Bool, true, false, nat_eq, Option, Some, None, List, [], ◌∷◌}
use Rattle.std.proofs.Common.{append-nil, refl, ap, if◌then◌else◌}
use Rattle.std.proofs.lemmas.Bool.{eqb-true}
use Rattle.irc_outbox.specs.declared.wire.Ready.{Ready}
use Rattle.irc_outbox.specs.declared.wire.Ready.TheVariants.{Client, Linked, Idle, Readable}
use Rattle.irc_outbox.specs.declared.wire.Ready.TheVariants.{Writable}
use Rattle.irc_outbox.specs.Calls.{Call, reads, taken}
use Rattle.irc_server.specs.declared.event.Event.{Event}
use Rattle.irc_server.specs.declared.event.Event.TheVariants.{Connect, LinkUp}
use Rattle.irc_engine.specs.declared.engine.OutboxSizes.{OutboxSizes}
use Rattle.irc_engine.specs.declared.kind.ConnectionKind.{ConnectionKind}
use Rattle.irc_engine.specs.declared.kind.ConnectionKind.TheVariants as kinds
use Rattle.irc_engine.specs.Carrying.{fresh_connection}
use Rattle.irc_engine.specs.Hearing.{nothing_of, only_of}
use Rattle.irc_engine.specs.Running.{Answers, Moment, Ran, Reads, Starts, in_use, makes_connection}
use Rattle.irc_engine.specs.Running.{not_open, read_once}
use Rattle.irc_daemons.specs.Doings.{Doings, answers_did, newcomer_in, ran_did, reads_did, started}
use Rattle.irc_daemons.specs.Doings.{starts_did}
use Rattle.irc_daemons.specs.Items.{AnswersSpaced, RanSpaced, ReadsSpaced, StartsSpaced}

-- a connection is there from now on
pub record IsMade {W : Type 0} (kind : ConnectionKind) (room conn : ℕ)
    (old new : Moment W) : Type 0 where
  pub free : old.connections conn ≡ None
  pub server : new.server ≡ old.server
  pub lost : new.lost ≡ old.lost
  pub connections : (q : ℕ) → new.connections q
      ≡ (if nat_eq conn q then Some (fresh_connection kind room) else old.connections q)

-- Nobody has come; or a client, or a link, of which the server is told first.
pub data BeginsWith {W : Type 0} (old begin : Moment W) (given : List Event)
    (newcomer : Option ℕ) : Type 0 where
  nobody_comes : begin ≡ old → given ≡ [] → newcomer ≡ None → BeginsWith old begin given newcomer
  client_comes : (room conn : ℕ) (host : List ℕ) → IsMade kinds.Client room conn old begin
      → given ≡ Connect conn host ∷ [] → newcomer ≡ Some conn → BeginsWith old begin given newcomer
  link_comes : (room conn : ℕ) (called : Option (List ℕ)) → IsMade kinds.Link room conn old begin
      → given ≡ LinkUp conn called ∷ [] → newcomer ≡ None → BeginsWith old begin given newcomer

module _ {W : Type 0} (is_after : W → List Call → Type 0) where
  -- the first part of a turn
  pub record FirstPart (old mid : Moment W) (did : Doings) (newcomer : Option ℕ)
      (spaced : Bool → Type 0) : Type 0 where
    pub begin : Moment W
    pub exchanges : List Call
    pub given : List Event
    pub came : ℕ → List ℕ
    pub ran : Ran is_after exchanges given came begin mid
    pub begins : BeginsWith old begin given newcomer
    pub did_is : did ≡ ran_did is_after exchanges given came begin mid ran
    pub is_spaced : (later : Bool) → spaced later
        → RanSpaced is_after later exchanges given came begin mid ran
    pub takes : (q : ℕ) → taken q exchanges ≡ came q

  abbrev run_on : (old mid : Moment W) (ran : Ran is_after [] [] nothing_of old mid)
      → FirstPart old mid (ran_did is_after [] [] nothing_of old mid ran) None
      (λ later. RanSpaced is_after later [] [] nothing_of old mid ran)
  run_on old mid ran = record {
    begin = old;
    exchanges = [];
    given = [];
    came = nothing_of;
    ran = ran;
    begins = nobody_comes refl refl refl;
    did_is = refl;
    is_spaced = λ later spaced. spaced;
    takes = λ q. refl;
  }

  abbrev client_starts : (room conn : ℕ) (host : List ℕ) (old mid : Moment W)
      (starts : Starts is_after kinds.Client room conn (Connect conn host) old mid) → FirstPart old
      mid (starts_did is_after kinds.Client room conn (Connect conn host) old mid starts)
      (started is_after kinds.Client room conn (Connect conn host) old mid starts)
      (λ later. StartsSpaced is_after later kinds.Client room conn
      (Connect conn host) old mid starts)
  client_starts room conn host old mid (in_use used ran) = run_on old mid ran
  client_starts room conn host old mid
      (makes_connection between free server journal wire lost waiting size set ran) = record {
        begin = between;
        exchanges = [];
        given = Connect conn host ∷ [];
        came = nothing_of;
        ran = ran;
        begins = client_comes room conn host
            (record { free = free; server = server; lost = lost; connections = set }) refl refl;
        did_is = refl;
        is_spaced = λ later spaced. spaced;
        takes = λ q. refl;
      }

  abbrev link_starts : (room conn : ℕ) (called : Option (List ℕ)) (old mid : Moment W)
      (starts : Starts is_after kinds.Link room conn (LinkUp conn called) old mid) → FirstPart old
      mid (starts_did is_after kinds.Link room conn (LinkUp conn called) old mid starts) None
      (λ later. StartsSpaced is_after later kinds.Link room conn
      (LinkUp conn called) old mid starts)
  link_starts room conn called old mid (in_use used ran) = run_on old mid ran
  link_starts room conn called old mid
      (makes_connection between free server journal wire lost waiting size set ran) = record {
        begin = between;
        exchanges = [];
        given = LinkUp conn called ∷ [];
        came = nothing_of;
        ran = ran;
        begins = link_comes room conn called
            (record { free = free; server = server; lost = lost; connections = set }) refl refl;
        did_is = refl;
        is_spaced = λ later spaced. spaced;
        takes = λ q. refl;
      }

  abbrev pub reads_part : (conn : ℕ) (old mid : Moment W) (done : Reads is_after conn old mid)
      → FirstPart old mid (reads_did is_after conn old mid done) None
      (λ later. ReadsSpaced is_after later conn old mid done)
  reads_part conn old mid (not_open closed ran) = run_on old mid ran
  reads_part conn old mid (read_once room answer bytes is_open as_large ran) = record {
    begin = old;
    exchanges = reads conn room answer bytes ∷ [];
    given = [];
    came = only_of conn bytes;
    ran = ran;
    begins = nobody_comes refl refl refl;
    did_is = refl;
    is_spaced = λ later spaced. spaced;
    takes = λ q. append-nil (only_of conn bytes q);
  }

  abbrev pub first_part : (sizes : OutboxSizes) (report : Ready)
      (old mid : Moment W) (answers : Answers is_after sizes report old mid)
      → FirstPart old mid (answers_did is_after sizes report old mid answers)
      (newcomer_in is_after sizes report old mid answers)
      (λ later. AnswersSpaced is_after later sizes report old mid answers)
  first_part sizes Idle old mid ran = run_on old mid ran
  first_part sizes (Client conn host) old mid starts =
      client_starts sizes.client conn host old mid starts
  first_part sizes (Linked conn called) old mid starts =
      link_starts sizes.link conn called old mid starts
  first_part sizes (Readable conn) old mid done = reads_part conn old mid done
  first_part sizes (Writable conn) old mid ran = run_on old mid ran

  -- of a connection that is not what was reported nothing is read
  pub came_of : (sizes : OutboxSizes) (report : Ready) (old mid : Moment W)
      (answers : Answers is_after sizes report old mid) (q : ℕ) → (report ≡ Readable q → ⊥)
      → (first_part sizes report old mid answers).came q ≡ []
  came_of sizes Idle old mid ran q other = refl
  came_of sizes (Client conn host) old mid (in_use used ran) q other = refl
  came_of sizes (Client conn host) old mid
      (makes_connection between free server journal wire lost waiting size set ran) q other = refl
  came_of sizes (Linked conn called) old mid (in_use used ran) q other = refl
  came_of sizes (Linked conn called) old mid
      (makes_connection between free server journal wire lost waiting size set ran) q other = refl
  came_of sizes (Readable conn) old mid (not_open closed ran) q other = refl
  came_of sizes (Readable conn) old mid (read_once room answer bytes is_open as_large ran) q other =
      by (nat_eq conn q) refl
    where
      by : (b : Bool) → nat_eq conn q ≡ b → (if b then bytes else []) ≡ []
      by true same = absurd (other (ap Readable (eqb-true conn q same)))
      by false two = refl
  came_of sizes (Writable conn) old mid ran q other = refl
