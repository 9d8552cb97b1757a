-- Where nobody is looked for, and where memory runs out.
use Rattle.std.proofs.Common.{◌≡◌, ℕ, ◌*◌, Bool, true, not, Option, Some, None, List, [], sym}
use Rattle.std.proofs.Common.{◌∙◌, ap, subst, nat_lt, if◌then◌else◌, refl, Result, Ok, Err}
use Rattle.std.proofs.Common.{IsErrAnd}
use Rattle.irc_batch.specs.Batches.{Sent}
use Rattle.irc_server.specs.declared.event.ServerFault.{ServerFault}
use Rattle.irc_server.specs.declared.event.ServerFault.TheVariants.{Memory}
use Rattle.irc_stage.specs.View.{View}
use Rattle.irc_engine.specs.Machines.{is_out_of_memory, Dues, Handles}
use Rattle.irc_doorman.specs.declared.asks.Asks.{Asks}
use Rattle.irc_doorman.specs.declared.doorman.Doorman.{Doorman}
use Rattle.irc_doorman.specs.Doormen.{lacks_memory, nobody, silent_at, silent_of}
use Rattle.irc_doorman.specs.Doormen.{AreAsked, IsWatched, State}

module _ {M : Type 0} (old : Doorman M) (moment : ℕ) where
  -- nobody is ever asked
  pub none_silent : old.asks.ping_after ≡ None
      → silent_at old.asks.ping_after old.next_look moment old.guests ≡ []
  none_silent none = ap (λ seconds. silent_at seconds old.next_look moment old.guests) none

  module _ (seconds : ℕ) (some : old.asks.ping_after ≡ Some seconds) where
    abbrev silent_if : Bool → List ℕ
    silent_if soon = if not soon then silent_of (seconds * 1000) moment old.guests else []

    -- it is too soon
    pub soon_silent : nat_lt moment old.next_look ≡ true
        → silent_at old.asks.ping_after old.next_look moment old.guests ≡ []
    soon_silent soon = ap (λ s. silent_at s old.next_look moment old.guests) some
        ∙ ap silent_if soon

pub nobody_asked : {M : Type 0} (server_of : M → Option View) (handles : Handles M) (asks : Asks)
    (moment : ℕ) (conns : List ℕ) (state : State M) → conns ≡ []
    → AreAsked server_of handles asks moment conns state state
nobody_asked server_of handles asks moment conns state none =
    subst (λ some. AreAsked server_of handles asks moment some state state) (sym none) nobody

-- memory runs out
module _ {M : Type 0} (server_of : M → Option View) (handles : Handles M) (dues : Dues M)
    (old : Doorman M) (moment : ℕ) (before : List Sent) (new : Doorman M) (after : List Sent) where
  pub watched_not : (r : Result (Unit {0}) ServerFault) (fault : ServerFault)
      → is_out_of_memory fault ≡ true → IsErrAnd r (λ f. f ≡ fault)
      → IsWatched server_of handles dues old moment before r new after
  watched_not (Ok _) fault gone failed = absurd failed
  watched_not (Err f) fault gone failed =
      subst (λ e. IsWatched server_of handles dues old moment before (Err e) new after)
      (sym failed) (lacks_memory fault gone)

  pub unwatched : (r : Result (Unit {0}) ServerFault) → IsErrAnd r (λ f. f ≡ Memory)
      → IsWatched server_of handles dues old moment before r new after
  unwatched r failed = watched_not r Memory refl failed
