-- Clients are asked one after another.
use Rattle.std.proofs.Common.{◌≡◌, ℕ, Option, List, [], ◌∷◌, sym, subst}
use Rattle.irc_stage.specs.View.{View}
use Rattle.irc_engine.specs.Machines.{Handles}
use Rattle.irc_doorman.specs.declared.asks.Asks.{Asks}
use Rattle.irc_doorman.specs.Doormen.{nobody, one, AreAsked, IsAsked, State}

module _ {M : Type 0} (server_of : M → Option View) (handles : Handles M) (asks : Asks)
    (moment : ℕ) (conns : List ℕ) (old : State M) where
  -- so far all were asked but for these
  abbrev pub AskedTo : List ℕ → State M → Type 0
  AskedTo rest now = (end : State M) → AreAsked server_of handles asks moment rest now end
      → AreAsked server_of handles asks moment conns old end

  pub asked_none : (rest : List ℕ) → rest ≡ conns → AskedTo rest old
  asked_none rest is end more =
      subst (λ some. AreAsked server_of handles asks moment some old end) is more

  pub asked_on : (rest more : List ℕ) (conn : ℕ) (now next : State M) → rest ≡ conn ∷ more
      → IsAsked server_of handles asks moment conn now next → AskedTo rest now → AskedTo more next
  asked_on rest more conn now next is step so_far end others = so_far end
      (subst (λ some. AreAsked server_of handles asks moment some now end) (sym is)
      (one step others))

  pub asked_all : (rest : List ℕ) (now : State M) → rest ≡ [] → AskedTo rest now
      → AreAsked server_of handles asks moment conns old now
  asked_all rest now none so_far = so_far now
      (subst (λ some. AreAsked server_of handles asks moment some now now) (sym none) nobody)
