-- How an item is found and taken out of what is under way.
use Rattle.std.specs.Prelude.{◌≡◌, ℕ, Bool, ◌&&◌, ◌==◌, List, [], ◌∷◌}
use Rattle.irc_relay.specs.Links.{Name}
use Rattle.irc_relay.specs.Queue.{queue_of}
use Rattle.irc_relay.specs.NewsNet.{name, news_parts}
use Rattle.irc_relay.specs.declared.news.NewsSent.{NewsSent}

-- the test whether an item goes from one numbered server to another
abbrev pub is_between : ℕ → ℕ → NewsSent → Bool
is_between from to s = (s.from == from) && (s.to == to)

-- the oldest item on its way between two servers is taken out of what is under way
pub record TakesOldest (from to item : ℕ) (old new : List NewsSent) : Type 0 where
  pub oldest : queue_of news_parts old (name from) (name to) ≡ item ∷ queue_of news_parts new
      (name from)
      (name to)
  pub others : (x y : Name) → (x ≡ name from → y ≡ name to → ⊥)
      → queue_of news_parts new x y ≡ queue_of news_parts old x y

-- none is on its way between them, and nothing is taken
abbrev pub TakesNone : ℕ → ℕ → List NewsSent → List NewsSent → Type 0
TakesNone from to old new = (new ≡ old) × (queue_of news_parts old (name from) (name to) ≡ [])
