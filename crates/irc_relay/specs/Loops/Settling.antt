-- What the loop that delivers all is at.
use Rattle.std.specs.Prelude.{◌≡◌, ℕ, List, [], ◌∷◌, flat_map}
use Rattle.irc_relay.specs.Links.{Name}
use Rattle.irc_relay.specs.Relay.{GoesAway, SameOutcome, lines_coming}
use Rattle.irc_relay.specs.NewsNet.{name, relaying, net_of, streams_of}
use Rattle.irc_relay.specs.declared.news.Edge.{Edge}
use Rattle.irc_relay.specs.declared.news.News.{News}

-- the ends of the edges
abbrev pub ends_of : List Edge → List Name
ends_of edges = flat_map (λ e. name e.near ∷ name e.far ∷ []) edges

-- how many items are coming to the ends of the edges
abbrev pub items_coming : News → ℕ → ℕ
items_coming news source = lines_coming (relaying news.edges.items) (streams_of news source)
    (net_of news) (ends_of news.edges.items)

-- on the way there: the same outcome for every server, and all that is under way comes from the
-- source
pub record IsSettling (source : ℕ) (start now : News) : Type 0 where
  pub edges : now.edges.items ≡ start.edges.items
  pub outcome : SameOutcome (relaying start.edges.items) (streams_of start source) (net_of start)
      (net_of now)
  pub goes_away : GoesAway (streams_of start source) (net_of now)
