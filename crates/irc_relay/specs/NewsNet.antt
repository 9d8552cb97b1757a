-- The example: servers with one-byte names, in a tree, that relay news. A server shows a news item
-- and passes it on to its other neighbours, unless it is the one that it showed last.
use Rattle.std.specs.Prelude.{◌≡◌, ◌≢◌, ℕ, false, ◌++◌, ◌&&◌, not, ◌==◌, if◌then◌else◌, List, []}
use Rattle.std.specs.Prelude.{◌∷◌, map, filter, flat_map, slice_index}
use Rattle.irc_relay.specs.Links.{Name, same, Link, AreJoined, IsForest}
use Rattle.irc_relay.specs.Relay.{Machine, RelayState, Streams, streams_from, from_one, IsAtRest}
use Rattle.irc_relay.specs.Relay.{GoesAway}
use Rattle.irc_relay.specs.Relay.{SameOutcome, Delivers, final, final_shown}
use Rattle.irc_relay.specs.Following.{Play, Terms}
use Rattle.irc_relay.specs.Queue.{SentParts, queue_of}
use Rattle.irc_relay.specs.declared.news.Edge.{Edge}
use Rattle.irc_relay.specs.declared.news.NewsSent.{NewsSent}
use Rattle.irc_relay.specs.declared.news.Shown.{Shown}
use Rattle.irc_relay.specs.declared.news.News.{News}

-- the name of a numbered server, and the number of a name
abbrev pub name : ℕ → Name
name k = k ∷ []

abbrev pub number : Name → ℕ
number [] = 0
number (k ∷ rest) = k

abbrev pub link_of : Edge → Link
link_of e = record { near = name e.near; far = name e.far }

abbrev pub links_of : List Edge → List Link
links_of edges = map link_of edges

abbrev pub news_parts : SentParts NewsSent ℕ
news_parts = record { from = λ s. name s.from; to = λ s. name s.to; line = λ s. s.item }

-- what a server showed
abbrev pub items_at : List Shown → Name → List ℕ
items_at shown u = map (λ s. s.item) (filter (λ s. same (name s.at) u) shown)

-- the item that a server showed last
abbrev pub latest_of : List ℕ → Name → ℕ
latest_of latest [] = 0
latest_of latest (k ∷ []) = slice_index latest k
latest_of latest (k ∷ j ∷ rest) = 0

-- what a server sends over one edge upon an item that came from another: the item, if it stands at
-- one end and the item did not come from the other
abbrev pub sent_over : ℕ → ℕ → ℕ → Edge → List NewsSent
sent_over at from item e =
    if (e.near == at) && not (e.far == from) then record { from = at; to = e.far; item = item } ∷ []
    else if (e.far == at) && not (e.near == from)
    then record { from = at; to = e.near; item = item } ∷ []
    else []

abbrev pub sent_on : List Edge → ℕ → ℕ → ℕ → List NewsSent
sent_on edges at from item = flat_map (sent_over at from item) edges

-- an item is sent on in what is under way
abbrev pub SendsOn : List Edge → ℕ → ℕ → ℕ → List NewsSent → List NewsSent → Type 0
SendsOn edges at from item old new = new ≡ old ++ sent_on edges at from item

-- a server shows an item, and sends it on as its own
abbrev pub ShowsItem : ℕ → ℕ → News → News → Type 0
ShowsItem at item old new =
    new.shown.items ≡ old.shown.items ++ record { at = at; item = item } ∷ []

abbrev pub SendsItem : ℕ → ℕ → News → News → Type 0
SendsItem at item old new = SendsOn old.edges.items at at item old.flying.items new.flying.items

-- the machine: a server's state is the item that it showed last
abbrev pub relaying : List Edge → Machine ℕ ℕ ℕ
relaying edges = record {
  step = λ t p latest item. item;
  sends = λ t p latest item u. if item == latest then []
      else queue_of news_parts (sent_on edges (number t) (number p) item) t u;
  shows = λ t p latest item. if item == latest then [] else item ∷ [];
}

-- the network of these edges, latest items, showings and lines under way
abbrev pub net_with : List ℕ → List Shown → List NewsSent → RelayState ℕ ℕ ℕ
net_with latest shown flying = record {
  state = latest_of latest;
  shown = items_at shown;
  queue = queue_of news_parts flying;
  owed = λ x y. [];
}

abbrev pub net_of : News → RelayState ℕ ℕ ℕ
net_of news = net_with news.latest news.shown.items news.flying.items

-- one delivery: the second server takes the oldest item on its way from the first
abbrev pub DeliversNews : ℕ → ℕ → News → News → Type 0
DeliversNews from to old new = (item : ℕ)
    × Delivers (relaying old.edges.items) (name from) (name to) item [] (net_of old) (net_of new)

-- whichever server the news come from: if all that is under way comes from there, along a forest,
-- it does so afterwards, and what every server will have shown is the same
abbrev pub KeepsNews : News → News → Type 0
KeepsNews old new =
    (source : Name)
    → IsForest (links_of old.edges.items)
    → GoesAway (streams_from (links_of old.edges.items)
    (from_one (links_of old.edges.items) source)) (net_of old)
    → SameOutcome (relaying old.edges.items)
    (streams_from (links_of old.edges.items) (from_one (links_of old.edges.items) source))
    (net_of old) (net_of new)
    × GoesAway (streams_from (links_of old.edges.items)
    (from_one (links_of old.edges.items) source)) (net_of new)

-- news that a server publishes at rest, in a forest, come to every server on the way from that one
abbrev pub PublishedGoesAway : ℕ → News → News → Type 0
PublishedGoesAway at old new =
    IsForest (links_of old.edges.items)
    → IsAtRest (net_of old)
    → GoesAway (streams_from (links_of old.edges.items)
    (from_one (links_of old.edges.items) (name at))) (net_of new)

-- where the news of one server come from
abbrev pub streams_of : News → ℕ → Streams
streams_of news source =
    streams_from (links_of news.edges.items) (from_one (links_of news.edges.items) (name source))

-- all has come: nothing is under way, every server has its final state, and has shown all that it
-- was to be told
pub record HasSettled (source : ℕ) (old new : News) : Type 0 where
  pub rest : IsAtRest (net_of new)
  pub state : (u : Name) → (net_of new).state u ≡ final (relaying old.edges.items)
      (streams_of old source) (net_of old) u
  pub shown : (u : Name) → (net_of new).shown u ≡ final_shown (relaying old.edges.items)
      (streams_of old source) (net_of old) u

-- ---- what they follow: the item that all servers of a part showed last

-- a new item becomes the last one, and each server shows it; the last one again is nothing new
abbrev pub news_play : Play ℕ ℕ ℕ
news_play = record {
  done = λ latest item. item;
  seen = λ t latest item. if item == latest then [] else item ∷ [];
}

abbrev pub news_terms : Terms ℕ ℕ ℕ ℕ
news_terms = record {
  fits = λ t latest shown_last. shown_last ≡ latest;
  meet = λ t u one other. Unit;
  says = λ p t latest shown_last item line. (line ≡ item) × ((item == latest) ≡ false);
  aside = λ p t latest shown_last line. line ≡ latest;
  passes = λ t latest item. item ≡ latest;
  good = λ p t shown_last line. Unit;
}

-- the servers that are joined to this one showed the same item last
abbrev pub ShowAlike : ℕ → News → Type 0
ShowAlike source news =
    (u : Name) → AreJoined (links_of news.edges.items) u (name source)
    → (net_of news).state u ≡ (net_of news).state (name source)

-- An item was announced at a server, which showed it. Whoever is joined to it has it for the last
-- one, and showed it unless it was that already; for all others nothing changed; nothing is under
-- way.
pub record HasAnnounced (source item : ℕ) (old new : News) : Type 0 where
  pub rest : IsAtRest (net_of new)
  pub latest : (u : Name) → AreJoined (links_of old.edges.items) u (name source)
      → (net_of new).state u ≡ item
  pub shown_there : (net_of new).shown (name source) ≡ (net_of old).shown (name source) ++ item ∷ []
  pub shown : (u : Name) → AreJoined (links_of old.edges.items) u (name source)
      → u ≢ name source → (net_of new).shown u ≡ (net_of old).shown u
      ++ (if item == (net_of old).state (name source) then [] else item ∷ [])
  pub other_latest : (u : Name) → (AreJoined (links_of old.edges.items) u (name source) → ⊥)
      → (net_of new).state u ≡ (net_of old).state u
  pub other_shown : (u : Name) → (AreJoined (links_of old.edges.items) u (name source) → ⊥)
      → (net_of new).shown u ≡ (net_of old).shown u
