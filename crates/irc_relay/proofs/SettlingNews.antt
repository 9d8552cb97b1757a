-- The example's loop: each delivery leaves less to come, and in the end nothing is under way.
use Rattle.std.proofs.Common.{◌≡◌, ◌≢◌, ℕ, ◌+◌, ◌<◌, ◌==◌, get_or, Bool, true, false, ◌&&◌, cond}
use Rattle.std.proofs.Common.{List, [], ◌∷◌, ◌++◌, inl, inr, length, map, filter, count_by, refl}
use Rattle.std.proofs.Common.{sym, ap, subst, ◌∙◌, arith}
use Rattle.std.proofs.lemmas.List.Sums.{sum_by-cons}
use Rattle.std.proofs.lemmas.Bool.Decides.{nat_tests}
use Rattle.std.specs.Bool.{MatchBool}
use Rattle.irc_relay.specs.Links.{Name, same, Link, IsForest, AreLinked, distance}
use Rattle.irc_relay.specs.Relay.{Streams, streams_from, from_one, IsAtRest, TakesFrom, GoesAway}
use Rattle.irc_relay.specs.Relay.{SameOutcome, lines_coming}
use Rattle.irc_relay.specs.Queue.{goes, queue_of}
use Rattle.irc_relay.specs.NewsNet.{name, links_of, news_parts, relaying, net_of, streams_of}
use Rattle.irc_relay.specs.NewsNet.{DeliversNews, KeepsNews, HasSettled}
use Rattle.irc_relay.specs.Loops.Settling.{ends_of, items_coming, IsSettling}
use Rattle.irc_relay.specs.declared.news.NewsSent.{NewsSent}
use Rattle.irc_relay.specs.declared.news.Edge.{Edge}
use Rattle.irc_relay.specs.declared.news.News.{News}
use Rattle.irc_relay.specs.Lemmas.TellingNames.{same_when}
use Rattle.irc_relay.specs.Lemmas.NextHops.{next_hop, distance_self, linked_other}
use Rattle.irc_relay.specs.Lemmas.StreamsFlow.{covers_flows, one_covers}
use Rattle.irc_relay.specs.Lemmas.DeliveryRuns.{rest_final, rest_told}
use Rattle.irc_relay.specs.Lemmas.LinesCounted.{delivery_sums}
use Rattle.irc_relay.specs.Lemmas.ReturnedLines.{taker_from}
use Rattle.irc_relay.proofs.DeliveringNews.{relays}

-- an end of a link is among the ends of the edges
ends_counted : (edges : List Edge) (t u : Name) → AreLinked (links_of edges) t u
    → 0 < count_by (same t) (ends_of edges)
ends_counted [] t u h = absurd h
ends_counted (e ∷ edges) t u h = go (ends_counted edges t u) h
  where
    number : Name → ℕ
    number v = cond (same t v) 1 0

    split : count_by (same t) (ends_of (e ∷ edges)) ≡ number (name e.near)
        + (number (name e.far) + count_by (same t) (ends_of edges))
    split = sum_by-cons number (name e.near) (name e.far ∷ ends_of edges)
        ∙ ap (λ n. number (name e.near) + n) (sum_by-cons number (name e.far) (ends_of edges))

    at : (v : Name) → v ≡ t → number v ≡ 1
    at v e = ap (λ b. cond {A = ℕ} b 1 0) (same_when t v (sym e))

    go : (AreLinked (links_of edges) t u → 0 < count_by (same t) (ends_of edges))
        → AreLinked (links_of (e ∷ edges)) t u → 0 < count_by (same t) (ends_of (e ∷ edges))
    go r (inr k) = let rest = r k in rw split (omega arith)
    go r (inl (inl (f, g))) = let here = at (name e.near) f in rw split (omega arith)
    go r (inl (inr (f, g))) = let there = at (name e.far) g in rw split (omega arith)

-- whoever takes lines is linked to where they come from
takes_linked : (links : List Link) (s x y : Name) → IsForest links
    → TakesFrom (streams_from links (from_one links s)) y x → AreLinked links y x
takes_linked links s x y forest h = subst (λ v. AreLinked links y v) h.parent
    (next_hop links y (from_one links s y) forest ((one_covers links s).joined y) apart).linked
  where
    apart : y ≢ from_one links s y
    apart e =
        let near = ap (λ v. distance links v (from_one links s y)) e
        ∙ distance_self links (from_one links s y) in
        let far = h.below in
        let q : ⊥ = omega arith in
        q

-- the first that is under way is the oldest of its queue
first_goes : (old : News) (s : NewsSent) (rest : List NewsSent) → old.flying.items ≡ s ∷ rest
    → queue_of news_parts old.flying.items (name s.from) (name s.to)
    ≡ s.item ∷ queue_of news_parts rest
    (name s.from) (name s.to)
first_goes old s rest e =
    ap (λ sent. queue_of news_parts sent (name s.from) (name s.to)) e
    ∙ ap (λ b. map (λ (v : NewsSent). v.item) (cond b (s ∷ filter (goes news_parts (name s.from)
    (name s.to)) rest) (filter (goes news_parts (name s.from) (name s.to)) rest))) here
  where
    here : goes news_parts (name s.from) (name s.to) s ≡ true
    here = ap (λ v. v && same (name s.to) (name s.to)) (same_when (name s.from) (name s.from) refl)
        ∙ same_when (name s.to) (name s.to) refl

-- so there is one to deliver
pub first_is_there : (old : News) (s : NewsSent) (rest : List NewsSent) → old.flying.items
    ≡ s ∷ rest → queue_of news_parts old.flying.items (name s.from) (name s.to) ≡ [] → ⊥
first_is_there old s rest e h = let f = sym (first_goes old s rest e) ∙ h in cc

-- the first that is under way comes to another server
pub first_apart : (source : ℕ) (old : News) (s : NewsSent) (rest : List NewsSent)
    → IsForest (links_of old.edges.items) → GoesAway (streams_of old source) (net_of old)
    → old.flying.items ≡ s ∷ rest → s.from ≢ s.to
first_apart source old s rest forest away e f =
    linked_other
    (links_of old.edges.items)
    (name s.to)
    (name s.from)
    forest
    (takes_linked (links_of old.edges.items) (name source) (name s.from) (name s.to) forest
    (away (name s.from) (name s.to) s.item (queue_of news_parts rest (name s.from) (name s.to)
    ++ []) (ap (λ v. v ++ []) (first_goes old s rest e))))
    (ap name (sym f))

-- a delivery leaves less to come
pub news_fall : (from to source : ℕ) (old new : News) → new.edges.items ≡ old.edges.items
    → DeliversNews from to old new → IsForest (links_of old.edges.items) → GoesAway
    (streams_of old source) (net_of old) → items_coming new source < items_coming old source
news_fall from to source old new e d forest away =
    subst (λ n. n < items_coming old source) (sym same_edges) less
  where
    links : List Link
    links = links_of old.edges.items

    streams : Streams
    streams = streams_of old source

    takes_from : TakesFrom streams (name to) (name from)
    takes_from = taker_from (relaying old.edges.items) streams (name from) (name to) d.0 []
        (net_of old) (net_of new) away d.1

    same_edges : items_coming new source ≡ lines_coming (relaying old.edges.items) streams
        (net_of new) (ends_of old.edges.items)
    same_edges = ap (λ es. lines_coming (relaying es) (streams_from (links_of es)
        (from_one (links_of es) (name source))) (net_of new) (ends_of es)) e

    less : lines_coming (relaying old.edges.items) streams (net_of new) (ends_of old.edges.items)
        < items_coming old source
    less =
        let sums = delivery_sums (relaying old.edges.items) links streams (name from)
        (name to) d.0 (net_of old) (net_of new) (ends_of old.edges.items) (covers_flows links
        (from_one links (name source)) forest (one_covers links (name source))) away d.1
        (relays old.edges.items streams from to d.0 (net_of old)) in
        let once = ends_counted old.edges.items (name to) (name from)
        (takes_linked links (name source) (name from) (name to) forest takes_from) in
        omega arith

-- with nothing under way all has come
pub settled : (source : ℕ) (start now : News) → now.flying.items ≡ []
    → SameOutcome (relaying start.edges.items) (streams_of start source) (net_of start) (net_of now)
    → HasSettled source start now
settled source start now e same_outcome =
    record {
      rest = rest;
      state = λ u. sym (rest_final (relaying start.edges.items) (streams_of start source)
          (net_of now) u rest) ∙ same_outcome.same_final u;
      shown = λ u. sym (rest_told (relaying start.edges.items) (streams_of start source)
          (net_of now) u rest) ∙ same_outcome.same_told u;
    }
  where
    rest : IsAtRest (net_of now)
    rest x y = ap (λ sent. queue_of news_parts sent x y ++ []) e

-- the loop's invariant: at the start, and after each delivery
pub settling_start : (source : ℕ) (start : News) → GoesAway (streams_of start source) (net_of start)
    → IsSettling source start start
settling_start source start away =
    record {
      edges = refl;
      outcome = record { same_final = λ u. refl; same_told = λ u. refl };
      goes_away = away;
    }

-- what goes away from the source along the edges at the start does so along the edges now
pub away_now : (source : ℕ) (start now : News) → IsSettling source start now
    → GoesAway (streams_of now source) (net_of now)
away_now source start now s = subst (λ es. GoesAway (streams_from (links_of es)
    (from_one (links_of es) (name source))) (net_of now)) (sym s.edges) s.goes_away

pub forest_now : (source : ℕ) (start now : News) → IsSettling source start now
    → IsForest (links_of start.edges.items) → IsForest (links_of now.edges.items)
forest_now source start now s forest = subst (λ es. IsForest (links_of es)) (sym s.edges) forest

pub settling_on : (source : ℕ) (start now next : News) → IsForest (links_of start.edges.items)
    → IsSettling source start now → next.edges.items ≡ now.edges.items → KeepsNews now next
    → IsSettling source start next
settling_on source start now next forest s e keeps =
    go (keeps (name source) (forest_now source start now s forest) (away_now source start now s))
  where
    go : SameOutcome (relaying now.edges.items) (streams_of now source) (net_of now) (net_of next)
        × GoesAway (streams_of now source) (net_of next) → IsSettling source start next
    go kept =
        let outcome : SameOutcome (relaying start.edges.items) (streams_of start source)
        (net_of now) (net_of next) = subst (λ es. SameOutcome (relaying es)
        (streams_from (links_of es) (from_one (links_of es) (name source))) (net_of now)
        (net_of next)) s.edges kept.0 in
        record {
          edges = e ∙ s.edges;
          outcome = record {
            same_final = λ u. outcome.same_final u ∙ s.outcome.same_final u;
            same_told = λ u. outcome.same_told u ∙ s.outcome.same_told u;
          };
          goes_away = subst (λ es. GoesAway (streams_from (links_of es)
              (from_one (links_of es) (name source))) (net_of next)) s.edges kept.1;
        }

-- what the loop's test and its first item tell
pub first_of : (sent : List NewsSent) (n : ℕ) (s : NewsSent) → n ≡ length sent → (n == 0) ≡ false
    → s ≡ get_or sent 0 s → (rest : List NewsSent) × (sent ≡ s ∷ rest)
first_of [] n s h e f = absurd (grind (arith, nat_tests))
first_of (x ∷ rest) n s h e f = (rest, ap (λ v. v ∷ rest) (sym f))

pub none_left : (sent : List NewsSent) (n : ℕ) → n ≡ length sent → (n == 0) ≡ true → sent ≡ []
none_left [] n h e = refl
none_left (x ∷ rest) n h e = absurd (grind (arith, nat_tests))

-- a delivery of the first that is under way
pub first_fall : (source : ℕ) (old new : News) (s : NewsSent) (rest : List NewsSent) (taken : Bool)
    → old.flying.items ≡ s ∷ rest → new.edges.items ≡ old.edges.items
    → MatchBool taken (DeliversNews s.from s.to old new)
    (queue_of news_parts old.flying.items (name s.from) (name s.to) ≡ [])
    → IsForest (links_of old.edges.items) → GoesAway (streams_of old source) (net_of old)
    → items_coming new source < items_coming old source
first_fall source old new s rest true f e d forest away =
    news_fall s.from s.to source old new e d forest away
first_fall source old new s rest false f e d forest away = absurd (first_is_there old s rest f d)
