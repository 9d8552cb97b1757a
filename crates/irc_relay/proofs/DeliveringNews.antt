-- The example's deliveries are deliveries, and keep what they keep.
use Rattle.std.proofs.Common.{◌≡◌, Result, Ok, Err, OnOk, ◌≢◌, ℕ, ◌<◌, ◌==◌, Bool, true, false}
use Rattle.std.proofs.Common.{cond, List, [], ◌∷◌, ◌++◌, inl, inr, length, map, filter, get_or}
use Rattle.std.proofs.Common.{slice_set, refl, sym, ap, subst, ◌∙◌, get_or-set_same}
use Rattle.std.proofs.Common.{get_or-set_other}
use Rattle.std.proofs.lemmas.Bool.Decides.{eqb_tells}
use Rattle.std.proofs.lemmas.List.{append-nil, map-append}
use Rattle.std.proofs.lemmas.List.Elements.{filter-append}
use Rattle.irc_relay.specs.Links.{Name, same, Link, IsForest, AreLinked}
use Rattle.irc_relay.specs.Relay.{RelayState, Streams, streams_from, from_one, IsAtRest, GoesAway}
use Rattle.irc_relay.specs.Relay.{Delivers, Relays}
use Rattle.irc_relay.specs.Queue.{queue_of}
use Rattle.irc_relay.specs.NewsNet.{name, number, links_of, news_parts, items_at, latest_of}
use Rattle.irc_relay.specs.NewsNet.{sent_on}
use Rattle.irc_relay.specs.NewsNet.{relaying, net_with, net_of, DeliversNews, KeepsNews}
use Rattle.irc_relay.specs.Loops.Taking.{TakesOldest}
use Rattle.irc_relay.specs.declared.news.NewsSent.{NewsSent}
use Rattle.irc_relay.specs.declared.news.Edge.{Edge}
use Rattle.irc_relay.specs.declared.news.Shown.{Shown}
use Rattle.irc_relay.specs.declared.news.News.{News}
use Rattle.irc_relay.specs.Lemmas.TellingNames.{Telling, alike, unlike, tell, same_when}
use Rattle.irc_relay.specs.Lemmas.TellingNames.{same_unless}
use Rattle.irc_relay.specs.Lemmas.StreamsFlow.{covers_flows, one_covers, from_source_goes_away}
use Rattle.irc_relay.specs.Lemmas.StreamsFlow.{source_is_one}
use Rattle.irc_relay.specs.Lemmas.NextHops.{linked_joined}
use Rattle.irc_relay.specs.Lemmas.ReturnedLines.{delivery_outcome}
use Rattle.irc_relay.specs.Lemmas.DeliveryRuns.{delivery_away}
use Rattle.irc_relay.proofs.Queueing.{sent_is_behind}
use Rattle.irc_relay.proofs.RelayingNews.{on_other, on_back, on_linked}

-- what follows from the contract of a call that went well
pub on_ok : {T E : Type 0} (P Q : Type 0) (r : Result T E) → (P → Q) → OnOk r P → OnOk r Q
on_ok P Q (Ok x) f h = f h
on_ok P Q (Err e) f h = tt

pub latest_other : (latest : List ℕ) (to item : ℕ) (u : Name) → u ≢ name to
    → latest_of (slice_set latest to item) u ≡ latest_of latest u
latest_other latest to item [] n = refl
latest_other latest to item (k ∷ []) n = get_or-set_other latest to k item 0 (λ e. n (ap name e))
latest_other latest to item (k ∷ j ∷ rest) n = refl

pub shown_more : (shown : List Shown) (at item : ℕ) (u : Name)
    → items_at (shown ++ record { at = at; item = item } ∷ []) u ≡ items_at shown u
    ++ items_at (record { at = at; item = item } ∷ []) u
shown_more shown at item u =
    ap (map (λ (s : Shown). s.item)) (filter-append (λ (s : Shown). same (name s.at) u) shown
    (record { at = at; item = item } ∷ []))
    ∙ map-append (λ (s : Shown). s.item) (filter (λ (s : Shown). same (name s.at) u) shown)
    (filter (λ (s : Shown). same (name s.at) u) (record { at = at; item = item } ∷ []))

pub shown_there : (at item : ℕ)
    → items_at (record { at = at; item = item } ∷ []) (name at) ≡ item ∷ []
shown_there at item =
    ap (λ b. map (λ (s : Shown). s.item) (cond b (record { at = at; item = item } ∷ []) []))
    (same_when (name at) (name at) refl)

pub shown_elsewhere : (at item : ℕ) (u : Name) → u ≢ name at
    → items_at (record { at = at; item = item } ∷ []) u ≡ []
shown_elsewhere at item u n =
    ap (λ b. map (λ (s : Shown). s.item) (cond b (record { at = at; item = item } ∷ []) []))
    (same_unless (name at) u (λ e. n (sym e)))

-- an item that is new to the taker
pub new_item : (edges : List Edge) (latest : List ℕ) (shown : List Shown) (old mid : List NewsSent)
    (from to item : ℕ) → from ≢ to → to < length latest → item ≢ get_or latest to 0
    → TakesOldest from to item old mid → Delivers (relaying edges) (name from)
    (name to) item [] (net_with latest shown old) (net_with (slice_set latest to item)
    (shown ++ record { at = to; item = item } ∷ []) (mid ++ sent_on edges to from item))
new_item edges latest shown old mid from to item apart fits fresh takes =
    record {
      took = takes.oldest ∙ ap (λ v. item ∷ v) (sym (kept_queue (name from) (name to) givers));
      moved = get_or-set_same latest to item 0 fits;
      showed = shown_more shown to item (name to) ∙ ap (λ v. items_at shown (name to) ++ v)
          (shown_there to item ∙ sym (ap (λ b. cond b [] (item ∷ [])) test));
      sent = λ u n. append-nil (queue_of news_parts (mid ++ sent_on edges to from item) (name to) u)
          ∙ sent_there u n ∙ sym (ap (λ v. v ++ cond (item == get_or latest to 0) []
          (queue_of news_parts (sent_on edges to from item) (name to) u))
          (append-nil (queue_of news_parts old (name to) u)));
      returned = ap (λ v. v ++ []) (sent_is_behind news_parts mid (sent_on edges to from item)
          (name to) (name from) ∙ ap (λ v. queue_of news_parts mid (name to) (name from) ++ v)
          (on_back edges to from item) ∙ append-nil (queue_of news_parts mid (name to) (name from))
          ∙ takes.others (name to) (name from) (λ e _. givers (sym e)))
          ∙ sym (append-nil (queue_of news_parts old (name to) (name from) ++ []));
      other_queues = λ x y n o. kept_queue x y n ∙ takes.others x y o;
      other_debts = λ x y n. refl;
      other_states = λ u n. latest_other latest to item u n;
      other_shown = λ u n. shown_more shown to item u ∙ ap (λ v. items_at shown u ++ v)
          (shown_elsewhere to item u n) ∙ append-nil (items_at shown u);
    }
  where
    givers : name from ≢ name to
    givers e = apart (ap number e)

    test : (item == get_or latest to 0) ≡ false
    test = elim (eqb_tells item (get_or latest to 0)) [ inl p ↦ absurd (fresh p.1) | inr p ↦ p.0 ]

    kept_queue : (x y : Name) → x ≢ name to
        → queue_of news_parts (mid ++ sent_on edges to from item) x y ≡ queue_of news_parts mid x y
    kept_queue x y n = sent_is_behind news_parts mid (sent_on edges to from item) x y
        ∙ ap (λ v. queue_of news_parts mid x y ++ v) (on_other edges to from item x y n)
        ∙ append-nil (queue_of news_parts mid x y)

    sent_there : (u : Name) → u ≢ name from
        → queue_of news_parts (mid ++ sent_on edges to from item)
        (name to) u ≡ queue_of news_parts old (name to) u ++ cond (item == get_or latest to 0) []
        (queue_of news_parts (sent_on edges to from item) (name to) u)
    sent_there u n =
        sent_is_behind news_parts mid (sent_on edges to from item) (name to) u
        ∙ ap (λ v. v ++ queue_of news_parts (sent_on edges to from item) (name to) u)
        (takes.others (name to) u (λ e _. givers (sym e)))
        ∙ sym (ap (λ b. queue_of news_parts old (name to) u
        ++ cond b [] (queue_of news_parts (sent_on edges to from item) (name to) u)) test)

-- the same, of what the code leaves
pub new_item_at : (edges sent_edges : List Edge) (latest : List ℕ) (shown new_shown : List Shown)
    (old mid new : List NewsSent) (from to place item : ℕ) → from ≢ to → place ≡ to
    → place < length latest → item ≢ get_or latest place 0 → TakesOldest from to item old mid
    → new_shown ≡ shown ++ record { at = to; item = item } ∷ [] → sent_edges ≡ edges → new ≡ mid
    ++ sent_on sent_edges to from item → Delivers (relaying edges) (name from) (name to) item []
    (net_with latest shown old) (net_with (slice_set latest place item) new_shown new)
new_item_at edges sent_edges latest shown new_shown old mid new from to place item apart at fits
    fresh takes e f g =
    subst
    (λ p. Delivers (relaying edges) (name from) (name to) item [] (net_with latest shown old)
    (net_with (slice_set latest p item) new_shown new))
    (sym at)
    (subst
    (λ s. Delivers (relaying edges) (name from) (name to) item [] (net_with latest shown old)
    (net_with (slice_set latest to item) s new))
    (sym e)
    (subst
    (λ s. Delivers (relaying edges) (name from) (name to) item [] (net_with latest shown old)
    (net_with (slice_set latest to item) (shown ++ record { at = to; item = item } ∷ []) s))
    (sym (g ∙ ap (λ v. mid ++ sent_on v to from item) f))
    (new_item edges latest shown old mid from to item apart (subst (λ p. p < length latest) at fits)
    (λ h. fresh (h ∙ ap (λ p. get_or latest p 0) (sym at))) takes)))

-- an item that the taker showed last
pub known_item : (edges : List Edge) (latest : List ℕ) (shown : List Shown)
    (old mid : List NewsSent)
    (from to item : ℕ) → from ≢ to → item ≡ get_or latest to 0 → TakesOldest from to item old mid
    → Delivers (relaying edges) (name from) (name to) item [] (net_with latest shown old)
    (net_with latest shown mid)
known_item edges latest shown old mid from to item apart known takes =
    record {
      took = takes.oldest;
      moved = sym known;
      showed = sym (append-nil (items_at shown (name to)))
          ∙ sym (ap (λ b. items_at shown (name to) ++ cond b [] (item ∷ [])) test);
      sent = λ u n. same_way u ∙ sym (append-nil (queue_of news_parts old (name to) u ++ []))
          ∙ sym (ap (λ b. (queue_of news_parts old (name to) u ++ [])
          ++ cond b [] (queue_of news_parts (sent_on edges to from item) (name to) u)) test);
      returned = same_way (name from)
          ∙ sym (append-nil (queue_of news_parts old (name to) (name from) ++ []));
      other_queues = λ x y n o. takes.others x y o;
      other_debts = λ x y n. refl;
      other_states = λ u n. refl;
      other_shown = λ u n. refl;
    }
  where
    givers : name from ≢ name to
    givers e = apart (ap number e)

    test : (item == get_or latest to 0) ≡ true
    test = elim (eqb_tells item (get_or latest to 0)) [ inl p ↦ p.0 | inr p ↦ absurd (p.1 known) ]

    same_way : (u : Name) → queue_of news_parts mid (name to) u
        ++ [] ≡ queue_of news_parts old (name to) u ++ []
    same_way u = ap (λ v. v ++ []) (takes.others (name to) u (λ e _. givers (sym e)))

pub known_item_at : (edges : List Edge) (latest : List ℕ) (shown : List Shown)
    (old mid : List NewsSent)
    (from to place item : ℕ) → from ≢ to → place ≡ to → item ≡ get_or latest place 0
    → TakesOldest from to item old mid → Delivers (relaying edges) (name from) (name to) item []
    (net_with latest shown old) (net_with latest shown mid)
known_item_at edges latest shown old mid from to place item apart at known takes = known_item edges
    latest shown old mid from to item apart (known ∙ ap (λ p. get_or latest p 0) at) takes

-- the machine relays: to neighbours alone, and never back
pub relays : (edges : List Edge) (streams : Streams) (from to item : ℕ) (net : RelayState ℕ ℕ ℕ)
    → Relays (relaying edges) (links_of edges) streams (name from) (name to) item [] net
relays edges streams from to item net =
    record {
      no_echo = none (item == net.state (name to)) (queue_of news_parts (sent_on edges to from item)
          (name to) (name from)) (on_back edges to from item);
      to_linked =
          λ u next lines e. on_linked edges to from item u next lines (some (item == net.state
          (name to)) (queue_of news_parts (sent_on edges to from item) (name to) u) next lines e);
      back_to_end = λ next lines e. cc;
      back_harmless = tt;
    }
  where
    none : (b : Bool) (lines : List ℕ) → lines ≡ [] → cond b [] lines ≡ []
    none true lines e = refl
    none false lines e = e

    some : (b : Bool) (lines : List ℕ) (next : ℕ) (rest : List ℕ) → cond b [] lines ≡ next ∷ rest
        → lines ≡ next ∷ rest
    some true lines next rest e = cc
    some false lines next rest e = e

pub kept_by_delivery : (from to : ℕ) (old new : News) → DeliversNews from to old new
    → KeepsNews old new
kept_by_delivery from to old new d source forest away =
    let links : List Link = links_of old.edges.items in
    let streams : Streams = streams_from links (from_one links source) in
    let flow = covers_flows links (from_one links source) forest (one_covers links source) in (
      delivery_outcome (relaying old.edges.items) links streams (name from)
          (name to) d.0 [] (net_of old) (net_of new) flow away d.1
          (relays old.edges.items streams from to d.0 (net_of old)),
      delivery_away (relaying old.edges.items) links streams (name from)
          (name to) d.0 [] (net_of old) (net_of new) flow away d.1
          (relays old.edges.items streams from to d.0 (net_of old)),
    )

-- what is published at rest goes away from where it is published
pub published_goes_away : (edges : List Edge) (flying new : List NewsSent)
    (latest new_latest : List ℕ)
    (shown new_shown : List Shown) (at item : ℕ) → new ≡ flying ++ sent_on edges at at item
    → IsForest (links_of edges) → IsAtRest (net_with latest shown flying) → GoesAway (streams_from
    (links_of edges) (from_one (links_of edges) (name at))) (net_with new_latest new_shown new)
published_goes_away edges flying new latest new_latest shown new_shown at item e forest rest =
    from_source_goes_away (links_of edges) (from_one (links_of edges) (name at))
    (net_with new_latest new_shown new) forest
    (λ x y line lines h. go x y line lines (sent x y line lines h) (tell x (name at)))
  where
    sent : (x y : Name) (line : ℕ) (lines : List ℕ) → queue_of news_parts new x y
        ++ [] ≡ line ∷ lines → queue_of news_parts (sent_on edges at at item) x y ≡ line ∷ lines
    sent x y line lines h =
        sym (ap (λ v. v ++ queue_of news_parts (sent_on edges at at item) x y)
        (sym (append-nil (queue_of news_parts flying x y)) ∙ rest x y))
        ∙ sym (sent_is_behind news_parts flying (sent_on edges at at item) x y)
        ∙ ap (λ v. queue_of news_parts v x y) (sym e)
        ∙ sym (append-nil (queue_of news_parts new x y))
        ∙ h

    go : (x y : Name) (line : ℕ) (lines : List ℕ)
        → queue_of news_parts (sent_on edges at at item) x y ≡ line ∷ lines → Telling x (name at)
        → AreLinked (links_of edges) x y × (from_one (links_of edges) (name at) y ≡ x)
    go x y line lines h (unlike _ n) = let f = sym (on_other edges at at item x y n) ∙ h in cc
    go x y line lines h (alike _ f) =
        let linked : AreLinked (links_of edges) (name at) y = on_linked edges at at item y line
        lines (sym (ap (λ v. queue_of news_parts (sent_on edges at at item) v y) f) ∙ h) in (
          subst (λ v. AreLinked (links_of edges) v y) (sym f) linked,
          source_is_one (links_of edges) (name at) y
              (sym (linked_joined (links_of edges) (name at) y linked)) ∙ sym f,
        )
