-- What one server announces, every server of its part shows.
use Rattle.std.proofs.Common.{◌≡◌, ◌≢◌, ℕ, zero, suc, ◌<◌, ◌==◌, true, false, cond, List, [], ◌∷◌}
use Rattle.std.proofs.Common.{◌++◌, ◌⊎◌, inl, inr, length, slice_set, refl, sym, ap, subst, ◌∙◌}
use Rattle.std.proofs.Common.{arith, get_or-set_same}
use Rattle.std.proofs.lemmas.Bool.Decides.{eqb_tells}
use Rattle.std.proofs.lemmas.List.{append-nil}
use Rattle.irc_relay.specs.Links.{Name, Link, part, AreJoined, IsForest, AreLinked, IsNextHop}
use Rattle.irc_relay.specs.Links.{distance}
use Rattle.irc_relay.specs.Relay.{RelayState, Streams, streams_from, from_one, IsAtRest}
use Rattle.irc_relay.specs.Relay.{ComesInTurn}
use Rattle.irc_relay.specs.Relay.{at_source, from_source, from_parent, after, shown_upon, under_way}
use Rattle.irc_relay.specs.Relay.{final, final_shown}
use Rattle.irc_relay.specs.Following.{Tells, nothing, by_line, aside_line, passing_by, Starts}
use Rattle.irc_relay.specs.Following.{IsFollowing}
use Rattle.irc_relay.specs.Queue.{queue_of}
use Rattle.irc_relay.specs.NewsNet.{name, number, links_of, news_parts, items_at, latest_of}
use Rattle.irc_relay.specs.NewsNet.{sent_on}
use Rattle.irc_relay.specs.NewsNet.{relaying, net_with, net_of, news_play, news_terms, streams_of}
use Rattle.irc_relay.specs.NewsNet.{HasSettled, ShowAlike, HasAnnounced}
use Rattle.irc_relay.specs.declared.news.Edge.{Edge}
use Rattle.irc_relay.specs.declared.news.NewsSent.{NewsSent}
use Rattle.irc_relay.specs.declared.news.Shown.{Shown}
use Rattle.irc_relay.specs.declared.news.News.{News}
use Rattle.irc_relay.specs.Lemmas.TellingNames.{Telling, alike, unlike, tell, same_unless}
use Rattle.irc_relay.specs.Lemmas.NextHops.{distance_self, linked_back, next_hop, distance_zero}
use Rattle.irc_relay.specs.Lemmas.StreamsFlow.{one_covers, source_is_one, covers_flows}
use Rattle.irc_relay.specs.Lemmas.Deliveries.{comes_in_turn}
use Rattle.irc_relay.proofs.Queueing.{sent_is_behind}
use Rattle.irc_relay.proofs.RelayingNews.{on_other}
use Rattle.irc_relay.proofs.DeliveringNews.{latest_other, shown_more, shown_there, shown_elsewhere}
use Rattle.irc_relay.specs.Lemmas.ActsToldOn.{followed}
use Rattle.irc_relay.proofs.FollowingNews.{linked_names, on_linked_once, news_follow}

-- the net with the item shown at its server, and on its way to all neighbours
abbrev given_net : List Edge → List ℕ → List Shown → List NewsSent → ℕ → ℕ → RelayState ℕ ℕ ℕ
given_net edges latest shown flying source item =
    net_with (slice_set latest source item) (shown ++ record { at = source; item = item } ∷ [])
    (flying ++ sent_on edges source source item)

module _ (edges : List Edge) (latest : List ℕ) (shown : List Shown) (flying : List NewsSent)
    (source item : ℕ) (forest : IsForest (links_of edges))
    (rest : IsAtRest (net_with latest shown flying))
    (same_last : (u : Name) → AreJoined (links_of edges) u (name source)
    → latest_of latest u ≡ latest_of latest (name source)) where
  abbrev links : List Link
  links = links_of edges

  abbrev from_it : Name → Name
  from_it = from_one links (name source)

  abbrev from : Streams
  from = streams_from links from_it

  -- the last item of the part, before
  abbrev last : ℕ
  last = latest_of latest (name source)

  abbrev given : RelayState ℕ ℕ ℕ
  given = given_net edges latest shown flying source item

  sent_alone : (x y : Name)
      → under_way given x y ≡ queue_of news_parts (sent_on edges source source item) x y
  sent_alone x y =
      append-nil (queue_of news_parts (flying ++ sent_on edges source source item) x y)
      ∙ sent_is_behind news_parts flying (sent_on edges source source item) x y
      ∙ ap (λ v. v ++ queue_of news_parts (sent_on edges source source item) x y)
      (sym (append-nil (queue_of news_parts flying x y)) ∙ rest x y)

  -- a server that takes lines is joined to the source, and another
  taker : (t : Name) → 0 < from.depth t → AreJoined links t (name source) × (t ≢ name source)
  taker t below = go (tell (part links t) (part links (name source)))
    where
      go : Telling (part links t) (part links (name source))
          → AreJoined links t (name source) × (t ≢ name source)
      go (alike _ e) = (
        e,
        λ f. let z = ap (λ v. distance links v (from_it t))
            (f ∙ sym (source_is_one links (name source) t e)) ∙ distance_self links (from_it t) in
            omega arith,
      )
      go (unlike s n) = absurd (let own : from_it t ≡ t = ap (λ b. cond b (name source) t) s in
          let z = ap (λ v. distance links t v) own ∙ distance_self links t in
          omega arith)

  -- and whoever is that takes lines
  takes : (t : Name) → AreJoined links t (name source) → t ≢ name source → 0 < from.depth t
  takes t e n = go (from.depth t) refl
    where
      go : (k : ℕ) → from.depth t ≡ k → 0 < from.depth t
      go zero z = absurd (n (distance_zero links t (from_it t) forest
          (e ∙ ap (part links) (sym (source_is_one links (name source) t e))) z
          ∙ source_is_one links (name source) t e))
      go (suc k) z = omega arith

  fits : (t : Name) → 0 < from.depth t → given.state t ≡ last
  fits t below = latest_other latest source item t (taker t below).1 ∙ same_last t (taker t below).0

  -- next to the source
  tells_one : (t : Name) → from.depth t ≡ 1 → Tells (relaying edges) news_play news_terms
      (from.parent t) t last (given.state t) (item ∷ []) (item ∷ [])
  tells_one t d = go (eqb_tells item last)
    where
      go : (((item == last) ≡ true) × (item ≡ last)) ⊎ (((item == last) ≡ false) × (item ≢ last))
          → Tells (relaying edges) news_play news_terms (from.parent t) t last (given.state t)
          (item ∷ []) (item ∷ [])
      go (inl (e, f)) = aside_line f (passing_by f nothing)
      go (inr (e, n)) = by_line (refl, e) nothing

  hop : (t : Name) → 0 < from.depth t → IsNextHop links t (from_it t) (from.parent t)
  hop t below = next_hop links t (from_it t) forest ((one_covers links (name source)).joined t)
      (λ e. (taker t below).1 (e ∙ source_is_one links (name source) t (taker t below).0))

  from_the_source : (t : Name) → from.depth t ≡ 1 → from.parent t ≡ name source
  from_the_source t d =
      let near = hop t (omega arith) in
      let far = near.nearer in
      distance_zero links (from.parent t) (from_it t) forest near.joined (omega arith)
      ∙ source_is_one links (name source) t (taker t (omega arith)).0

  first_way : (t : Name) → from.depth t ≡ 1 → under_way given (from.parent t) t ≡ item ∷ []
  first_way t d =
      sent_alone (from.parent t) t
      ∙ ap (λ v. queue_of news_parts (sent_on edges source source item) v t) (from_the_source t d)
      ∙ ap (λ v. queue_of news_parts (sent_on edges source source item) (name source) v) names.1
      ∙ on_linked_once edges source source (number t) item forest
      (λ e. other (names.1 ∙ sym (ap name e))) (λ e. other (names.1 ∙ ap name e))
      (subst (λ v. AreLinked links (name source) v) names.1 linked)
    where
      other : t ≢ name source
      other = (taker t (omega arith)).1

      linked : AreLinked links (name source) t
      linked = linked_back links t (name source)
          (subst (λ v. AreLinked links t v) (from_the_source t d) (hop t (omega arith)).linked)

      names : (name source ≡ name (number (name source))) × (t ≡ name (number t))
      names = linked_names edges (name source) t linked

  no_depth : from.depth (name source) ≡ 0
  no_depth = ap (λ v. distance links (name source) v)
      (source_is_one links (name source) (name source) refl) ∙ distance_self links (name source)

  starts : Starts (relaying edges) news_play news_terms from given (λ _. last) (λ _. item ∷ [])
  starts = record {
    first = λ t d. subst (λ lines. Tells (relaying edges) news_play news_terms
        (from.parent t) t last (given.state t) (item ∷ []) lines)
        (sym (first_way t d)) (tells_one t d);
    still = λ t below d. sent_alone (from.parent t) t
        ∙ on_other edges source source item (from.parent t) t
        (λ e. let z = ap from.depth e ∙ no_depth in let p : ⊥ = omega arith in p);
    one_world = λ t below d. refl;
    one_list = λ t below d. refl;
    meets = λ t below d. tt;
    fits = fits;
  }

  following : (t : Name) → 0 < from.depth t
      → IsFollowing (relaying edges) news_play news_terms from given last (item ∷ []) t
  following = followed ℕ ℕ ℕ ℕ ℕ (relaying edges) news_play news_terms links from_it forest
      (one_covers links (name source))
      (news_follow edges from_it forest (one_covers links (name source))) given (λ _. last)
      (λ _. item ∷ []) starts

  -- a server that takes nothing stays as it is
  stays : (u : Name) → from.depth u ≡ 0 → (final (relaying edges) from given u ≡ given.state u)
      × (final_shown (relaying edges) from given u ≡ given.shown u)
  stays u z = go (comes_in_turn (relaying edges) links from given u
      (covers_flows links from_it forest (one_covers links (name source))))
    where
      go : ComesInTurn (relaying edges) from given u → (final (relaying edges) from given u
          ≡ given.state u) × (final_shown (relaying edges) from given u ≡ given.shown u)
      go (at_source _ e) = (
        ap (λ lines. after (relaying edges) u (from.parent u) (given.state u) lines) e,
        ap (λ lines. given.shown u ++ shown_upon (relaying edges) u (from.parent u)
            (given.state u) lines) e ∙ append-nil (given.shown u),
      )
      go (from_source d e) = absurd (let p : ⊥ = omega arith in p)
      go (from_parent below d e) = absurd (let p : ⊥ = omega arith in p)

  no_depth_apart : (u : Name) → (AreJoined links u (name source) → ⊥) → from.depth u ≡ 0
  no_depth_apart u n =
      ap (λ v. distance links u v) (ap (λ b. cond b (name source) u)
      (same_unless (part links u) (part links (name source)) n)) ∙ distance_self links u

  at_end_there : source < length latest → (u : Name) → AreJoined links u (name source)
      → final (relaying edges) from given u ≡ item
  at_end_there there u e = elim (tell u (name source)) [
    | alike _ f ↦ subst (λ v. final (relaying edges) from given v ≡ item) (sym f)
        ((stays (name source) no_depth).0 ∙ get_or-set_same latest source item 0 there)
    | unlike _ n ↦ (following u (takes u e n)).fits
  ]

  shown_at_source : final_shown (relaying edges) from given (name source)
      ≡ items_at shown (name source) ++ item ∷ []
  shown_at_source =
      (stays (name source) no_depth).1 ∙ shown_more shown source item (name source)
      ∙ ap (λ v. items_at shown (name source) ++ v) (shown_there source item)

  not_shown : (u : Name) → u ≢ name source → given.shown u ≡ items_at shown u
  not_shown u n =
      shown_more shown source item u ∙ ap (λ v. items_at shown u ++ v)
      (shown_elsewhere source item u n) ∙ append-nil (items_at shown u)

  shown_at_others : (u : Name) → AreJoined links u (name source) → u ≢ name source → final_shown
      (relaying edges) from given u ≡ items_at shown u ++ cond (item == last) [] (item ∷ [])
  shown_at_others u e n =
      (following u (takes u e n)).shown
      ∙ ap (λ v. v ++ (cond (item == last) [] (item ∷ []) ++ [])) (not_shown u n)
      ∙ ap (λ v. items_at shown u ++ v) (append-nil (cond (item == last) [] (item ∷ [])))

  apart_from_it : (u : Name) → (AreJoined links u (name source) → ⊥) → u ≢ name source
  apart_from_it u n e = n (ap (part links) e)

  elsewhere : (u : Name) → (AreJoined links u (name source) → ⊥)
      → (final (relaying edges) from given u ≡ latest_of latest u)
      × (final_shown (relaying edges) from given u ≡ items_at shown u)
  elsewhere u n = (
    (stays u (no_depth_apart u n)).0 ∙ latest_other latest source item u (apart_from_it u n),
    (stays u (no_depth_apart u n)).1 ∙ not_shown u (apart_from_it u n),
  )

-- what is published at rest and settled is announced
pub announced : (old mid new : News) (source item : ℕ)
    → mid.edges.items ≡ old.edges.items → mid.latest ≡ slice_set old.latest source item
    → mid.shown.items ≡ old.shown.items ++ record { at = source; item = item } ∷ []
    → mid.flying.items ≡ old.flying.items ++ sent_on old.edges.items source source item
    → source < length old.latest → IsForest (links_of old.edges.items) → IsAtRest (net_of old)
    → ShowAlike source old → HasSettled source mid new → HasAnnounced source item old new
announced old mid new source item e f g h there forest rest same_last settled =
    record {
      rest = settled.rest;
      latest = λ u j. settled.state u ∙ final_same u ∙ at_end_there old.edges.items old.latest
          old.shown.items old.flying.items source item forest rest same_last there u j;
      shown_there =
          settled.shown (name source) ∙ told_same (name source) ∙ shown_at_source old.edges.items
          old.latest old.shown.items old.flying.items source item forest rest same_last;
      shown = λ u j n. settled.shown u ∙ told_same u ∙ shown_at_others old.edges.items old.latest
          old.shown.items old.flying.items source item forest rest same_last u j n;
      other_latest = λ u n. settled.state u ∙ final_same u ∙ (elsewhere old.edges.items old.latest
          old.shown.items old.flying.items source item forest rest same_last u n).0;
      other_shown = λ u n. settled.shown u ∙ told_same u ∙ (elsewhere old.edges.items old.latest
          old.shown.items old.flying.items source item forest rest same_last u n).1;
    }
  where
    same_net : net_of mid
        ≡ given_net old.edges.items old.latest old.shown.items old.flying.items source item
    same_net =
        ap (λ l. net_with l mid.shown.items mid.flying.items) f
        ∙ ap (λ s. net_with (slice_set old.latest source item) s mid.flying.items) g
        ∙ ap (λ s. net_with (slice_set old.latest source item)
        (old.shown.items ++ record { at = source; item = item } ∷ []) s) h

    final_same : (u : Name)
        → final (relaying mid.edges.items) (streams_of mid source) (net_of mid) u
        ≡ final (relaying old.edges.items) (streams_from (links_of old.edges.items)
        (from_one (links_of old.edges.items) (name source)))
        (given_net old.edges.items old.latest old.shown.items old.flying.items source item) u
    final_same u =
        ap (λ es. final (relaying es)
        (streams_from (links_of es) (from_one (links_of es) (name source))) (net_of mid) u) e
        ∙ ap (λ net. final (relaying old.edges.items) (streams_from (links_of old.edges.items)
        (from_one (links_of old.edges.items) (name source))) net u) same_net

    told_same : (u : Name)
        → final_shown (relaying mid.edges.items) (streams_of mid source) (net_of mid) u
        ≡ final_shown (relaying old.edges.items) (streams_from (links_of old.edges.items)
        (from_one (links_of old.edges.items) (name source)))
        (given_net old.edges.items old.latest old.shown.items old.flying.items source item) u
    told_same u =
        ap (λ es. final_shown (relaying es)
        (streams_from (links_of es) (from_one (links_of es) (name source))) (net_of mid) u) e
        ∙ ap (λ net. final_shown (relaying old.edges.items) (streams_from (links_of old.edges.items)
        (from_one (links_of old.edges.items) (name source))) net u) same_net
