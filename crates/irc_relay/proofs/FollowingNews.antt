-- The example follows: what one server of a part announces is shown by all.
use Rattle.std.proofs.Common.{◌≡◌, ◌≢◌, ℕ, ◌==◌, true, ◌&&◌, not, cond, map, List, [], ◌∷◌}
use Rattle.std.proofs.Common.{◌++◌, inl, inr, refl, sym, ap, subst, ◌∙◌, arith}
use Rattle.std.proofs.lemmas.Bool.{eq-eqb, ne_eqb}
use Rattle.irc_relay.specs.Links.{Name, same, Link, part, IsForest, HasEnds, AreLinked, distance}
use Rattle.irc_relay.specs.Relay.{Streams, streams_from, Covers, TakesFrom}
use Rattle.irc_relay.specs.Following.{sends, Follows}
use Rattle.irc_relay.specs.Queue.{queue_of}
use Rattle.irc_relay.specs.NewsNet.{name, number, link_of, links_of, news_parts, sent_over, sent_on}
use Rattle.irc_relay.specs.NewsNet.{relaying, news_play, news_terms}
use Rattle.irc_relay.specs.declared.news.Edge.{Edge}
use Rattle.irc_relay.specs.Lemmas.TellingNames.{same_when}
use Rattle.irc_relay.specs.Lemmas.NextHops.{distance_self, linked_joined, linked_other, next_hop}
use Rattle.irc_relay.proofs.Queueing.{sent_is_behind}
use Rattle.irc_relay.proofs.RelayingNews.{over_linked, on_linked}
use Rattle.irc_relay.specs.declared.news.NewsSent.{NewsSent}

-- ---- one link sends one item

-- the servers that links link have one-byte names
pub linked_names : (edges : List Edge) (t u : Name) → AreLinked (links_of edges) t u
    → (t ≡ name (number t)) × (u ≡ name (number u))
linked_names [] t u h = absurd h
linked_names (e ∷ edges) t u (inl (inl ends)) =
    (sym ends.0 ∙ ap (λ v. name (number v)) ends.0, sym ends.1 ∙ ap (λ v. name (number v)) ends.1)
linked_names (e ∷ edges) t u (inl (inr ends)) =
    (sym ends.1 ∙ ap (λ v. name (number v)) ends.1, sym ends.0 ∙ ap (λ v. name (number v)) ends.0)
linked_names (e ∷ edges) t u (inr h) = linked_names edges t u h

single_there : (s : NewsSent) (x y : Name) → name s.from ≡ x → name s.to ≡ y
    → queue_of news_parts (s ∷ []) x y ≡ s.item ∷ []
single_there s x y e f =
    ap (λ b. map (λ (v : NewsSent). v.item) (cond (b && same (name s.to) y) (s ∷ []) []))
    (same_when (name s.from) x e)
    ∙ ap (λ b. map (λ (v : NewsSent). v.item) (cond b (s ∷ []) [])) (same_when (name s.to) y f)

-- over a link that it is an end of a server sends an item to the other end, where that is not where
-- the item came from
over_ends : (at from to item : ℕ) (e : Edge) → at ≢ to → to ≢ from → HasEnds (link_of e) (name at)
    (name to) → queue_of news_parts (sent_over at from item e) (name at) (name to) ≡ item ∷ []
over_ends at from to item e apart new (inl ends) =
    ap (λ sent. queue_of news_parts sent (name at) (name to)) chosen
    ∙ single_there to_far (name at) (name to) refl ends.1
  where
    to_far : NewsSent
    to_far = record { from = at; to = e.far; item = item }

    to_near : NewsSent
    to_near = record { from = at; to = e.near; item = item }

    chosen : sent_over at from item e ≡ to_far ∷ []
    chosen =
        ap (λ b. cond (b && not (e.far == from)) (to_far ∷ [])
        (cond ((e.far == at) && not (e.near == from)) (to_near ∷ []) []))
        (subst (λ v. (v == at) ≡ true) (sym (ap number ends.0)) (eq-eqb at at refl))
        ∙ ap (λ b. cond (not b) (to_far ∷ [])
        (cond ((e.far == at) && not (e.near == from)) (to_near ∷ []) []))
        (ne_eqb e.far from (λ h. new (sym (ap number ends.1) ∙ h)))
over_ends at from to item e apart new (inr ends) =
    ap (λ sent. queue_of news_parts sent (name at) (name to)) chosen
    ∙ single_there to_near (name at) (name to) refl ends.0
  where
    to_far : NewsSent
    to_far = record { from = at; to = e.far; item = item }

    to_near : NewsSent
    to_near = record { from = at; to = e.near; item = item }

    chosen : sent_over at from item e ≡ to_near ∷ []
    chosen =
        ap (λ b. cond (b && not (e.far == from)) (to_far ∷ [])
        (cond ((e.far == at) && not (e.near == from)) (to_near ∷ []) []))
        (ne_eqb e.near at (λ h. apart (sym h ∙ ap number ends.0)))
        ∙ ap (λ b. cond (b && not (e.near == from)) (to_near ∷ []) [])
        (subst (λ v. (v == at) ≡ true) (sym (ap number ends.1)) (eq-eqb at at refl))
        ∙ ap (λ b. cond (not b) (to_near ∷ []) [])
        (ne_eqb e.near from (λ h. new (sym (ap number ends.0) ∙ h)))

-- where nothing can begin a list, it is empty
no_first : (lines : List ℕ) → ((l : ℕ) (ls : List ℕ) → lines ≡ l ∷ ls → ⊥) → lines ≡ []
no_first [] never = refl
no_first (l ∷ ls) never = absurd (never l ls refl)

linked_by : (l : Link) (links : List Link) (s t : Name) → IsForest (l ∷ links) → HasEnds l s t
    → AreLinked links s t → ⊥
linked_by l links s t forest (inl ends) h =
    forest.0 (ap (part links) ends.0 ∙ linked_joined links s t h ∙ sym (ap (part links) ends.1))
linked_by l links s t forest (inr ends) h = forest.0 (ap (part links) ends.0
    ∙ sym (linked_joined links s t h) ∙ sym (ap (part links) ends.1))

-- in a forest a server sends a neighbour an item once, unless it came from there
pub on_linked_once : (edges : List Edge) (at from to item : ℕ) → IsForest (links_of edges)
    → at ≢ to → to ≢ from → AreLinked (links_of edges) (name at) (name to)
    → queue_of news_parts (sent_on edges at from item) (name at) (name to) ≡ item ∷ []
on_linked_once [] at from to item forest apart new h = absurd h
on_linked_once (e ∷ edges) at from to item forest apart new (inl ends) =
    sent_is_behind news_parts (sent_over at from item e) (sent_on edges at from item) (name at)
    (name to)
    ∙ ap (λ v. v ++ queue_of news_parts (sent_on edges at from item) (name at) (name to))
    (over_ends at from to item e apart new ends)
    ∙ ap (λ v. item ∷ v)
    (no_first (queue_of news_parts (sent_on edges at from item) (name at) (name to))
    (λ l ls f. linked_by (link_of e) (links_of edges) (name at) (name to) forest ends
    (on_linked edges at from item (name to) l ls f)))
on_linked_once (e ∷ edges) at from to item forest apart new (inr h) =
    sent_is_behind news_parts (sent_over at from item e) (sent_on edges at from item) (name at)
    (name to)
    ∙ ap (λ v. v ++ queue_of news_parts (sent_on edges at from item) (name at) (name to))
    (no_first (queue_of news_parts (sent_over at from item e) (name at) (name to))
    (λ l ls f. linked_by (link_of e) (links_of edges) (name at) (name to) forest
    (over_linked at from item e (name to) l ls f) h))
    ∙ on_linked_once edges at from to item forest.1 apart new h

-- ---- the example follows

module _ (edges : List Edge) (source : Name → Name) (forest : IsForest (links_of edges))
    (covers : Covers (links_of edges) source) where
  abbrev from : Streams
  from = streams_from (links_of edges) source

  takes_linked : (t p : Name) → TakesFrom from t p → AreLinked (links_of edges) t p
  takes_linked t p takes = subst (λ v. AreLinked (links_of edges) t v) takes.parent
      (next_hop (links_of edges) t (source t) forest (covers.joined t) away).linked
    where
      away : t ≢ source t
      away e = let z = ap (λ v. distance (links_of edges) v (source t)) e
          ∙ distance_self (links_of edges) (source t) in
          let b = takes.below in
          omega arith

  -- a line goes on to each other neighbour
  sent_once : (p t u : Name) (item : ℕ) → AreLinked (links_of edges) t u → TakesFrom from t p
      → u ≢ p → queue_of news_parts (sent_on edges (number t) (number p) item) t u ≡ item ∷ []
  sent_once p t u item linked takes other =
      subst (λ v. queue_of news_parts (sent_on edges (number t) (number p) item) t v ≡ item ∷ [])
      (sym names.1)
      (subst (λ v. queue_of news_parts (sent_on edges (number t) (number p) item) v
      (name (number u))
      ≡ item ∷ []) (sym names.0)
      (on_linked_once edges (number t) (number p) (number u) item forest apart fresh
      (subst (λ v. AreLinked (links_of edges) (name (number t)) v) names.1
      (subst (λ v. AreLinked (links_of edges) v u) names.0 linked))))
    where
      names : (t ≡ name (number t)) × (u ≡ name (number u))
      names = linked_names edges t u linked

      giver : p ≡ name (number p)
      giver = (linked_names edges t p (takes_linked t p takes)).1

      apart : number t ≢ number u
      apart e = linked_other (links_of edges) t u forest linked (names.0 ∙ ap name e ∙ sym names.1)

      fresh : number u ≢ number p
      fresh e = other (names.1 ∙ ap name e ∙ sym giver)

  pub news_follow : Follows (relaying edges) news_play news_terms (links_of edges) from
  news_follow = record {
    said_fits = λ p t w s act line takes fits said. said.0;
    said_shows = λ p t w s act line takes fits said. ap (λ v. cond (line == v) [] (line ∷ [])) fits
        ∙ ap (λ v. cond (v == w) [] (v ∷ [])) said.0;
    said_good = λ p t w s act line takes fits said. tt;
    said_on = λ p t u w s su act line linked takes next other fits fits_u meet said.
        sends line (ap (λ v. cond (line == v) []
        (queue_of news_parts (sent_on edges (number t) (number p) line) t u)) fits
        ∙ ap (λ v. cond (v == w) []
        (queue_of news_parts (sent_on edges (number t) (number p) line) t u)) said.0
        ∙ ap (λ b. cond b [] (queue_of news_parts (sent_on edges (number t) (number p) line) t u))
        said.1
        ∙ sent_once p t u line linked takes other) said tt;
    aside_fits = λ p t w s line takes fits aside. aside;
    aside_shows = λ p t w s line takes fits aside. ap (λ b. cond b [] (line ∷ []))
        (eq-eqb line s (aside ∙ sym fits));
    aside_good = λ p t w s line takes fits aside. tt;
    aside_sends = λ p t u w s line takes next other fits aside.
        ap (λ b. cond b [] (queue_of news_parts (sent_on edges (number t) (number p) line) t u))
        (eq-eqb line s (aside ∙ sym fits));
    aside_meets = λ p t u w s su line takes next other fits fits_u meet aside. tt;
    passed_fits = λ t w s act fits passes. fits ∙ sym passes;
    passed_shows = λ t w act passes. ap (λ b. cond b [] (act ∷ [])) (eq-eqb act w passes);
    passed_on = λ t u w act next passes. passes;
  }
