-- The example's deliveries.
use Rattle.std.proofs.Common.{◌≡◌, ◌≢◌, ℕ, ◌==◌, Bool, true, false, ◌&&◌, cond, not, List, [], ◌∷◌}
use Rattle.std.proofs.Common.{◌++◌, map, position, remove, Some, None, ◌⊎◌, inl, inr, refl, sym, ap}
use Rattle.std.proofs.Common.{subst, ◌∙◌}
use Rattle.std.specs.List.{slice_index_or}
use Rattle.std.proofs.lemmas.Bool.Decides.{eqb_tells}
use Rattle.irc_relay.specs.Links.{Name, same, HasEnds, AreLinked}
use Rattle.irc_relay.specs.Queue.{goes, queue_of}
use Rattle.irc_relay.specs.NewsNet.{name, number, link_of, links_of, news_parts, sent_over, sent_on}
use Rattle.irc_relay.specs.Loops.Taking.{is_between, TakesOldest}
use Rattle.irc_relay.specs.declared.news.NewsSent.{NewsSent}
use Rattle.irc_relay.specs.declared.news.Edge.{Edge}
use Rattle.irc_relay.specs.Lemmas.TellingNames.{alike, unlike, tell, same_when, same_unless}
use Rattle.irc_relay.proofs.Queueing.{first_is_oldest, none_is_empty, sent_is_behind, goes_tells}
use Rattle.irc_relay.specs.Lemmas.DeliveryRuns.{Begins, in_front, behind, begins}

name_one : (a b : ℕ) → name a ≡ name b → a ≡ b
name_one a b e = ap number e

-- names of one byte are the same where the bytes are
pub same_name : (a b : ℕ) → (a == b) ≡ same (name a) (name b)
same_name a b = elim (eqb_tells a b) [
  | inl (t, e) ↦ t ∙ sym (same_when (name a) (name b) (ap name e))
  | inr (f, n) ↦ f ∙ sym (same_unless (name a) (name b) (λ e. n (name_one a b e)))
]

pub goes_between : (from to : ℕ) (s : NewsSent)
    → is_between from to s ≡ goes news_parts (name from) (name to) s
goes_between from to s = ap (λ v. v && (s.to == to)) (same_name s.from from)
    ∙ ap (λ v. same (name s.from) (name from) && v) (same_name s.to to)

tests_same : (from to : ℕ) → is_between from to ≡ goes news_parts (name from) (name to)
tests_same from to = λ i s. goes_between from to s i

pub oldest_taken : (sent : List NewsSent) (from to i : ℕ) (s : NewsSent)
    → position (is_between from to) sent ≡ Some i → s ≡ slice_index_or sent i s
    → TakesOldest from to s.item sent (remove sent i)
oldest_taken sent from to i s e f =
    let found = first_is_oldest news_parts sent (name from) (name to) i s
    (ap (λ p. position p sent) (sym (tests_same from to)) ∙ e) f in
    record { oldest = found.oldest; others = found.others }

pub none_between : (sent : List NewsSent) (from to : ℕ) → position (is_between from to) sent ≡ None
    → queue_of news_parts sent (name from) (name to) ≡ []
none_between sent from to e = none_is_empty news_parts sent (name from) (name to)
    (ap (λ p. position p sent) (sym (tests_same from to)) ∙ e)

-- what is sent over one edge: nothing, or the item to the other end, where it does not come from
-- there
data Over (at from item : ℕ) (e : Edge) : Type 0 where
  none : sent_over at from item e ≡ [] → Over at from item e
  one : (to : ℕ) → HasEnds (link_of e) (name at) (name to) → to ≢ from → sent_over at from item e
      ≡ record { from = at; to = to; item = item } ∷ [] → Over at from item e

over : (at from item : ℕ) (e : Edge) → Over at from item e
over at from item e =
    go (eqb_tells e.near at) (eqb_tells e.far from) (eqb_tells e.far at) (eqb_tells e.near from)
  where
    to_far : NewsSent
    to_far = record { from = at; to = e.far; item = item }

    to_near : NewsSent
    to_near = record { from = at; to = e.near; item = item }

    test : (a b c d : Bool) → (e.near == at) ≡ a → (e.far == from) ≡ b → (e.far == at) ≡ c
        → (e.near == from) ≡ d → sent_over at from item e ≡ cond (a && not b) (to_far ∷ [])
        (cond (c && not d) (to_near ∷ []) [])
    test a b c d f g h i = cc

    far_ends : e.near ≡ at → HasEnds (link_of e) (name at) (name e.far)
    far_ends f = inl (ap name f, refl)

    near_ends : e.far ≡ at → HasEnds (link_of e) (name at) (name e.near)
    near_ends f = inr (refl, ap name f)

    go : (((e.near == at) ≡ true) × (e.near ≡ at)) ⊎ (((e.near == at) ≡ false) × (e.near ≢ at))
        → (((e.far == from) ≡ true) × (e.far ≡ from)) ⊎ (((e.far == from) ≡ false) × (e.far ≢ from))
        → (((e.far == at) ≡ true) × (e.far ≡ at)) ⊎ (((e.far == at) ≡ false) × (e.far ≢ at))
        → (((e.near == from) ≡ true) × (e.near ≡ from))
        ⊎ (((e.near == from) ≡ false) × (e.near ≢ from)) → Over at from item e
    go (inl (a, f)) (inr (b, g)) (inl (c, h)) (inl (d, i)) =
        one e.far (far_ends f) g (test true false true true a b c d)
    go (inl (a, f)) (inr (b, g)) (inl (c, h)) (inr (d, i)) =
        one e.far (far_ends f) g (test true false true false a b c d)
    go (inl (a, f)) (inr (b, g)) (inr (c, h)) (inl (d, i)) =
        one e.far (far_ends f) g (test true false false true a b c d)
    go (inl (a, f)) (inr (b, g)) (inr (c, h)) (inr (d, i)) =
        one e.far (far_ends f) g (test true false false false a b c d)
    go (inl (a, f)) (inl (b, g)) (inl (c, h)) (inr (d, i)) =
        one e.near (near_ends h) i (test true true true false a b c d)
    go (inr (a, f)) (inl (b, g)) (inl (c, h)) (inr (d, i)) =
        one e.near (near_ends h) i (test false true true false a b c d)
    go (inr (a, f)) (inr (b, g)) (inl (c, h)) (inr (d, i)) =
        one e.near (near_ends h) i (test false false true false a b c d)
    go (inl (a, f)) (inl (b, g)) (inl (c, h)) (inl (d, i)) = none (test true true true true a b c d)
    go (inl (a, f)) (inl (b, g)) (inr (c, h)) (inl (d, i)) =
        none (test true true false true a b c d)
    go (inl (a, f)) (inl (b, g)) (inr (c, h)) (inr (d, i)) =
        none (test true true false false a b c d)
    go (inr (a, f)) (inl (b, g)) (inl (c, h)) (inl (d, i)) =
        none (test false true true true a b c d)
    go (inr (a, f)) (inl (b, g)) (inr (c, h)) (inl (d, i)) =
        none (test false true false true a b c d)
    go (inr (a, f)) (inl (b, g)) (inr (c, h)) (inr (d, i)) =
        none (test false true false false a b c d)
    go (inr (a, f)) (inr (b, g)) (inl (c, h)) (inl (d, i)) =
        none (test false false true true a b c d)
    go (inr (a, f)) (inr (b, g)) (inr (c, h)) (inl (d, i)) =
        none (test false false false true a b c d)
    go (inr (a, f)) (inr (b, g)) (inr (c, h)) (inr (d, i)) =
        none (test false false false false a b c d)

-- one item in a queue: it is there just where it goes that way
single_no : (s : NewsSent) (x y : Name) → ((name s.from ≡ x) → (name s.to ≡ y) → ⊥)
    → queue_of news_parts (s ∷ []) x y ≡ []
single_no s x y o = go (goes news_parts x y s) refl
  where
    go : (b : Bool) → goes news_parts x y s ≡ b → queue_of news_parts (s ∷ []) x y ≡ []
    go true e = let tells = goes_tells news_parts x y s e in absurd (o tells.0 tells.1)
    go false e = ap (λ b. map (λ (v : NewsSent). v.item) (cond b (s ∷ []) [])) e

single_yes : (s : NewsSent) (x y : Name) (l : ℕ) (ls : List ℕ)
    → queue_of news_parts (s ∷ []) x y ≡ l ∷ ls → name s.to ≡ y
single_yes s x y l ls h = elim (tell (name s.to) y) [
  | alike _ e ↦ e
  | unlike _ n ↦ (let e = sym (single_no s x y (λ _ g. n g)) ∙ h in cc)
]

-- of what a server sends nothing goes from another server
over_other : (at from item : ℕ) (e : Edge) (x y : Name) → x ≢ name at
    → queue_of news_parts (sent_over at from item e) x y ≡ []
over_other at from item e x y n = elim (over at from item e) [
  | none f ↦ ap (λ sent. queue_of news_parts sent x y) f
  | one to h o f ↦ ap (λ sent. queue_of news_parts sent x y) f
      ∙ single_no (record { from = at; to = to; item = item }) x y (λ g _. n (sym g))
]

-- nothing goes back to where the item came from
over_back : (at from item : ℕ) (e : Edge)
    → queue_of news_parts (sent_over at from item e) (name at) (name from) ≡ []
over_back at from item e = elim (over at from item e) [
  | none f ↦ ap (λ sent. queue_of news_parts sent (name at) (name from)) f
  | one to h o f ↦ ap (λ sent. queue_of news_parts sent (name at) (name from)) f
      ∙ single_no (record { from = at; to = to; item = item }) (name at) (name from)
      (λ _ g. o (name_one to from g))
]

-- what goes to another server goes over a link
pub over_linked : (at from item : ℕ) (e : Edge) (u : Name) (l : ℕ) (ls : List ℕ)
    → queue_of news_parts
    (sent_over at from item e) (name at) u ≡ l ∷ ls → HasEnds (link_of e) (name at) u
over_linked at from item e u l ls h = elim (over at from item e) [
  | none f ↦ (let g = sym (ap (λ sent. queue_of news_parts sent (name at) u) f) ∙ h in cc)
  | one to k o f ↦ subst (λ v. HasEnds (link_of e) (name at) v)
      (single_yes (record { from = at; to = to; item = item }) (name at) u l ls
      (sym (ap (λ sent. queue_of news_parts sent (name at) u) f) ∙ h)) k
]

pub on_other : (edges : List Edge) (at from item : ℕ) (x y : Name) → x ≢ name at
    → queue_of news_parts (sent_on edges at from item) x y ≡ []
on_other [] at from item x y n = refl
on_other (e ∷ edges) at from item x y n =
    sent_is_behind news_parts (sent_over at from item e) (sent_on edges at from item) x y
    ∙ ap (λ v. v ++ queue_of news_parts (sent_on edges at from item) x y)
    (over_other at from item e x y n)
    ∙ on_other edges at from item x y n

pub on_back : (edges : List Edge) (at from item : ℕ)
    → queue_of news_parts (sent_on edges at from item) (name at) (name from) ≡ []
on_back [] at from item = refl
on_back (e ∷ edges) at from item =
    sent_is_behind news_parts (sent_over at from item e) (sent_on edges at from item) (name at)
    (name from)
    ∙ ap (λ v. v ++ queue_of news_parts (sent_on edges at from item) (name at) (name from))
    (over_back at from item e)
    ∙ on_back edges at from item

pub on_linked : (edges : List Edge) (at from item : ℕ) (u : Name) (l : ℕ) (ls : List ℕ)
    → queue_of news_parts (sent_on edges at from item) (name at) u ≡ l ∷ ls
    → AreLinked (links_of edges) (name at) u
on_linked [] at from item u l ls h = cc
on_linked (e ∷ edges) at from item u l ls h = go (on_linked edges at from item u l ls)
    (begins (queue_of news_parts (sent_over at from item e) (name at) u)
    (queue_of news_parts (sent_on edges at from item) (name at) u) l ls
    (sym (sent_is_behind news_parts
    (sent_over at from item e) (sent_on edges at from item) (name at) u) ∙ h))
  where
    go : (queue_of news_parts (sent_on edges at from item) (name at) u ≡ l ∷ ls
        → AreLinked (links_of edges) (name at) u)
        → Begins (queue_of news_parts (sent_over at from item e) (name at) u)
        (queue_of news_parts (sent_on edges at from item) (name at) u) l ls
        → AreLinked (links_of (e ∷ edges)) (name at) u
    go r (in_front a as' g) = inl (over_linked at from item e u a as' g)
    go r (behind g) = inr (r g)
