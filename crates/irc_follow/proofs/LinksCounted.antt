-- A server has as many links as there are numbers of links in its routes.
use Rattle.std.proofs.Common.{◌≡◌, ℕ, ◌+◌, Bool, true, false, cond, ◌||◌, is_some, Option, Some}
use Rattle.std.proofs.Common.{None, List, [], ◌∷◌, length, map, count_by, refl, sym, ◌∙◌, ap, subst}
use Rattle.std.proofs.Common.{arith, inl, inr}
use Rattle.std.proofs.lemmas.List.{length-map}
use Rattle.std.proofs.lemmas.List.Sums.{sum_by-cons}
use Rattle.std.specs.Cmp.{Equal-is, eq_by_cmp_equiv, nat_cmp_total, both_ways}
use Rattle.std.specs.FinMap.{FinMap, entries, from_entries, get, get-empty, get-insert, len}
use Rattle.std.specs.FinMap.{len-empty, len-entries, len-insert, nat_cmp-IsAntisymmetric, same_map}
use Rattle.std.specs.List.{list_any}
use Rattle.std.specs.Ordering.{eq_by_cmp, nat_cmp}
use Rattle.std.proofs.lemmas.Bool.{or_right}
use Rattle.irc_relay.specs.Distances.{EndsAreAmong, IsAmong}
use Rattle.irc_relay.specs.Links.{Name, same, Link, toward, part, AreLinked, HasEnds, IsForest}
use Rattle.irc_relay.specs.Lemmas.TellingNames.{Telling, alike, unlike, tell}
use Rattle.irc_relay.specs.Lemmas.NextHops.{linked_back, linked_joined, linked_other, next_hop}
use Rattle.irc_relay.specs.Lemmas.NextHops.{toward_linked}
use Rattle.irc_routes.specs.declared.server_row.ServerRow.{ServerRow}
use Rattle.irc_routes.specs.Known.{Known, link_key, links_of, others}
use Rattle.irc_routes.specs.Lemmas.TableRows.{row_passes, some_stands}
use Rattle.irc_world.specs.World.{has_end}
use Rattle.irc_follow.specs.Tree.{Shape, index_in}
use Rattle.irc_follow.specs.SideState.{ItemSetting}
use Rattle.irc_follow.specs.AtRest.{AreRight}
use Rattle.irc_follow.specs.Lemmas.BehindLinks.{row_is_there, row_says}
use Rattle.irc_follow.specs.Lemmas.PlacesOfNames.{one_place}

-- ---- sets of numbers

abbrev is_it : ℕ → ℕ → Bool
is_it = eq_by_cmp nat_cmp

one_number : (x y : ℕ) → is_it x y ≡ true → x ≡ y
one_number x y one = nat_cmp-IsAntisymmetric x y ((Equal-is (nat_cmp x y)).0 one)

itself_it : (x : ℕ) → is_it x x ≡ true
itself_it x = (eq_by_cmp_equiv nat_cmp_total).refl x

abbrev set_of : List ℕ → FinMap nat_cmp (Unit {0})
set_of xs = from_entries {R = nat_cmp} (map link_key xs)

abbrev mark_if : Bool → Option (Unit {0})
mark_if b = cond b (Some tt) None

or_marked : (b c : Bool) → cond b (mark_if true) (mark_if c) ≡ mark_if (b || c)
or_marked true c = refl
or_marked false c = refl

get_marked : (xs : List ℕ) (q : ℕ) → get (set_of xs) q ≡ mark_if (list_any (is_it q) xs)
get_marked [] q = get-empty nat_cmp q
get_marked (x ∷ xs) q =
    get-insert nat_cmp_total (set_of xs) x tt q
    ∙ ap (λ (o : Option (Unit {0})). cond (is_it q x) (mark_if true) o) (get_marked xs q)
    ∙ or_marked (is_it q x) (list_any (is_it q) xs)

one_set : (xs ys : List ℕ) → ((q : ℕ) → list_any (is_it q) xs ≡ list_any (is_it q) ys)
    → set_of xs ≡ set_of ys
one_set xs ys each = same_map nat_cmp_total nat_cmp-IsAntisymmetric (set_of xs) (set_of ys) (λ q.
    get_marked xs q ∙ ap mark_if (each q) ∙ sym (get_marked ys q))

one_more : (xs : List ℕ) (k : ℕ) → list_any (is_it k) xs ≡ false
    → len (set_of (k ∷ xs)) ≡ len (set_of xs) + 1
one_more xs k new =
    len-insert nat_cmp_total (set_of xs) k tt
    ∙ ap (λ o. cond (is_some o) (len (set_of xs)) (len (set_of xs) + 1))
    (get_marked xs k ∙ ap mark_if new)

any_mapped : (test : ℕ → Bool) (rows : List ServerRow) → list_any test
    (map (λ (r : ServerRow). r.link) rows) ≡ list_any (λ (r : ServerRow). test r.link) rows
any_mapped test [] = refl
any_mapped test (r ∷ rows) = ap (λ b. test r.link || b) (any_mapped test rows)

-- ---- the numbers of the links of a server

-- a neighbour that has this number
record HasNeighbour (names : List Name) (t : Name) (links : List Link) (k : ℕ) : Type 0 where
  pub u : Name
  pub linked : AreLinked links t u
  pub is : k ≡ index_in names u

module _ (names : List Name) (t : Name) where
  abbrev with_number : (near far : Bool) → Link → List ℕ → List ℕ
  with_number true far l rest = index_in names l.far ∷ rest
  with_number false true l rest = index_in names l.near ∷ rest
  with_number false false l rest = rest

  abbrev numbers : List Link → List ℕ
  numbers [] = []
  numbers (l ∷ links) = with_number (same l.near t) (same l.far t) l (numbers links)

  older : (l : Link) (links : List Link) (k : ℕ) → HasNeighbour names t links k
      → HasNeighbour names t (l ∷ links) k
  older l links k was = record { u = was.u; linked = inr was.linked; is = was.is }

  first_or : (l : Link) (links : List Link) (k n : ℕ) (u : Name) → HasEnds l t u
      → n ≡ index_in names u → (is_it k n || list_any (is_it k) (numbers links)) ≡ true
      → (list_any (is_it k) (numbers links) ≡ true → HasNeighbour names t links k)
      → HasNeighbour names t (l ∷ links) k
  first_or l links k n u has is any later = by (is_it k n) refl
    where
      by : (b : Bool) → is_it k n ≡ b → HasNeighbour names t (l ∷ links) k
      by true one = record { u = u; linked = inl has; is = one_number k n one ∙ is }
      by false two = older l links k
          (later (sym (ap (λ b. b || list_any (is_it k) (numbers links)) two) ∙ any))

  -- a number is a neighbour's
  is_neighbours : (links : List Link) (k : ℕ) → list_any (is_it k) (numbers links) ≡ true
      → HasNeighbour names t links k
  is_neighbours [] k any = absurd (cc any)
  is_neighbours (l ∷ links) k any = by (tell l.near t) (tell l.far t) (is_neighbours links k)
    where
      to : (a b : Bool) → same l.near t ≡ a → same l.far t ≡ b
          → list_any (is_it k) (with_number a b l (numbers links)) ≡ true
      to a b e f = sym (λ i. list_any (is_it k) (with_number (e i) (f i) l (numbers links))) ∙ any

      by : Telling l.near t → Telling l.far t → (list_any (is_it k) (numbers links) ≡ true
          → HasNeighbour names t links k) → HasNeighbour names t (l ∷ links) k
      by (alike x e) far later = first_or l links k (index_in names l.far) l.far
          (inl (e, refl)) refl (to true (same l.far t) x refl) later
      by (unlike x _) (alike y f) later = first_or l links k (index_in names l.near) l.near
          (inr (refl, f)) refl (to false true x y) later
      by (unlike x _) (unlike y _) later = older l links k (later (to false false x y))

  in_rest : (a b : Bool) (l : Link) (rest : List ℕ) (k : ℕ) → list_any (is_it k) rest ≡ true
      → list_any (is_it k) (with_number a b l rest) ≡ true
  in_rest true b l rest k there =
      or_right (is_it k (index_in names l.far)) (list_any (is_it k) rest) there
  in_rest false true l rest k there =
      or_right (is_it k (index_in names l.near)) (list_any (is_it k) rest) there
  in_rest false false l rest k there = there

  first_it : (k n : ℕ) (rest : List ℕ) → n ≡ k → (is_it k n || list_any (is_it k) rest) ≡ true
  first_it k n rest e = ap (λ m. is_it k m || list_any (is_it k) rest) e
      ∙ ap (λ b. b || list_any (is_it k) rest) (itself_it k)

  -- and each neighbour's number is one
  has_number : (links : List Link) (u : Name) → IsForest links → AreLinked links t u
      → list_any (is_it (index_in names u)) (numbers links) ≡ true
  has_number [] u forest linked = absurd linked
  has_number (l ∷ links) u forest (inr linked) =
      in_rest (same l.near t) (same l.far t) l (numbers links) (index_in names u)
      (has_number links u forest.1 linked)
  has_number (l ∷ links) u forest (inl (inl (near, far))) = by (tell l.near t)
    where
      by : Telling l.near t → list_any (is_it (index_in names u)) (numbers (l ∷ links)) ≡ true
      by (alike x _) =
          ap (λ b. list_any (is_it (index_in names u))
          (with_number b (same l.far t) l (numbers links))) x
          ∙ first_it (index_in names u) (index_in names l.far) (numbers links)
          (ap (index_in names) far)
      by (unlike _ two) = absurd (two near)
  has_number (l ∷ links) u forest (inl (inr (near, far))) = by (tell l.near t) (tell l.far t)
    where
      by : Telling l.near t → Telling l.far t
          → list_any (is_it (index_in names u)) (numbers (l ∷ links)) ≡ true
      by (alike _ e) far_so = absurd (forest.0 (ap (part links) (e ∙ sym far)))
      by (unlike x _) (alike y _) =
          (λ i. list_any (is_it (index_in names u)) (with_number (x i) (y i) l (numbers links)))
          ∙ first_it (index_in names u) (index_in names l.near) (numbers links)
          (ap (index_in names) near)
      by (unlike _ _) (unlike _ two) = absurd (two far)

  -- a neighbour over the newest link is none over the others
  is_new : (l : Link) (links : List Link) (u : Name) → IsForest (l ∷ links) → EndsAreAmong names
      (l ∷ links) → HasEnds l t u → list_any (is_it (index_in names u)) (numbers links) ≡ false
  is_new l links u forest ends has = by (list_any (is_it (index_in names u)) (numbers links)) refl
    where
      never : HasEnds l t u → part links t ≡ part links u → ⊥
      never (inl (near, far)) so = forest.0 (ap (part links) near ∙ so ∙ ap (part links) (sym far))
      never (inr (near, far)) so =
          forest.0 (ap (part links) near ∙ sym so ∙ ap (part links) (sym far))

      by : (b : Bool) → list_any (is_it (index_in names u)) (numbers links) ≡ b → b ≡ false
      by false none = refl
      by true any =
          let other = is_neighbours links (index_in names u) any in
          let one : u ≡ other.u = one_place names u other.u
          (ends u t (linked_back (l ∷ links) t u (inl has))) other.is in
          absurd (never has
          (linked_joined links t u (subst (λ x. AreLinked links t x) (sym one) other.linked)))

  added : (n m k : ℕ) → n ≡ m + 1 → m ≡ k → n ≡ cond {A = ℕ} true 1 0 + k
  added n m k is rest = omega arith

  not_added : (m k : ℕ) → m ≡ k → m ≡ cond {A = ℕ} false 1 0 + k
  not_added m k rest = omega arith

  -- as many numbers as links
  pub as_many : (links : List Link) → IsForest links → EndsAreAmong names links
      → len (set_of (numbers links)) ≡ count_by (has_end t) links
  as_many [] forest ends = len-empty nat_cmp (Unit {0})
  as_many (l ∷ links) forest ends =
      by (tell l.near t) (tell l.far t)
      (as_many links forest.1 (λ a b linked. ends a b (inr linked)))
      ∙ sym (sum_by-cons (λ x. cond (has_end t x) 1 0) l links)
    where
      counted : (a b : Bool) → same l.near t ≡ a → same l.far t ≡ b
          → len (set_of (with_number a b l (numbers links))) ≡ cond {A = ℕ}
          (a || b) 1 0 + count_by (has_end t) links → len (set_of (numbers (l ∷ links)))
          ≡ cond {A = ℕ} (has_end t l) 1 0 + count_by (has_end t) links
      counted a b e f is =
          (λ i. len (set_of (with_number (e i) (f i) l (numbers links))))
          ∙ is
          ∙ sym (λ i. cond {A = ℕ} (e i || f i) 1 0 + count_by (has_end t) links)

      by : Telling l.near t → Telling l.far t → len (set_of (numbers links))
          ≡ count_by (has_end t) links → len (set_of (numbers (l ∷ links)))
          ≡ cond {A = ℕ} (has_end t l) 1 0 + count_by (has_end t) links
      by (alike x e) far rest =
          counted true (same l.far t) x refl
          (added (len (set_of (index_in names l.far ∷ numbers links)))
          (len (set_of (numbers links))) (count_by (has_end t) links)
          (one_more (numbers links) (index_in names l.far)
          (is_new l links l.far forest ends (inl (e, refl)))) rest)
      by (unlike x _) (alike y f) rest =
          counted false true x y (added (len (set_of (index_in names l.near ∷ numbers links)))
          (len (set_of (numbers links))) (count_by (has_end t) links)
          (one_more (numbers links) (index_in names l.near)
          (is_new l links l.near forest ends (inr (refl, f)))) rest)
      by (unlike x _) (unlike y _) rest = counted false false x y
          (not_added (len (set_of (numbers links))) (count_by (has_end t) links) rest)

module _ (s : ItemSetting) (links : List Link) (routes : Name → Known) (t : Name)
    (forest : IsForest links) (ends : EndsAreAmong s.names links)
    (right : AreRight s links routes) (among : IsAmong s.names t) where
  abbrev in_routes : List ℕ
  in_routes = map (λ (r : ServerRow). r.link) (others (routes t))

  is_link : (q : ℕ) → list_any (is_it q) in_routes ≡ true
      → list_any (is_it q) (numbers s.names t links) ≡ true
  is_link q any =
      let at = some_stands (λ (r : ServerRow). is_it q r.link) (routes t).rows
      (sym (any_mapped (is_it q) (others (routes t))) ∙ any) in
      let says = row_says s links routes t right among at.name at.value at.there in
      let hop = next_hop links t at.name forest (sym says.joined) (λ e. says.apart (sym e)) in
      let is : q ≡ index_in s.names (toward links t at.name) = one_number q at.value.link at.passes
      ∙ ap (λ (x : Shape). x.link) says.shape in
      ap (λ n. list_any (is_it n) (numbers s.names t links)) is
      ∙ has_number s.names t links (toward links t at.name) forest hop.linked

  is_in_routes : (q : ℕ) → list_any (is_it q) (numbers s.names t links) ≡ true
      → list_any (is_it q) in_routes ≡ true
  is_in_routes q any =
      let next = is_neighbours s.names t links q any in
      let found = row_is_there s links routes t right among next.u
      (sym (linked_joined links t next.u next.linked))
      (λ e. linked_other links t next.u forest next.linked (sym e)) in
      let is : q ≡ found.r.link =
      next.is ∙ sym (ap (λ (x : Shape). x.link) found.shape
      ∙ ap (index_in s.names) (toward_linked links t next.u forest next.linked)) in
      any_mapped (is_it q) (others (routes t))
      ∙ row_passes (λ (r : ServerRow). is_it q r.link) (routes t).rows next.u found.r found.is
      (ap (is_it q) (sym is) ∙ itself_it q)

  pub links_counted : length (links_of (routes t)) ≡ count_by (has_end t) links
  links_counted =
      length-map (entries (set_of in_routes)) (λ e. e.0)
      ∙ sym (len-entries (set_of in_routes))
      ∙ ap len (one_set in_routes (numbers s.names t links)
      (λ q. both_ways _ _ (is_link q) (is_in_routes q)))
      ∙ as_many s.names t links forest ends
