-- Links of servers that are alike: which of them are in a list, and how many there are; and so what
-- a decision may know of servers.
use Rattle.std.proofs.Common.{◌≡◌, ℕ, ◌+◌, Bool, true, false, cond, nat_eq, is_some, Option, Some}
use Rattle.std.proofs.Common.{None, List, [], ◌∷◌, length, map, filter_map, refl, sym, ◌∙◌, ap}
use Rattle.std.proofs.Common.{option_map}
use Rattle.std.proofs.lemmas.Bool.{eqb-true}
use Rattle.std.proofs.lemmas.List.{length-map}
use Rattle.std.specs.Cmp.{nat_cmp_total, unsigned_tied}
use Rattle.std.specs.FinMap.{FinMap, contains_key, entries, find, from_entries, get-from_entries}
use Rattle.std.specs.FinMap.{keys, len, len-entries, len-insert, values}
use Rattle.std.specs.List.{cons_option}
use Rattle.std.specs.Ordering.{eq_by_cmp, nat_cmp}
use Rattle.std.specs.Prelude.{⊤}
use Rattle.irc_names.specs.Lemmas.PlainFacts.{nat_eq-turned}
use Rattle.irc_routes.specs.About.{About}
use Rattle.irc_routes.specs.declared.server_row.ServerRow.{ServerRow}
use Rattle.irc_routes.specs.Known.{Known, by_name, itself, known_server, link_key, links_of}
use Rattle.irc_routes.specs.Known.{next_hop, others, place_of, row_of, server_table}
use Rattle.irc_routes.specs.Place.{KnownServer}
use Rattle.irc_tables.specs.FoldedRows.{table_of}
use Rattle.irc_numbers.specs.Alike.{AreApart, AreRowsAlike, IsAmong, Numbers}
use Rattle.irc_numbers.proofs.KnownAlike.{AreKnownAlike, others_by}
use Rattle.irc_numbers.proofs.Numbers.{same_one}

-- ---- lists of links

-- one by one the same links
abbrev pub AreLinked : Numbers → List ℕ → List ℕ → Type 0
AreLinked numbers [] [] = ⊤
AreLinked numbers (mine ∷ own) (theirs ∷ other) =
    (numbers.link theirs ≡ Some mine) × AreLinked numbers own other
AreLinked numbers [] (theirs ∷ other) = ⊥
AreLinked numbers (mine ∷ own) [] = ⊥

abbrev first_of : List (Option ℕ) → Option ℕ
first_of [] = None
first_of (x ∷ xs) = x

abbrev rest_of : List (Option ℕ) → List (Option ℕ)
rest_of [] = []
rest_of (x ∷ xs) = xs

module _ (numbers : Numbers) (apart : AreApart numbers) where
  pub found_same : (place conn : ℕ) → numbers.link place ≡ Some conn
      → (own other : List ℕ) → AreLinked numbers own other
      → find nat_cmp place (map link_key other) ≡ find nat_cmp conn (map link_key own)
  found_same place conn at [] [] linked = refl
  found_same place conn at [] (theirs ∷ other) linked = absurd linked
  found_same place conn at (mine ∷ own) [] linked = absurd linked
  found_same place conn at (mine ∷ own) (theirs ∷ other) linked =
      ap (λ b. cond b (Some tt) (find nat_cmp place (map link_key other))) same_end
      ∙ ap (cond (eq_by_cmp nat_cmp conn mine) (Some tt))
      (found_same place conn at own other linked.1)
    where
      same_end : eq_by_cmp nat_cmp place theirs ≡ eq_by_cmp nat_cmp conn mine
      same_end =
          unsigned_tied place theirs ∙ nat_eq-turned place theirs
          ∙ same_one numbers.link apart.links place conn at theirs mine linked.0
          ∙ nat_eq-turned mine conn
          ∙ sym (unsigned_tied conn mine)

  -- a number that is no link's is not among them
  pub none_found : (conn : ℕ) → (IsAmong numbers.link conn → ⊥) → (own other : List ℕ)
      → AreLinked numbers own other → find nat_cmp conn (map link_key own) ≡ None
  none_found conn none [] other linked = refl
  none_found conn none (mine ∷ own) [] linked = absurd linked
  none_found conn none (mine ∷ own) (theirs ∷ other) linked =
      ap (λ b. cond b (Some tt) (find nat_cmp conn (map link_key own))) (unsigned_tied conn mine)
      ∙ by (nat_eq conn mine) refl (none_found conn none own other linked.1)
    where
      by : (b : Bool) → nat_eq conn mine ≡ b → find nat_cmp conn (map link_key own) ≡ None
          → cond b (Some tt) (find nat_cmp conn (map link_key own)) ≡ None
      by true one rest = absurd (none
          (record { number = theirs; is = linked.0 ∙ ap Some (sym (eqb-true conn mine one)) }))
      by false two rest = rest

  abbrev set_of : List ℕ → FinMap nat_cmp (Unit {0})
  set_of links = from_entries (map link_key links)

  has_same : (place conn : ℕ) → numbers.link place ≡ Some conn
      → (own other : List ℕ) → AreLinked numbers own other
      → contains_key (set_of other) place ≡ contains_key (set_of own) conn
  has_same place conn at own other linked =
      ap is_some
      (get-from_entries nat_cmp_total (map link_key other) place
      ∙ found_same place conn at own other linked
      ∙ sym (get-from_entries nat_cmp_total (map link_key own) conn))

  as_many : (own other : List ℕ) → AreLinked numbers own other
      → len (set_of other) ≡ len (set_of own)
  as_many [] [] linked = refl
  as_many [] (theirs ∷ other) linked = absurd linked
  as_many (mine ∷ own) [] linked = absurd linked
  as_many (mine ∷ own) (theirs ∷ other) linked =
      len-insert nat_cmp_total (set_of other) theirs tt
      ∙ ap (λ b. cond b (len (set_of other)) (len (set_of other) + 1))
      (has_same theirs mine linked.0 own other linked.1)
      ∙ ap (λ n. cond (contains_key (set_of own) mine) n (n + 1)) (as_many own other linked.1)
      ∙ sym (len-insert nat_cmp_total (set_of own) mine tt)

  pub as_many_keys : (own other : List ℕ) → AreLinked numbers own other
      → length (keys (set_of other)) ≡ length (keys (set_of own))
  as_many_keys own other linked =
      length-map (entries (set_of other)) (λ (e : ℕ × Unit {0}). e.0)
      ∙ sym (len-entries (set_of other)) ∙ as_many own other linked ∙ len-entries (set_of own)
      ∙ sym (length-map (entries (set_of own)) (λ (e : ℕ × Unit {0}). e.0))

module _ (numbers : Numbers) (own other : Known) (alike : AreKnownAlike numbers own other) where
  -- ---- toward whom a line goes

  pub hops_linked : (homes : List (List ℕ))
      → AreLinked numbers (filter_map (next_hop own) homes) (filter_map (next_hop other) homes)
  hops_linked [] = tt
  hops_linked (home ∷ homes) =
      by (row_of own home) (row_of other home) (alike.rows home) (hops_linked homes)
    where
      by : (mine theirs : Option ServerRow) → AreRowsAlike numbers mine theirs
          → AreLinked numbers (filter_map (next_hop own) homes) (filter_map (next_hop other) homes)
          → AreLinked numbers (cons_option (option_map (λ (r : ServerRow). r.link) mine)
          (filter_map (next_hop own) homes))
          (cons_option (option_map (λ (r : ServerRow). r.link) theirs)
          (filter_map (next_hop other) homes))
      by None None is rest = rest
      by None (Some theirs) is rest = absurd is
      by (Some mine) None is rest = absurd is
      by (Some mine) (Some theirs) is rest = (is.1, rest)

  -- ---- what a decision may know

  linked_by : (mine theirs : List ServerRow) → map (λ (r : ServerRow). numbers.link r.link) theirs
      ≡ map (λ (r : ServerRow). Some r.link) mine → AreLinked numbers
      (map (λ (r : ServerRow). r.link) mine) (map (λ (r : ServerRow). r.link) theirs)
  linked_by [] [] is = tt
  linked_by [] (t ∷ theirs) is = cc is
  linked_by (m ∷ mine) [] is = cc is
  linked_by (m ∷ mine) (t ∷ theirs) is = (ap first_of is, linked_by mine theirs (ap rest_of is))

  servers_same : server_table other ≡ server_table own
  servers_same =
      ap (λ (servers : List KnownServer). table_of by_name (itself other ∷ servers))
      (others_by numbers own other alike known_server known_server
      (λ mine theirs is. ap known_server is.0))
      ∙ ap (λ name. table_of by_name (record { name = name; info = other.about.info; distance = 0 }
      ∷ map known_server (others own))) alike.name
      ∙ ap (λ (about : About). table_of by_name
      (record { name = own.name; info = about.info; distance = 0 }
      ∷ map known_server (others own))) alike.about

  links_same : AreApart numbers → length (links_of other) ≡ length (links_of own)
  links_same apart =
      as_many_keys numbers apart (map (λ (r : ServerRow). r.link) (others own))
      (map (λ (r : ServerRow). r.link) (others other))
      (linked_by (others own) (others other)
      (others_by numbers own other alike (λ (r : ServerRow). Some r.link)
      (λ (r : ServerRow). numbers.link r.link) (λ mine theirs is. is.1)))

  pub place_same : AreApart numbers → place_of other ≡ place_of own
  place_same apart = λ i. record {
    name = alike.name i;
    about = alike.about i;
    links = links_same apart i;
    servers = values (servers_same i);
  }
