-- The laws of the servers that a server knows.
use Rattle.std.proofs.Common.{◌≡◌, ◌↔◌, ℕ, Bool, true, false, cond, not, ◌&&◌, ◌||◌, List, [], ◌∷◌}
use Rattle.std.proofs.Common.{◌++◌, map, filter, length, nat_eq, refl, sym, ◌∙◌, ap, Option, Some}
use Rattle.std.proofs.Common.{None, IsTrue, append_assoc}
use Rattle.std.proofs.lemmas.Bool.{and_parts}
use Rattle.std.proofs.lemmas.Bool.Decides.{Decides-eqb}
use Rattle.std.proofs.lemmas.List.{length-map}
use Rattle.std.specs.Cmp.Lexicographic.{pointwise, bytes_decides, nat_list_cmp_total}
use Rattle.std.specs.FinMap.{empty, entries, entries_sorted, values, is_sorted, get-entries}
use Rattle.std.specs.FinMap.{len-entries, len-empty}
use Rattle.std.specs.FinMap as map_of
use Rattle.std.specs.List.{find, list_any}
use Rattle.std.specs.Option.{option_map}
use Rattle.std.specs.Ordering.{nat_cmp}
use Rattle.std.proofs.lemmas.Option.{same_Some}
use Rattle.std.specs.Cmp.{both_ways}
use Rattle.irc_names.specs.Lemmas.PlainFacts.{is_true}
use Rattle.irc_names.specs.Tables.{Table, row, fold_cmp}
use Rattle.irc_names.specs.TableLaws.{same_fold, one_fold, same_fold-refl, row-each, row-alter_same}
use Rattle.irc_tables.specs.FoldedRows.{table_of, IsInFoldedOrder}
use Rattle.irc_tables.specs.Lemmas.OrderedEntries.{find-there, sorted-below}
use Rattle.irc_tables.specs.Lemmas.RowsAsTable.{row-table_of, nothing-table, nothing-sorted}
use Rattle.irc_routes.specs.About.{About}
use Rattle.irc_routes.specs.Known.{Known, ServerRow, others, is_itself, row_of, next_hop, is_behind}
use Rattle.irc_routes.specs.Known.{names_behind, links_in, smallest_free, added, unless_behind}
use Rattle.irc_routes.specs.Known.{known_server, itself, by_name, server_table, place_of}
use Rattle.irc_routes.specs.Known.{IsNumbered}
use Rattle.irc_routes.specs.Laws.{SmallestIsFree, AddedGetsSmallest, is_among, BehindIsOfLink}
use Rattle.irc_routes.specs.Laws.{LoseIsOfLink, PlaceListsAll, PlaceTells, AloneIsAlone}
use Rattle.irc_routes.specs.Laws.{StaysNumbered}
use Rattle.irc_routes.specs.Place.{KnownServer, Place, server_named}
use Rattle.irc_routes.specs.Lemmas.KeptRows.{made_row}
use Rattle.irc_routes.specs.Lemmas.NumberedRows.{numbered_alone, numbered_added, admitted}
use Rattle.irc_routes.specs.Lemmas.NumberedRows.{numbered_without_server, numbered_without_link}
use Rattle.irc_routes.specs.Lemmas.NumberedRows.{stays_elsewhere}
use Rattle.irc_routes.specs.Lemmas.SmallestFree.{smallest_is_least}
use Rattle.irc_routes.specs.Lemmas.TableRows.{row_passes, some_stands, values_each, values-table_of}

pub smallest_is_free : SmallestIsFree
smallest_is_free known =
    let least = smallest_is_least (others known) in
    record { free = least.free; from = least.from; below = least.below }

pub added_gets_smallest : AddedGetsSmallest
added_gets_smallest known link uplink name distance token info other =
    let new = made_row link uplink name distance token (smallest_free known) info in
    let row_is = row-alter_same name (λ _. Some new) known.rows in
    ap (λ b. cond b (Some 1) (option_map (λ (r : ServerRow). r.ours)
    (row_of (added link uplink name distance token info known) name))) other
    ∙ ap (option_map (λ (r : ServerRow). r.ours)) row_is

pub stays_numbered : StaysNumbered
stays_numbered = record {
  alone = numbered_alone;
  added = λ known link uplink name distance token info numbered rule limits admits unused.
      numbered_added known link uplink name distance token info numbered rule limits
      (admitted known name admits) unused;
  forgotten = numbered_without_server;
  lost = numbered_without_link;
}

-- ---- the servers behind a link

any_of_one : {X Y : Type 0} (t : Y → Bool) (f : X → Y) (x : X)
    (xs : List X) (b more : Bool) → list_any t (map f xs) ≡ more
    → list_any t (map f (cond b (x ∷ xs) xs)) ≡ ((b && t (f x)) || more)
any_of_one t f x xs true more is = ap (λ m. t (f x) || m) is
any_of_one t f x xs false more is = is

any_of_filtered : {X Y : Type 0} (t : Y → Bool) (f : X → Y) (p : X → Bool) (xs : List X)
    → list_any t (map f (filter p xs)) ≡ list_any (λ x. p x && t (f x)) xs
any_of_filtered t f p [] = refl
any_of_filtered t f p (x ∷ xs) = any_of_one t f x (filter p xs) (p x)
    (list_any (λ x. p x && t (f x)) xs) (any_of_filtered t f p xs)

module _ (known : Known) (link : ℕ) (name : List ℕ) (numbered : IsNumbered known) where
  abbrev is_it : ServerRow → Bool
  is_it r = is_behind link r && pointwise nat_eq r.name name

  named_behind : list_any (λ n. pointwise nat_eq n name) (names_behind known link)
      ≡ list_any is_it (others known)
  named_behind = any_of_filtered (λ n. pointwise nat_eq n name) (λ (r : ServerRow). r.name)
      (is_behind link) (others known)

  leads_there : IsTrue (is_among name (names_behind known link)) → next_hop known name ≡ Some link
  leads_there among =
      let at = some_stands is_it known.rows (sym named_behind ∙ among) in
      let parts = and_parts _ _ at.passes in
      let is : at.name ≡ name = sym (numbered.rows at.name at.value at.there).named
      ∙ (bytes_decides at.value.name name).0 parts.1 in
      ap (option_map (λ (r : ServerRow). r.link)) (ap (row_of known) (sym is) ∙ at.there)
      ∙ ap (λ l. Some l) ((Decides-eqb at.value.link link).0 parts.0)

  is_there : (o : Option ServerRow) → row_of known name ≡ o
      → option_map (λ (r : ServerRow). r.link) o ≡ Some link → list_any is_it (others known) ≡ true
  is_there None is hop = cc
  is_there (Some r) is hop =
      row_passes is_it known.rows name r is (
      ap (λ b. b && pointwise nat_eq r.name name)
      ((Decides-eqb r.link link).1 (same_Some r.link link hop))
      ∙ (bytes_decides r.name name).1 (numbered.rows name r is).named)

  pub behind_of_link : IsTrue (is_among name (names_behind known link))
      ↔ (next_hop known name ≡ Some link)
  behind_of_link = (leads_there, λ hop. named_behind ∙ is_there (row_of known name) refl hop)

pub behind_is_of_link : BehindIsOfLink
behind_is_of_link known link name numbered = behind_of_link known link name numbered

none_of : {X : Type 0} (p : X → Bool) (x : X) (b : Bool) (xs : List X) → p x ≡ b → filter p xs ≡ []
    → filter p (cond (not b) (x ∷ xs) xs) ≡ []
none_of p x true xs is none = none
none_of p x false xs is none = ap (λ b. cond b (x ∷ filter p xs) (filter p xs)) is ∙ none

none_left : {X : Type 0} (p : X → Bool) (xs : List X) → filter p (filter (λ x. not (p x)) xs) ≡ []
none_left p [] = refl
none_left p (x ∷ xs) = none_of p x (p x) (filter (λ x. not (p x)) xs) refl (none_left p xs)

one_stays : {X : Type 0} (p q : X → Bool) (x : X) (b c : Bool) (ys xs : List X)
    → q x ≡ b → (b ≡ true → c ≡ true) → filter q ys ≡ filter q xs
    → filter q (cond c (x ∷ ys) ys) ≡ cond (q x) (x ∷ filter q xs) (filter q xs)
one_stays p q x b true ys xs is stays rest = ap (λ zs. cond (q x) (x ∷ zs) zs) rest
one_stays p q x true false ys xs is stays rest = let clash = stays refl in cc clash
one_stays p q x false false ys xs is stays rest =
    rest ∙ sym (ap (λ b. cond b (x ∷ filter q xs) (filter q xs)) is)

others_stay : {X : Type 0} (p q : X → Bool) → ((x : X) → q x ≡ true → p x ≡ true) → (xs : List X)
    → filter q (filter p xs) ≡ filter q xs
others_stay p q stays [] = refl
others_stay p q stays (x ∷ xs) =
    one_stays p q x (q x) (p x) (filter p xs) xs refl (stays x) (others_stay p q stays xs)

elsewhere : (link other : ℕ) → nat_eq other link ≡ false → (r : ServerRow)
    → is_behind other r ≡ true → not (is_behind link r) ≡ true
elsewhere link other apart r there = by (is_behind link r) refl
  where
    by : (b : Bool) → is_behind link r ≡ b → not b ≡ true
    by true here =
        let same = (Decides-eqb other link).1 (sym ((Decides-eqb r.link other).0 there)
        ∙ (Decides-eqb r.link link).0 here) in
        let clash = sym apart ∙ same in
        cc clash
    by false here = refl

pub lose_is_of_link : LoseIsOfLink
lose_is_of_link known link =
    let left = values_each (λ r. not (is_behind link r)) (unless_behind link)
    (stays_elsewhere link) known.rows in
    record {
      rows = row-each (unless_behind link) known.rows;
      none_left = ap (λ rs. map (λ (r : ServerRow). r.name) (filter (is_behind link) rs)) left
          ∙ ap (map (λ (r : ServerRow). r.name)) (none_left (is_behind link) (others known));
      others_stay = λ other apart.
          ap (λ rs. map (λ (r : ServerRow). r.name) (filter (is_behind other) rs)) left
          ∙ ap (map (λ (r : ServerRow). r.name)) (others_stay (λ r. not (is_behind link r))
          (is_behind other) (elsewhere link other apart) (others known));
    }

-- ---- the place

-- a table whose rows stand under their names
module _ {X : Type 0} (name : X → List ℕ) (table : Table X)
    (named : (q : List ℕ) (x : X) → row table q ≡ Some x → name x ≡ q) where
  behind_front : (front back : List (List ℕ × X)) → entries table ≡ front ++ back
      → map (λ x. (name x, x)) (map (λ e. e.1) back) ≡ back
  behind_front front [] is = refl
  behind_front front (e ∷ back) is =
      let there = get-entries table e.0 ∙ ap (map_of.find fold_cmp e.0) is
      ∙ find-there nat_list_cmp_total e.0 e.1 front back
      (sorted-below nat_list_cmp_total e.0 e.1 front back (ap (is_sorted fold_cmp) (sym is)
      ∙ is_true _ (entries_sorted table))) in
      ap (λ q. (q, e.1) ∷ map (λ x. (name x, x)) (map (λ e. e.1) back)) (named e.0 e.1 there)
      ∙ ap (λ es. e ∷ es)
      (behind_front (front ++ e ∷ []) back (is ∙ sym (append_assoc front (e ∷ []) back)))

  pub entries_named : map (λ x. (name x, x)) (values table) ≡ entries table
  entries_named = behind_front [] (entries table) refl

-- found by the name among rows, and by the key among entries
same_test : (q n : List ℕ) → same_fold q n ≡ pointwise nat_eq n q
same_test q n = both_ways (same_fold q n) (pointwise nat_eq n q)
    (λ same. (bytes_decides n q).1 (sym (one_fold q n same)))
    (λ same. ap (λ m. same_fold q m) ((bytes_decides n q).0 same) ∙ same_fold-refl q)

found_by_name : {X : Type 0} (name : X → List ℕ) (q : List ℕ) (xs : List X)
    → map_of.find fold_cmp q (map (λ x. (name x, x)) xs)
    ≡ find (λ x. pointwise nat_eq (name x) q) xs
found_by_name name q [] = refl
found_by_name name q (x ∷ xs) =
    ap (λ b. cond b (Some x) (map_of.find fold_cmp q (map (λ x. (name x, x)) xs)))
    (same_test q (name x))
    ∙ ap (λ o. cond (pointwise nat_eq (name x) q) (Some x) o) (found_by_name name q xs)

found_is_named : {X : Type 0} (name : X → List ℕ) (q : List ℕ) (xs : List X) (y : X)
    → map_of.find fold_cmp q (map (λ x. (name x, x)) xs) ≡ Some y → name y ≡ q
found_is_named name q [] y there = cc
found_is_named {X} name q (x ∷ xs) y there =
    by (same_fold q (name x)) refl there (found_is_named name q xs y)
  where
    one : (a b : X) → Some a ≡ Some b → a ≡ b
    one a b e = cc

    by : (b : Bool) → same_fold q (name x) ≡ b
        → cond b (Some x) (map_of.find fold_cmp q (map (λ x. (name x, x)) xs)) ≡ Some y
        → (map_of.find fold_cmp q (map (λ x. (name x, x)) xs) ≡ Some y → name y ≡ q) → name y ≡ q
    by true same e rest = ap name (sym (one x y e)) ∙ sym (one_fold q (name x) same)
    by false same e rest = rest e

pub mapped_found : (q : List ℕ) (rows : List ServerRow)
    → map_of.find fold_cmp q (map by_name (map known_server rows))
    ≡ option_map known_server (map_of.find fold_cmp q (map (λ (r : ServerRow). (r.name, r)) rows))
mapped_found q [] = refl
mapped_found q (r ∷ rows) = by (same_fold q r.name) (mapped_found q rows)
  where
    by : (b : Bool)
        → map_of.find fold_cmp q (map by_name (map known_server rows))
        ≡ option_map known_server
        (map_of.find fold_cmp q (map (λ (r : ServerRow). (r.name, r)) rows))
        → cond b (Some (known_server r))
        (map_of.find fold_cmp q (map by_name (map known_server rows)))
        ≡ option_map known_server
        (cond b (Some r) (map_of.find fold_cmp q (map (λ (r : ServerRow). (r.name, r)) rows)))
    by true rest = refl
    by false rest = rest

module _ (known : Known) (numbered : IsNumbered known) where
  servers_named : (q : List ℕ) (s : KnownServer) → row (server_table known) q ≡ Some s → s.name ≡ q
  servers_named q s there =
      found_is_named (λ (s : KnownServer). s.name) q
      (itself known ∷ map known_server (others known)) s
      (sym (row-table_of by_name (itself known ∷ map known_server (others known)) q) ∙ there)

  rows_named : map (λ (r : ServerRow). (r.name, r)) (others known) ≡ entries known.rows
  rows_named = entries_named (λ (r : ServerRow). r.name) known.rows
      (λ q r there. (numbered.rows q r there).named)

  in_order : IsInFoldedOrder by_name (values (server_table known))
  unfolding IsInFoldedOrder
  in_order = ap (is_sorted fold_cmp)
      (entries_named (λ (s : KnownServer). s.name) (server_table known) servers_named)
      ∙ is_true _ (entries_sorted (server_table known))

  found : (name : List ℕ) → server_named (place_of known) name
      ≡ (cond (is_itself known name) (Some (itself known)) (option_map known_server
      (row_of known name)))
  found name =
      sym (found_by_name (λ (s : KnownServer). s.name) name (values (server_table known)))
      ∙ ap (map_of.find fold_cmp name)
      (entries_named (λ (s : KnownServer). s.name) (server_table known) servers_named)
      ∙ sym (get-entries (server_table known) name)
      ∙ row-table_of by_name (itself known ∷ map known_server (others known)) name
      ∙ ap (λ b. cond b (Some (itself known)) (map_of.find fold_cmp name
      (map by_name (map known_server (others known))))) (same_test name known.name)
      ∙ ap (λ o. cond (is_itself known name) (Some (itself known)) o) (
      mapped_found name (others known)
      ∙ ap (λ es. option_map known_server (map_of.find fold_cmp name es)) rows_named
      ∙ ap (option_map known_server) (sym (get-entries known.rows name)))

  told_of : {Y : Type 0} (f : KnownServer → Y) (g : ServerRow → Y)
      → ((r : ServerRow) → f (known_server r) ≡ g r) → (b : Bool) (o : Option ServerRow)
      → cond b (Some (f (itself known))) (option_map g o) ≡ option_map f
      (cond b (Some (itself known)) (option_map known_server o))
  told_of f g same true o = refl
  told_of f g same false None = refl
  told_of f g same false (Some r) = ap (λ y. Some y) (sym (same r))

pub place_lists_all : PlaceListsAll
place_lists_all known numbered =
    record { ordered = in_order known numbered; listed = found known numbered }

pub place_tells : PlaceTells
place_tells known name numbered = record {
  distance = told_of known numbered (λ (s : KnownServer). s.distance)
      (λ (r : ServerRow). r.distance) (λ r. refl) (is_itself known name) (row_of known name)
      ∙ ap (option_map (λ (s : KnownServer). s.distance)) (sym (found known numbered name));
  info = told_of known numbered (λ (s : KnownServer). s.info) (λ (r : ServerRow). r.info)
      (λ r. refl) (is_itself known name) (row_of known name)
      ∙ ap (option_map (λ (s : KnownServer). s.info)) (sym (found known numbered name));
}

-- ---- a server that knows no other

no_rows : values (empty {X = ServerRow} {R = fold_cmp}) ≡ []
no_rows =
    ap values (sym (nothing-table (λ (r : ServerRow). (r.name, r))))
    ∙ values-table_of (λ (r : ServerRow). r.name) []
    (nothing-sorted (λ (r : ServerRow). (r.name, r)))

no_links : length (links_in []) ≡ 0
no_links = length-map (entries (empty {X = Unit {0}} {R = nat_cmp})) (λ e. e.0)
    ∙ sym (len-entries (empty {X = Unit {0}} {R = nat_cmp}))
    ∙ len-empty nat_cmp (Unit {0})

itself_alone : (s : KnownServer) → values (table_of by_name (s ∷ [])) ≡ s ∷ []
unfolding IsInFoldedOrder
itself_alone s = values-table_of (λ (s : KnownServer). s.name) (s ∷ []) refl

abbrev place_with : List ℕ → About → List ServerRow → Place
place_with name about rows = record {
  name = name;
  about = about;
  links = length (links_in rows);
  servers = values (table_of by_name
      (record { name = name; info = about.info; distance = 0 } ∷ map known_server rows));
}

pub alone_is_alone : AloneIsAlone
alone_is_alone name about =
    ap (place_with name about) no_rows
    ∙ ap (λ n. record {
      name = name;
      about = about;
      links = n;
      servers = values (table_of by_name
          (record { name = name; info = about.info; distance = 0 } ∷ []));
    }) no_links
    ∙ ap (λ ss. record { name = name; about = about; links = 0; servers = ss })
    (itself_alone (record { name = name; info = about.info; distance = 0 }))
