-- A server that tells of its side tells of each server once, and of the one that it is linked to
-- before.
use Rattle.std.proofs.Common.{◌≡◌, ◌≢◌, ◌⊎◌, inl, inr, ℕ, ◌≤◌, zero, suc, Bool, true, false, cond}
use Rattle.std.proofs.Common.{not, ◌&&◌, ◌||◌, Some, List, [], ◌∷◌, ◌++◌, map, filter, nat_eq}
use Rattle.std.proofs.Common.{nat_lt, refl, sym, ◌∙◌, ap, subst, arith, append_assoc}
use Rattle.std.specs.Prelude.{⊤}
use Rattle.std.proofs.lemmas.Bool.{and_parts, eqb-true, or_right}
use Rattle.std.proofs.lemmas.Bool.Decides.{nat_tests}
use Rattle.std.specs.Cmp.{tied_itself}
use Rattle.std.specs.Cmp.Lexicographic.{nat_list_cmp_total}
use Rattle.std.specs.FinMap.{entries, entries_sorted, is_sorted, get-entries}
use Rattle.std.specs.FinMap.Entries.{below_all, find}
use Rattle.std.specs.List.{fold, insert, list_any, prefix_len, AllByRecursion}
use Rattle.std.specs.Ordering.{is_lt}
use Rattle.std.proofs.Math.Bool.{or-false}
use Rattle.std.proofs.lemmas.Option.{same_Some}
use Rattle.irc_names.specs.Lemmas.PlainFacts.{is_true}
use Rattle.irc_names.specs.Tables.{Table, row, fold_cmp}
use Rattle.irc_tables.specs.FoldedRows.{IsInFoldedOrder}
use Rattle.irc_tables.specs.Lemmas.OrderedEntries.{find-there, sorted-below}
use Rattle.irc_relay.specs.Distances.{EndsAreAmong, IsAmong}
use Rattle.irc_relay.specs.Links.{Name, Link, same, toward, distance, AreJoined, IsForest}
use Rattle.irc_relay.specs.Links.{IsNextHop}
use Rattle.irc_relay.specs.Lemmas.TellingNames.{Telling, alike, unlike, tell, same_when}
use Rattle.irc_relay.specs.Lemmas.NextHops.{distance_back, linked_back, next_hop}
use Rattle.irc_routes.specs.declared.server_row.ServerRow.{ServerRow}
use Rattle.irc_routes.specs.Known.{Known, is_behind, is_told_before, others, put_among, row_of}
use Rattle.irc_routes.specs.Known.{servers_told, IsNumbered}
use Rattle.irc_routes.specs.Lemmas.TableRows.{row_passes}
use Rattle.irc_follow.specs.AtRest.{by_distance, AreRight}
use Rattle.irc_follow.specs.SideState.{ItemSetting, info_in, number}
use Rattle.irc_follow.specs.Tree.{Shape, shape, shape_in}
use Rattle.irc_follow.specs.Lemmas.BehindLinks.{row_is_there, row_says, RowIsThere, RowSays}
use Rattle.irc_follow.specs.Lemmas.PlacesOfNames.{one_place}
use Rattle.irc_follow.specs.Lemmas.ToldInTurn.{before_is, told_by_distance}
use Rattle.irc_follow.specs.Lemmas.ToldServers.{any_filtered, any_told}

-- ---- what is told of are rows

abbrev IsRowIn : Known → ServerRow → Type 0
IsRowIn known r = row_of known r.name ≡ Some r

module _ {X : Type 0} (table : Table X) where
  each_behind : (front back : List (List ℕ × X)) → entries table ≡ front ++ back
      → AllByRecursion (λ (e : List ℕ × X). row table e.0 ≡ Some e.1) back
  each_behind front [] is = tt
  each_behind front (e ∷ back) is = (
    get-entries table e.0
        ∙ ap (find fold_cmp e.0) is
        ∙ find-there nat_list_cmp_total e.0 e.1 front back
        (sorted-below nat_list_cmp_total e.0 e.1 front back
        (ap (is_sorted fold_cmp) (sym is) ∙ is_true _ (entries_sorted table))),
    each_behind (front ++ e ∷ []) back (is ∙ sym (append_assoc front (e ∷ []) back)),
  )

module _ (P : ServerRow → Type 0) where
  each_inserted : (rows : List ServerRow) (n : ℕ) (r : ServerRow) → AllByRecursion P rows → P r
      → AllByRecursion P (insert rows n r)
  each_inserted rows zero r all one = (one, all)
  each_inserted [] (suc n) r all one = (one, tt)
  each_inserted (x ∷ rows) (suc n) r all one = (all.0, each_inserted rows n r all.1 one)

  each_told : (so_far rows : List ServerRow) → AllByRecursion P so_far → AllByRecursion P rows
      → AllByRecursion P (fold put_among so_far rows)
  each_told so_far [] told_all all = told_all
  each_told so_far (r ∷ rows) told_all all =
      each_told (put_among so_far r) rows (each_inserted so_far
      (prefix_len (λ other. is_told_before other r) so_far) r told_all all.0) all.1

  each_filtered : (q : ServerRow → Bool) (rows : List ServerRow) → AllByRecursion P rows
      → AllByRecursion P (filter q rows)
  each_filtered q [] all = tt
  each_filtered q (r ∷ rows) all = by (q r) (each_filtered q rows all.1)
    where
      by : (b : Bool) → AllByRecursion P (filter q rows)
          → AllByRecursion P (cond b (r ∷ filter q rows) (filter q rows))
      by true rest = (all.0, rest)
      by false rest = rest

each_row : (known : Known) → IsNumbered known → (es : List (List ℕ × ServerRow))
    → AllByRecursion (λ (e : List ℕ × ServerRow). row known.rows e.0 ≡ Some e.1) es
    → AllByRecursion (IsRowIn known) (map (λ (e : List ℕ × ServerRow). e.1) es)
each_row known numbered [] all = tt
each_row known numbered (e ∷ es) all = (
  ap (row_of known) ((numbered.rows e.0 e.1 all.0).named)
      ∙ all.0,
  each_row known numbered es all.1,
)

pub told_are_rows : (known : Known) (link : ℕ) → IsNumbered known
    → AllByRecursion (IsRowIn known) (servers_told known link)
told_are_rows known link numbered =
    each_told (IsRowIn known) [] (filter (λ r. not (is_behind link r)) (others known)) tt
    (each_filtered (IsRowIn known) (λ r. not (is_behind link r)) (others known)
    (each_row known numbered (entries known.rows)
    (each_behind known.rows [] (entries known.rows) refl)))

-- ---- in turn

-- a server that is told of next, by what is known by then
pub record IsNext (known : Known) (knows : Name → Bool) (r : ServerRow) : Type 0 where
  pub there : row_of known r.name ≡ Some r
  pub unknown : knows r.name ≡ false
  pub uplink_known : knows r.uplink ≡ true

abbrev pub ComeInTurn : Known → (Name → Bool) → List ServerRow → Type 0
ComeInTurn known knows [] = ⊤
ComeInTurn known knows (r ∷ rows) =
    IsNext known knows r × ComeInTurn known (λ x. knows x || same x r.name) rows

abbrev is_named : Name → ServerRow → Bool
is_named x r = same x r.name

before_further : (one other : ServerRow) → is_told_before one other ≡ true
    → one.distance ≤ other.distance
before_further one other is =
    by (nat_lt one.distance other.distance) (nat_eq one.distance other.distance)
    (is_lt (fold_cmp one.name other.name)) refl refl is
  where
    by : (less tie more : Bool) → nat_lt one.distance other.distance ≡ less
        → nat_eq one.distance other.distance ≡ tie → (less || (tie && more)) ≡ true
        → one.distance ≤ other.distance
    by true tie more e f so = grind (arith, nat_tests)
    by false true more e f so = let same_far = eqb-true one.distance other.distance f in omega arith
    by false false more e f so = cc so

not_before_itself : (r : ServerRow) → is_told_before r r ≡ true → ⊥
not_before_itself r is =
    let clash = sym is ∙ before_is r r ∙ ap is_lt (tied_itself nat_list_cmp_total (by_distance r).0)
    in cc clash

module _ (s : ItemSetting) (links : List Link) (routes : Name → Known) (b : Name)
    (forest : IsForest links) (right : AreRight s links routes)
    (among : IsAmong s.names b) where
  abbrev known : Known
  known = routes b

  -- each server of this side is known, or is still to come
  abbrev AreCovered : (Name → Bool) → List ServerRow → Type 0
  AreCovered knows rows =
      (x : Name) → AreJoined links x b → (knows x ≡ true) ⊎ (list_any (is_named x) rows ≡ true)

  row_distance : (r : ServerRow) → IsRowIn known r → r.distance ≡ distance links b r.name
  row_distance r is =
      ap (λ (sh : Shape). sh.distance) (row_says s links routes b right among r.name r is).shape

  later_further : (r : ServerRow) (rows : List ServerRow) (x : Name) → below_all fold_cmp
      (by_distance r).0 (map by_distance rows) ≡ true → AllByRecursion (IsRowIn known) rows
      → list_any (is_named x) rows ≡ true → r.distance ≤ distance links b x
  later_further r [] x below all any = cc any
  later_further r (next ∷ rows) x below all any =
      by (tell x next.name) (later_further r rows x parts.1 all.1)
    where
      parts : (is_lt (fold_cmp (by_distance r).0 (by_distance next).0) ≡ true)
          × (below_all fold_cmp (by_distance r).0 (map by_distance rows) ≡ true)
      parts = and_parts _ _ below

      by : Telling x next.name → (list_any (is_named x) rows ≡ true
          → r.distance ≤ distance links b x) → r.distance ≤ distance links b x
      by (alike _ e) rest =
          subst (λ n. r.distance ≤ n) (row_distance next all.0 ∙ ap (distance links b) (sym e))
          (before_further r next (before_is r next ∙ parts.0))
      by (unlike z _) rest = rest (sym (ap (λ c. c || list_any (is_named x) rows) z) ∙ any)

  still_unknown : (knows : Name → Bool) (r : ServerRow) (rows : List ServerRow)
      → IsRowIn known r → below_all fold_cmp (by_distance r).0 (map by_distance rows) ≡ true
      → AllByRecursion (IsRowIn known) rows
      → AllByRecursion (λ (next : ServerRow). knows next.name ≡ false) rows → AllByRecursion
      (λ (next : ServerRow). (knows next.name || same next.name r.name) ≡ false) rows
  still_unknown knows r [] is below all unknown = tt
  still_unknown knows r (next ∷ rows) is below all unknown = (
    ap (λ c. c || same next.name r.name) unknown.0 ∙ by (tell next.name r.name),
    still_unknown knows r rows is parts.1 all.1 unknown.1,
  )
    where
      parts : (is_lt (fold_cmp (by_distance r).0 (by_distance next).0) ≡ true)
          × (below_all fold_cmp (by_distance r).0 (map by_distance rows) ≡ true)
      parts = and_parts _ _ below

      by : Telling next.name r.name → same next.name r.name ≡ false
      by (alike _ e) =
          let one : next ≡ r = same_Some next r (sym all.0 ∙ ap (row_of known) e ∙ is) in
          absurd (not_before_itself r
          (subst (λ n. is_told_before r n ≡ true) one (before_is r next ∙ parts.0)))
      by (unlike z _) = z

  covered_now : (knows : Name → Bool) (r : ServerRow) (rows : List ServerRow)
      → AreCovered knows (r ∷ rows) → AreCovered (λ x. knows x || same x r.name) rows
  covered_now knows r rows covered x joined = by (covered x joined) (tell x r.name)
    where
      by : (knows x ≡ true) ⊎ ((same x r.name || list_any (is_named x) rows) ≡ true)
          → Telling x r.name → ((knows x || same x r.name) ≡ true)
          ⊎ (list_any (is_named x) rows ≡ true)
      by (inl so) _ = inl (ap (λ c. c || same x r.name) so)
      by (inr any) (alike z _) = inl (or_right (knows x) (same x r.name) z)
      by (inr any) (unlike z _) = inr (sym (ap (λ c. c || list_any (is_named x) rows) z) ∙ any)

  -- the server that it is linked to is nearer
  uplink_first : (knows : Name → Bool) (r : ServerRow) (rows : List ServerRow)
      → IsRowIn known r → below_all fold_cmp (by_distance r).0 (map by_distance rows) ≡ true
      → AllByRecursion (IsRowIn known) rows → AreCovered knows (r ∷ rows) → knows r.uplink ≡ true
  uplink_first knows r rows is below all covered = by (covered r.uplink
      (subst (λ u. AreJoined links u b) (sym up) hop.joined)) (tell r.uplink r.name)
    where
      says : RowSays s links b r.name r
      says = row_says s links routes b right among r.name r is

      up : r.uplink ≡ toward links r.name b
      up = ap (λ (sh : Shape). sh.uplink) says.shape

      hop : IsNextHop links r.name b (toward links r.name b)
      hop = next_hop links r.name b forest says.joined says.apart

      further : r.distance ≡ suc (distance links b r.uplink)
      further =
          row_distance r is
          ∙ distance_back links b r.name forest (sym says.joined)
          ∙ hop.nearer
          ∙ ap (λ u. suc (distance links u b)) (sym up)
          ∙ ap suc (distance_back links r.uplink b forest
          (subst (λ u. AreJoined links u b) (sym up) hop.joined))

      by : (knows r.uplink ≡ true) ⊎ ((same r.uplink r.name || list_any (is_named r.uplink) rows)
          ≡ true) → Telling r.uplink r.name → knows r.uplink ≡ true
      by (inl so) _ = so
      by (inr any) (alike _ e) =
          let at = row_distance r is ∙ ap (distance links b) (sym e) in
          let far = further in
          absurd (let never : ⊥ = omega arith in never)
      by (inr any) (unlike z _) =
          let least = later_further r rows r.uplink below all
          (sym (ap (λ c. c || list_any (is_named r.uplink) rows) z) ∙ any) in
          let far = further in
          absurd (let never : ⊥ = omega arith in never)

  in_turn : (knows : Name → Bool) (rows : List ServerRow)
      → is_sorted fold_cmp (map by_distance rows) ≡ true → AllByRecursion (IsRowIn known) rows
      → AllByRecursion (λ (r : ServerRow). knows r.name ≡ false) rows → AreCovered knows rows
      → ComeInTurn known knows rows
  in_turn knows [] sorted all unknown covered = tt
  in_turn knows (r ∷ rows) sorted all unknown covered =
      let parts = and_parts _ _ sorted in (
        record {
          there = all.0;
          unknown = unknown.0;
          uplink_known = uplink_first knows r rows all.0 parts.0 all.1 covered;
        },
        in_turn (λ x. knows x || same x r.name) rows parts.1 all.1
            (still_unknown knows r rows all.0 parts.0 all.1 unknown.1)
            (covered_now knows r rows covered),
      )

  -- ---- to a neighbour that is not of this side

  module _ (ends : EndsAreAmong s.names links) (t : Name) (t_among : IsAmong s.names t)
      (apart : AreJoined links t b → ⊥) where
    not_behind : (x : Name) (r : ServerRow)
        → shape r ≡ shape_in s.names (info_in s.settings) links b x → AreJoined links x b → x ≢ b
        → is_behind (number s t) r ≡ false
    not_behind x r shape_is joined two = by (is_behind (number s t) r) refl
      where
        hop : IsNextHop links b x (toward links b x)
        hop = next_hop links b x forest (sym joined) (λ e. two (sym e))

        by : (c : Bool) → is_behind (number s t) r ≡ c → c ≡ false
        by false is = refl
        by true is =
            let way : toward links b x ≡ t =
            one_place s.names (toward links b x) t
            (ends (toward links b x) b (linked_back links b (toward links b x) hop.linked))
            (sym (ap (λ (sh : Shape). sh.link) shape_is) ∙ eqb-true r.link (number s t) is) in
            absurd (apart (subst (λ v. AreJoined links v b) way (hop.joined ∙ joined)))

    told_of : (x : Name) → AreJoined links x b → x ≢ b
        → list_any (is_named x) (servers_told known (number s t)) ≡ true
    told_of x joined two =
        any_told (is_named x) [] (filter (λ r. not (is_behind (number s t) r)) (others known))
        ∙ or-false
        (list_any (is_named x) (filter (λ r. not (is_behind (number s t) r)) (others known)))
        ∙ any_filtered (is_named x) (λ r. not (is_behind (number s t) r)) (others known)
        ∙ row_passes (λ r. not (is_behind (number s t) r)
        && same x r.name) known.rows x found.r found.is
        (ap (λ c. not c && same x found.r.name) (not_behind x found.r found.shape joined two)
        ∙ same_when x found.r.name (sym ((right.numbered b among).rows x found.r found.is).named))
      where
        found : RowIsThere s known links b x
        found = row_is_there s links routes b right among x joined two

    -- whoever knows of this side no more than b is told of the others in turn
    pub come_in_turn : (knows : Name → Bool) → knows b ≡ true → ((x : Name) → AreJoined links x b
        → x ≢ b → knows x ≡ false) → ComeInTurn known knows (servers_told known (number s t))
    unfolding IsInFoldedOrder
    come_in_turn knows b_known no_other = in_turn knows (servers_told known (number s t))
        (told_by_distance known (number s t) (right.numbered b among))
        (told_are_rows known (number s t) (right.numbered b among))
        (unknown_all (servers_told known (number s t))
        (told_are_rows known (number s t) (right.numbered b among)))
        (λ x joined. by x joined (tell x b))
      where
        unknown_all : (rows : List ServerRow) → AllByRecursion (IsRowIn known) rows
            → AllByRecursion (λ (r : ServerRow). knows r.name ≡ false) rows
        unknown_all [] all = tt
        unknown_all (r ∷ rows) all =
            let says = row_says s links routes b right among r.name r all.0 in
            (no_other r.name says.joined says.apart, unknown_all rows all.1)

        by : (x : Name) → AreJoined links x b → Telling x b
            → (knows x ≡ true) ⊎ (list_any (is_named x) (servers_told known (number s t)) ≡ true)
        by x joined (alike _ e) = inl (ap knows e ∙ b_known)
        by x joined (unlike _ two) = inr (told_of x joined two)
