-- Behind a link of a server are just the servers of that side.
use Rattle.std.proofs.Common.{◌≡◌, ◌≢◌, Bool, true, false, cond, not, ◌&&◌, Option, Some, None}
use Rattle.std.proofs.Common.{List, refl, sym, ◌∙◌, ap, subst, option_map}
use Rattle.std.proofs.lemmas.Bool.{eqb-true, eq-eqb}
use Rattle.std.specs.List.{list_any}
use Rattle.std.specs.Option.{option_and_then}
use Rattle.std.proofs.lemmas.Option.{same_Some}
use Rattle.irc_names.specs.Tables.{row, each, tabulate}
use Rattle.irc_names.specs.TableLaws.{row-each, row-tabulate, same_fold}
use Rattle.irc_relay.specs.Distances.{EndsAreAmong, IsAmong}
use Rattle.irc_relay.specs.Links.{Name, same, Link, joined, links_without, toward, AreJoined}
use Rattle.irc_relay.specs.Links.{AreLinked, HasSides, IsForest, IsLeft}
use Rattle.irc_relay.specs.Lemmas.TellingNames.{Telling, alike, unlike, tell, same_unless}
use Rattle.irc_relay.specs.Lemmas.NextHops.{linked_back, linked_joined, next_hop}
use Rattle.irc_relay.specs.Lemmas.LinkTakenOut.{sides, taken_out, tests_tell, without_turned}
use Rattle.irc_routes.specs.declared.server_row.ServerRow.{ServerRow}
use Rattle.irc_routes.specs.Known.{Known, is_behind, row_of}
use Rattle.irc_world.specs.World.{is_server}
use Rattle.irc_follow.specs.Tree.{Shape, index_in, shape, shape_in}
use Rattle.irc_follow.specs.SideState.{ItemSetting, info_in, number, IsItemSetting}
use Rattle.irc_follow.specs.AtRest.{AreRight, BehindIsThatSide}
use Rattle.irc_follow.specs.Lemmas.SideAtRest.{joined_among, joined_so}
use Rattle.irc_follow.specs.Lemmas.NamedRows.{if_passes, keys_of_set, listed, mark, names_of}
use Rattle.irc_follow.specs.Lemmas.NamedRows.{names_passing, same_mark}
use Rattle.irc_follow.specs.Lemmas.PlacesOfNames.{one_place}

pub joined_test : (links : List Link) (x t : Name) → AreJoined links x t → joined links x t ≡ true
joined_test links x t so = (tests_tell links x t x).1.1 so

-- what a row says of its server, where all servers' routes are right
pub record RowSays (s : ItemSetting) (links : List Link) (t x : Name) (r : ServerRow) : Type 0 where
  pub shape : shape r ≡ shape_in s.names (info_in s.settings) links t x
  pub joined : AreJoined links x t
  pub apart : x ≢ t

-- where there is a row
pub record RowIsThere (s : ItemSetting) (known : Known) (links : List Link)
    (t x : Name) : Type 0 where
  pub r : ServerRow
  pub is : row_of known x ≡ Some r
  pub shape : shape r ≡ shape_in s.names (info_in s.settings) links t x

module _ (s : ItemSetting) (links : List Link) (routes : Name → Known) (t : Name)
    (right : AreRight s links routes) (among : IsAmong s.names t) where
  abbrev due : Name → Shape
  due x = shape_in s.names (info_in s.settings) links t x

  pub row_says : (x : Name) (r : ServerRow) → row_of (routes t) x ≡ Some r → RowSays s links t x r
  row_says x r is =
      by (joined links x t) (tell x t) refl (ap (option_map shape) (sym is) ∙ right.rows t x among)
    where
      by : (b : Bool) → Telling x t → joined links x t ≡ b → Some (shape r)
          ≡ cond (joined links x t && not (same x t)) (Some (due x)) None → RowSays s links t x r
      by true (unlike z two) so says = record {
        shape = same_Some (shape r) (due x)
            (says ∙ (λ i. cond (so i && not (z i)) (Some (due x)) None));
        joined = joined_so links x t so;
        apart = two;
      }
      by true (alike z e) so says =
          absurd (let none = says ∙ (λ i. cond (so i && not (z i)) (Some (due x)) None) in cc none)
      by false other so says = absurd (let none = says
          ∙ ap (λ b. cond (b && not (same x t)) (Some (due x)) None) so in cc none)

  pub row_is_there : (x : Name) → AreJoined links x t → x ≢ t → RowIsThere s (routes t) links t x
  row_is_there x so two =
      by (row_of (routes t) x) refl
      (right.rows t x among
      ∙ (λ i. cond (joined_test links x t so i && not (same_unless x t two i)) (Some (due x)) None))
    where
      by : (o : Option ServerRow) → row_of (routes t) x ≡ o → option_map shape o ≡ Some (due x)
          → RowIsThere s (routes t) links t x
      by None is says = absurd (cc says)
      by (Some r) is says = record { r = r; is = is; shape = same_Some (shape r) (due x) says }

-- a server of that side is behind the link, and is no other
module _ (s : ItemSetting) (links : List Link) (routes : Name → Known) (t u : Name)
    (fixed : IsItemSetting s)
    (forest : IsForest links) (ends : EndsAreAmong s.names links)
    (right : AreRight s links routes) (linked : AreLinked links t u) where
  t_among : IsAmong s.names t
  t_among = ends t u linked

  u_among : IsAmong s.names u
  u_among = ends u t (linked_back links t u linked)

  abbrev left : List Link
  left = links_without links t u

  turned : links_without links u t ≡ left
  turned = sym (without_turned links t u)

  of_link : HasSides links u t
  of_link = sides links u t forest (linked_back links t u linked)

  rest : IsLeft left links t u
  rest = taken_out links t u forest linked

  abbrev passing : ServerRow → Bool
  passing r = is_behind (number s u) r

  abbrev test : Name → Option (Unit {0})
  test q = cond (joined left u q) (Some (tt {0})) None

  there_among : (q : Name) → AreJoined links q t → IsAmong s.names q
  there_among q so = joined_among s.names links q t forest ends t_among so

  known_listed : (q : Name) → IsAmong s.names q
      → list_any (same_fold q) (names_of s.settings) ≡ true
  known_listed q known = listed s.settings q ∙ fixed.listed q ∙ known

  forth_row : (q : Name) (r : ServerRow) → row_of (routes t) q ≡ Some r → is_behind (number s u) r
      ≡ true → cond (list_any (same_fold q) (names_of s.settings)) (test q) None ≡ Some (tt {0})
  forth_row q r is behind_it =
      let says = row_says s links routes t right t_among q r is in
      let known = there_among q says.joined in
      let hop = next_hop links t q forest (sym says.joined) (λ e. says.apart (sym e)) in
      let same_place : index_in s.names (toward links t q) ≡ index_in s.names u =
      sym (ap (λ (x : Shape). x.link) says.shape) ∙ eqb-true r.link (number s u) behind_it in
      let way : toward links t q ≡ u =
      one_place s.names (toward links t q) u (ends (toward links t q) t
      (linked_back links t (toward links t q) hop.linked)) same_place in
      let on_side : AreJoined left q u =
      subst (λ ls. AreJoined ls q u) turned
      (of_link.only_behind q (says.joined ∙ linked_joined links t u linked) way) in
      (λ i. cond (known_listed q known i)
      (cond (joined_test left u q (sym on_side) i) (Some (tt {0})) None) None)

  back_row : (q : Name) → is_server s.settings q ≡ true → AreJoined left q u
      → option_and_then (λ (x : ServerRow). Some (mark x)) (option_and_then
      (if_passes (λ (r : ServerRow). r.name) passing) (row_of (routes t) q)) ≡ Some (tt {0})
  back_row q known on_side =
      let together : AreJoined links q t =
      (rest.kept q u on_side).joined ∙ sym (linked_joined links t u linked) in
      let two : q ≢ t = λ e. rest.parted (subst (λ x. AreJoined left x u) e on_side) in
      let found = row_is_there s links routes t right t_among q together two in
      let way : toward links t q ≡ u =
      of_link.behind q (subst (λ ls. AreJoined ls q u) (sym turned) on_side) in
      let behind_it : is_behind (number s u) found.r ≡ true =
      eq-eqb found.r.link (number s u) (ap (λ (x : Shape). x.link) found.shape
      ∙ ap (index_in s.names) way) in
      ap (λ o. option_and_then (λ (x : ServerRow). Some (mark x))
      (option_and_then (if_passes (λ (r : ServerRow). r.name) passing) o)) found.is
      ∙ ap (λ b. option_and_then (λ (x : ServerRow). Some (mark x)) (cond b (Some found.r) None))
      behind_it

  -- a server of a name is behind the link just where it is of that side
  one_server : (q : Name) → option_and_then (λ (x : ServerRow). Some (mark x))
      (row (each (if_passes (λ (r : ServerRow). r.name) passing) (routes t).rows) q)
      ≡ row (tabulate (names_of s.settings) test) q
  one_server q =
      ap (option_and_then (λ (x : ServerRow). Some (mark x)))
      (row-each (if_passes (λ (r : ServerRow). r.name) passing) (routes t).rows q)
      ∙ same_mark _ _ (forth (row_of (routes t) q) refl)
      (back (list_any (same_fold q) (names_of s.settings)) (joined left u q) refl refl)
      ∙ sym (row-tabulate (names_of s.settings) test q)
    where
      forth : (o : Option ServerRow) → row_of (routes t) q ≡ o
          → option_and_then (λ (x : ServerRow). Some (mark x)) (option_and_then
          (if_passes (λ (r : ServerRow). r.name) passing) (row_of (routes t) q)) ≡ Some (tt {0})
          → cond (list_any (same_fold q) (names_of s.settings)) (test q) None ≡ Some (tt {0})
      forth None is some = absurd (let none =
          sym (ap (λ o. option_and_then (λ (x : ServerRow). Some (mark x)) (option_and_then
          (if_passes (λ (r : ServerRow). r.name) passing) o)) is) ∙ some in cc none)
      forth (Some r) is some = by (passing r) refl
        where
          by : (b : Bool) → passing r ≡ b
              → cond (list_any (same_fold q) (names_of s.settings)) (test q) None ≡ Some (tt {0})
          by true passes = forth_row q r is passes
          by false fails = absurd (let none =
              sym (ap (λ o. option_and_then (λ (x : ServerRow). Some (mark x))
              (option_and_then (if_passes (λ (r : ServerRow). r.name) passing) o)) is
              ∙ ap (λ b. option_and_then (λ (x : ServerRow). Some (mark x))
              (cond b (Some r) None)) fails) ∙ some in cc none)

      back : (b c : Bool) → list_any (same_fold q) (names_of s.settings) ≡ b → joined left u q ≡ c
          → cond (list_any (same_fold q) (names_of s.settings)) (test q) None ≡ Some (tt {0})
          → option_and_then (λ (x : ServerRow). Some (mark x)) (option_and_then
          (if_passes (λ (r : ServerRow). r.name) passing) (row_of (routes t) q)) ≡ Some (tt {0})
      back true true known so some =
          back_row q (sym (listed s.settings q) ∙ known) (sym (joined_so left u q so))
      back true false known so some = absurd (let none = sym
          (λ i. cond (known i) (cond (so i) (Some (tt {0})) None) None) ∙ some in cc none)
      back false c known so some =
          absurd (let none = sym (ap (λ b. cond b (test q) None) known) ∙ some in cc none)

pub behind_is_that_side : BehindIsThatSide
behind_is_that_side s links routes t u fixed forest ends right linked =
    names_passing (λ (r : ServerRow). r.name) (routes t).rows (is_behind (number s u))
    (λ q r is. ((right.numbered t (ends t u linked)).rows q r is).named)
    ∙ keys_of_set (each (if_passes (λ (r : ServerRow). r.name) (is_behind (number s u)))
    (routes t).rows)
    (tabulate (names_of s.settings) (test s links routes t u fixed forest ends right linked))
    (one_server s links routes t u fixed forest ends right linked)
