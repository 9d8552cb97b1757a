-- The neighbour on a link is told of the servers of this side.
use Rattle.std.proofs.Common.{◌≡◌, ◌≢◌, inl, inr, ℕ, zero, suc, Bool, true, false, cond, not, ◌&&◌}
use Rattle.std.proofs.Common.{◌||◌, List, [], ◌∷◌, map, filter, refl, sym, ◌∙◌, ap, subst}
use Rattle.std.proofs.lemmas.Bool.{and_parts, and_from, eqb-true, eq-eqb, not-true, true≢false}
use Rattle.std.specs.Cmp.Lexicographic.{bytes_decides}
use Rattle.std.specs.List.{fold, insert, list_any, prefix_len}
use Rattle.std.proofs.Math.Bool.{or-false}
use Rattle.std.specs.Cmp.{both_ways}
use Rattle.irc_names.specs.Lemmas.PlainFacts.{or_swapped}
use Rattle.irc_relay.specs.Distances.{EndsAreAmong, IsAmong}
use Rattle.irc_relay.specs.Links.{Name, same, Link, joined, links_without, toward, AreJoined}
use Rattle.irc_relay.specs.Links.{AreLinked, HasSides, IsForest, IsLeft}
use Rattle.irc_relay.specs.Lemmas.TellingNames.{same_unless, same_when}
use Rattle.irc_relay.specs.Lemmas.NextHops.{linked_back, linked_joined, next_hop}
use Rattle.irc_relay.specs.Lemmas.LinkTakenOut.{sides, taken_out}
use Rattle.irc_routes.specs.declared.server_row.ServerRow.{ServerRow}
use Rattle.irc_routes.specs.Known.{Known, is_behind, is_told_before, others, put_among}
use Rattle.irc_routes.specs.Known.{servers_told}
use Rattle.irc_routes.specs.Lemmas.TableRows.{row_passes, some_stands}
use Rattle.irc_follow.specs.Tree.{Shape, index_in, shape, shape_in}
use Rattle.irc_follow.specs.SideState.{ItemSetting, info_in, number}
use Rattle.irc_follow.specs.AtRest.{AreRight, ToldAreThisSide}
use Rattle.irc_follow.specs.Lemmas.SideAtRest.{joined_so}
use Rattle.irc_follow.specs.Lemmas.BehindLinks.{joined_test, row_is_there, row_says}
use Rattle.irc_follow.specs.Lemmas.PlacesOfNames.{one_place}

module _ (p : ServerRow → Bool) where
  any_inserted : (rows : List ServerRow) (n : ℕ) (r : ServerRow)
      → list_any p (insert rows n r) ≡ (p r || list_any p rows)
  any_inserted rows zero r = refl
  any_inserted [] (suc n) r = refl
  any_inserted (x ∷ rows) (suc n) r =
      ap (λ b. p x || b) (any_inserted rows n r) ∙ or_swapped (p x) (p r) (list_any p rows)

  pub any_told : (told rows : List ServerRow)
      → list_any p (fold put_among told rows) ≡ (list_any p rows || list_any p told)
  any_told told [] = refl
  any_told told (r ∷ rows) =
      any_told (put_among told r) rows
      ∙ ap (λ b. list_any p rows || b)
      (any_inserted told (prefix_len (λ other. is_told_before other r) told) r)
      ∙ turned (list_any p rows) (p r) (list_any p told)
    where
      turned : (a b c : Bool) → (a || (b || c)) ≡ ((b || a) || c)
      turned true true c = refl
      turned true false c = refl
      turned false true c = refl
      turned false false c = refl

  pub any_filtered : (q : ServerRow → Bool) (rows : List ServerRow)
      → list_any p (filter q rows) ≡ list_any (λ r. q r && p r) rows
  any_filtered q [] = refl
  any_filtered q (r ∷ rows) = by (q r) (any_filtered q rows)
    where
      by : (b : Bool) → list_any p (filter q rows) ≡ list_any (λ x. q x && p x) rows
          → list_any p (cond b (r ∷ filter q rows) (filter q rows))
          ≡ ((b && p r) || list_any (λ x. q x && p x) rows)
      by true rest = ap (λ b. p r || b) rest
      by false rest = rest

pub any_named : (test : Name → Bool) (rows : List ServerRow) → list_any test
    (map (λ (r : ServerRow). r.name) rows) ≡ list_any (λ (r : ServerRow). test r.name) rows
any_named test [] = refl
any_named test (r ∷ rows) = ap (λ b. test r.name || b) (any_named test rows)

module _ (s : ItemSetting) (links : List Link) (routes : Name → Known) (t u x : Name)
    (forest : IsForest links) (ends : EndsAreAmong s.names links)
    (right : AreRight s links routes) (linked : AreLinked links t u) where
  t_among : IsAmong s.names t
  t_among = ends t u linked

  abbrev left : List Link
  left = links_without links t u

  far_side : HasSides links u t
  far_side = sides links u t forest (linked_back links t u linked)

  rest : IsLeft left links t u
  rest = taken_out links t u forest linked

  abbrev is_told : ServerRow → Bool
  is_told r = not (is_behind (number s u) r) && same x r.name

  as_rows : list_any (same x) (map (λ (r : ServerRow). r.name)
      (servers_told (routes t) (number s u))) ≡ list_any is_told (others (routes t))
  as_rows =
      any_named (same x) (servers_told (routes t) (number s u))
      ∙ any_told (λ r. same x r.name) []
      (filter (λ r. not (is_behind (number s u) r)) (others (routes t)))
      ∙ or-false (list_any (λ r. same x r.name)
      (filter (λ r. not (is_behind (number s u) r)) (others (routes t))))
      ∙ any_filtered (λ r. same x r.name) (λ r. not (is_behind (number s u) r)) (others (routes t))

  forth : list_any is_told (others (routes t)) ≡ true → (joined left x t && not (same x t)) ≡ true
  forth any =
      let at = some_stands is_told (routes t).rows any in
      let parts = and_parts _ _ at.passes in
      let named : at.name ≡ x =
      sym ((right.numbered t t_among).rows at.name at.value at.there).named
      ∙ sym ((bytes_decides x at.value.name).0 parts.1) in
      let says = row_says s links routes t right t_among at.name at.value at.there in
      let together : AreJoined links x t = subst (λ n. AreJoined links n t) named says.joined in
      let two : x ≢ t = subst (λ n. n ≢ t) named says.apart in
      let not_over : toward links t x ≡ u → ⊥ =
      λ way. true≢false (sym (eq-eqb at.value.link (number s u)
      (ap (λ (sh : Shape). sh.link) says.shape ∙ ap (λ n. index_in s.names (toward links t n)) named
      ∙ ap (index_in s.names) way)) ∙ not-true (is_behind (number s u) at.value) parts.0) in
      and_from _ _ (joined_test left x t (this_side together not_over))
      (ap not (same_unless x t two))
    where
      this_side : AreJoined links x t → (toward links t x ≡ u → ⊥) → AreJoined left x t
      this_side together not_over = elim ((sides links t u forest linked).one x together) [
        | inl here ↦ here
        | inr there ↦ absurd (not_over (far_side.behind x there))
      ]

  -- a server of this side is not behind the link
  elsewhere : AreJoined left x t → (r : ServerRow)
      → shape r ≡ shape_in s.names (info_in s.settings) links t x → x ≢ t → (b : Bool)
      → is_behind (number s u) r ≡ b → not b ≡ true
  elsewhere here r shape_is two false is = refl
  elsewhere here r shape_is two true is =
      let together = (rest.kept x t here).joined in
      let hop = next_hop links t x forest (sym together) (λ e. two (sym e)) in
      let way : toward links t x ≡ u =
      one_place s.names (toward links t x) u
      (ends (toward links t x) t (linked_back links t (toward links t x) hop.linked))
      (sym (ap (λ (sh : Shape). sh.link) shape_is) ∙ eqb-true r.link (number s u) is) in
      absurd ((sides links t u forest linked).not_both x here
      (far_side.only_behind x (together ∙ linked_joined links t u linked) way))

  back : AreJoined left x t → x ≢ t → list_any is_told (others (routes t)) ≡ true
  back here two =
      let found = row_is_there s links routes t right t_among x (rest.kept x t here).joined two in
      row_passes is_told (routes t).rows x found.r found.is
      (and_from _ _ (elsewhere here found.r found.shape two (is_behind (number s u) found.r) refl)
      (same_when x found.r.name (sym ((right.numbered t t_among).rows x found.r found.is).named)))

  back_from : (b c : Bool) → joined left x t ≡ b → same x t ≡ c → (b && not c) ≡ true
      → list_any is_told (others (routes t)) ≡ true
  back_from true false here two so =
      back (joined_so left x t here) (λ e. let clash = sym two ∙ same_when x t e in cc clash)
  back_from true true here two so = absurd (cc so)
  back_from false c here two so = absurd (cc so)

pub told_are_this_side : ToldAreThisSide
told_are_this_side s links routes t u x forest ends right linked =
    as_rows s links routes t u x forest ends right linked
    ∙ both_ways _ _ (forth s links routes t u x forest ends right linked)
    (back_from s links routes t u x forest ends right linked (joined (links_without links t u) x t)
    (same x t) refl refl)
