-- An end of a new link tells the other one of just the servers of its own side.
use Rattle.std.proofs.Common.{◌≡◌, ◌≢◌, Bool, true, false, not, ◌&&◌, ◌||◌, List, [], filter, refl}
use Rattle.std.proofs.Common.{sym, ◌∙◌, ap, subst}
use Rattle.std.proofs.lemmas.Bool.{and_parts, and_from, eqb-true}
use Rattle.std.specs.Cmp.Lexicographic.{bytes_decides}
use Rattle.std.specs.List.{list_any}
use Rattle.std.proofs.Math.Bool.{and-true, or-false}
use Rattle.std.specs.Cmp.{both_ways}
use Rattle.irc_relay.specs.Distances.{EndsAreAmong, IsAmong}
use Rattle.irc_relay.specs.Links.{Name, same, Link, joined, part, toward, AreJoined, IsForest}
use Rattle.irc_relay.specs.Lemmas.TellingNames.{Telling, alike, unlike, tell, same_unless}
use Rattle.irc_relay.specs.Lemmas.TellingNames.{same_when}
use Rattle.irc_relay.specs.Lemmas.NextHops.{linked_back, linked_joined, next_hop}
use Rattle.irc_routes.specs.declared.server_row.ServerRow.{ServerRow}
use Rattle.irc_routes.specs.Known.{Known, is_behind, others, servers_told}
use Rattle.irc_routes.specs.Lemmas.TableRows.{row_passes, some_stands}
use Rattle.irc_follow.specs.AtRest.{AreRight}
use Rattle.irc_follow.specs.SideState.{ItemSetting, info_in, number}
use Rattle.irc_follow.specs.Tree.{Shape, shape, shape_in}
use Rattle.irc_follow.specs.Lemmas.SideAtRest.{joined_so}
use Rattle.irc_follow.specs.Lemmas.BehindLinks.{joined_test, row_is_there, row_says}
use Rattle.irc_follow.specs.Lemmas.PlacesOfNames.{one_place}
use Rattle.irc_follow.specs.Lemmas.ToldServers.{any_filtered, any_told}

-- b tells a, which it is not joined to
module _ (s : ItemSetting) (links : List Link) (routes : Name → Known) (b a x : Name)
    (forest : IsForest links) (ends : EndsAreAmong s.names links)
    (right : AreRight s links routes) (among : IsAmong s.names b)
    (apart : AreJoined links b a → ⊥) where
  abbrev is_told : ServerRow → Bool
  is_told r = not (is_behind (number s a) r) && same x r.name

  as_rows : list_any (λ (r : ServerRow). same x r.name) (servers_told (routes b) (number s a))
      ≡ list_any is_told (others (routes b))
  as_rows =
      any_told (λ r. same x r.name) []
      (filter (λ r. not (is_behind (number s a) r)) (others (routes b)))
      ∙ or-false (list_any (λ r. same x r.name)
      (filter (λ r. not (is_behind (number s a) r)) (others (routes b))))
      ∙ any_filtered (λ r. same x r.name) (λ r. not (is_behind (number s a) r)) (others (routes b))

  forth : list_any is_told (others (routes b)) ≡ true → (joined links x b && not (same x b)) ≡ true
  forth any =
      let at = some_stands is_told (routes b).rows any in
      let parts = and_parts _ _ at.passes in
      let named : at.name ≡ x = sym ((right.numbered b among).rows at.name at.value at.there).named
      ∙ sym ((bytes_decides x at.value.name).0 parts.1) in
      let says = row_says s links routes b right among at.name at.value at.there in
      and_from _ _ (joined_test links x b (subst (λ n. AreJoined links n b) named says.joined))
      (ap not (same_unless x b (subst (λ n. n ≢ b) named says.apart)))

  -- nobody is behind a link that is not there yet
  elsewhere : AreJoined links x b → x ≢ b → (r : ServerRow) → shape r ≡ shape_in s.names
      (info_in s.settings) links b x → (c : Bool) → is_behind (number s a) r ≡ c → not c ≡ true
  elsewhere here two r shape_is false is = refl
  elsewhere here two r shape_is true is =
      let hop = next_hop links b x forest (sym here) (λ e. two (sym e)) in
      let way : toward links b x ≡ a =
      one_place s.names (toward links b x) a
      (ends (toward links b x) b (linked_back links b (toward links b x) hop.linked))
      (sym (ap (λ (sh : Shape). sh.link) shape_is) ∙ eqb-true r.link (number s a) is) in
      absurd (apart
      (subst (AreJoined links b) way (linked_joined links b (toward links b x) hop.linked)))

  back : AreJoined links x b → x ≢ b → list_any is_told (others (routes b)) ≡ true
  back here two =
      let found = row_is_there s links routes b right among x here two in
      row_passes is_told (routes b).rows x found.r found.is
      (and_from _ _ (elsewhere here two found.r found.shape (is_behind (number s a) found.r) refl)
      (same_when x found.r.name (sym ((right.numbered b among).rows x found.r found.is).named)))

  back_from : Telling x b → (c : Bool) → joined links x b ≡ c → (c && not (same x b)) ≡ true
      → list_any is_told (others (routes b)) ≡ true
  back_from (unlike is two) true here so = back (joined_so links x b here) two
  back_from (alike is e) true here so = absurd (let none = ap not (sym is) ∙ so in cc none)
  back_from other false here so = absurd (cc so)

  told_are_others : list_any (λ (r : ServerRow). same x r.name)
      (servers_told (routes b) (number s a)) ≡ (joined links x b && not (same x b))
  told_are_others = as_rows ∙ both_ways _ _ forth (back_from (tell x b) (joined links x b) refl)

  -- with b itself they are all that are joined to it
  pub told_are_that_side : (same x b || list_any (λ (r : ServerRow). same x r.name)
      (servers_told (routes b) (number s a))) ≡ joined links x b
  told_are_that_side = ap (λ c. same x b || c) told_are_others ∙ by (tell x b)
    where
      by : Telling x b → (same x b || (joined links x b && not (same x b))) ≡ joined links x b
      by (alike is e) = ap (λ c. c || (joined links x b && not c)) is
          ∙ sym (joined_test links x b (ap (λ y. part links y) e))
      by (unlike is two) =
          ap (λ c. c || (joined links x b && not c)) is ∙ and-true (joined links x b)
