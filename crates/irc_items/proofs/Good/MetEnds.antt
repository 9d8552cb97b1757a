-- The ends of the links of a server that fits its side: each is to a server that it is linked to,
-- and to a known one nothing is owed.
use Rattle.std.proofs.Common.{◌≡◌, ◌≢◌, inr, ℕ, Bool, true, false, not, ◌&&◌, ◌||◌, Option, Some}
use Rattle.std.proofs.Common.{None, List, [], ◌∷◌, ◌++◌, append-nil, filter, map, nat_eq}
use Rattle.std.proofs.Common.{option_map, is_some, refl, sym, ◌∙◌, ap, subst, if◌then◌else◌}
use Rattle.std.proofs.lemmas.Bool.{eqb-true}
use Rattle.std.specs.FinMap.{get}
use Rattle.std.specs.List.{cons_option, filter_map, list_any}
use Rattle.std.specs.Option.{option_map_or}
use Rattle.std.proofs.lemmas.Option.{same_Some}
use Rattle.irc_line.specs.Messages.{line_text}
use Rattle.irc_stage.specs.Ends.{is_met}
use Rattle.irc_stage.specs.Ways.{links_toward, met_links, ways_toward}
use Rattle.irc_relay.specs.Distances.{IsAmong}
use Rattle.irc_relay.specs.Links.{Name, Link, linked, same, toward, AreLinked}
use Rattle.irc_relay.specs.Lemmas.TellingNames.{Telling, alike, unlike, tell}
use Rattle.irc_relay.specs.Lemmas.NextHops.{linked_back, next_hop}
use Rattle.irc_relay.specs.Lemmas.LinkTakenOut.{tests_tell}
use Rattle.irc_routes.specs.declared.server_row.ServerRow.{ServerRow}
use Rattle.irc_routes.specs.Known.{row_of}
use Rattle.irc_routes.specs.Known as of_known
use Rattle.irc_server.specs.Owed.{lines_to}
use Rattle.irc_stage.specs.EffectTold.{Served}
use Rattle.irc_stage.specs.View.{End, View}
use Rattle.irc_server.specs.LinkServed.{owed_by}
use Rattle.irc_follow.specs.Tree.{Shape, shape, shape_in}
use Rattle.irc_follow.specs.SideState.{ItemSetting, info_in, is_home_of, number, IsSoundSide}
use Rattle.irc_follow.specs.SideState as of_side
use Rattle.irc_follow.specs.Fits.{far_of, Fits}
use Rattle.irc_follow.specs.Says.{lines_on}
use Rattle.irc_follow.specs.Lemmas.LinesOnLinks.{among_keys, among_met}
use Rattle.irc_follow.specs.Lemmas.PlacesOfNames.{one_place}
use Rattle.irc_items.specs.GoodLines.{closings, IsGoodReply, PaysNothing}
use Rattle.irc_items.specs.Relayed.{is_met_with, owed_at, owed_to}
use Rattle.irc_items.proofs.Good.PutOut.{is_on}

-- a server has the same neighbours by these links as by those
pub record AreLinkedAlike (links forest : List Link) (t : Name) : Type 0 where
  pub there : (u : Name) → AreLinked links t u → AreLinked forest t u
  pub back : (u : Name) → AreLinked forest t u → AreLinked links t u

pub linked_as_itself : (links : List Link) (t : Name) → AreLinkedAlike links links t
linked_as_itself links t = record { there = λ u near. near; back = λ u near. near }

module _ (s : ItemSetting) (links : List Link) (t : Name) (w : of_side.SideState) (view : View)
    (fits : Fits s t w view)
    (forest : AreLinkedAlike links w.tree.forest t) where
  sound : IsSoundSide s w
  sound = fits.sound

  -- ---- an end that is there

  module _ (u : Name) (end : End) (there : get view.ends (number s u) ≡ Some end) where
    end_among : IsAmong s.names u
    end_among =
        let of_it = fits.no_others (number s u) end there in
        subst (IsAmong s.names) (one_place s.names of_it.server u of_it.among of_it.is) of_it.among

    end_is : Some end.far ≡ (if linked w.tree.forest t u
        then Some (if w.tree.knows u then Some u else None) else None)
    end_is = sym (ap (option_map far_of) there) ∙ fits.ends u end_among

    pub end_linked : AreLinked links t u
    end_linked = by (linked w.tree.forest t u) refl end_is
      where
        by : (b : Bool) → linked w.tree.forest t u ≡ b → Some end.far ≡ (if b
            then Some (if w.tree.knows u then Some u else None) else None) → AreLinked links t u
        by true is found = forest.back u ((tests_tell w.tree.forest t u t).2.0 is)
        by false is found = cc found

    pub far_is : end.far ≡ (if w.tree.knows u then Some u else None)
    far_is = by (linked w.tree.forest t u) end_is
      where
        by : (b : Bool) → Some end.far ≡ (if b then Some (if w.tree.knows u then Some u else None)
            else None) → end.far ≡ (if w.tree.knows u then Some u else None)
        by true found = same_Some end.far (if w.tree.knows u then Some u else None) found
        by false found = cc found

    pub met_known : is_met end ≡ true → w.tree.knows u ≡ true
    met_known met = by (w.tree.knows u) refl far_is
      where
        by : (b : Bool) → w.tree.knows u ≡ b → end.far ≡ (if b then Some u else None) → b ≡ true
        by true is found = refl
        by false is found = cc (sym met ∙ ap is_some found)

  is_linked : (u : Name) → AreLinked links t u → AreLinked w.tree.forest t u
  is_linked u there = forest.there u there

  pub among_linked : (u : Name) → AreLinked links t u → IsAmong s.names u
  among_linked u there = sound.tree.ends u t (linked_back w.tree.forest t u (is_linked u there))

  -- ---- a known server

  -- nothing is owed to it
  pub owes_none : (u : Name) → (AreLinked links t u → w.tree.knows u ≡ true) → owed_to s view u ≡ []
  owes_none u known = by (get view.ends (number s u)) refl
    where
      by : (o : Option End) → get view.ends (number s u) ≡ o
          → option_map_or (owed_at s view u) o [] ≡ []
      by None there = refl
      by (Some end) there =
          ap (λ far. if is_some far then [] else map line_text (owed_by view (number s u) u end))
          (far_is u end there
          ∙ ap (λ b. if b then Some u else None) (known (end_linked u end there)))

  pub is_met_when : (u : Name) → AreLinked links t u → w.tree.knows u ≡ true
      → is_met_with s view u ≡ true
  is_met_when u there known =
      by (get view.ends (number s u))
      (fits.ends u (among_linked u there)
      ∙ ap (λ b. if b then Some (if w.tree.knows u then Some u else None) else None)
      ((tests_tell w.tree.forest t u t).2.1 (is_linked u there))
      ∙ ap (λ b. Some (if b then Some u else None)) known)
    where
      by : (o : Option End) → option_map far_of o ≡ Some (Some u)
          → option_map_or is_met o false ≡ true
      by None is = cc is
      by (Some end) is = ap is_some (same_Some end.far (Some u) is)

  -- ---- where lines go

  pub met_linked : (u : Name) (line : List ℕ) (lines : List (List ℕ)) (words : List ℕ)
      → map (λ _. words) (filter (is_on (number s u)) (met_links view.ends)) ≡ line ∷ lines
      → AreLinked links t u
  met_linked u line lines words is =
      by (get view.ends (number s u)) refl
      (sym (ap (map (λ _. words)) (among_met (number s u) view.ends)) ∙ is)
    where
      by : (o : Option End) → get view.ends (number s u) ≡ o → map (λ _. words)
          (if option_map_or is_met o false then number s u ∷ [] else []) ≡ line ∷ lines
          → AreLinked links t u
      by None there found = cc found
      by (Some end) there found = end_linked u end there

  -- what is kept of a server
  abbrev kept : Name → Shape
  kept home = shape_in s.names (info_in s.settings) w.tree.forest t home

  -- the link toward a server
  hop_linked : (u home : Name) (row : ServerRow) → row_of (w.tree.routes t) home ≡ Some row
      → row.link ≡ number s u → AreLinked links t u
  hop_linked u home row there is =
      by (w.tree.knows home) refl (tell home t) (sym (ap (option_map shape) there)
      ∙ sound.tree.rows t home fits.here)
    where
      to_it : w.tree.knows home ≡ true → home ≢ t → shape row ≡ kept home → AreLinked links t u
      to_it known two alike_rows =
          let hop = next_hop w.tree.forest t home sound.tree.forest
          (sound.tree.joined t home fits.here known) (λ e. two (sym e)) in
          let hop_among = sound.tree.ends (toward w.tree.forest t home) t
          (linked_back w.tree.forest t (toward w.tree.forest t home) hop.linked) in
          forest.back u
          (subst (AreLinked w.tree.forest t)
          (one_place s.names (toward w.tree.forest t home) u hop_among
          (sym (ap (λ (x : Shape). x.link) alike_rows) ∙ is)) hop.linked)

      by : (b : Bool) → w.tree.knows home ≡ b → Telling home t → Some (shape row)
          ≡ (if b && not (same home t) then Some (kept home) else None) → AreLinked links t u
      by false is_known telling found = cc found
      by true is_known (alike one _) found =
          cc (found ∙ ap (λ b. if not b then Some (kept home) else None) one)
      by true is_known (unlike other two) found =
          to_it is_known two (same_Some (shape row) (kept home)
          (found ∙ ap (λ b. if not b then Some (kept home) else None) other))

  hops_linked : (u : Name) (homes : List Name) → list_any (is_on (number s u))
      (filter_map (of_known.next_hop (w.tree.routes t)) homes) ≡ true → AreLinked links t u
  hops_linked u [] found = cc found
  hops_linked u (home ∷ homes) found =
      by (row_of (w.tree.routes t) home) refl found (hops_linked u homes)
    where
      rest : List ℕ
      rest = filter_map (of_known.next_hop (w.tree.routes t)) homes

      on : (row : ServerRow) → row_of (w.tree.routes t) home ≡ Some row → (b : Bool)
          → nat_eq row.link (number s u) ≡ b → (b || list_any (is_on (number s u)) rest) ≡ true
          → (list_any (is_on (number s u)) rest ≡ true → AreLinked links t u) → AreLinked links t u
      on row there true it found later =
          hop_linked u home row there (eqb-true row.link (number s u) it)
      on row there false it found later = later found

      by : (o : Option ServerRow) → row_of (w.tree.routes t) home ≡ o → list_any
          (is_on (number s u)) (cons_option (option_map (λ (r : ServerRow). r.link) o) rest) ≡ true
          → (list_any (is_on (number s u)) rest ≡ true → AreLinked links t u) → AreLinked links t u
      by None there found later = later found
      by (Some row) there found later = on row there (nat_eq row.link (number s u)) refl found later

  pub ways_linked : (u : Name) (homes : Option (List Name)) (line : List ℕ)
      (lines : List (List ℕ)) (words : List ℕ) → map (λ _. words) (filter (is_on (number s u))
      (ways_toward view.ends view.routes homes)) ≡ line ∷ lines → AreLinked links t u
  ways_linked u None line lines words is = met_linked u line lines words is
  ways_linked u (Some homes) line lines words is =
      by (list_any (is_on (number s u))
      (filter_map (of_known.next_hop (w.tree.routes t)) homes)) refl
      (sym (ap (map (λ _. words))
      (ap (λ routes. filter (is_on (number s u)) (links_toward routes homes)) fits.routes
      ∙ among_keys (number s u) (filter_map (of_known.next_hop (w.tree.routes t)) homes))) ∙ is)
    where
      by : (b : Bool) → list_any (is_on (number s u))
          (filter_map (of_known.next_hop (w.tree.routes t)) homes) ≡ b → map (λ _. words)
          (if b then number s u ∷ [] else []) ≡ line ∷ lines → AreLinked links t u
      by true there found = hops_linked u homes there
      by false none found = cc found

-- ---- a reply

-- what a line has to be looked at for
pub record IsAnswer (s : ItemSetting) (links : List Link) (p t : Name) (view : View)
    (after : Served) : Type 0 where
  pub closes_none : closings after.out ≡ []
  pub to_linked : (u : Name) (line : List ℕ) (lines : List (List ℕ))
      → lines_on (number s u) after.out ≡ line ∷ lines → AreLinked links t u
  pub to_own : (client : ℕ) (line : List ℕ) (lines : List (List ℕ))
      → lines_to client after.out ≡ line ∷ lines → is_home_of s.homes t client ≡ true
  pub pays : lines_on (number s p) after.out ++ owed_to s after.state p ≡ owed_to s view p

-- a side with the same links, that knows all that another does
pub record IsLaterSide (links : List Link) (t : Name) (w later : of_side.SideState) : Type 0 where
  pub forest : AreLinkedAlike links later.tree.forest t
  pub knows : (u : Name) → w.tree.knows u ≡ true → later.tree.knows u ≡ true

-- the rest is so of each server that fits its side, before and after, where all linked servers but
-- p are known
pub good_reply : (s : ItemSetting) (links : List Link) (p t : Name) (w later : of_side.SideState)
    (view : View) (after : Served) → Fits s t w view → Fits s t later after.state
    → AreLinkedAlike links w.tree.forest t → ((u : Name) → AreLinked links t u → u ≢ p
    → w.tree.knows u ≡ true) → IsLaterSide links t w later → IsAnswer s links p t view after
    → IsGoodReply s links p t view after []
good_reply s links p t w later view after fits fits_after forest known stays answer = record {
  closes_none = answer.closes_none;
  to_linked = answer.to_linked;
  to_own = answer.to_own;
  pays = answer.pays ∙ sym (append-nil (owed_to s view p));
  others = others;
  met_stay = met_stay;
}
  where
    others : (u : Name) → u ≢ p → PaysNothing s view after u
    others u other =
        let before = owes_none s links t w view fits forest u (λ there. known u there other) in
        let behind = owes_none s links t later after.state fits_after stays.forest u
        (λ there. stays.knows u (known u there other)) in
        record { owes_as_before = behind ∙ sym before; in_turn = inr before }

    met_stay : (u : Name) → is_met_with s view u ≡ true → is_met_with s after.state u ≡ true
    met_stay u met = by (get view.ends (number s u)) refl met
      where
        by : (o : Option End) → get view.ends (number s u) ≡ o → option_map_or is_met o false ≡ true
            → is_met_with s after.state u ≡ true
        by None there is = cc is
        by (Some end) there is =
            is_met_when s links t later after.state fits_after stays.forest u
            (end_linked s links t w view fits forest u end there)
            (stays.knows u (met_known s links t w view fits forest u end there is))
