-- A server that takes a line which says that the network has a server more is then what it has to
-- be.
use Rattle.std.proofs.Common.{◌≡◌, ◌≢◌, ℕ, suc, Bool, true, false, cond, ◌&&◌, ◌||◌, Option, Some}
use Rattle.std.proofs.Common.{None, List, [], ◌∷◌, is_none, refl, sym, ◌∙◌, ap, subst, unwrap_or}
use Rattle.std.proofs.Common.{option_map, if◌then◌else◌}
use Rattle.std.specs.FinMap.{get, insert}
use Rattle.std.specs.Option.{option_map_or}
use Rattle.std.proofs.Math.Bool.{or-true, or-false}
use Rattle.irc_line.specs.Reading.{read_of}
use Rattle.irc_merge.specs.Deeds.{gains}
use Rattle.irc_relay.specs.Distances.{IsAmong}
use Rattle.irc_relay.specs.Links.{Name, same, toward, distance, linked, AreLinked}
use Rattle.irc_relay.specs.Relay.{TakesFrom}
use Rattle.irc_relay.specs.Lemmas.TellingNames.{Telling, alike, unlike, tell, same_when}
use Rattle.irc_relay.specs.Lemmas.NextHops.{distance_self, linked_back, next_hop, toward_linked}
use Rattle.irc_relay.specs.Lemmas.NextHops.{linked_joined}
use Rattle.irc_relay.specs.Lemmas.LinkTakenOut.{tests_tell}
use Rattle.irc_routes.specs.declared.server_row.ServerRow.{ServerRow}
use Rattle.irc_routes.specs.Known.{added, row_of, smallest_free, token_in, token_out}
use Rattle.irc_burst.specs.DeedsMeant.{a_server}
use Rattle.irc_stage.specs.EffectTold.{Served, in_silence, with_sent}
use Rattle.irc_stage.specs.Linked.{is_taken, with_far, with_row}
use Rattle.irc_stage.specs.View.{End, View}
use Rattle.irc_stage.specs.Lemmas.Numbers.{get-with, one_number, same_number, same_number-is}
use Rattle.irc_server.specs.DeedTold.{gain_told, told_by}
use Rattle.irc_server.specs.Heard.{Heard, meets, tells}
use Rattle.irc_server.specs.LinkServed.{after_heard, line_served, met_by, on_link, owes}
use Rattle.irc_server.specs.Served.{served}
use Rattle.irc_follow.specs.Tree.{gained, told_token}
use Rattle.irc_follow.specs.SideState.{ItemSetting, done, info_in, number, IsItemSetting}
use Rattle.irc_follow.specs.SideState.{IsSoundSide}
use Rattle.irc_follow.specs.SideState as of_side
use Rattle.irc_follow.specs.Fits.{far_end, far_of, Fits, IsNumberOf}
use Rattle.irc_follow.specs.Says.{neighbour_served, saying, Says, IsDoableGain}
use Rattle.irc_follow.specs.Lemmas.PlacesOfNames.{one_place}
use Rattle.irc_follow.specs.Lemmas.TreeGains as tree_of
use Rattle.irc_follow.specs.Lemmas.EffectsOnSide.{gain_keeps}
use Rattle.irc_follow.specs.Lemmas.SaidEffect.{own_name}

-- a row more, where it is taken
row_more : (k : ℕ) (uplink name : List ℕ) (distance token : ℕ) (info : List ℕ) (before : Served)
    → is_taken before.state.routes k name token ≡ true
    → (told_by k (a_server uplink name distance token info) before).state
    ≡ with_row k uplink name distance token info before.state
unfolding told_by
row_more k uplink name distance token info before is =
    ap (λ b. (if b then gain_told k uplink name info (record before {
      state =
          with_row k uplink name distance token info before.state;
    }) else before).state) is

module _ (s : ItemSetting) (fixed : IsItemSetting s) (p t : Name) (w : of_side.SideState)
    (view : View)
    (takes : TakesFrom s.streams t p) (fits : Fits s t w view)
    (uplink name words : List ℕ) (doable : IsDoableGain s w uplink name words) where
  sound : IsSoundSide s w
  sound = fits.sound

  abbrev info : Name → List ℕ
  info = info_in s.settings

  abbrev now : of_side.SideState
  now = record w { tree = gained s.names uplink name words w.tree }

  p_linked : AreLinked w.tree.forest t p
  p_linked = sound.parents t p takes

  p_among : IsAmong s.names p
  p_among = sound.tree.ends p t (linked_back w.tree.forest t p p_linked)

  t_among : IsAmong s.names t
  t_among = sound.tree.ends t p p_linked

  toward_name : toward w.tree.forest t name ≡ p
  toward_name = doable.far t p fits.here takes

  -- a linked server is met by its own line alone
  linked_is_p : AreLinked w.tree.forest t name → name ≡ p
  linked_is_p there = sym (toward_linked w.tree.forest t name sound.tree.forest there) ∙ toward_name

  pub taken : is_taken view.routes (number s p) name (told_token w.tree p name) ≡ true
  taken =
      ap (λ known. is_taken known (number s p) name (told_token w.tree p name)) fits.routes
      ∙ ap (λ q. is_taken (w.tree.routes t) (number s q) name (told_token w.tree q name))
      (sym toward_name)
      ∙ ap (λ o. is_none o && is_none (token_in (w.tree.routes t) (number s (toward w.tree.forest t
      name)) (told_token w.tree (toward w.tree.forest t name) name)))
      (tree_of.added_so s.names info fixed.servers fixed.few w.tree sound.tree uplink name words
      doable.can t fits.here)
      ∙ ap is_none (tree_of.number_free s.names info fixed.servers fixed.few w.tree sound.tree
      uplink name words doable.can t fits.here)

  pub routes_now : added (number s p) uplink name (distance w.tree.forest t name)
      (told_token w.tree p name) words view.routes ≡ now.tree.routes t
  routes_now =
      ap (added (number s p) uplink name (distance w.tree.forest t name)
      (told_token w.tree p name) words) fits.routes
      ∙ ap (λ q. added (number s q) uplink name (distance w.tree.forest t name)
      (told_token w.tree q name) words (w.tree.routes t)) (sym toward_name)
      ∙ sym (tree_of.told_here s.names info fixed.servers fixed.few w.tree sound.tree uplink name
      words doable.can t fits.here)

  pub gain_sound : IsSoundSide s now
  unfolding done
  gain_sound = gain_keeps s w uplink name words fixed sound doable

  -- the ends of the links to other servers than the new one
  other_end : (x : Name) → same x name ≡ false → far_end now t x ≡ far_end w t x
  other_end x other =
      ap (λ b. if linked w.tree.forest t x then Some (if b then Some x else None) else None)
      (ap (λ b. w.tree.knows x || b) other ∙ or-false (w.tree.knows x))

  not_linked : name ≢ p → linked w.tree.forest t name ≡ false
  not_linked two = by (linked w.tree.forest t name) refl
    where
      by : (b : Bool) → linked w.tree.forest t name ≡ b → b ≡ false
      by false is = refl
      by true is = absurd (two (linked_is_p ((tests_tell w.tree.forest t name t).2.0 is)))

  each_end : name ≢ p → (x : Name) → Telling x name → far_end now t x ≡ far_end w t x
  each_end two x (unlike other _) = other_end x other
  each_end two x (alike _ e) =
      ap (λ b. if b then Some (if now.tree.knows x then Some x else None) else None) none
      ∙ sym (ap (λ b. if b then Some (if w.tree.knows x then Some x else None) else None) none)
    where
      none : linked w.tree.forest t x ≡ false
      none = ap (linked w.tree.forest t) e ∙ not_linked two

  -- ---- by a line of a server that is there

  told_fits : name ≢ p → Fits s t now (with_row (number s p) uplink name
      (distance w.tree.forest t name) (told_token w.tree p name) words view)
  told_fits two = record {
    here = fits.here;
    sound = gain_sound;
    peers = fits.peers;
    routes = routes_now;
    ends = λ x among. fits.ends x among ∙ sym (each_end two x (tell x name));
    no_others = fits.no_others;
    clients = fits.clients;
    room = fits.room;
  }

  -- ---- by the first line of the new server itself

  module _ (is_p : name ≡ p) (end : End) (is_end : get view.ends (number s p) ≡ Some end) where
    abbrev pub met : View
    met = record view { ends = insert view.ends (number s p) (record end { far = Some name }) }

    pub with_far_is : with_far (number s p) name view ≡ met
    with_far_is =
        ap (λ o. option_map_or (λ (e : End). record view {
          ends = insert view.ends (number s p)
              (record e { far = Some name });
        }) o view) is_end

    pub is_t : uplink ≡ t
    is_t =
        sym (doable.can.beside t fits.here) ∙ ap (λ n. toward w.tree.forest n t) is_p
        ∙ toward_linked w.tree.forest p t sound.tree.forest (linked_back w.tree.forest t p p_linked)

    one_away : distance w.tree.forest t name ≡ 1
    one_away =
        ap (distance w.tree.forest t) is_p
        ∙ (next_hop w.tree.forest t p sound.tree.forest (linked_joined w.tree.forest t p p_linked)
        (λ e. tree_of.another s.names info fixed.servers fixed.few w.tree sound.tree t name
        fits.here doable.can.unknown (is_p ∙ sym e))).nearer
        ∙ ap (λ q. suc (distance w.tree.forest q p))
        (toward_linked w.tree.forest t p sound.tree.forest p_linked)
        ∙ ap suc (distance_self w.tree.forest p)

    number_one : told_token w.tree p name ≡ 1
    number_one =
        ap (λ n. unwrap_or (token_out (w.tree.routes p) n) (smallest_free (w.tree.routes p))) is_p
        ∙ ap (λ b. unwrap_or (if b then Some 1 else option_map (λ (r : ServerRow). r.ours)
        (row_of (w.tree.routes p) p)) (smallest_free (w.tree.routes p)))
        (ap (λ n. same n p) (sound.tree.named p p_among) ∙ same_when p p refl)

    pub row_now : with_row (number s p) view.routes.name name 1 1 words met
        ≡ with_row (number s p) uplink name (distance w.tree.forest t name)
        (told_token w.tree p name) words met
    row_now =
        ap (λ u. with_row (number s p) u name 1 1 words met)
        (own_name s p t w view takes fits ∙ sym is_t)
        ∙ ap (λ d. with_row (number s p) uplink name d 1 words met) (sym one_away)
        ∙ ap (λ k. with_row (number s p) uplink name (distance w.tree.forest t name) k words met)
        (sym number_one)

    end_now : (x : Name) → IsAmong s.names x → Telling x name
        → option_map far_of (get met.ends (number s x)) ≡ far_end now t x
    end_now x among (alike is e) =
        ap (option_map far_of)
        (get-with view.ends (number s p) (record end { far = Some name }) (number s x)
        ∙ ap (λ b. cond b (Some (record end { far = Some name })) (get view.ends (number s x)))
        (same_number-is (number s x) (number s p) (ap (number s) (e ∙ is_p))))
        ∙ ap (λ n. Some (Some n)) (sym e)
        ∙ sym (ap (λ b. if b then Some (if w.tree.knows x || same x name then Some x else None)
        else None) (linked_so)
        ∙ ap (λ b. Some (if b then Some x else None)) (ap (λ b. w.tree.knows x || b) is
        ∙ or-true (w.tree.knows x)))
      where
        linked_so : linked w.tree.forest t x ≡ true
        linked_so =
            ap (linked w.tree.forest t) (e ∙ is_p) ∙ (tests_tell w.tree.forest t p t).2.1 p_linked
    end_now x among (unlike other two) =
        ap (option_map far_of)
        (get-with view.ends (number s p) (record end { far = Some name }) (number s x)
        ∙ ap (λ b. cond b (Some (record end { far = Some name })) (get view.ends (number s x)))
        (apart (same_number (number s x) (number s p)) refl))
        ∙ fits.ends x among
        ∙ sym (other_end x other)
      where
        apart : (b : Bool) → same_number (number s x) (number s p) ≡ b → b ≡ false
        apart false is = refl
        apart true is = absurd
            (two (one_place s.names x p among (one_number (number s x) (number s p) is) ∙ sym is_p))

    numbers_now : (k : ℕ) (e : End) → get met.ends k ≡ Some e → IsNumberOf s k
    numbers_now k e there = by (same_number k (number s p)) refl
        (sym (get-with view.ends (number s p) (record end { far = Some name }) k) ∙ there)
      where
        by : (b : Bool) → same_number k (number s p) ≡ b → cond b
            (Some (record end { far = Some name })) (get view.ends k) ≡ Some e → IsNumberOf s k
        by true is found =
            record { server = p; among = p_among; is = sym (one_number k (number s p) is) }
        by false is found = fits.no_others k e found

    met_fits : Fits s t now (with_row (number s p) uplink name (distance w.tree.forest t name)
        (told_token w.tree p name) words met)
    met_fits = record {
      here = fits.here;
      sound = gain_sound;
      peers = fits.peers;
      routes = routes_now;
      ends = λ x among. end_now x among (tell x name);
      no_others = numbers_now;
      clients = fits.clients;
      room = fits.room;
    }

    pub taken_met : is_taken view.routes (number s p) name 1 ≡ true
    taken_met = ap (is_taken view.routes (number s p) name) (sym number_one) ∙ taken

    met_view : (met_by (number s p) name words view).state ≡ with_row (number s p) uplink name
        (distance w.tree.forest t name) (told_token w.tree p name) words met
    met_view =
        ap (λ v. (told_by (number s p) (a_server view.routes.name name 1 1 words) (with_sent
        (on_link (number s p) (owes view (number s p) name)) (in_silence v))).state)
        with_far_is
        ∙ row_more (number s p) view.routes.name name 1 1 words (with_sent
        (on_link (number s p) (owes view (number s p) name)) (in_silence met)) taken_met
        ∙ row_now

  -- ----

  heard_fits : (end : End) → get view.ends (number s p) ≡ Some end → Telling name p → Fits s t now
      (after_heard view (number s p) (saying s w p t (gains uplink name words))).state
  heard_fits end is_end (alike is e) =
      subst (λ what. Fits s t now (after_heard view (number s p) what).state) (sym (ap (choose) is))
      (subst (Fits s t now) (sym (met_view e end is_end)) (met_fits e end is_end))
    where
      choose : Bool → Heard
      choose b = if b then meets name words else tells (a_server uplink name
          (distance w.tree.forest t name) (told_token w.tree p name) words ∷ [])
  heard_fits end is_end (unlike is two) =
      subst (λ what. Fits s t now (after_heard view (number s p) what).state) (sym (ap (choose) is))
      (subst (Fits s t now)
      (sym (row_more (number s p) uplink name (distance w.tree.forest t name)
      (told_token w.tree p name) words (in_silence view) taken)) (told_fits two))
    where
      choose : Bool → Heard
      choose b = if b then meets name words else tells (a_server uplink name
          (distance w.tree.forest t name) (told_token w.tree p name) words ∷ [])

pub said_gain_fits : (s : ItemSetting) → IsItemSetting s → (p t : Name) (w : of_side.SideState)
    (view : View) → TakesFrom s.streams t p → Fits s t w view → (uplink name words : List ℕ)
    (line : List ℕ) → Says s p t w view (gains uplink name words) line
    → Fits s t (done s w (gains uplink name words)) (neighbour_served s p view line).state
unfolding done served
said_gain_fits s fixed p t w view takes fits uplink name words line says =
    subst (λ (o : Option End). Fits s t (done s w (gains uplink name words))
    (line_served view (number s p) (read_of line) o).state) (sym says.is_end)
    (subst (λ what. Fits s t (done s w (gains uplink name words))
    (after_heard view (number s p) what).state) (sym says.means)
    (heard_fits s fixed p t w view takes fits uplink name words says.doable says.end says.is_end
    (tell name p)))
