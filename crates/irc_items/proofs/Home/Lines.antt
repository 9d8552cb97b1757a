-- On which links a server tells of what a client of its own does: on the link to a neighbour that
-- takes its lines goes one line, which is read there as the effect, or none, and the effect passes
-- that one by. On no other link goes anything.
use Rattle.std.proofs.Common.{◌≡◌, ◌≢◌, ℕ, Bool, true, false, not, ◌&&◌, ◌||◌, Option, Some, None}
use Rattle.std.proofs.Common.{Ok, List, [], ◌∷◌, ◌++◌, nat_eq, refl, sym, ◌∙◌, ap, subst, map}
use Rattle.std.proofs.Common.{filter, option_map, is_some, if◌then◌else◌}
use Rattle.std.proofs.lemmas.Bool.{eqb-true, eq-eqb}
use Rattle.std.specs.FinMap.{get}
use Rattle.std.specs.List.{cons_option, filter_map, list_any, AllByRecursion}
use Rattle.std.specs.Option.{option_map_or}
use Rattle.irc_line.specs.Messages.{Written, line_text, message_of}
use Rattle.irc_line.specs.Reading.{read_of}
use Rattle.irc_room.specs.effect.Effect.{Effect}
use Rattle.irc_room.specs.Effects.{brings_free}
use Rattle.irc_room.specs.OtherInvitations.{AreAlike}
use Rattle.irc_room.specs.Lemmas.AlikeLaw.{alike_take_alike, home_is_alike}
use Rattle.irc_stage.specs.Ends.{End, is_met}
use Rattle.irc_stage.specs.Ways.{told_homes, ways_toward}
use Rattle.irc_merge.specs.Deeds.{does}
use Rattle.irc_relay.specs.Distances.{IsAmong}
use Rattle.irc_relay.specs.Links.{Name, linked, same, toward, AreLinked}
use Rattle.irc_relay.specs.Relay.{TakesFrom}
use Rattle.irc_relay.specs.Lemmas.TellingNames.{Telling, alike, unlike, tell, same_unless}
use Rattle.irc_relay.specs.Lemmas.NextHops.{linked_back, linked_other, next_hop as next_toward}
use Rattle.irc_relay.specs.Lemmas.NextHops.{toward_self}
use Rattle.irc_relay.specs.Lemmas.LinkTakenOut.{linked_tells}
use Rattle.irc_routes.specs.declared.server_row.ServerRow.{ServerRow}
use Rattle.irc_routes.specs.Known.{next_hop, row_of}
use Rattle.irc_burst.specs.DeedsMeant.{a_deed, deeds_meant, effects_told, read_burst_row, server_of}
use Rattle.irc_burst.specs.HandshakeMeant.{handshake_meant}
use Rattle.irc_link_writer.specs.Written.{wire}
use Rattle.irc_stage.specs.EffectTold.{on_links, ways_at}
use Rattle.irc_stage.specs.View.{View}
use Rattle.irc_server.specs.Heard.{heard, of_met, opened, tells}
use Rattle.irc_readback.specs.EachReadBack.{EachIsReadBack}
use Rattle.irc_readback.specs.ReadBack.{IsReadBack}
use Rattle.irc_follow.specs.Tree.{shape_in}
use Rattle.irc_follow.specs.SideState.{ItemSetting, SideState, info_in, number, IsItemSetting}
use Rattle.irc_follow.specs.SideState.{IsSoundSide}
use Rattle.irc_follow.specs.Fits.{far_end, far_of, Fits, IsNumberOf}
use Rattle.irc_follow.specs.Laws.{GoesOn, told, passed}
use Rattle.irc_follow.specs.Says.{lines_on, Says, IsDoableEffect}
use Rattle.irc_follow.specs.Lemmas.LinesOnLinks.{among_keys, among_met, on_these}
use Rattle.irc_follow.specs.Lemmas.Neighbours.{but_none, met_end, HasEnd}
use Rattle.irc_follow.specs.Lemmas.ServersPassedBy.{told_known}
use Rattle.irc_follow.specs.Lemmas.PlacesOfNames.{one_place}
use Rattle.irc_follow.specs.Lemmas.EffectsReadNext.{agrees, can_be_read, link_of, shape_at}
use Rattle.irc_follow.specs.Lemmas.SaidEffect.{rooms_alike}
use Rattle.irc_follow.specs.Lemmas.SaidEffectToldOn.{no_row, one_deed, sent_by, told_alike}

module _ {s : ItemSetting} {h : Name} {w : SideState} {view : View} (writer : Fits s h w view) where
  sound : IsSoundSide s w
  sound = writer.sound

  h_among : IsAmong s.names h
  h_among = sound.tree.known_among h (sound.tree.here_known h writer.here)

  -- ---- the way toward another server

  no_hop : (home : Name) → home ≡ h → next_hop view.routes home ≡ None
  no_hop home is =
      ap (λ routes. next_hop routes home) writer.routes
      ∙ ap (λ n. option_map (λ (r : ServerRow). r.link) (row_of (w.tree.routes h) n))
      (is ∙ sym (sound.tree.named h h_among))
      ∙ ap (option_map (λ (r : ServerRow). r.link)) (sound.tree.numbered h h_among).not_itself

  module _ (home : Name) (known : w.tree.knows home ≡ true) (two : home ≢ h) where
    hop_toward : next_hop view.routes home ≡ Some (number s (toward w.tree.forest h home))
    hop_toward =
        ap (λ routes. next_hop routes home) writer.routes
        ∙ link_of (row_of (w.tree.routes h) home)
        (shape_in s.names (info_in s.settings) w.tree.forest h home)
        (shape_at s w sound h home writer.here known two)

    hop_linked : AreLinked w.tree.forest h (toward w.tree.forest h home)
    hop_linked = (next_toward w.tree.forest h home sound.tree.forest
        (sound.tree.joined h home writer.here known) (λ e. two (sym e))).linked

    hop_among : IsAmong s.names (toward w.tree.forest h home)
    hop_among = sound.tree.ends (toward w.tree.forest h home) h
        (linked_back w.tree.forest h (toward w.tree.forest h home) hop_linked)

  -- ---- the lines for one server

  module _ (u : Name) where
    -- another server that is behind it
    abbrev behind : Name → Bool
    behind home = not (same home h) && same (toward w.tree.forest h home) u

    one_test : (next : Name) → IsAmong s.names next
        → nat_eq (number s next) (number s u) ≡ same next u
    one_test next among = by (nat_eq (number s next) (number s u)) refl (tell next u)
      where
        by : (b : Bool) → nat_eq (number s next) (number s u) ≡ b → Telling next u → b ≡ same next u
        by true it (alike same_one _) = sym same_one
        by true it (unlike _ other_one) = absurd
            (other_one (one_place s.names next u among (eqb-true (number s next) (number s u) it)))
        by false it (unlike same_one _) = sym same_one
        by false it (alike _ e) =
            absurd (cc (sym it ∙ eq-eqb (number s next) (number s u) (ap (number s) e)))

    one_way_there : (home : Name) → w.tree.knows home ≡ true → Telling home h → (numbers : List ℕ)
        → list_any (λ n. nat_eq n (number s u)) (cons_option (next_hop view.routes home) numbers)
        ≡ (behind home || list_any (λ n. nat_eq n (number s u)) numbers)
    one_way_there home known (alike same_one e) numbers =
        ap (λ o. list_any (λ n. nat_eq n (number s u)) (cons_option o numbers)) (no_hop home e)
        ∙ sym (ap (λ b. (not b && same (toward w.tree.forest h home) u)
        || list_any (λ n. nat_eq n (number s u)) numbers) same_one)
    one_way_there home known (unlike other_one two) numbers =
        ap (λ o. list_any (λ n. nat_eq n (number s u)) (cons_option o numbers))
        (hop_toward home known two)
        ∙ ap (λ b. b || list_any (λ n. nat_eq n (number s u)) numbers)
        (one_test (toward w.tree.forest h home) (hop_among home known two))
        ∙ sym (ap (λ b. (not b && same (toward w.tree.forest h home) u)
        || list_any (λ n. nat_eq n (number s u)) numbers) other_one)

    toward_it : (homes : List (List ℕ)) → AllByRecursion (λ home. w.tree.knows home ≡ true) homes
        → list_any (λ n. nat_eq n (number s u)) (filter_map (next_hop view.routes) homes)
        ≡ list_any behind homes
    toward_it [] known = refl
    toward_it (home ∷ homes) known =
        one_way_there home known.0 (tell home h) (filter_map (next_hop view.routes) homes)
        ∙ ap (λ b. behind home || b) (toward_it homes known.1)

    abbrev those : Option (List (List ℕ)) → List ℕ
    those homes = filter (λ n. nat_eq n (number s u)) (ways_toward view.ends view.routes homes)

    module _ (effect : Effect) where
      abbrev parts : Written
      parts = wire view.room view.routes effect

      -- what is put out on the link to it
      abbrev pub lines_there : List (List ℕ)
      lines_there = lines_on (number s u) (on_links (ways_at view None effect) parts)

      lines_are : lines_there ≡ map (λ _. line_text parts) (those (told_homes w.hall.room effect))
      lines_are =
          on_these (number s u) (ways_at view None effect) parts
          ∙ ap (map (λ _. line_text parts))
          (ap (filter (λ n. nat_eq n (number s u)))
          (but_none (ways_toward view.ends view.routes (told_homes view.room effect)))
          ∙ ap those (told_alike view.room w.hall.room effect (subst (λ room.
          AreAlike room w.hall.room) (sym writer.room) (home_is_alike h w.hall.room))))

      to_some : (homes : List (List ℕ)) → told_homes w.hall.room effect ≡ Some homes
          → those (Some homes) ≡ (if list_any behind homes then number s u ∷ [] else [])
      to_some homes is =
          among_keys (number s u) (filter_map (next_hop view.routes) homes)
          ∙ ap (λ b. if b then number s u ∷ [] else [])
          (toward_it homes (told_known w.hall.room w.tree.knows sound.at_known effect homes is))

    -- ---- none for a server that it is not linked to

    module _ (apart : AreLinked w.tree.forest h u → ⊥) where
      not_linked : linked w.tree.forest h u ≡ false
      not_linked = by (linked w.tree.forest h u) refl
        where
          by : (b : Bool) → linked w.tree.forest h u ≡ b → b ≡ false
          by true is = absurd (apart ((linked_tells w.tree.forest h u).0 is))
          by false is = refl

      no_end : (o : Option End) → get view.ends (number s u) ≡ o
          → option_map_or is_met o false ≡ false
      no_end None is = refl
      no_end (Some end) is = absurd (none_there (writer.no_others (number s u) end is))
        where
          none_there : IsNumberOf s (number s u) → ⊥
          none_there at =
              let one = one_place s.names at.server u at.among at.is in
              cc (sym (writer.ends at.server at.among
              ∙ ap (λ x. if linked w.tree.forest h x
              then Some (if w.tree.knows x then Some x else None) else None) one
              ∙ ap (λ b. if b then Some (if w.tree.knows u then Some u else None)
              else None) not_linked)
              ∙ ap (λ n. option_map far_of (get view.ends n)) at.is
              ∙ ap (option_map far_of) is)

      none_behind : (homes : List (List ℕ))
          → AllByRecursion (λ home. w.tree.knows home ≡ true) homes → list_any behind homes ≡ false
      none_behind [] known = refl
      none_behind (home ∷ homes) known = ap (λ b. b || list_any behind homes) (by (tell home h))
          ∙ none_behind homes known.1
        where
          by : Telling home h → behind home ≡ false
          by (alike is _) = ap (λ b. not b && same (toward w.tree.forest h home) u) is
          by (unlike is two) =
              ap (λ b. not b && same (toward w.tree.forest h home) u) is
              ∙ same_unless (toward w.tree.forest h home) u
              (λ e. apart (subst (AreLinked w.tree.forest h) e (hop_linked home known.0 two)))

      pub no_line_there : (effect : Effect) → lines_there effect ≡ []
      no_line_there effect = lines_are effect
          ∙ ap (map (λ _. line_text (parts effect))) (none (told_homes w.hall.room effect) refl)
        where
          none : (homes : Option (List (List ℕ))) → told_homes w.hall.room effect ≡ homes
              → those homes ≡ []
          none None is =
              among_met (number s u) view.ends
              ∙ ap (λ b. if b then number s u ∷ [] else [])
              (no_end (get view.ends (number s u)) refl)
          none (Some homes) is =
              to_some effect homes is
              ∙ ap (λ b. if b then number s u ∷ [] else []) (none_behind homes
              (told_known w.hall.room w.tree.knows sound.at_known effect homes is))

    -- ---- one line for a neighbour that takes its lines, or none

    module _ (read_back : EachIsReadBack) (fixed : IsItemSetting s) (other : View)
        (next : TakesFrom s.streams u h) (reader : Fits s u w other) (effect : Effect)
        (doable : IsDoableEffect s w effect) where
      u_linked : AreLinked w.tree.forest u h
      u_linked = sound.parents u h next

      u_among : IsAmong s.names u
      u_among = sound.tree.known_among u (sound.tree.here_known u reader.here)

      far_met : (x y : Name) → AreLinked w.tree.forest x y → w.tree.knows y ≡ true
          → far_end w x y ≡ Some (Some y)
      far_met x y there known =
          ap (λ b. if b then Some (if w.tree.knows y then Some y else None) else None)
          ((linked_tells w.tree.forest x y).1 there)
          ∙ ap (λ b. Some (if b then Some y else None)) known

      readers_end : HasEnd other (number s h) h
      readers_end = met_end other (number s h) h (reader.ends h h_among
          ∙ far_met u h u_linked (sound.tree.here_known h writer.here))

      writers_end : HasEnd view (number s u) u
      writers_end = met_end view (number s u) u
          (writer.ends u u_among ∙ far_met h u (linked_back w.tree.forest u h u_linked)
          (sound.tree.here_known u reader.here))

      -- the line is read as the effect
      back : IsReadBack view.room view.routes other.room other.routes (number s h) effect
      back = read_back view.room view.routes other.room other.routes (number s h) effect
          (can_be_read s fixed h u w view other next writer reader effect doable)
          (agrees s fixed h u w view other next writer reader effect doable)

      free_there : brings_free other.room effect ≡ true
      free_there = (alike_take_alike other.room w.hall.room effect
          (rooms_alike s h u w other next reader)).free ∙ doable.possible.nick_free

      meant : deeds_meant other.room other.routes (number s h) (message_of (parts effect))
          ≡ Ok (a_deed (does effect) ∷ [])
      unfolding deeds_meant
      meant =
          ap (read_burst_row other.room other.routes (number s h) (message_of (parts effect)))
          (no_row view.room view.routes effect)
          ∙ ap (effects_told other.routes.name other.room (message_of (parts effect)).prefix)
          back.meaning
          ∙ ap (λ deeds. Ok (map a_deed (deeds ++ [])))
          (one_deed other.routes.name other.room (server_of (message_of (parts effect)).prefix)
          effect (sent_by w.hall.room effect doable.sendable) free_there)

      heard_so : heard other (number s h) readers_end.end (read_of (line_text (parts effect)))
          ≡ tells (a_deed (does effect) ∷ [])
      unfolding heard
      heard_so =
          ap (heard other (number s h) readers_end.end) back.line
          ∙ ap (λ o. if is_some o then of_met
          (deeds_meant other.room other.routes (number s h) (message_of (parts effect)))
          else opened other readers_end.end
          (handshake_meant (is_some readers_end.end.password) other.room other.routes (number s h)
          (message_of (parts effect))))
          readers_end.named
          ∙ ap of_met meant

      says_there : Says s h u w other (does effect) (line_text (parts effect))
      says_there = record {
        is_line = back.is_line;
        end = readers_end.end;
        is_end = readers_end.there;
        means = heard_so;
        doable = doable;
      }

      abbrev Goes : List (List ℕ) → Type 0
      Goes lines = GoesOn s h u w other (does effect) lines

      one_line : Goes (line_text (parts effect) ∷ [])
      one_line = told (line_text (parts effect)) refl says_there

      to_all : those None ≡ number s u ∷ []
      to_all =
          among_met (number s u) view.ends
          ∙ ap (λ o. if option_map_or is_met o false then number s u ∷ [] else []) writers_end.there
          ∙ ap (λ o. if is_some o then number s u ∷ [] else []) writers_end.named

      -- those behind it are those whose way begins with it
      all_behind : (homes : List (List ℕ))
          → list_any behind homes ≡ list_any (λ home. same (toward w.tree.forest h home) u) homes
      all_behind [] = refl
      all_behind (home ∷ homes) = (λ i. by (tell home h) i || all_behind homes i)
        where
          by : Telling home h → behind home ≡ same (toward w.tree.forest h home) u
          by (unlike is _) = ap (λ b. not b && same (toward w.tree.forest h home) u) is
          by (alike is e) =
              ap (λ b. not b && same (toward w.tree.forest h home) u) is
              ∙ sym
              (ap (λ n. same n u) (ap (toward w.tree.forest h) e ∙ toward_self w.tree.forest h)
              ∙ same_unless h u
              (λ f. linked_other w.tree.forest u h sound.tree.forest u_linked (sym f)))

      by_homes : (homes : Option (List (List ℕ))) → told_homes w.hall.room effect ≡ homes
          → Goes (map (λ _. line_text (parts effect)) (those homes))
      by_homes None is =
          subst (λ links. Goes (map (λ _. line_text (parts effect)) links)) (sym to_all) one_line
      by_homes (Some homes) is =
          subst (λ links. Goes (map (λ _. line_text (parts effect)) links))
          (sym (to_some effect homes is)) (on (list_any behind homes) refl)
        where
          on : (b : Bool) → list_any behind homes ≡ b
              → Goes (map (λ _. line_text (parts effect)) (if b then number s u ∷ [] else []))
          on true there = one_line
          on false none = passed refl (record {
            takes = record { parent = refl; below = next.below };
            sound = sound;
            doable = doable;
            homes = homes;
            told = is;
            elsewhere =
                ap (λ q. list_any (λ home. same (toward w.tree.forest q home) u) homes) next.parent
                ∙ sym (all_behind homes) ∙ none;
          })

      pub goes_there : GoesOn s h u w other (does effect) (lines_there effect)
      goes_there =
          subst Goes (sym (lines_are effect)) (by_homes (told_homes w.hall.room effect) refl)
