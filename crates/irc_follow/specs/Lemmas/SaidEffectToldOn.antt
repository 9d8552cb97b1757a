-- A server that takes a line which says an effect tells each other neighbour of it by one line that
-- says it, or not at all, and then it passes that one by.
use Rattle.std.proofs.Common.{◌≡◌, ◌≢◌, ℕ, Bool, true, false, not, ◌&&◌, ◌||◌, Option, Some, None}
use Rattle.std.proofs.Common.{Ok, List, [], ◌∷◌, ◌++◌, nat_eq, refl, sym, ◌∙◌, ap, subst, map}
use Rattle.std.proofs.Common.{filter, option_map, is_some, if◌then◌else◌}
use Rattle.std.specs.Prelude.{⊤}
use Rattle.std.proofs.Math.Path.{fun_ext}
use Rattle.std.proofs.lemmas.Bool.{eqb-true, eq-eqb}
use Rattle.std.specs.FinMap.{values}
use Rattle.std.specs.List.{cons_option, filter_map, list_any, AllByRecursion}
use Rattle.std.specs.Option.{option_map_or}
use Rattle.irc_line.specs.Messages.{Written, line_text, message_of}
use Rattle.irc_line.specs.Reading.{read_of}
use Rattle.irc_names.specs.Fold.{key}
use Rattle.irc_names.specs.Fold as folded
use Rattle.irc_names.specs.Tables.{row}
use Rattle.irc_users.specs.declared.user.User.{User}
use Rattle.irc_room.specs.effect.By.TheVariants as by
use Rattle.irc_room.specs.effect.Effect.{Effect}
use Rattle.irc_room.specs.effect.Effect.TheVariants.{AddUser, Rename, ChangeModes, SetTopic, Say}
use Rattle.irc_room.specs.effect.Effect.TheVariants.{Invite}
use Rattle.irc_room.specs.effect.Target.TheVariants as target
use Rattle.irc_room.specs.Effects.{brings_free, has_user, is_member}
use Rattle.irc_room.specs.OtherInvitations.{AreAlike}
use Rattle.irc_room.specs.Readers.{home_under}
use Rattle.irc_room.specs.Room.{Room}
use Rattle.irc_room.specs.Seen.{stored_nick}
use Rattle.irc_room.specs.Sendable.{IsSendable}
use Rattle.irc_room.specs.Lemmas.AlikeLaw.{alike_have_alike, alike_take_alike}
use Rattle.irc_stage.specs.Ways.{homes_in, told_homes, ways_toward}
use Rattle.irc_merge.specs.BurstRead.{introduced}
use Rattle.irc_merge.specs.Deeds.{does, kills}
use Rattle.irc_relay.specs.Distances.{IsAmong}
use Rattle.irc_relay.specs.Links.{Name, same, toward, AreLinked}
use Rattle.irc_relay.specs.Relay.{TakesFrom}
use Rattle.irc_relay.specs.Lemmas.TellingNames.{Telling, alike, unlike, tell, same_unless}
use Rattle.irc_relay.specs.Lemmas.NextHops.{linked_back, linked_other, next_hop, toward_self}
use Rattle.irc_routes.specs.declared.server_row.ServerRow.{ServerRow}
use Rattle.irc_routes.specs.Known.{Known, row_of}
use Rattle.irc_routes.specs.Known as of_known
use Rattle.irc_burst.specs.DeedsMeant.{a_deed, collided, deeds_meant, effects_told, read_burst_row}
use Rattle.irc_burst.specs.DeedsMeant.{server_of}
use Rattle.irc_burst.specs.DeedsMeant as of_deeds
use Rattle.irc_link_writer.specs.Written.{wire}
use Rattle.irc_stage.specs.EffectTold.{Served, on_links, shown_at, ways_at}
use Rattle.irc_stage.specs.View.{End, View}
use Rattle.irc_server.specs.Heard.{heard, of_met, tells}
use Rattle.irc_readback.specs.EachReadBack.{EachIsReadBack}
use Rattle.irc_readback.specs.ReadBack.{IsReadBack}
use Rattle.irc_follow.specs.Tree.{shape_in}
use Rattle.irc_follow.specs.SideState.{ItemSetting, number, IsItemSetting, IsSoundSide}
use Rattle.irc_follow.specs.SideState as of_side
use Rattle.irc_follow.specs.Fits.{Fits}
use Rattle.irc_follow.specs.Laws.{GoesOn, told, passed, SaidEffectGoesOn}
use Rattle.irc_follow.specs.Says.{neighbour_served, lines_on, machine, Says, IsDoableEffect}
use Rattle.irc_follow.specs.Lemmas.LinesOnLinks.{among_keys, but_another, lines_behind}
use Rattle.irc_follow.specs.Lemmas.LinesOnLinks.{none_by_effect, on_these}
use Rattle.irc_follow.specs.Lemmas.ServersPassedBy.{told_known}
use Rattle.irc_follow.specs.Lemmas.Neighbours as beside
use Rattle.irc_follow.specs.Lemmas.PlacesOfNames.{one_place}
use Rattle.irc_follow.specs.Lemmas.EffectsReadNext.{agrees, can_be_read, link_of, shape_at}
use Rattle.irc_follow.specs.Lemmas.SaidEffect.{effect_served, rooms_alike}
use Rattle.irc_follow.specs.Lemmas.ServerLines.{met_heard}

-- ---- toward whom, in rooms that are alike

homes_alike : (room other : Room) (channel : List ℕ) → AreAlike room other
    → homes_in room channel ≡ homes_in other channel
homes_alike room other channel agree =
    ap (λ users. filter_map (λ nick. option_map (λ (u : User). u.home) (row users (key nick)))
    (map (λ (u : User). u.nick)
    (filter (λ (u : User). is_member room u.nick channel) (values users)))) agree.users
    ∙ ap (λ test. filter_map (λ nick. home_under other (key nick))
    (map (λ (u : User). u.nick) (filter test (values other.users))))
    (fun_ext (λ (u : User). (alike_have_alike room other agree).member u.nick channel))

pub told_alike : (room other : Room) (effect : Effect) → AreAlike room other
    → told_homes room effect ≡ told_homes other effect
told_alike room other (Say by notice (target.Channel channel) text) agree =
    ap Some (homes_alike room other channel agree)
told_alike room other (Say by notice (target.User nick) text) agree = ap (λ users. told_homes
    (record room { users = users }) (Say by notice (target.User nick) text)) agree.users
told_alike room other (Invite by nick channel) agree =
    ap (λ users. told_homes (record room { users = users }) (Invite by nick channel)) agree.users
told_alike room other effect agree = refl

-- ---- what the line of an effect is read as

pub no_row : (room : Room) (known : Known) (effect : Effect)
    → of_deeds.burst_row_of (message_of (wire room known effect)).command ≡ None
no_row room known (Say by true to text) = refl
no_row room known (Say by false to text) = refl
no_row room known effect = refl

-- no server does it
abbrev pub IsSendableBy : Effect → Type 0
IsSendableBy (ChangeModes by.Home channel changes) = ⊥
IsSendableBy (SetTopic by.Home channel text) = ⊥
IsSendableBy effect = ⊤

-- it is nobody's nickname that is taken
nobody : (own : List ℕ) (room : Room) (user : User) → brings_free room (AddUser user) ≡ true
    → introduced own room user ≡ does (AddUser user) ∷ []
nobody own room user free = by (row room.users (key user.nick)) refl
  where
    by : (o : Option User) → row room.users (key user.nick) ≡ o
        → option_map_or (λ (holder : User). kills own holder.nick ∷ [])
        (row room.users (key user.nick)) (does (AddUser user) ∷ []) ≡ does (AddUser user) ∷ []
    by None there = ap (λ o. option_map_or (λ (holder : User). kills own holder.nick ∷ []) o
        (does (AddUser user) ∷ [])) there
    by (Some holder) there = absurd (cc (sym free ∙ ap (λ o. not (is_some o)) there))

not_anothers : (a b : Bool) → (not a || b) ≡ true → (a && not b) ≡ false
not_anothers true true is = refl
not_anothers true false is = cc is
not_anothers false b is = refl

pub one_deed : (own : List ℕ) (room : Room) (server : Option (List ℕ))
    (effect : Effect) (sent : IsSendableBy effect) → brings_free room effect ≡ true
    → collided own room server effect ≡ does effect ∷ []
one_deed own room server (AddUser user) sent free = nobody own room user free
one_deed own room server (Rename nick new) sent free =
    ap (λ b. if b then map (kills own)
    (of_deeds.nicks_in_order (stored_nick room nick) (stored_nick room new))
    else does (Rename nick new) ∷ []) (not_anothers (has_user room new) (folded.same nick new) free)
one_deed own room server (ChangeModes by.Home channel changes) sent free = absurd sent
one_deed own room server (SetTopic by.Home channel text) sent free = absurd sent
one_deed own room (Some server) other sent free = refl
one_deed own room None effect sent free = refl

pub sent_by : (room : Room) (effect : Effect) → IsSendable room effect → IsSendableBy effect
sent_by room (ChangeModes by.Home channel changes) sent = absurd sent
sent_by room (SetTopic by.Home channel text) sent = absurd sent
sent_by room effect sent = tt

-- what is heard of the line of an effect that is read back
module _ (room : Room) (known : Known) (view : View) (link : ℕ) (end : End) (effect : Effect)
    (back : IsReadBack room known view.room view.routes link effect) where
  effect_meant : IsSendableBy effect → brings_free view.room effect ≡ true
      → deeds_meant view.room view.routes link (message_of (wire room known effect))
      ≡ Ok (a_deed (does effect) ∷ [])
  unfolding deeds_meant
  effect_meant sent free =
      ap (read_burst_row view.room view.routes link (message_of (wire room known effect)))
      (no_row room known effect)
      ∙ ap (effects_told view.routes.name view.room (message_of (wire room known effect)).prefix)
      back.meaning
      ∙ ap (λ deeds. Ok (map a_deed (deeds ++ [])))
      (one_deed view.routes.name view.room
      (server_of (message_of (wire room known effect)).prefix) effect sent free)

  pub effect_heard : IsSendableBy effect → brings_free view.room effect ≡ true
      → is_some end.far ≡ true → heard view link end (read_of (line_text (wire room known effect)))
      ≡ tells (a_deed (does effect) ∷ [])
  effect_heard sent free met =
      met_heard view link end (line_text (wire room known effect))
      (message_of (wire room known effect)) back.line met
      ∙ ap of_met (effect_meant sent free)

module _ (read_back : EachIsReadBack) (s : ItemSetting) (fixed : IsItemSetting s) (p t u : Name)
    (w : of_side.SideState) (view other : View) (takes : TakesFrom s.streams t p)
    (next : TakesFrom s.streams u t) (apart : u ≢ p) (writer : Fits s t w view)
    (reader : Fits s u w other) (effect : Effect) (doable : IsDoableEffect s w effect) where
  sound : IsSoundSide s w
  sound = writer.sound

  u_linked : AreLinked w.tree.forest u t
  u_linked = beside.u_linked s p t u w view other takes next apart writer reader

  t_among : IsAmong s.names t
  t_among = beside.t_among s p t u w view other takes next apart writer reader

  u_among : IsAmong s.names u
  u_among = beside.u_among s p t u w view other takes next apart writer reader

  abbrev parts : Written
  parts = wire view.room view.routes effect

  -- ---- the line is read as the effect

  readers_end : beside.HasEnd other (number s t) t
  readers_end = beside.readers_end s p t u w view other takes next apart writer reader

  back : IsReadBack view.room view.routes other.room other.routes (number s t) effect
  back = read_back view.room view.routes other.room other.routes (number s t) effect
      (can_be_read s fixed t u w view other next writer reader effect doable)
      (agrees s fixed t u w view other next writer reader effect doable)

  free_there : brings_free other.room effect ≡ true
  free_there =
      (alike_take_alike other.room w.hall.room effect (rooms_alike s t u w other next reader)).free
      ∙ doable.possible.nick_free

  heard_so : heard other (number s t) readers_end.end (read_of (line_text parts))
      ≡ tells (a_deed (does effect) ∷ [])
  heard_so =
      effect_heard view.room view.routes other (number s t) readers_end.end effect back
      (sent_by w.hall.room effect doable.sendable) free_there
      (ap is_some readers_end.named)

  says_there : Says s t u w other (does effect) (line_text parts)
  says_there = record {
    is_line = back.is_line;
    end = readers_end.end;
    is_end = readers_end.there;
    means = heard_so;
    doable = doable;
  }

  -- ---- which lines go there

  abbrev k : ℕ
  k = number s u

  abbrev those : Option (List (List ℕ)) → List ℕ
  those homes = filter (λ n. nat_eq n (number s u)) (ways_toward view.ends view.routes homes)

  lines_are : (line : List ℕ) → Says s p t w view (does effect) line
      → lines_on (number s u) (neighbour_served s p view line).out ≡ map (λ _. line_text parts)
      (those (told_homes w.hall.room effect))
  lines_are line says =
      ap (λ (so : Served). lines_on (number s u) so.out)
      (effect_served s p t w view takes writer effect line says)
      ∙ lines_behind (number s u) (shown_at view effect)
      (on_links (ways_at view (Some (number s p)) effect) parts)
      ∙ ap (λ l. l ++ lines_on (number s u) (on_links (ways_at view (Some (number s p)) effect)
      parts)) (none_by_effect (number s u) view effect)
      ∙ on_these (number s u) (ways_at view (Some (number s p)) effect) parts
      ∙ ap (map (λ _. line_text parts)) (but_another (number s u) (number s p)
      (beside.not_back s p t u w view other takes next apart writer reader)
      (ways_toward view.ends view.routes (told_homes view.room effect))
      ∙ ap (λ homes. filter (λ n. nat_eq n (number s u)) (ways_toward view.ends view.routes homes))
      (told_alike view.room w.hall.room effect (rooms_alike s p t w view takes writer)))

  -- those toward whom it is told
  one_way_there : (home : Name) → w.tree.knows home ≡ true → Telling home t → (rest more : Bool)
      → rest ≡ more → (numbers : List ℕ) → list_any (λ n. nat_eq n (number s u)) numbers ≡ rest
      → list_any (λ n. nat_eq n (number s u)) (cons_option (of_known.next_hop view.routes home)
      numbers) ≡ (same (toward w.tree.forest t home) u || more)
  one_way_there home known (alike _ e) rest more same_rest numbers is =
      ap (λ o. list_any (λ n. nat_eq n (number s u)) (cons_option o numbers)) none
      ∙ is ∙ same_rest
      ∙ sym (ap (λ b. b || more)
      (ap (λ n. same n u) (ap (toward w.tree.forest t) e ∙ toward_self w.tree.forest t)
      ∙ same_unless t u (λ f. linked_other w.tree.forest u t sound.tree.forest u_linked (sym f))))
    where
      none : of_known.next_hop view.routes home ≡ None
      none =
          ap (λ routes. of_known.next_hop routes home) writer.routes
          ∙ ap (λ n. option_map (λ (r : ServerRow). r.link) (row_of (w.tree.routes t) n))
          (e ∙ sym (sound.tree.named t t_among))
          ∙ ap (option_map (λ (r : ServerRow). r.link)) (sound.tree.numbered t t_among).not_itself
  one_way_there home known (unlike _ two) rest more same_rest numbers is =
      ap (λ o. list_any (λ n. nat_eq n (number s u)) (cons_option o numbers)) hop
      ∙ ap (λ b. b || list_any (λ n. nat_eq n (number s u)) numbers) one_test
      ∙ ap (λ b. same (toward w.tree.forest t home) u || b) (is ∙ same_rest)
    where
      hop : of_known.next_hop view.routes home ≡ Some (number s (toward w.tree.forest t home))
      hop =
          ap (λ routes. of_known.next_hop routes home) writer.routes
          ∙ link_of (row_of (w.tree.routes t) home)
          (shape_in s.names (of_side.info_in s.settings) w.tree.forest t home)
          (shape_at s w sound t home writer.here known two)

      hop_among : IsAmong s.names (toward w.tree.forest t home)
      hop_among = sound.tree.ends (toward w.tree.forest t home) t
          (linked_back w.tree.forest t (toward w.tree.forest t home)
          (next_hop w.tree.forest t home sound.tree.forest
          (sound.tree.joined t home writer.here known) (λ e. two (sym e))).linked)

      one_test : nat_eq (number s (toward w.tree.forest t home)) (number s u)
          ≡ same (toward w.tree.forest t home) u
      one_test = by (nat_eq (number s (toward w.tree.forest t home)) (number s u)) refl
          (tell (toward w.tree.forest t home) u)
        where
          by : (b : Bool) → nat_eq (number s (toward w.tree.forest t home)) (number s u) ≡ b
              → Telling (toward w.tree.forest t home) u → b ≡ same (toward w.tree.forest t home) u
          by true it (alike same_one _) = sym same_one
          by true it (unlike _ other_one) =
              absurd (other_one (one_place s.names (toward w.tree.forest t home) u hop_among
              (eqb-true (number s (toward w.tree.forest t home)) (number s u) it)))
          by false it (unlike same_one _) = sym same_one
          by false it (alike _ e) = absurd (cc (sym it
              ∙ eq-eqb (number s (toward w.tree.forest t home)) (number s u) (ap (number s) e)))

  toward_it : (homes : List (List ℕ)) → AllByRecursion (λ home. w.tree.knows home ≡ true) homes
      → list_any (λ n. nat_eq n (number s u)) (filter_map (of_known.next_hop view.routes) homes)
      ≡ list_any (λ home. same (toward w.tree.forest t home) u) homes
  toward_it [] known = refl
  toward_it (home ∷ homes) known =
      one_way_there home known.0 (tell home t)
      (list_any (λ n. nat_eq n (number s u)) (filter_map (of_known.next_hop view.routes) homes))
      (list_any (λ h. same (toward w.tree.forest t h) u) homes) (toward_it homes known.1)
      (filter_map (of_known.next_hop view.routes) homes) refl

  to_some : (homes : List (List ℕ)) → told_homes w.hall.room effect ≡ Some homes
      → those (Some homes) ≡ (if list_any (λ home. same (toward w.tree.forest t home) u) homes
      then number s u ∷ [] else [])
  to_some homes is =
      among_keys (number s u) (filter_map (of_known.next_hop view.routes) homes)
      ∙ ap (λ b. if b then number s u ∷ [] else [])
      (toward_it homes (told_known w.hall.room w.tree.knows sound.at_known effect homes is))

  -- ----

  module _ (client : ℕ) (line : List ℕ) (says : Says s p t w view (does effect) line) where
    abbrev Goes : List (List ℕ) → Type 0
    Goes lines = GoesOn s t u w other (does effect) lines

    one_line : Goes (line_text parts ∷ [])
    one_line = told (line_text parts) refl says_there

    by_homes : (homes : Option (List (List ℕ))) → told_homes w.hall.room effect ≡ homes
        → Goes (map (λ _. line_text parts) (those homes))
    by_homes None is = subst (λ links. Goes (map (λ _. line_text parts) links))
        (sym (beside.to_all s p t u w view other takes next apart writer reader)) one_line
    by_homes (Some homes) is =
        subst (λ links. Goes (map (λ _. line_text parts) links)) (sym (to_some homes is))
        (on (list_any (λ home. same (toward w.tree.forest t home) u) homes) refl)
      where
        on : (b : Bool) → list_any (λ home. same (toward w.tree.forest t home) u) homes ≡ b
            → Goes (map (λ _. line_text parts) (if b then number s u ∷ [] else []))
        on true there = one_line
        on false none = passed refl (record {
          takes = record { parent = refl; below = next.below };
          sound = sound;
          doable = doable;
          homes = homes;
          told = is;
          elsewhere =
              ap (λ q. list_any (λ home. same (toward w.tree.forest q home) u) homes) next.parent
              ∙ none;
        })

    goes_on : Goes ((machine s client).sends t p view line u)
    goes_on =
        subst Goes (sym (ap (λ b. if b then [] else lines_on (number s u) (neighbour_served s p view
        line).out) (same_unless u p apart) ∙ lines_are line says))
        (by_homes (told_homes w.hall.room effect) refl)

pub said_effect_goes_on : EachIsReadBack → SaidEffectGoesOn
said_effect_goes_on read_back effect s p t u w view other line client fixed takes next apart writer
    reader says =
    goes_on read_back s fixed p t u w view other takes next apart writer reader effect says.doable
    client line says
