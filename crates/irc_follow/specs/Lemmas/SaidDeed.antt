-- A server that takes a line which says a deed of a server is then what it has to be after that
-- deed.
use Rattle.std.proofs.Common.{◌≡◌, ◌≢◌, ℕ, Bool, true, false, cond, not, ◌&&◌, Option, Some, None}
use Rattle.std.proofs.Common.{List, [], ◌∷◌, refl, sym, ◌∙◌, ap, subst, if◌then◌else◌}
use Rattle.std.specs.FinMap.{get, retain_keys}
use Rattle.std.specs.Option.{option_map_or}
use Rattle.irc_line.specs.Reading.{read_of}
use Rattle.irc_channels.specs.declared.flags.Flags.{Flags}
use Rattle.irc_modes.specs.declared.modes.ModeChange.{ModeChange}
use Rattle.irc_room.specs.effect.Effect.{Effect}
use Rattle.irc_room.specs.effect.Effect.TheVariants.{Quit}
use Rattle.irc_room.specs.Effects.{has_user, IsPossible}
use Rattle.irc_room.specs.InTurn.{after_all, EachInTurn}
use Rattle.irc_room.specs.InTurnLaws.{each-so}
use Rattle.irc_room.specs.Invitations.{of_home}
use Rattle.irc_room.specs.OtherInvitations.{AreAlike}
use Rattle.irc_room.specs.Room.{Room}
use Rattle.irc_room.specs.Lemmas.AlikeLaw.{alike_have_alike, alike_stay_alike, alike_take_alike}
use Rattle.irc_room.specs.Lemmas.HomeLaw.{home_follows}
use Rattle.irc_room.specs.Lemmas.RespelledRooms.{alike_are_respelled_alike}
use Rattle.irc_merge.specs.CanBeDone.{DoesSomething}
use Rattle.irc_merge.specs.AsideInvitations.{CanComeOf, after_deed_at}
use Rattle.irc_merge.specs.Deeds.{Deed, loses, kills, brings, sets, tops, titled, after_deed}
use Rattle.irc_merge.specs.Deeds.{effects_of}
use Rattle.irc_merge.specs.Quits.{collision_text, quits_of, users_at}
use Rattle.irc_merge.specs.Lemmas.DeedsAlike.{alike_do_alike, home_follows_deed}
use Rattle.irc_relay.specs.Links.{Name, same, linked, AreLinked}
use Rattle.irc_relay.specs.Relay.{TakesFrom}
use Rattle.irc_relay.specs.Lemmas.TellingNames.{Telling, alike, unlike, tell, same_unless}
use Rattle.irc_relay.specs.Lemmas.LinkTakenOut.{tests_tell}
use Rattle.irc_routes.specs.Known.{without_server}
use Rattle.irc_burst.specs.DeedsMeant.{a_deed}
use Rattle.irc_stage.specs.declared.clients.Client.{Client}
use Rattle.irc_stage.specs.EffectTold.{Served, all_changed, changed, in_silence, is_another}
use Rattle.irc_stage.specs.EffectTold.{client_ended, room_after}
use Rattle.irc_stage.specs.Handle.{is_client}
use Rattle.irc_stage.specs.View.{End, View}
use Rattle.irc_stage.specs.Lemmas.Counting.{get-kept}
use Rattle.irc_stage.specs.Lemmas.Numbers.{same_clients}
use Rattle.irc_server.specs.DeedTold.{deed_told, told_by}
use Rattle.irc_server.specs.Heard.{heard, tells}
use Rattle.irc_server.specs.LinkServed.{after_heard, line_served}
use Rattle.irc_server.specs.Served.{served}
use Rattle.irc_world.specs.World.{home_in}
use Rattle.irc_follow.specs.SideState.{ItemSetting, clients_elsewhere, done, is_home_of, number}
use Rattle.irc_follow.specs.SideState.{IsSoundSide}
use Rattle.irc_follow.specs.SideState as of_side
use Rattle.irc_follow.specs.Fits.{far_end, Fits}
use Rattle.irc_follow.specs.Says.{neighbour_served, Says, IsDoableByServer, IsDoableKill}
use Rattle.irc_follow.specs.Says.{IsDoableLoss}
use Rattle.irc_follow.specs.Lemmas.DeedEffects.{AllCalm, AllQuiet, all_view, at_room, members_calm}
use Rattle.irc_follow.specs.Lemmas.DeedEffects.{members_quiet, quiet_counted, quits_calm, sets_calm}
use Rattle.irc_follow.specs.Lemmas.DeedEffects.{sets_quiet, tops_calm, tops_quiet}
use Rattle.irc_follow.specs.Lemmas.LostUsers.{lost_are_of, lost_counted}
use Rattle.irc_follow.specs.Lemmas.DeedsOnSide.{brings_keeps, kills_keeps, loses_keeps, sets_keeps}
use Rattle.irc_follow.specs.Lemmas.DeedsOnSide.{there_to_kill, tops_keeps}
use Rattle.irc_follow.specs.Lemmas.SaidEffect.{own_name, room_now, rooms_alike}

module _ (s : ItemSetting) (p t : Name) (w : of_side.SideState) (view : View)
    (takes : TakesFrom s.streams t p)
    (fits : Fits s t w view) where
  sound : IsSoundSide s w
  sound = fits.sound

  rooms : AreAlike view.room w.hall.room
  rooms = rooms_alike s p t w view takes fits

  client_here : (q : ℕ)
      → get view.clients q ≡ cond (is_home_of s.homes t q) (get w.hall.clients q) None
  client_here q =
      ap (λ clients. get clients q) fits.clients ∙ get-kept w.hall.clients (is_home_of s.homes t) q

  -- what a line makes of the server that says a deed
  abbrev after_deed_of : (deed : Deed) → Served
  after_deed_of deed = told_by (number s p) (a_deed deed) (in_silence view)

  pub deed_served : (deed : Deed) (line : List ℕ) (end : End) → get view.ends (number s p)
      ≡ Some end → heard view (number s p) end (read_of line) ≡ tells (a_deed deed ∷ [])
      → neighbour_served s p view line ≡ after_deed_of deed
  unfolding served
  deed_served deed line end is_end means =
      ap (line_served view (number s p) (read_of line)) is_end
      ∙ ap (after_heard view (number s p)) means

  asked_is : (deed : Deed) (line : List ℕ) (end : End) → get view.ends (number s p) ≡ Some end
      → heard view (number s p) end (read_of line) ≡ tells (a_deed deed ∷ [])
      → (neighbour_served s p view line).state ≡ (after_deed_of deed).state
  asked_is deed line end is_end means =
      ap (λ (so : Served). so.state) (deed_served deed line end is_end means)

  -- ---- members, modes and a topic

  with_room_fits : (room new : Room)
      → IsSoundSide s (record w { hall = record w.hall { room = new } }) → room ≡ of_home t new
      → Fits s t (record w { hall = record w.hall { room = new } }) (record view { room = room })
  with_room_fits room new sound_now is = record {
    here = fits.here;
    sound = sound_now;
    peers = fits.peers;
    routes = fits.routes;
    ends = fits.ends;
    no_others = fits.no_others;
    clients = fits.clients;
    room = is;
  }

  -- a deed does the same effects here as in the room of the side
  pub same_effects : (deed : Deed) → effects_of view.room deed ≡ effects_of w.hall.room deed
  same_effects deed = (alike_do_alike alike_stay_alike alike_take_alike alike_have_alike view.room
      w.hall.room deed rooms).effects

  -- a deed whose effects leave clients and users as they are, and each do something in their turn
  pub record IsQuietDeed (deed : Deed) : Type 0 where
    pub calm : AllCalm (effects_of w.hall.room deed)
    pub quiet : AllQuiet (effects_of w.hall.room deed)
    pub each : EachInTurn DoesSomething (titled w.hall.room deed) (effects_of w.hall.room deed)
    pub alike : AreAlike (titled view.room deed) (titled w.hall.room deed)
    pub can : CanComeOf w.hall.room deed
    pub follows : after_deed_at t view.room deed ≡ after_deed view.room deed

  pub brings_quietly : (server channel : List ℕ) (members : List (List ℕ × Flags))
      → IsDoableByServer s w server (brings server channel members)
      → IsQuietDeed (brings server channel members)
  brings_quietly server channel members doable = record {
    calm = members_calm channel members;
    quiet = members_quiet channel members;
    each = doable.each;
    alike = alike_are_respelled_alike channel view.room w.hall.room rooms;
    can = each-so DoesSomething IsPossible (λ room effect does_it. does_it.possible)
        (titled w.hall.room (brings server channel members))
        (effects_of w.hall.room (brings server channel members)) doable.each;
    follows = refl;
  }

  pub sets_quietly : (server channel : List ℕ) (changes : List ModeChange)
      → IsDoableByServer s w server (sets server channel changes)
      → IsQuietDeed (sets server channel changes)
  sets_quietly server channel changes doable = record {
    calm = sets_calm w.hall.room server channel changes;
    quiet = sets_quiet w.hall.room server channel changes;
    each = doable.each;
    alike = rooms;
    can = tt;
    follows = refl;
  }

  pub tops_quietly : (server channel topic : List ℕ) → IsDoableByServer s w server
      (tops server channel topic) → IsQuietDeed (tops server channel topic)
  tops_quietly server channel topic doable = record {
    calm = tops_calm w.hall.room server channel topic;
    quiet = tops_quiet w.hall.room server channel topic;
    each = doable.each;
    alike = rooms;
    can = tt;
    follows = refl;
  }

  quiet_fits : (deed : Deed) → IsQuietDeed deed
      → IsSoundSide s (record w { hall = record w.hall { room = after_deed w.hall.room deed } })
      → Fits s t (record w { hall = record w.hall { room = after_deed w.hall.room deed } })
      (all_changed (effects_of view.room deed) (at_room view (titled view.room deed) [])).state
  unfolding after_deed
  quiet_fits deed is sound_now =
      let effects = effects_of w.hall.room deed in
      let view_is = ap (λ es. (all_changed es (at_room view (titled view.room deed) [])).state)
      (same_effects deed)
      ∙ all_view view effects (titled view.room deed) (titled w.hall.room deed) [] is.alike is.calm
      (quiet_counted view (titled w.hall.room deed) effects is.quiet is.each) in
      let room_is = ap (after_all (titled view.room deed)) (sym (same_effects deed))
      ∙ sym (home_follows_deed home_follows t w.hall.room deed sound.well is.can
      ∙ ap (λ room. after_deed_at t room deed) (sym fits.room) ∙ is.follows) in
      subst (Fits s t (record w {
        hall = record w.hall {
          room = after_all
              (titled w.hall.room deed) effects;
        };
      })) (sym view_is)
      (with_room_fits (after_all (titled view.room deed) effects)
      (after_all (titled w.hall.room deed) effects) sound_now room_is)

  pub said_brings_fits : (server channel : List ℕ) (members : List (List ℕ × Flags)) (line : List ℕ)
      → Says s p t w view (brings server channel members) line
      → Fits s t (done s w (brings server channel members)) (neighbour_served s p view line).state
  unfolding done told_by deed_told
  said_brings_fits server channel members line says =
      subst (Fits s t (done s w (brings server channel members)))
      (sym (asked_is (brings server channel members) line says.end says.is_end says.means))
      (quiet_fits (brings server channel members)
      (brings_quietly server channel members says.doable)
      (brings_keeps s w sound server channel members says.doable))

  pub said_sets_fits : (server channel : List ℕ) (changes : List ModeChange) (line : List ℕ)
      → Says s p t w view (sets server channel changes) line
      → Fits s t (done s w (sets server channel changes)) (neighbour_served s p view line).state
  unfolding done told_by deed_told
  said_sets_fits server channel changes line says =
      subst (Fits s t (done s w (sets server channel changes)))
      (sym (asked_is (sets server channel changes) line says.end says.is_end says.means))
      (quiet_fits (sets server channel changes) (sets_quietly server channel changes says.doable)
      (sets_keeps s w sound server channel changes says.doable))

  pub said_tops_fits : (server channel topic : List ℕ) (line : List ℕ)
      → Says s p t w view (tops server channel topic) line
      → Fits s t (done s w (tops server channel topic)) (neighbour_served s p view line).state
  unfolding done told_by deed_told
  said_tops_fits server channel topic line says =
      subst (Fits s t (done s w (tops server channel topic)))
      (sym (asked_is (tops server channel topic) line says.end says.is_end says.means))
      (quiet_fits (tops server channel topic) (tops_quietly server channel topic says.doable)
      (tops_keeps s w sound server channel topic says.doable))

  -- ---- a server is lost

  module _ (server name text : List ℕ) (doable : IsDoableLoss s w server name text) where
    pub not_it : name ≢ t
    not_it is = cc (sym doable.can.elsewhere ∙ ap w.tree.here is ∙ fits.here)

    lost_clients : view.clients ≡ retain_keys (clients_elsewhere s.homes name w.hall.clients)
        (is_home_of s.homes t)
    lost_clients = same_clients view.clients
        (retain_keys (clients_elsewhere s.homes name w.hall.clients) (is_home_of s.homes t)) (λ q.
        client_here q
        ∙ by q (home_in s.homes q) refl
        ∙ ap (λ o. cond (is_home_of s.homes t q) o None)
        (sym (get-kept w.hall.clients (λ client. not (is_home_of s.homes name client)) q))
        ∙ sym (get-kept (clients_elsewhere s.homes name w.hall.clients) (is_home_of s.homes t) q))
      where
        on : (home : Name) (o : Option Client) → Telling t home → cond (same t home) o None
            ≡ cond (same t home) (cond (not (same name home)) o None) None
        on home o (alike is e) =
            ap (λ b. cond b o None) is
            ∙ ap (λ b. cond (not b) o None) (sym (same_unless name home (λ f. not_it (f ∙ sym e))))
            ∙ sym (ap (λ b. cond b (cond (not (same name home)) o None) None) is)
        on home o (unlike is _) = ap (λ b. cond b o None) is
            ∙ sym (ap (λ b. cond b (cond (not (same name home)) o None) None) is)

        by : (q : ℕ) (home : Option Name) → home_in s.homes q ≡ home
            → cond (is_home_of s.homes t q) (get w.hall.clients q) None
            ≡ cond (is_home_of s.homes t q)
            (cond (not (is_home_of s.homes name q)) (get w.hall.clients q) None) None
        by q None is =
            ap (λ h. cond (option_map_or (same t) h false) (get w.hall.clients q) None) is
            ∙ sym (ap (λ h. cond (option_map_or (same t) h false) (cond (not
            (option_map_or (same name) h false)) (get w.hall.clients q) None) None) is)
        by q (Some home) is =
            ap (λ h. cond (option_map_or (same t) h false) (get w.hall.clients q) None) is
            ∙ on home (get w.hall.clients q) (tell t home)
            ∙ sym (ap (λ h. cond (option_map_or (same t) h false) (cond (not
            (option_map_or (same name) h false)) (get w.hall.clients q) None) None) is)

    end_left : (x : Name) → Telling x name
        → far_end (done s w (loses server name text)) t x ≡ far_end w t x
    unfolding done
    end_left x (alike _ e) =
        ap (λ b. if b then Some (if w.tree.knows x && not (same x name) then Some x else None)
        else None) none
        ∙ sym (ap (λ b. if b then Some (if w.tree.knows x then Some x else None) else None) none)
      where
        none : linked w.tree.forest t x ≡ false
        none = by (linked w.tree.forest t x) refl
          where
            by : (b : Bool) → linked w.tree.forest t x ≡ b → b ≡ false
            by false is = refl
            by true is =
                absurd (doable.not_linked t p fits.here takes (subst (AreLinked w.tree.forest t) e
                ((tests_tell w.tree.forest t x t).2.0 is)))
    end_left x (unlike is _) =
        ap (λ b. if linked w.tree.forest t x
        then Some (if w.tree.knows x && not b then Some x else None) else None) is
        ∙ ap (λ b. if linked w.tree.forest t x then Some (if b then Some x else None) else None)
        (and_true (w.tree.knows x))
      where
        and_true : (b : Bool) → (b && not false) ≡ b
        and_true true = refl
        and_true false = refl

    abbrev quits : List Effect
    quits = quits_of text (users_at name w.hall.room)

    quits_view : (all_changed (quits_of text (users_at name view.room)) (in_silence view)).state
        ≡ record view { room = after_all view.room quits }
    quits_view =
        ap (λ users. (all_changed (quits_of text (users_at name
        (record view.room { users = users }))) (in_silence view)).state) rooms.users
        ∙ all_view view quits view.room w.hall.room [] rooms
        (quits_calm text (users_at name w.hall.room))
        (lost_counted view t name (own_name s p t w view takes fits) not_it w.hall.room text
        (users_at name w.hall.room)
        (lost_are_of name w.hall.room sound.well) doable.by_server.each)

    quits_room : after_all view.room quits ≡ of_home t (after_all w.hall.room quits)
    unfolding after_deed
    quits_room =
        sym (home_follows_deed home_follows t w.hall.room (loses server name text) sound.well tt
        ∙ ap (λ room. after_all room (quits_of text (users_at name room))) (sym fits.room)
        ∙ ap (λ users. after_all view.room
        (quits_of text (users_at name (record view.room { users = users })))) rooms.users)

    lost_fits : Fits s t (done s w (loses server name text))
        (record view { room = after_all view.room quits; routes = without_server name view.routes })
    unfolding done after_deed
    lost_fits = record {
      here = fits.here;
      sound = loses_keeps s w sound server name text doable;
      peers = fits.peers;
      routes = ap (without_server name) fits.routes ∙ sym (ap
          (λ b. if b then without_server name (w.tree.routes t) else w.tree.routes t) fits.here);
      ends = λ x among. fits.ends x among ∙ sym (end_left x (tell x name));
      no_others = fits.no_others;
      clients = lost_clients;
      room = quits_room;
    }

  pub said_loses_fits : (server name text : List ℕ) (line : List ℕ)
      → Says s p t w view (loses server name text) line
      → Fits s t (done s w (loses server name text)) (neighbour_served s p view line).state
  unfolding told_by deed_told
  said_loses_fits server name text line says =
      subst (Fits s t (done s w (loses server name text)))
      (sym (asked_is (loses server name text) line says.end says.is_end says.means
      ∙ ap (λ (v : View). record v { routes = without_server name v.routes })
      (quits_view server name text says.doable)))
      (lost_fits server name text says.doable)

  -- ---- a user is killed

  module _ (server nick : List ℕ) (doable : IsDoableKill s w server nick) where
    pub there : has_user view.room nick ≡ true
    there = ap (λ users. has_user (record view.room { users = users }) nick) rooms.users
        ∙ there_to_kill s w sound server nick doable

    killed_clients : retain_keys view.clients (is_another view.clients nick) ≡ retain_keys
        (retain_keys w.hall.clients (is_another w.hall.clients nick)) (is_home_of s.homes t)
    killed_clients = same_clients (retain_keys view.clients (is_another view.clients nick))
        (retain_keys (retain_keys w.hall.clients (is_another w.hall.clients nick))
        (is_home_of s.homes t)) (λ q.
        get-kept view.clients (is_another view.clients nick) q
        ∙ ap (λ o. cond (option_map_or (λ client. not (is_client nick client)) o true) o None)
        (client_here q)
        ∙ by (is_home_of s.homes t q) (get w.hall.clients q)
        ∙ ap (λ o. cond (is_home_of s.homes t q) o None)
        (sym (get-kept w.hall.clients (is_another w.hall.clients nick) q))
        ∙ sym (get-kept (retain_keys w.hall.clients (is_another w.hall.clients nick))
        (is_home_of s.homes t) q))
      where
        by : (b : Bool) (o : Option Client) → cond (option_map_or
            (λ client. not (is_client nick client)) (cond b o None) true) (cond b o None) None
            ≡ cond b
            (cond (option_map_or (λ client. not (is_client nick client)) o true) o None) None
        by true o = refl
        by false o = refl

    abbrev killed : View
    killed = record view {
      room = room_after view (Quit nick collision_text);
      clients = retain_keys view.clients (is_another view.clients nick);
    }

    killed_fits : Fits s t (done s w (kills server nick)) killed
    unfolding done
    killed_fits = record {
      here = fits.here;
      sound = kills_keeps s w sound server nick doable;
      peers = fits.peers;
      routes = fits.routes;
      ends = fits.ends;
      no_others = fits.no_others;
      clients = killed_clients;
      room = room_now s p t w view takes fits (Quit nick collision_text) refl
          (ap (λ b. b && true) there);
    }

    killed_view : (client_ended nick collision_text (if has_user view.room nick
        then changed (Quit nick collision_text) (in_silence view) else in_silence view)).state
        ≡ killed
    killed_view = ap (λ b. (client_ended nick collision_text (if b then changed
        (Quit nick collision_text) (in_silence view) else in_silence view)).state) there

  pub said_kills_fits : (server nick : List ℕ) (line : List ℕ)
      → Says s p t w view (kills server nick) line
      → Fits s t (done s w (kills server nick)) (neighbour_served s p view line).state
  unfolding told_by deed_told
  said_kills_fits server nick line says =
      subst (Fits s t (done s w (kills server nick)))
      (sym (asked_is (kills server nick) line says.end says.is_end says.means
      ∙ killed_view server nick says.doable))
      (killed_fits server nick says.doable)
