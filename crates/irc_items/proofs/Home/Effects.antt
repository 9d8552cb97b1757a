-- An effect at the server of whoever does it: the server is then what it is to be of its part's
-- room machine, and its clients are shown the same.
use Rattle.std.proofs.Common.{◌≡◌, ℕ, Bool, true, false, cond, not, ◌&&◌, Option, Some, None, List}
use Rattle.std.proofs.Common.{[], ◌∷◌, ◌++◌, refl, sym, ◌∙◌, ap, is_some, option_map}
use Rattle.std.proofs.Common.{option_to_list, if◌then◌else◌}
use Rattle.std.proofs.lemmas.List.Elements.{filter_map-append}
use Rattle.std.specs.Cmp.Lexicographic.{bytes_decides}
use Rattle.std.specs.FinMap.{get}
use Rattle.std.specs.List.{flat_map, list_all}
use Rattle.std.specs.Option.{option_and_then, option_map_or}
use Rattle.std.proofs.lemmas.Bool.{not-true}
use Rattle.std.specs.Cmp.{second_so, first_so}
use Rattle.irc_names.specs.Fold.{key, same}
use Rattle.irc_names.specs.Tables.{row}
use Rattle.irc_users.specs.declared.user.User.{User}
use Rattle.irc_users.specs.UserTable.{is_home}
use Rattle.irc_batch.specs.Batches.{Sent}
use Rattle.irc_room.specs.effect.Effect.{Effect}
use Rattle.irc_room.specs.effect.Effect.TheVariants.{Invite}
use Rattle.irc_room.specs.After.{after}
use Rattle.irc_room.specs.Effects.{has_user, needs_users, IsPossible}
use Rattle.irc_room.specs.Invitations.{after_at, is_at, of_home}
use Rattle.irc_room.specs.OtherInvitations.{AreAlike}
use Rattle.irc_room.specs.Room.{Room}
use Rattle.irc_room.specs.Seen.{seen, shown_line}
use Rattle.irc_room.specs.Viewers.{line_for, shows_to}
use Rattle.irc_room.specs.Lemmas.AlikeLaw.{alike_take_alike, home_is_alike}
use Rattle.irc_room.specs.Lemmas.HomeLaw.{home_follows}
use Rattle.irc_room.specs.Lemmas.HomeRooms.{home_is_well_formed}
use Rattle.irc_link_writer.specs.Written.{wire}
use Rattle.irc_relay.specs.Links.{Name}
use Rattle.irc_relay.specs.Links as of_links
use Rattle.irc_routes.specs.Known.{next_hop}
use Rattle.irc_stage.specs.declared.clients.Client.{Client}
use Rattle.irc_stage.specs.declared.clients.Client.TheVariants.{Registering, Registered}
use Rattle.irc_stage.specs.EffectTold.{Served, effect_told, is_elsewhere, on_links, room_after}
use Rattle.irc_stage.specs.EffectTold.{shown_at, view_after, ways_at}
use Rattle.irc_stage.specs.Handle.{Handled, machine_after, to_viewer, with_effect}
use Rattle.irc_stage.specs.RoomMachine.{RoomMachine}
use Rattle.irc_stage.specs.View.{View}
use Rattle.irc_server.specs.Owed.{lines_to}
use Rattle.irc_follow.specs.Lemmas.ClientLines.{client_shown, effect_lines}
use Rattle.irc_follow.specs.Lemmas.SaidEffectShown.{but_links, lines_behind}
use Rattle.irc_items.specs.GoodLines.{closings, reason_of}
use Rattle.irc_items.proofs.Home.Clients.{staying, staying_after, staying_at}
use Rattle.irc_items.proofs.Home.Users.{IsHomeRoom, IsOwnStep}
use Rattle.irc_items.proofs.Good.PutOut.{none_closed_by_effect, none_closed_on_links}

-- ---- nothing of it closes a link

pub closings_behind : (one other : List Sent) → closings one ≡ []
    → closings (one ++ other) ≡ closings other
closings_behind one other none =
    filter_map-append reason_of one other ∙ ap (λ l. l ++ closings other) none

-- what both are where something is so, and nothing else
pub both_here : (b : Bool) (one other : List (List ℕ))
    → cond b one [] ++ cond b other [] ≡ cond b (one ++ other) []
both_here true one other = refl
both_here false one other = refl

-- ---- the server t as it is to be: its clients are those that stay there, its room is all but
-- foreign invitations

module _ (t : Name) (stays : ℕ → Bool) (start : View) where
  abbrev pub view_in : RoomMachine → View
  view_in machine =
      record start { clients = staying stays machine.clients; room = of_home t machine.room }

  -- each known server but itself is behind one of its links
  abbrev pub KnowsWays : (Name → Bool) → Type 0
  KnowsWays knows = (home : Name) → knows home ≡ true
      → is_some (next_hop start.routes home) ≡ not (of_links.same home t)

  -- after the same events at the room machine and at the server, so much put out
  pub record AreOneAt (h : Handled) (v : Served) : Type 0 where
    pub state : v.state ≡ view_in h.state
    pub told : (who : ℕ) → lines_to who v.out ≡ cond (stays who) (lines_to who h.out) []
    pub closes_none : closings v.out ≡ []

  module _ (knows : Name → Bool) (ways : KnowsWays knows) (machine : RoomMachine)
      (is : IsHomeRoom t stays knows machine) where
    alike : AreAlike (of_home t machine.room) machine.room
    alike = home_is_alike t machine.room

    -- ---- an invitation of another server's user

    invited_elsewhere : (by nick channel : List ℕ)
        → list_all (has_user machine.room) (by ∷ nick ∷ []) ≡ true → is_elsewhere (view_in machine)
        (Invite by nick channel) ≡ not (is_at t machine.room.users (key nick))
    invited_elsewhere by nick channel there =
        ap (λ users. is_some (option_and_then (next_hop start.routes)
        (option_map (λ (u : User). u.home) (row users (key nick))))) alike.users
        ∙ on (row machine.room.users (key nick)) refl
      where
        on : (o : Option User) → row machine.room.users (key nick) ≡ o
            → is_some (option_and_then (next_hop start.routes)
            (option_map (λ (u : User). u.home) (row machine.room.users (key nick))))
            ≡ not (option_map_or (is_home t) (row machine.room.users (key nick)) false)
        on None none =
            absurd (cc (sym (ap is_some none)
            ∙ first_so (has_user machine.room nick) true
            (second_so (has_user machine.room by) (has_user machine.room nick && true) there)))
        on (Some user) at =
            ap (λ o. is_some (option_and_then (next_hop start.routes)
            (option_map (λ (u : User). u.home) o))) at
            ∙ ways user.home (is.at_known (key nick) user at)
            ∙ ap (λ o. not (option_map_or (is_home t) o false)) (sym at)

    -- ---- the room

    room_at : (effect : Effect) → list_all (has_user machine.room) (needs_users effect) ≡ true
        → after_at t (of_home t machine.room) effect ≡ room_after (view_in machine) effect
    room_at (Invite by nick channel) there =
        ap (λ users. if is_at t users (key nick) then after (of_home t machine.room)
        (Invite by nick channel) else of_home t machine.room) alike.users
        ∙ on (is_at t machine.room.users (key nick))
        ∙ sym (ap (λ b. if b then of_home t machine.room
        else after (of_home t machine.room) (Invite by nick channel))
        (invited_elsewhere by nick channel there))
      where
        on : (b : Bool) → (if b then after (of_home t machine.room) (Invite by nick channel)
            else of_home t machine.room)
            ≡ (if not b then of_home t machine.room
            else after (of_home t machine.room) (Invite by nick channel))
        on true = refl
        on false = refl
    room_at effect there = refl

    pub room_now : (effect : Effect) → IsPossible machine.room effect
        → room_after (view_in machine) effect ≡ of_home t (after machine.room effect)
    room_now effect possible = sym (home_follows t machine.room effect is.well possible.nick_free
        ∙ room_at effect possible.users_there)

    view_now : (effect : Effect) → IsPossible machine.room effect
        → view_after (view_in machine) effect ≡ view_in (machine_after machine effect)
    view_now effect possible =
        λ i. record start {
          clients = staying_after stays effect machine.clients i;
          room = room_now effect possible i;
        }

    -- ---- what a client is shown

    module _ (who : ℕ) where
      abbrev shown_in : Room → Effect → Option Client → List (List ℕ)
      shown_in room effect client = client_shown who room effect client

      -- an invitation of another server's user is shown to no client that stays here
      module _ (by nick channel : List ℕ)
          (away : is_at t machine.room.users (key nick) ≡ false) where
        not_shown : (viewer : List ℕ) → ((user : User)
            → row machine.room.users (key viewer) ≡ Some user → is_home t user ≡ true)
            → shows_to machine.room (Invite by nick channel) viewer ≡ None
        unfolding shows_to
        not_shown viewer own = on (row machine.room.users (key viewer)) refl
          where
            on_user : (user : User) → row machine.room.users (key viewer) ≡ Some user → (b : Bool)
                → same nick user.nick ≡ b → b ≡ false
            on_user user there false two = refl
            on_user user there true one =
                let folds : key nick ≡ key viewer = (bytes_decides (key nick) (key user.nick)).0 one
                ∙ is.well.users_named (key viewer) user there in
                absurd (cc (sym away
                ∙ ap (λ f. option_map_or (is_home t) (row machine.room.users f) false) folds
                ∙ ap (λ o. option_map_or (is_home t) o false) there
                ∙ own user there))

            on : (o : Option User) → row machine.room.users (key viewer) ≡ o
                → option_and_then (line_for machine.room (Invite by nick channel)) o ≡ None
            on None there = refl
            on (Some user) there =
                ap (λ b. if b then shown_line machine.room (Invite by nick channel) user else None)
                (on_user user there (same nick user.nick) refl)

        none_shown : stays who ≡ true → (client : Option Client) → get machine.clients who ≡ client
            → shown_in machine.room (Invite by nick channel) client ≡ []
        none_shown here None there = refl
        none_shown here (Some (Registering pending)) there = refl
        none_shown here (Some (Registered viewer)) there =
            ap option_to_list (not_shown viewer (is.own who viewer here there))

        nothing_there : (b : Bool) → stays who ≡ b → []
            ≡ cond b (shown_in machine.room (Invite by nick channel) (get machine.clients who)) []
        nothing_there true here = sym (none_shown here (get machine.clients who) refl)
        nothing_there false away_from = refl

      shown_alike : (effect : Effect) (client : Option Client)
          → shown_in (of_home t machine.room) effect client ≡ shown_in machine.room effect client
      shown_alike effect None = refl
      shown_alike effect (Some (Registering pending)) = refl
      shown_alike effect (Some (Registered nick)) =
          ap option_to_list
          ((alike_take_alike (of_home t machine.room) machine.room effect alike).shows nick)

      if_here : (effect : Effect) (b : Bool) (client : Option Client) → shown_in machine.room effect
          (cond b client None) ≡ cond b (shown_in machine.room effect client) []
      if_here effect true client = refl
      if_here effect false client = refl

      shown_here : (effect : Effect) → is_elsewhere (view_in machine) effect ≡ false
          → lines_to who (shown_at (view_in machine) effect) ≡ cond (stays who)
          (shown_in machine.room effect (get machine.clients who)) []
      shown_here effect there =
          ap (λ b. lines_to who (if b then [] else flat_map (to_viewer
          (staying stays machine.clients)) (seen (of_home t machine.room) effect))) there
          ∙ effect_lines who (staying stays machine.clients) (of_home t machine.room) effect
          (home_is_well_formed t machine.room is.well)
          ∙ shown_alike effect (get (staying stays machine.clients) who)
          ∙ ap (shown_in machine.room effect) (staying_at stays machine.clients who)
          ∙ if_here effect (stays who) (get machine.clients who)

      shown_so : (effect : Effect) → list_all (has_user machine.room) (needs_users effect) ≡ true
          → lines_to who (shown_at (view_in machine) effect) ≡ cond (stays who)
          (shown_in machine.room effect (get machine.clients who)) []
      shown_so (Invite by nick channel) there =
          on (is_elsewhere (view_in machine) (Invite by nick channel)) refl
        where
          on : (b : Bool) → is_elsewhere (view_in machine) (Invite by nick channel) ≡ b
              → lines_to who (shown_at (view_in machine) (Invite by nick channel))
              ≡ cond (stays who)
              (shown_in machine.room (Invite by nick channel) (get machine.clients who)) []
          on false so = shown_here (Invite by nick channel) so
          on true so =
              ap (λ b. lines_to who
              (if b then [] else flat_map (to_viewer (staying stays machine.clients))
              (seen (of_home t machine.room) (Invite by nick channel)))) so
              ∙ nothing_there by nick channel
              (not-true (is_at t machine.room.users (key nick))
              (sym (invited_elsewhere by nick channel there) ∙ so)) (stays who) refl
      shown_so effect there = shown_here effect refl

      told_more : (effect : Effect) (put_out heard : List Sent)
          → list_all (has_user machine.room) (needs_users effect) ≡ true
          → lines_to who put_out ≡ cond (stays who) (lines_to who heard) []
          → lines_to who (put_out ++ shown_at (view_in machine) effect)
          ≡ cond (stays who) (lines_to who
          (heard ++ flat_map (to_viewer machine.clients) (seen machine.room effect))) []
      told_more effect put_out heard there so =
          lines_behind who put_out (shown_at (view_in machine) effect)
          ∙ (λ i. so i ++ shown_so effect there i)
          ∙ both_here (stays who) (lines_to who heard)
          (shown_in machine.room effect (get machine.clients who))
          ∙ ap (λ l. cond (stays who) (lines_to who heard ++ l) [])
          (sym (effect_lines who machine.clients machine.room effect is.well))
          ∙ ap (λ l. cond (stays who) l []) (sym (lines_behind who heard
          (flat_map (to_viewer machine.clients) (seen machine.room effect))))

  -- ---- so both are one after it

  pub effect_so : (knows : Name → Bool) → KnowsWays knows → (h : Handled) (v : Served)
      (effect : Effect) → IsHomeRoom t stays knows h.state → IsOwnStep t h.state.room effect
      → AreOneAt h v → AreOneAt (with_effect effect h) (effect_told None effect v)
  effect_so knows ways h v effect is step one = record {
    state = ap (λ view. view_after view effect) one.state
        ∙ view_now knows ways h.state is effect step.possible;
    told = λ who.
        but_links who (v.out ++ shown_at v.state effect) (ways_at v.state None effect)
        (wire v.state.room v.state.routes effect)
        ∙ ap (λ view. lines_to who (v.out ++ shown_at view effect)) one.state
        ∙ told_more knows ways h.state is who effect v.out h.out step.possible.users_there
        (one.told who);
    closes_none =
        closings_behind (v.out ++ shown_at v.state effect)
        (on_links (ways_at v.state None effect) (wire v.state.room v.state.routes effect))
        (closings_behind v.out (shown_at v.state effect) one.closes_none
        ∙ none_closed_by_effect v.state effect)
        ∙ none_closed_on_links (ways_at v.state None effect)
        (wire v.state.room v.state.routes effect);
  }
