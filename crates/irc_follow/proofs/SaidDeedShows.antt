-- The same of a line which says a deed of a server.
use Rattle.std.proofs.Common.{◌≡◌, ℕ, Bool, true, false, Option, Some, None, List, [], ◌∷◌, ◌++◌}
use Rattle.std.proofs.Common.{refl, sym, ◌∙◌, ap, option_to_list, if◌then◌else◌}
use Rattle.std.specs.FinMap.{entries, get}
use Rattle.irc_line.specs.Messages.{Written}
use Rattle.irc_names.specs.Fold.{same}
use Rattle.irc_channels.specs.declared.flags.Flags.{Flags}
use Rattle.irc_modes.specs.declared.modes.ModeChange.{ModeChange}
use Rattle.irc_batch.specs.Batches.{end_of}
use Rattle.irc_room.specs.effect.Effect.{Effect}
use Rattle.irc_room.specs.effect.Effect.TheVariants.{Quit}
use Rattle.irc_room.specs.InTurn.{EachInTurn}
use Rattle.irc_room.specs.OtherInvitations.{AreAlike}
use Rattle.irc_room.specs.Room.{Room, IsWellFormed}
use Rattle.irc_room.specs.Seen.{Showing}
use Rattle.irc_room.specs.Viewers.{shows_to}
use Rattle.irc_room.specs.Lemmas.AlikeLaw.{alike_have_alike, alike_stay_alike, alike_take_alike}
use Rattle.irc_room.specs.Lemmas.RespelledRooms.{respelled_is_well_formed}
use Rattle.irc_merge.specs.Deeds.{Deed, does, gains, loses, kills, brings, sets, tops, titled}
use Rattle.irc_merge.specs.Deeds.{effects_of, shown_by}
use Rattle.irc_merge.specs.Quits.{collision_text, quits_of, users_at}
use Rattle.irc_merge.specs.Lemmas.DeedsAlike.{alike_do_alike}
use Rattle.irc_relay.specs.Links as of_links
use Rattle.irc_relay.specs.Links.{Name}
use Rattle.irc_relay.specs.Relay.{TakesFrom}
use Rattle.irc_burst.specs.DeedsMeant.{a_server}
use Rattle.irc_burst_lines.specs.DeedLines.{deed_parts}
use Rattle.irc_stage.specs.declared.clients.Client.{Client}
use Rattle.irc_stage.specs.declared.clients.Client.TheVariants.{Registering, Registered}
use Rattle.irc_stage.specs.EffectTold.{Served, all_changed, changed, client_ended, ends_of}
use Rattle.irc_stage.specs.EffectTold.{in_silence, shown_at, with_sent}
use Rattle.irc_stage.specs.Handle.{is_client, to_viewer}
use Rattle.irc_stage.specs.Linked.{is_taken, told_on_all, with_far, with_row}
use Rattle.irc_stage.specs.View.{View}
use Rattle.irc_stage.specs.Ways.{but, met_links}
use Rattle.irc_server.specs.DeedTold.{arrival_of, deed_told, forgotten, gain_told, titled_view}
use Rattle.irc_server.specs.DeedTold.{told_by}
use Rattle.irc_server.specs.Heard.{meets, tells}
use Rattle.irc_server.specs.LinkServed.{after_heard, line_served, met_by, on_link, owes}
use Rattle.irc_line.specs.Reading.{read_of}
use Rattle.irc_server.specs.Owed.{line_to_conn, lines_to}
use Rattle.irc_server.specs.Served.{served}
use Rattle.irc_relay.specs.Links.{distance}
use Rattle.irc_follow.specs.Tree.{told_token}
use Rattle.irc_follow.specs.SideState.{ItemSetting, client_sees, is_home_of, number, told_end}
use Rattle.irc_follow.specs.SideState.{IsSoundSide}
use Rattle.irc_follow.specs.SideState as of_side
use Rattle.irc_follow.specs.Fits.{Fits}
use Rattle.irc_follow.specs.Laws.{SaidDeedShows}
use Rattle.irc_follow.specs.Says.{neighbour_served, Says, IsDoableLoss}
use Rattle.irc_follow.specs.Lemmas.ClientLines.{client_shown, to_one, told_line}
use Rattle.irc_follow.specs.Lemmas.DeedEffects.{AllCalm, IsCounted, at_room, quiet_counted}
use Rattle.irc_follow.specs.Lemmas.DeedEffects.{quits_calm}
use Rattle.irc_follow.specs.Lemmas.LostUsers.{lost_are_of, lost_counted}
use Rattle.irc_follow.specs.Lemmas.SaidDeed.{IsQuietDeed, brings_quietly, deed_served, not_it}
use Rattle.irc_follow.specs.Lemmas.SaidDeed.{same_effects, sets_quietly, there, tops_quietly}
use Rattle.irc_follow.specs.Lemmas.SaidEffect.{own_name}
use Rattle.irc_follow.specs.Lemmas.SaidEffectShown.{all_lines, append_nil, but_links, client_along}
use Rattle.irc_follow.specs.Lemmas.SaidEffectShown.{client_is, lines_behind, rooms}
use Rattle.irc_follow.specs.Lemmas.SaidEffectShown.{said_effect_shows, shown_so, well_here}
use Rattle.irc_follow.specs.Lemmas.ToldClients.{none_for_some}
use Rattle.irc_commands.specs.Closing.{error_line}

module _ (who : ℕ) where
  none_of_link : (link : ℕ) (lines : List Written) → lines_to who (on_link link lines) ≡ []
  none_of_link link [] = refl
  none_of_link link (parts ∷ lines) = none_of_link link lines

  -- a server more is told on links alone
  none_of_gain : (link : ℕ) (uplink name : List ℕ) (distance token : ℕ)
      (info : List ℕ) (before : Served) → lines_to who
      (told_by link (a_server uplink name distance token info) before).out ≡ lines_to who before.out
  unfolding told_by
  none_of_gain link uplink name distance token info before =
      by (is_taken before.state.routes link name token)
    where
      more : Served
      more = record before { state = with_row link uplink name distance token info before.state }

      by : (b : Bool) → lines_to who (if b then gain_told link uplink name info (record before
          { state = with_row link uplink name distance token info before.state }) else before).out
          ≡ lines_to who before.out
      by true = but_links who before.out (but (Some link) (met_links before.state.ends))
          (deed_parts before.state.room (with_row link uplink name distance token info
          before.state).routes (gains uplink name info))
      by false = refl

module _ (s : ItemSetting) (p t : Name) (w : of_side.SideState) (view : View)
    (takes : TakesFrom s.streams t p)
    (fits : Fits s t w view) (who : ℕ)
    (at_home : is_home_of s.homes t who ≡ true) where
  abbrev mine : Option Client
  mine = get w.hall.clients who

  sound : IsSoundSide s w
  sound = fits.sound

  -- what the effects of a deed show, and nothing else
  along_sees : (deed : Deed) → ((viewer : List ℕ) → told_end deed viewer ≡ [])
      → (client : Option Client) → client_along who (titled view.room deed)
      (effects_of view.room deed) client ≡ client_sees deed w.hall.room client
  unfolding shown_by
  along_sees deed none None = refl
  along_sees deed none (Some (Registering pending)) = refl
  along_sees deed none (Some (Registered nick)) =
      (alike_do_alike alike_stay_alike alike_take_alike alike_have_alike view.room w.hall.room deed
      (rooms s p t w view takes fits who at_home)).shown nick
      ∙ sym (append_nil (shown_by nick w.hall.room deed))
      ∙ ap (λ l. shown_by nick w.hall.room deed ++ l) (sym (none nick))

  effects_lines : (effects : List Effect) (room other : Room) → AreAlike room other
      → IsWellFormed room → AllCalm effects → EachInTurn (IsCounted view) other effects
      → lines_to who (all_changed effects (at_room view room [])).out
      ≡ client_along who room effects mine
  effects_lines effects room other alike well calm counted =
      all_lines who view effects room other [] alike calm counted well
      ∙ ap (client_along who room effects) (client_is s p t w view takes fits who at_home)

  quiet_lines : (deed : Deed) → IsQuietDeed s p t w view takes fits deed
      → IsWellFormed (titled view.room deed) → lines_to who
      (all_changed (effects_of view.room deed) (at_room view (titled view.room deed) [])).out
      ≡ client_along who (titled view.room deed) (effects_of view.room deed) mine
  quiet_lines deed is well =
      let effects = effects_of w.hall.room deed in
      let same = same_effects s p t w view takes fits deed in
      ap (λ es. lines_to who (all_changed es (at_room view (titled view.room deed) [])).out) same
      ∙ effects_lines effects (titled view.room deed)
      (titled w.hall.room deed) is.alike well is.calm
      (quiet_counted view (titled w.hall.room deed) effects is.quiet is.each)
      ∙ ap (λ es. client_along who (titled view.room deed) es mine) (sym same)

  well : IsWellFormed view.room
  well = well_here s p t w view takes fits who at_home

  on_all : (arrival : Option ℕ) (parts : Written) (before : Served)
      → lines_to who (told_on_all arrival parts before).out ≡ lines_to who before.out
  on_all arrival parts before =
      but_links who before.out (but arrival (met_links before.state.ends)) parts

  -- ---- each deed

  pub said_brings_shows : (server channel : List ℕ) (members : List (List ℕ × Flags))
      (line : List ℕ) → Says s p t w view (brings server channel members) line
      → lines_to who (neighbour_served s p view line).out ≡ client_sees
      (brings server channel members) w.hall.room mine
  unfolding told_by deed_told
  said_brings_shows server channel members line says =
      let effects = effects_of view.room (brings server channel members) in
      ap (λ (so : Served). lines_to who so.out) (deed_served s p t w view takes fits
      (brings server channel members) line says.end says.is_end says.means)
      ∙ on_all (Some (number s p))
      (deed_parts view.room view.routes (brings server channel members))
      (all_changed effects (titled_view channel (in_silence view)))
      ∙ quiet_lines (brings server channel members)
      (brings_quietly s p t w view takes fits server channel members says.doable)
      (respelled_is_well_formed channel view.room well)
      ∙ along_sees (brings server channel members) (λ _. refl) mine

  pub said_sets_shows : (server channel : List ℕ) (changes : List ModeChange) (line : List ℕ)
      → Says s p t w view (sets server channel changes) line
      → lines_to who (neighbour_served s p view line).out ≡ client_sees
      (sets server channel changes) w.hall.room mine
  unfolding told_by deed_told
  said_sets_shows server channel changes line says =
      let effects = effects_of view.room (sets server channel changes) in
      ap (λ (so : Served). lines_to who so.out) (deed_served s p t w view takes fits
      (sets server channel changes) line says.end says.is_end says.means)
      ∙ on_all (Some (number s p)) (deed_parts view.room view.routes (sets server channel changes))
      (all_changed effects (in_silence view))
      ∙ quiet_lines (sets server channel changes)
      (sets_quietly s p t w view takes fits server channel changes says.doable) well
      ∙ along_sees (sets server channel changes) (λ _. refl) mine

  pub said_tops_shows : (server channel topic : List ℕ) (line : List ℕ) → Says s p t w view
      (tops server channel topic) line → lines_to who (neighbour_served s p view line).out
      ≡ client_sees (tops server channel topic) w.hall.room mine
  unfolding told_by deed_told
  said_tops_shows server channel topic line says =
      let effects = effects_of view.room (tops server channel topic) in
      ap (λ (so : Served). lines_to who so.out) (deed_served s p t w view takes fits
      (tops server channel topic) line says.end says.is_end says.means)
      ∙ on_all (Some (number s p)) (deed_parts view.room view.routes (tops server channel topic))
      (all_changed effects (in_silence view))
      ∙ quiet_lines (tops server channel topic)
      (tops_quietly s p t w view takes fits server channel topic says.doable) well
      ∙ along_sees (tops server channel topic) (λ _. refl) mine

  quits_lines : (server name text : List ℕ) → IsDoableLoss s w server name text
      → lines_to who (all_changed (quits_of text (users_at name view.room)) (in_silence view)).out
      ≡ client_along who view.room (quits_of text (users_at name view.room)) mine
  quits_lines server name text doable =
      let same_users = (rooms s p t w view takes fits who at_home).users in
      ap (λ users. lines_to who (all_changed (quits_of text (users_at name
      (record view.room { users = users }))) (in_silence view)).out) same_users
      ∙ effects_lines (quits_of text (users_at name w.hall.room)) view.room w.hall.room
      (rooms s p t w view takes fits who at_home) well
      (quits_calm text (users_at name w.hall.room))
      (lost_counted view t name (own_name s p t w view takes fits)
      (not_it s p t w view takes fits server name text doable) w.hall.room text
      (users_at name w.hall.room) (lost_are_of name w.hall.room sound.well) doable.by_server.each)
      ∙ sym (ap (λ users. client_along who view.room
      (quits_of text (users_at name (record view.room { users = users }))) mine) same_users)

  pub said_loses_shows : (server name text : List ℕ) (line : List ℕ)
      → Says s p t w view (loses server name text) line → lines_to who
      (neighbour_served s p view line).out ≡ client_sees (loses server name text) w.hall.room mine
  unfolding told_by deed_told
  said_loses_shows server name text line says =
      ap (λ (so : Served). lines_to who so.out) (deed_served s p t w view takes fits
      (loses server name text) line says.end says.is_end says.means)
      ∙ on_all (Some (number s p)) (deed_parts view.room view.routes (loses server name text))
      (forgotten name
      (all_changed (effects_of view.room (loses server name text)) (in_silence view)))
      ∙ quits_lines server name text says.doable
      ∙ along_sees (loses server name text) (λ _. refl) mine

  -- the one that is killed is told so
  kill_sees : (server nick : List ℕ) (client : Option Client)
      → client_shown who w.hall.room (Quit nick collision_text) client
      ++ told_line who (record { viewer = nick; line = error_line collision_text }) client
      ≡ client_sees (kills server nick) w.hall.room client
  unfolding shown_by
  kill_sees server nick None = refl
  kill_sees server nick (Some (Registering pending)) = refl
  kill_sees server nick (Some (Registered viewer)) =
      ap (λ l. l ++ (if same viewer nick then error_line collision_text ∷ [] else []))
      (sym (append_nil (option_to_list (shows_to w.hall.room (Quit nick collision_text) viewer))))

  pub said_kills_shows : (server nick : List ℕ) (line : List ℕ)
      → Says s p t w view (kills server nick) line → lines_to who
      (neighbour_served s p view line).out ≡ client_sees (kills server nick) w.hall.room mine
  unfolding told_by deed_told
  said_kills_shows server nick line says =
      let error : Showing = record { viewer = nick; line = error_line collision_text } in
      ap (λ (so : Served). lines_to who so.out) (deed_served s p t w view takes fits
      (kills server nick) line says.end says.is_end says.means)
      ∙ ap (λ b. lines_to who (told_on_all (arrival_of view.routes.name (number s p)
      (kills server nick)) (deed_parts view.room view.routes (kills server nick))
      (client_ended nick collision_text (if b
      then changed (Quit nick collision_text) (in_silence view) else in_silence view))).out)
      (there s p t w view takes fits server nick says.doable)
      ∙ on_all (arrival_of view.routes.name (number s p) (kills server nick))
      (deed_parts view.room view.routes (kills server nick))
      (client_ended nick collision_text (changed (Quit nick collision_text) (in_silence view)))
      ∙ lines_behind who (shown_at view (Quit nick collision_text))
      (to_viewer view.clients error ++ ends_of nick view.clients)
      ∙ ap (λ l. l ++ lines_to who (to_viewer view.clients error ++ ends_of nick view.clients))
      (shown_so s p t w view takes fits who at_home (Quit nick collision_text) refl)
      ∙ ap (λ l. client_shown who w.hall.room (Quit nick collision_text) mine ++ l)
      (lines_behind who (to_viewer view.clients error) (ends_of nick view.clients)
      ∙ ap (λ l. lines_to who (to_viewer view.clients error) ++ l)
      (none_for_some (line_to_conn who) (λ (c : ℕ × Client). is_client nick c.1)
      (λ (c : ℕ × Client). end_of c.0) (λ c. refl) (entries view.clients))
      ∙ append_nil (lines_to who (to_viewer view.clients error))
      ∙ to_one who view.clients error
      ∙ ap (told_line who error) (client_is s p t w view takes fits who at_home))
      ∙ kill_sees server nick mine

  -- of a server more clients are told nothing

  gain_sees : (uplink name info : List ℕ) (client : Option Client)
      → client_sees (gains uplink name info) w.hall.room client ≡ []
  unfolding shown_by
  gain_sees uplink name info None = refl
  gain_sees uplink name info (Some (Registering pending)) = refl
  gain_sees uplink name info (Some (Registered nick)) = refl

  met_lines : (name info : List ℕ) → lines_to who (met_by (number s p) name info view).out ≡ []
  met_lines name info =
      none_of_gain who (number s p) view.routes.name name 1 1 info
      (with_sent (on_link (number s p) (owes view (number s p) name))
      (in_silence (with_far (number s p) name view)))
      ∙ none_of_link who (number s p) (owes view (number s p) name)

  pub said_gain_shows : (uplink name info : List ℕ) (line : List ℕ)
      → Says s p t w view (gains uplink name info) line → lines_to who
      (neighbour_served s p view line).out ≡ client_sees (gains uplink name info) w.hall.room mine
  unfolding served
  said_gain_shows uplink name info line says =
      ap (λ o. lines_to who (line_served view (number s p) (read_of line) o).out) says.is_end
      ∙ ap (λ what. lines_to who (after_heard view (number s p) what).out) says.means
      ∙ by (of_links.same name p)
      ∙ sym (gain_sees uplink name info mine)
    where
      by : (b : Bool) → lines_to who (after_heard view (number s p) (if b then meets name info
          else tells (a_server uplink name (distance w.tree.forest t name)
          (told_token w.tree p name) info ∷ []))).out ≡ []
      by true = met_lines name info
      by false = none_of_gain who (number s p) uplink name (distance w.tree.forest t name)
          (told_token w.tree p name) info (in_silence view)

  pub said_lines : (deed : Deed) (line : List ℕ) → Says s p t w view deed line
      → lines_to who (neighbour_served s p view line).out ≡ client_sees deed w.hall.room mine
  said_lines (does effect) line says =
      said_effect_shows s p t w view takes fits who at_home effect line says
  said_lines (gains uplink name info) line says = said_gain_shows uplink name info line says
  said_lines (loses server name text) line says = said_loses_shows server name text line says
  said_lines (kills server nick) line says = said_kills_shows server nick line says
  said_lines (brings server channel members) line says =
      said_brings_shows server channel members line says
  said_lines (sets server channel changes) line says =
      said_sets_shows server channel changes line says
  said_lines (tops server channel topic) line says = said_tops_shows server channel topic line says

pub said_deed_shows : SaidDeedShows
said_deed_shows s p t w view deed line who takes fits says = by (is_home_of s.homes t who) refl
  where
    by : (b : Bool) → is_home_of s.homes t who ≡ b
        → (if b then lines_to who (neighbour_served s p view line).out else [])
        ≡ (if b then client_sees deed w.hall.room (get w.hall.clients who) else [])
    by true at_home = said_lines s p t w view takes fits who at_home deed line says
    by false away = refl
