-- A line that says a deed of a server goes well at its turn, where clients are shown effects in
-- turn and one line goes on: NJOIN, MODE, TOPIC and SQUIT.
use Rattle.std.proofs.Common.{◌≡◌, ◌≢◌, ℕ, Bool, true, false, Some, None, List, [], ◌∷◌, ◌++◌}
use Rattle.std.proofs.Common.{append-nil, map, option_map, refl, sym, ◌∙◌, ap, if◌then◌else◌}
use Rattle.std.specs.FinMap.{get}
use Rattle.std.specs.Bool.{⊤}
use Rattle.irc_batch.specs.Batches.{Sent}
use Rattle.irc_line.specs.Messages.{Written, line_text}
use Rattle.irc_line.specs.Reading.{read_of}
use Rattle.irc_room.specs.After.{titled_by}
use Rattle.irc_room.specs.effect.Effect.{Effect}
use Rattle.irc_room.specs.effect.Effect.TheVariants.{Rename}
use Rattle.irc_room.specs.Room.{Room}
use Rattle.irc_burst.specs.DeedsMeant.{a_deed}
use Rattle.irc_burst_lines.specs.DeedLines.{deed_parts}
use Rattle.irc_stage.specs.Ways.{but, met_links}
use Rattle.irc_merge.specs.Deeds.{Deed, does, gains, loses, kills, brings, sets, tops, effects_of}
use Rattle.irc_relay.specs.Links.{Name, Link, AreLinked}
use Rattle.irc_relay.specs.Relay.{TakesFrom}
use Rattle.irc_stage.specs.EffectTold.{Served, all_changed, changed, changed_if, counts, in_silence}
use Rattle.irc_stage.specs.EffectTold.{on_links, shown_at}
use Rattle.irc_stage.specs.Handle.{clients_after, renamed_in}
use Rattle.irc_stage.specs.Linked.{told_on_all}
use Rattle.irc_stage.specs.RoomMachine.{Clients}
use Rattle.irc_stage.specs.View.{View}
use Rattle.irc_stage.specs.Lemmas.Numbers.{get-each}
use Rattle.irc_server.specs.DeedTold.{deed_told, told_by}
use Rattle.irc_server.specs.Heard.{heard, tells}
use Rattle.irc_server.specs.Owed.{lines_to}
use Rattle.irc_follow.specs.SideState.{ItemSetting, number}
use Rattle.irc_follow.specs.SideState as of_side
use Rattle.irc_follow.specs.Fits.{Fits}
use Rattle.irc_follow.specs.Says.{neighbour_served, Says}
use Rattle.irc_follow.specs.Lemmas.LinesOnLinks.{but_another, ends_by_all, none_by_all}
use Rattle.irc_follow.specs.Lemmas.SaidDeed.{deed_served}
use Rattle.irc_follow.specs.Lemmas.SaidEffectShown.{lines_behind as lines_to_behind}
use Rattle.irc_items.specs.GoodLines.{IsGoodReply}
use Rattle.irc_items.proofs.Good.MetEnds.{met_known, met_linked, AreLinkedAlike}
use Rattle.irc_items.proofs.Good.PutOut.{but_itself, none_closed_by_all, none_shown}
use Rattle.irc_items.proofs.Good.Replies.{lines_put_out, reply_so, teller_is_met, IsPutOutSo}

-- ---- and show nothing to who is no client

module _ (client : ℕ) where
  still_none : (effect : Effect) (clients : Clients) → get clients client ≡ None
      → get (clients_after effect clients) client ≡ None
  still_none (Rename nick new) clients none = get-each (renamed_in nick new) clients client
      ∙ ap (option_map (renamed_in nick new)) none
  still_none effect clients none = none

  none_by_one : (effect : Effect) (s : Served) → get s.state.clients client ≡ None
      → lines_to client (changed_if effect s).out ≡ lines_to client s.out
  none_by_one effect s none = by (counts s.state effect)
    where
      by : (b : Bool) → lines_to client (if b then changed effect s else s).out
          ≡ lines_to client s.out
      by true =
          lines_to_behind client s.out (shown_at s.state effect)
          ∙ ap (λ l. lines_to client s.out ++ l) (none_shown client s.state effect none)
          ∙ append-nil (lines_to client s.out)
      by false = refl

  none_behind_one : (effect : Effect) (s : Served) → get s.state.clients client ≡ None
      → get (changed_if effect s).state.clients client ≡ None
  none_behind_one effect s none = by (counts s.state effect)
    where
      by : (b : Bool) → get (if b then changed effect s else s).state.clients client ≡ None
      by true = still_none effect s.state.clients none
      by false = none

  none_in_turn : (effects : List Effect) (s : Served) → get s.state.clients client ≡ None
      → lines_to client (all_changed effects s).out ≡ lines_to client s.out
  none_in_turn [] s none = refl
  none_in_turn (effect ∷ effects) s none = none_in_turn effects (changed_if effect s)
      (none_behind_one effect s none) ∙ none_by_one effect s none

-- ---- of what is put out so

-- What is put out is what clients are shown of effects in turn, done in a room, and then a line on
-- all links but that of arrival. The ends of links stay.
pub record IsToldOnce (s : ItemSetting) (p : Name) (view : View) (after : Served) : Type 0 where
  pub room : Room
  pub effects : List Effect
  pub parts : Written
  pub ends : after.state.ends ≡ view.ends
  pub out : after.out ≡ (all_changed effects (in_silence (record view { room = room }))).out
      ++ on_links (but (Some (number s p)) (met_links view.ends)) parts

module _ (s : ItemSetting) (links : List Link) (p t : Name) (w : of_side.SideState) (view : View)
    (takes : TakesFrom s.streams t p) (fits : Fits s t w view)
    (forest : AreLinkedAlike links w.tree.forest t) where
  abbrev others : List ℕ
  others = but (Some (number s p)) (met_links view.ends)

  module _ (after : Served) (told : IsToldOnce s p view after) where
    abbrev before : Served
    before = in_silence (record view { room = told.room })

    abbrev shown : List Sent
    shown = (all_changed told.effects before).out

    put_out : IsPutOutSo s links p t view after
    put_out = record {
      first = shown;
      ways = others;
      parts = told.parts;
      out = told.out;
      closes_none = none_closed_by_all told.effects before;
      on_no_other = λ u other. none_by_all (number s u) told.effects before;
      to_clients = λ client none. none_in_turn client told.effects before none;
      on_linked = λ u other line lines is. met_linked s links t w view fits forest u line lines
          (line_text told.parts)
          (sym (ap (map (λ _. line_text told.parts))
          (but_another (number s u) (number s p) other (met_links view.ends))) ∙ is);
    }

    told_reply : w.tree.knows p ≡ true → ((u : Name) → AreLinked links t u → u ≢ p
        → w.tree.knows u ≡ true) → IsGoodReply s links p t view after []
    unfolding put_out
    told_reply =
        reply_so s links p t w view takes fits forest after put_out []
        (lines_put_out s links p t w view takes fits forest after put_out (number s p)
        ∙ (λ i. none_by_all (number s p) told.effects before i
        ++ map (λ _. line_text told.parts) (but_itself (number s p) (met_links view.ends) i)))
        told.ends

  -- ---- a deed's line

  abbrev pub OthersAreKnown : Type 0
  OthersAreKnown = (u : Name) → AreLinked links t u → u ≢ p → w.tree.knows u ≡ true

  module _ (deed : Deed) (line : List ℕ) (says : Says s p t w view deed line)
      (means : heard view (number s p) says.end (read_of line) ≡ tells (a_deed deed ∷ [])) where
    abbrev told_of : Served
    told_of = told_by (number s p) (a_deed deed) (in_silence view)

    abbrev effects : List Effect
    effects = effects_of view.room deed

    abbrev parts : Written
    parts = deed_parts view.room view.routes deed

    served_is : neighbour_served s p view line ≡ told_of
    served_is = deed_served s p t w view takes fits deed line says.end says.is_end means

    knows_p : w.tree.knows p ≡ true
    knows_p =
        met_known s links t w view fits forest p says.end says.is_end
        (teller_is_met view (number s p) says.end (read_of line) (a_deed deed) [] means)

    deed_goes_well : (room : Room) → told_of.state.ends
        ≡ (all_changed effects (in_silence (record view { room = room }))).state.ends
        → told_of.out ≡ (told_on_all (Some (number s p)) parts
        (all_changed effects (in_silence (record view { room = room })))).out → OthersAreKnown
        → IsGoodReply s links p t view (neighbour_served s p view line) []
    deed_goes_well room same_ends same_out known =
        let before = in_silence (record view { room = room }) in
        told_reply (neighbour_served s p view line)
        (record {
          room = room;
          effects = effects;
          parts = parts;
          ends =
              ap (λ (so : Served). so.state.ends) served_is ∙ same_ends
              ∙ ends_by_all effects before;
          out = ap (λ (so : Served). so.out) served_is ∙ same_out
              ∙ ap (λ ends. (all_changed effects before).out
              ++ on_links (but (Some (number s p)) (met_links ends)) parts)
              (ends_by_all effects before);
        })
        knows_p known

  -- whether its effects are shown in turn, and its line goes on
  abbrev pub IsToldWhole : Deed → Type 0
  IsToldWhole (does effect) = ⊥
  IsToldWhole (gains uplink name info) = ⊥
  IsToldWhole (kills server nick) = ⊥
  IsToldWhole deed = ⊤

  -- By a loss one server less is known then, but none that it is linked to.
  pub whole_goes_well : (deed : Deed) → IsToldWhole deed
      → (line : List ℕ) → Says s p t w view deed line → OthersAreKnown
      → IsGoodReply s links p t view (neighbour_served s p view line) []
  unfolding told_by deed_told
  whole_goes_well (brings server channel members) whole line says known =
      deed_goes_well (brings server channel members) line says says.means
      (titled_by channel view.room) refl refl known
  whole_goes_well (sets server channel changes) whole line says known =
      deed_goes_well (sets server channel changes) line says says.means view.room refl refl known
  whole_goes_well (tops server channel topic) whole line says known =
      deed_goes_well (tops server channel topic) line says says.means view.room refl refl known
  whole_goes_well (loses server name text) whole line says known =
      deed_goes_well (loses server name text) line says says.means view.room refl refl known
  whole_goes_well deed whole line says known = absurd whole
