-- A line that says that the network has a server more goes well at its turn: who names itself is
-- answered with just what it is owed, and others are told.
use Rattle.std.proofs.Common.{◌≡◌, ◌≢◌, ℕ, Bool, true, false, ◌||◌, Some, None, List, [], ◌∷◌, ◌++◌}
use Rattle.std.proofs.Common.{append-nil, map, is_some, sym, ◌∙◌, ap, if◌then◌else◌}
use Rattle.std.specs.Option.{option_map_or}
use Rattle.std.proofs.Math.Bool.{or-true}
use Rattle.irc_line.specs.Messages.{Written, line_text}
use Rattle.irc_line.specs.Reading.{read_of}
use Rattle.irc_burst.specs.DeedsMeant.{a_server}
use Rattle.irc_burst_lines.specs.DeedLines.{deed_parts}
use Rattle.irc_stage.specs.Ends.{is_met}
use Rattle.irc_stage.specs.Ways.{but, met_links}
use Rattle.irc_merge.specs.Deeds.{gains}
use Rattle.irc_relay.specs.Links.{Name, Link, distance, same, AreLinked}
use Rattle.irc_relay.specs.Relay.{TakesFrom}
use Rattle.irc_relay.specs.Lemmas.TellingNames.{Telling, alike, unlike, tell}
use Rattle.irc_stage.specs.EffectTold.{Served, in_silence, on_links, with_sent}
use Rattle.irc_stage.specs.Linked.{is_taken, with_row}
use Rattle.irc_stage.specs.View.{View}
use Rattle.irc_server.specs.DeedTold.{gain_told, told_by}
use Rattle.irc_server.specs.Heard.{Heard, meets, tells}
use Rattle.irc_server.specs.LinkServed.{after_heard, line_served, on_link, owed_by, owes}
use Rattle.irc_server.specs.Served.{served}
use Rattle.irc_follow.specs.Tree.{told_token}
use Rattle.irc_follow.specs.SideState.{ItemSetting, done, number, IsItemSetting}
use Rattle.irc_follow.specs.SideState as of_side
use Rattle.irc_follow.specs.Fits.{Fits}
use Rattle.irc_follow.specs.Says.{neighbour_served, lines_on, Says}
use Rattle.irc_follow.specs.Lemmas.LinesOnLinks.{but_another}
use Rattle.irc_follow.specs.Lemmas.SaidGain as gain_of
use Rattle.irc_follow.specs.Lemmas.SaidGainToldOn.{none_on_another}
use Rattle.irc_items.specs.GoodLines.{IsGoodReply}
use Rattle.irc_items.specs.Relayed.{owed_at, owed_to}
use Rattle.irc_items.proofs.Good.MetEnds.{far_is, good_reply, met_known, met_linked, owes_none}
use Rattle.irc_items.proofs.Good.MetEnds.{AreLinkedAlike, IsAnswer, IsLaterSide}
use Rattle.irc_items.proofs.Good.PutOut.{all_on_it, but_itself, none_closed_on_link}
use Rattle.irc_items.proofs.Good.PutOut.{none_to_clients}
use Rattle.irc_items.proofs.Good.Replies.{answer_so, lines_put_out, teller_is_met, IsPutOutSo}

-- What is put out goes on the link of arrival, and then on all others that count. The first is just
-- what is owed there.
pub record IsToldOn (s : ItemSetting) (p : Name) (view : View) (after : Served) : Type 0 where
  pub answered : List Written
  pub parts : Written
  pub out : after.out ≡ on_link (number s p) answered
      ++ on_links (but (Some (number s p)) (met_links after.state.ends)) parts
  pub owed : map line_text answered ≡ owed_to s view p

-- a server more, where it is taken
gained_there : (k : ℕ) (uplink name : List ℕ) (distance token : ℕ) (info : List ℕ) (before : Served)
    → is_taken before.state.routes k name token ≡ true
    → told_by k (a_server uplink name distance token info) before
    ≡ gain_told k uplink name info
    (record before { state = with_row k uplink name distance token info before.state })
unfolding told_by
gained_there k uplink name distance token info before is =
    ap (λ b. if b then gain_told k uplink name info (record before
    { state = with_row k uplink name distance token info before.state }) else before) is

module _ (s : ItemSetting) (links : List Link) (p t : Name) (w : of_side.SideState) (view : View)
    (takes : TakesFrom s.streams t p) (fits : Fits s t w view)
    (forest : AreLinkedAlike links w.tree.forest t) where
  -- ---- of what is told on

  module _ (after : Served) (told : IsToldOn s p view after) where
    abbrev others : List ℕ
    others = but (Some (number s p)) (met_links after.state.ends)

    module _ (later : of_side.SideState) (stays : IsLaterSide links t w later)
        (fits_after : Fits s t later after.state) where
      put_out : IsPutOutSo s links p t view after
      put_out = record {
        first = on_link (number s p) told.answered;
        ways = others;
        parts = told.parts;
        out = told.out;
        closes_none = none_closed_on_link (number s p) told.answered;
        on_no_other = λ u other. none_on_another (number s u) (number s p) other told.answered;
        to_clients = λ client none. none_to_clients client (number s p) told.answered;
        on_linked = λ u other line lines is. met_linked s links t later after.state fits_after
            stays.forest u line lines (line_text told.parts)
            (sym (ap (map (λ _. line_text told.parts)) (but_another (number s u) (number s p) other
            (met_links after.state.ends))) ∙ is);
      }

      back : lines_on (number s p) after.out ≡ owed_to s view p
      unfolding put_out
      back =
          lines_put_out s links p t w view takes fits forest after put_out (number s p)
          ∙ (λ i. (all_on_it (number s p) told.answered ∙ told.owed) i
          ++ map (λ _. line_text told.parts)
          (but_itself (number s p) (met_links after.state.ends) i))
          ∙ append-nil (owed_to s view p)

      told_answer : later.tree.knows p ≡ true → IsAnswer s links p t view after
      told_answer known =
          answer_so s links p t w view takes fits forest after put_out
          (ap (λ l. l ++ owed_to s after.state p) back
          ∙ ap (λ l. owed_to s view p ++ l)
          (owes_none s links t later after.state fits_after stays.forest p (λ there. known))
          ∙ append-nil (owed_to s view p))

  -- ---- what a line of a server's gain is served as

  module _ (fixed : IsItemSetting s) (uplink name words line : List ℕ)
      (says : Says s p t w view (gains uplink name words) line) where
    abbrev k : ℕ
    k = number s p

    abbrev heard_as : Bool → Heard
    heard_as b = if b then meets name words else tells
        (a_server uplink name (distance w.tree.forest t name) (told_token w.tree p name) words ∷ [])

    served_as : (b : Bool) → same name p ≡ b
        → neighbour_served s p view line ≡ after_heard view k (heard_as b)
    unfolding served
    served_as b is =
        ap (line_served view k (read_of line)) says.is_end
        ∙ ap (after_heard view k) (says.means ∙ ap heard_as is)

    abbrev later_side : of_side.SideState
    later_side = done s w (gains uplink name words)

    later : IsLaterSide links t w later_side
    unfolding done
    later = record { forest = forest; knows = λ u known. ap (λ b. b || same u name) known }

    knows_it : same p name ≡ true → later_side.tree.knows p ≡ true
    unfolding done
    knows_it is = ap (λ b. w.tree.knows p || b) is ∙ or-true (w.tree.knows p)

    -- by a line of a server that is there
    told_there : same name p ≡ false → IsToldOn s p view (neighbour_served s p view line)
    told_there other = record {
      answered = [];
      parts = parts;
      out = ap (λ (so : Served). so.out) is
          ∙ sym (ap (λ (so : Served). on_links (but (Some k) (met_links so.state.ends)) parts) is);
      owed = sym (owes_none s links t w view fits forest p (λ there. knows_p other));
    }
      where
        with_it : View → View
        with_it v = with_row k uplink name (distance w.tree.forest t name)
            (told_token w.tree p name) words v

        parts : Written
        parts = deed_parts view.room (with_it view).routes (gains uplink name words)

        is : neighbour_served s p view line ≡ gain_told k uplink name words
            (record (in_silence view) { state = with_it view })
        is = served_as false other
            ∙ gained_there k uplink name (distance w.tree.forest t name)
            (told_token w.tree p name) words (in_silence view)
            (gain_of.taken s fixed p t w view takes fits uplink name words says.doable)

        knows_p : same name p ≡ false → w.tree.knows p ≡ true
        knows_p apart = met_known s links t w view fits forest p says.end says.is_end
            (teller_is_met view k says.end (read_of line) (a_server uplink name
            (distance w.tree.forest t name) (told_token w.tree p name) words) []
            (says.means ∙ ap heard_as apart))

    -- by the first line of the new server itself
    module _ (it : same name p ≡ true) (is_p : name ≡ p) where
      abbrev met : View
      met = gain_of.met s fixed p t w view takes fits uplink name words says.doable is_p says.end
          says.is_end

      abbrev before : Served
      before = with_sent (on_link k (owes view k name)) (in_silence met)

      abbrev met_row : View
      met_row = with_row k view.routes.name name 1 1 words met

      abbrev parts : Written
      parts = deed_parts met_row.room met_row.routes (gains view.routes.name name words)

      answer_is : neighbour_served s p view line ≡ gain_told k view.routes.name name words
          (record before { state = met_row })
      answer_is =
          served_as true it
          ∙ ap (λ v. told_by k (a_server view.routes.name name 1 1 words)
          (with_sent (on_link k (owes view k name)) (in_silence v)))
          (gain_of.with_far_is s fixed p t w view takes fits uplink name words says.doable is_p
          says.end says.is_end)
          ∙ gained_there k view.routes.name name 1 1 words before
          (gain_of.taken_met s fixed p t w view takes fits uplink name words says.doable is_p
          says.end says.is_end)

      not_met : is_met says.end ≡ false
      not_met =
          ap is_some (far_is s links t w view fits forest p says.end says.is_end
          ∙ ap (λ b. if b then Some p else None) (ap w.tree.knows (sym is_p)
          ∙ says.doable.can.unknown))

      all_owed : map line_text (owes view k name) ≡ owed_to s view p
      all_owed =
          ap (λ o. map line_text (option_map_or (owed_by view k name) o [])) says.is_end
          ∙ ap (λ n. map line_text (owed_by view k n says.end)) is_p
          ∙ sym (ap (λ o. option_map_or (owed_at s view p) o []) says.is_end
          ∙ ap (λ b. if b then [] else map line_text (owed_by view k p says.end)) not_met)

      told_met : IsToldOn s p view (neighbour_served s p view line)
      told_met = record {
        answered = owes view k name;
        parts = parts;
        out = ap (λ (so : Served). so.out) answer_is
            ∙ sym (ap (λ (so : Served). on_link k (owes view k name)
            ++ on_links (but (Some k) (met_links so.state.ends)) parts) answer_is);
        owed = all_owed;
      }

    told_on : Telling name p → IsToldOn s p view (neighbour_served s p view line)
    told_on (alike it is_p) = told_met it is_p
    told_on (unlike other _) = told_there other

    knows_p : Telling name p → later_side.tree.knows p ≡ true
    knows_p (alike it is_p) = knows_it (ap (λ n. same n name) (sym is_p) ∙ ap (same name) is_p ∙ it)
    knows_p (unlike other _) =
        later.knows p (met_known s links t w view fits forest p says.end says.is_end
        (teller_is_met view k says.end (read_of line) (a_server uplink name
        (distance w.tree.forest t name) (told_token w.tree p name) words) []
        (says.means ∙ ap heard_as other)))

    pub gain_goes_well : Fits s t (done s w (gains uplink name words))
        (neighbour_served s p view line).state
        → ((u : Name) → AreLinked links t u → u ≢ p → w.tree.knows u ≡ true)
        → IsGoodReply s links p t view (neighbour_served s p view line) []
    gain_goes_well after known =
        good_reply s links p t w later_side view
        (neighbour_served s p view line) fits after forest known later
        (told_answer (neighbour_served s p view line) (told_on (tell name p)) later_side later after
        (knows_p (tell name p)))
