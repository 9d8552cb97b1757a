-- A line that says an effect goes well at its turn: what is put out goes to the server's own
-- clients and on its links, and never back.
use Rattle.std.proofs.Common.{◌≡◌, ◌≢◌, ℕ, true, Some, List, [], ◌++◌, map, sym, ◌∙◌, ap}
use Rattle.irc_line.specs.Messages.{Written, line_text}
use Rattle.irc_line.specs.Reading.{read_of}
use Rattle.irc_room.specs.effect.Effect.{Effect}
use Rattle.irc_burst.specs.DeedsMeant.{a_deed}
use Rattle.irc_link_writer.specs.Written.{wire}
use Rattle.irc_stage.specs.Ways.{told_homes, ways_toward}
use Rattle.irc_merge.specs.Deeds.{does}
use Rattle.irc_relay.specs.Links.{Name, Link, AreLinked}
use Rattle.irc_relay.specs.Relay.{TakesFrom}
use Rattle.irc_stage.specs.EffectTold.{Served, shown_at, ways_at}
use Rattle.irc_stage.specs.View.{View}
use Rattle.irc_follow.specs.SideState.{ItemSetting, number}
use Rattle.irc_follow.specs.SideState as of_side
use Rattle.irc_follow.specs.Fits.{Fits}
use Rattle.irc_follow.specs.Says.{neighbour_served, lines_on, Says}
use Rattle.irc_follow.specs.Lemmas.LinesOnLinks.{but_another, none_by_effect}
use Rattle.irc_follow.specs.Lemmas.SaidEffect.{effect_served}
use Rattle.irc_items.specs.GoodLines.{IsGoodReply}
use Rattle.irc_items.proofs.Good.MetEnds.{met_known, ways_linked, AreLinkedAlike}
use Rattle.irc_items.proofs.Good.PutOut.{but_itself, none_closed_by_effect, none_shown}
use Rattle.irc_items.proofs.Good.Replies.{lines_put_out, reply_so, teller_is_met, IsPutOutSo}

module _ (s : ItemSetting) (links : List Link) (p t : Name) (w : of_side.SideState) (view : View)
    (takes : TakesFrom s.streams t p) (fits : Fits s t w view)
    (forest : AreLinkedAlike links w.tree.forest t) (effect : Effect) (line : List ℕ)
    (says : Says s p t w view (does effect) line) where
  abbrev after : Served
  after = neighbour_served s p view line

  abbrev parts : Written
  parts = wire view.room view.routes effect

  abbrev ways : List ℕ
  ways = ways_toward view.ends view.routes (told_homes view.room effect)

  put_out : IsPutOutSo s links p t view after
  put_out = record {
    first = shown_at view effect;
    ways = ways_at view (Some (number s p)) effect;
    parts = parts;
    out = ap (λ (so : Served). so.out) (effect_served s p t w view takes fits effect line says);
    closes_none = none_closed_by_effect view effect;
    on_no_other = λ u other. none_by_effect (number s u) view effect;
    to_clients = λ client none. none_shown client view effect none;
    on_linked = λ u other first lines is. ways_linked s links t w view fits forest u
        (told_homes view.room effect) first lines (line_text parts)
        (sym (ap (map (λ _. line_text parts)) (but_another (number s u) (number s p) other ways))
        ∙ is);
  }

  none_goes_back : lines_on (number s p) after.out ≡ []
  unfolding put_out
  none_goes_back =
      lines_put_out s links p t w view takes fits forest after put_out (number s p)
      ∙ (λ i. none_by_effect (number s p) view effect i
      ++ map (λ _. line_text parts) (but_itself (number s p) ways i))

  pub effect_goes_well : ((u : Name) → AreLinked links t u → u ≢ p → w.tree.knows u ≡ true)
      → IsGoodReply s links p t view after []
  effect_goes_well =
      reply_so s links p t w view takes fits forest after put_out [] none_goes_back
      (ap (λ (so : Served). so.state.ends) (effect_served s p t w view takes fits effect line says))
      (met_known s links t w view fits forest p says.end says.is_end
      (teller_is_met view (number s p) says.end (read_of line)
      (a_deed (does effect)) [] says.means))
