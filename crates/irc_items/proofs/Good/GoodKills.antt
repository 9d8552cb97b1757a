-- A line that says a KILL goes well at its turn. A server's own goes on all links, so one line goes
-- back; another server's goes on all but that of arrival.
use Rattle.std.proofs.Common.{◌≡◌, ◌≢◌, ℕ, Bool, true, false, Option, Some, None, List, [], ◌∷◌}
use Rattle.std.proofs.Common.{◌++◌, map, filter, nat_eq, refl, sym, ◌∙◌, ap, if◌then◌else◌}
use Rattle.std.specs.Cmp.Lexicographic.{bytes_decides}
use Rattle.std.specs.FinMap.{entries, get}
use Rattle.std.specs.Option.{option_map_or}
use Rattle.irc_batch.specs.Batches.{Sent, end_of}
use Rattle.irc_line.specs.Messages.{Written, line_text}
use Rattle.irc_line.specs.Reading.{read_of}
use Rattle.irc_room.specs.effect.Effect.TheVariants.{Quit}
use Rattle.irc_room.specs.Effects.{has_user}
use Rattle.irc_room.specs.Seen.{Showing}
use Rattle.irc_burst.specs.DeedsMeant.{a_deed}
use Rattle.irc_burst_lines.specs.DeedLines.{kill_parts}
use Rattle.irc_stage.specs.Ends.{is_met}
use Rattle.irc_stage.specs.Ways.{but, met_links}
use Rattle.irc_merge.specs.Deeds.{kills}
use Rattle.irc_merge.specs.Quits.{collision_text}
use Rattle.irc_relay.specs.Links.{Name, Link, same, AreLinked}
use Rattle.irc_relay.specs.Relay.{TakesFrom}
use Rattle.irc_stage.specs.declared.clients.Client.{Client}
use Rattle.irc_stage.specs.EffectTold.{Served, changed, client_ended, ends_of, in_silence, on_links}
use Rattle.irc_stage.specs.EffectTold.{shown_at}
use Rattle.irc_stage.specs.Handle.{is_client, to_viewer}
use Rattle.irc_stage.specs.Linked.{told_on_all}
use Rattle.irc_stage.specs.View.{View}
use Rattle.irc_server.specs.DeedTold.{deed_told, told_by}
use Rattle.irc_server.specs.Owed.{line_to_conn, lines_to}
use Rattle.irc_follow.specs.SideState.{ItemSetting, number}
use Rattle.irc_follow.specs.SideState as of_side
use Rattle.irc_follow.specs.Fits.{Fits}
use Rattle.irc_follow.specs.Says.{neighbour_served, lines_on, Says}
use Rattle.irc_follow.specs.Lemmas.ClientLines.{to_one, told_line}
use Rattle.irc_follow.specs.Lemmas.LinesOnLinks.{among_met, but_another, lines_behind}
use Rattle.irc_follow.specs.Lemmas.LinesOnLinks.{none_by_effect, none_to_killed}
use Rattle.irc_follow.specs.Lemmas.Neighbours.{but_none}
use Rattle.irc_follow.specs.Lemmas.SaidDeed.{deed_served, there}
use Rattle.irc_follow.specs.Lemmas.SaidEffect.{own_name}
use Rattle.irc_follow.specs.Lemmas.SaidEffectShown.{lines_behind as lines_to_behind}
use Rattle.irc_follow.specs.Lemmas.ToldClients as told_to
use Rattle.irc_items.specs.GoodLines.{closings, reason_of, IsGoodReply}
use Rattle.irc_items.proofs.Good.MetEnds.{met_known, met_linked, AreLinkedAlike}
use Rattle.irc_items.proofs.Good.PutOut.{but_itself, closed_behind, is_on, none_closed_by_effect}
use Rattle.irc_items.proofs.Good.PutOut.{none_shown}
use Rattle.irc_items.proofs.Good.Replies.{lines_put_out, reply_so, teller_is_met, IsPutOutSo}
use Rattle.irc_commands.specs.Closing.{error_line}

-- ---- what clients are told of it: who shares a channel sees the QUIT, and the one that is killed
-- is told why, and closed

module _ (view : View) (nick : List ℕ) where
  abbrev error : Showing
  error = record { viewer = nick; line = error_line collision_text }

  abbrev to_killed : List Sent
  to_killed = to_viewer view.clients error ++ ends_of nick view.clients

  abbrev told_clients : List Sent
  told_clients = shown_at view (Quit nick collision_text) ++ to_killed

  none_on : (k : ℕ) → lines_on k told_clients ≡ []
  none_on k =
      lines_behind k (shown_at view (Quit nick collision_text)) to_killed
      ∙ ap (λ l. l ++ lines_on k to_killed) (none_by_effect k view (Quit nick collision_text))
      ∙ none_to_killed k view.clients nick (error_line collision_text)

  none_to : (client : ℕ) → get view.clients client ≡ None → lines_to client told_clients ≡ []
  none_to client none =
      lines_to_behind client (shown_at view (Quit nick collision_text)) to_killed
      ∙ ap (λ l. l ++ lines_to client to_killed)
      (none_shown client view (Quit nick collision_text) none)
      ∙ lines_to_behind client (to_viewer view.clients error) (ends_of nick view.clients)
      ∙ ap (λ l. l ++ lines_to client (ends_of nick view.clients))
      (to_one client view.clients error ∙ ap (told_line client error) none)
      ∙ told_to.none_for_some (line_to_conn client) (λ (c : ℕ × Client). is_client nick c.1)
      (λ (c : ℕ × Client). end_of c.0)
      (λ c. refl) (entries view.clients)

  none_closed_to_clients : closings told_clients ≡ []
  none_closed_to_clients =
      closed_behind (shown_at view (Quit nick collision_text)) to_killed
      (none_closed_by_effect view (Quit nick collision_text))
      (told_to.none_to_killed reason_of (λ conn line. refl) (λ conn. refl) view.clients nick
      (error_line collision_text))

module _ (s : ItemSetting) (links : List Link) (p t : Name) (w : of_side.SideState) (view : View)
    (takes : TakesFrom s.streams t p) (fits : Fits s t w view)
    (forest : AreLinkedAlike links w.tree.forest t) where
  module _ (server nick line : List ℕ) (says : Says s p t w view (kills server nick) line) where
    abbrev k : ℕ
    k = number s p

    abbrev parts : Written
    parts = kill_parts server nick

    -- the link that it does not go on
    abbrev left_out : Bool → Option ℕ
    left_out own = if own then None else Some k

    abbrev ways : Bool → List ℕ
    ways own = but (left_out own) (met_links view.ends)

    abbrev told_to_all : Served
    told_to_all = told_on_all (left_out (same server t)) parts
        (client_ended nick collision_text (changed (Quit nick collision_text) (in_silence view)))

    after_is : neighbour_served s p view line ≡ told_to_all
    unfolding told_by deed_told
    after_is =
        deed_served s p t w view takes fits (kills server nick) line says.end says.is_end says.means
        ∙ ap
        (λ own. told_on_all (left_out (same server own)) parts (client_ended nick collision_text
        (if has_user view.room nick then changed (Quit nick collision_text) (in_silence view)
        else in_silence view))) (own_name s p t w view takes fits)
        ∙ ap (λ b. told_on_all (left_out (same server t)) parts (client_ended nick collision_text
        (if b then changed (Quit nick collision_text) (in_silence view) else in_silence view)))
        (there s p t w view takes fits server nick says.doable)

    out_is : (neighbour_served s p view line).out ≡ told_clients view nick
        ++ on_links (ways (same server t)) parts
    out_is = ap (λ (so : Served). so.out) after_is

    abbrev after : Served
    after = neighbour_served s p view line

    put_out : IsPutOutSo s links p t view after
    put_out = record {
      first = told_clients view nick;
      ways = ways (same server t);
      parts = parts;
      out = out_is;
      closes_none = none_closed_to_clients view nick;
      on_no_other = λ u other. none_on view nick (number s u);
      to_clients = none_to view nick;
      on_linked = λ u other first lines. on_linked u other first lines (same server t);
    }
      where
        on_linked : (u : Name) → nat_eq k (number s u) ≡ false
            → (first : List ℕ) (lines : List (List ℕ)) (own : Bool) → map (λ _. line_text parts)
            (filter (is_on (number s u)) (ways own)) ≡ first ∷ lines → AreLinked links t u
        on_linked u other first lines true found =
            met_linked s links t w view fits forest u first lines (line_text parts)
            (sym (ap (λ l. map (λ _. line_text parts) (filter (is_on (number s u)) l))
            (but_none (met_links view.ends))) ∙ found)
        on_linked u other first lines false found =
            met_linked s links t w view fits forest u first lines (line_text parts)
            (sym (ap (map (λ _. line_text parts))
            (but_another (number s u) k other (met_links view.ends))) ∙ found)

    -- p has named itself
    met : is_met says.end ≡ true
    met = teller_is_met view k says.end (read_of line) (a_deed (kills server nick)) [] says.means

    knows_p : w.tree.knows p ≡ true
    knows_p = met_known s links t w view fits forest p says.end says.is_end met

    goes_back : lines_on k after.out ≡ (if same server t then line_text (kill_parts t nick) ∷ []
        else [])
    unfolding put_out
    goes_back =
        lines_put_out s links p t w view takes fits forest after put_out k
        ∙ ap (λ l. l ++ map (λ _. line_text parts) (filter (is_on k) (ways (same server t))))
        (none_on view nick k)
        ∙ by (same server t) refl
      where
        by : (own : Bool) → same server t ≡ own → map (λ _. line_text parts)
            (filter (is_on k) (ways own)) ≡ (if own then line_text (kill_parts t nick) ∷ [] else [])
        by true own =
            ap (λ l. map (λ _. line_text parts) (filter (is_on k) l))
            (but_none (met_links view.ends))
            ∙ ap (map (λ _. line_text parts)) (among_met k view.ends)
            ∙ ap (λ o. map (λ _. line_text parts) (if option_map_or is_met o false
            then k ∷ [] else [])) says.is_end
            ∙ ap (λ b. map (λ _. line_text parts) (if b then k ∷ [] else [])) met
            ∙ ap (λ name. line_text (kill_parts name nick) ∷ []) ((bytes_decides server t).0 own)
        by false others = ap (map (λ _. line_text parts)) (but_itself k (met_links view.ends))

    pub kills_goes_well : ((u : Name) → AreLinked links t u → u ≢ p → w.tree.knows u ≡ true)
        → IsGoodReply s links p t view after (if same server t
        then line_text (kill_parts t nick) ∷ [] else [])
    kills_goes_well =
        reply_so s links p t w view takes fits forest after put_out
        (if same server t then line_text (kill_parts t nick) ∷ [] else []) goes_back
        (ap (λ (so : Served). so.state.ends) after_is) knows_p
