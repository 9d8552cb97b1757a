-- What is put out upon a line is something for the server's own clients and the link of arrival,
-- and then one line on some links: so it goes to the server's own clients and on its links alone,
-- and closes none. Where the ends of links stay, nothing is owed on another link either.
use Rattle.std.proofs.Common.{inr, append-nil, filter, ◌≡◌, ◌≢◌, ℕ, Bool, true, false, cond, Option}
use Rattle.std.proofs.Common.{Some, None, Result, Ok, Err, List, [], ◌∷◌, ◌++◌, map, is_some}
use Rattle.std.proofs.Common.{nat_eq, refl, sym, ◌∙◌, ap, subst, unwrap_or, if◌then◌else◌}
use Rattle.std.proofs.lemmas.Bool.{eqb-true}
use Rattle.std.specs.FinMap.{get}
use Rattle.std.specs.Option.{option_map_or}
use Rattle.irc_batch.specs.Batches.{Sent}
use Rattle.irc_batch.specs.declared.close_reason.CloseReason.{CloseReason}
use Rattle.irc_link_words.specs.declared.openings.Opening.{Opening}
use Rattle.irc_link_words.specs.declared.openings.Opening.TheVariants as opening
use Rattle.irc_link_words.specs.Peers.{refusal}
use Rattle.irc_line.specs.declared.reading.LineFault.{LineFault}
use Rattle.irc_line.specs.declared.reading.LineFault.TheVariants as fault
use Rattle.irc_line.specs.Messages.{Parsed, Written, line_text}
use Rattle.irc_burst.specs.DeedsMeant.{Told, deeds_meant}
use Rattle.irc_burst.specs.HandshakeMeant.{handshake_meant}
use Rattle.irc_stage.specs.Ends.{is_met}
use Rattle.irc_relay.specs.Links.{Name, Link, AreLinked}
use Rattle.irc_relay.specs.Relay.{TakesFrom}
use Rattle.irc_stage.specs.EffectTold.{Served, on_links}
use Rattle.irc_stage.specs.View.{End, View, password_for}
use Rattle.irc_server.specs.LinkServed.{owed_by}
use Rattle.irc_server.specs.Heard.{tells, heard, met_unless, of_met, opened}
use Rattle.irc_server.specs.Owed.{lines_to}
use Rattle.irc_follow.specs.SideState.{ItemSetting, is_home_of, number}
use Rattle.irc_follow.specs.SideState as of_side
use Rattle.irc_follow.specs.Fits.{Fits}
use Rattle.irc_follow.specs.Says.{lines_on}
use Rattle.irc_follow.specs.Lemmas.LinesOnLinks.{lines_behind, on_these}
use Rattle.irc_follow.specs.Lemmas.PlacesOfNames.{one_place}
use Rattle.irc_follow.specs.Lemmas.SaidEffect.{client_here}
use Rattle.irc_follow.specs.Lemmas.SaidEffectShown.{but_links}
use Rattle.irc_items.specs.GoodLines.{closings, IsGoodReply}
use Rattle.irc_items.specs.Relayed.{owed_at, owed_to}
use Rattle.irc_items.proofs.Good.MetEnds.{among_linked, end_linked, far_is, owes_none}
use Rattle.irc_items.proofs.Good.MetEnds.{AreLinkedAlike, IsAnswer}
use Rattle.irc_items.proofs.Good.PutOut.{closed_behind, is_on, none_closed_on_links}

-- ---- only a server that has named itself tells of something

opens_alone : (view : View) (end : End) (what : Result Opening CloseReason) (told : Told)
    (later : List Told) → opened view end what ≡ tells (told ∷ later) → ⊥
opens_alone view end (Err why) told later is = cc is
opens_alone view end (Ok (opening.Password word)) told later is = cc is
opens_alone view end (Ok (opening.Greeting name info)) told later is =
    by (refusal (password_for view name) (unwrap_or end.password []) view.routes name) is
  where
    by : (o : Option CloseReason) → met_unless o name info ≡ tells (told ∷ later) → ⊥
    by None is = cc is
    by (Some why) is = cc is

pub teller_is_met : (view : View) (k : ℕ) (end : End) (read : Result Parsed LineFault) (told : Told)
    (later : List Told) → heard view k end read ≡ tells (told ∷ later) → is_met end ≡ true
unfolding heard
teller_is_met view k end (Ok message) told later is = by (is_met end) is
  where
    by : (b : Bool) → (if b then of_met (deeds_meant view.room view.routes k message)
        else opened view end (handshake_meant (is_some end.password) view.room view.routes k
        message)) ≡ tells (told ∷ later) → b ≡ true
    by true is = refl
    by false is = absurd (opens_alone view end
        (handshake_meant (is_some end.password) view.room view.routes k message) told later is)
teller_is_met view k end (Err fault.Empty) told later is = cc is
teller_is_met view k end (Err fault.NoCommand) told later is = cc is
teller_is_met view k end (Err fault.HasNul) told later is = cc is

-- ---- what is put out

-- For own clients and on the link of arrival, and then a line on links, each of which but that of
-- arrival is one of the server's.
pub record IsPutOutSo (s : ItemSetting) (links : List Link) (p t : Name) (view : View)
    (after : Served) : Type 0 where
  pub first : List Sent
  pub ways : List ℕ
  pub parts : Written
  pub out : after.out ≡ first ++ on_links ways parts
  pub closes_none : closings first ≡ []
  pub on_no_other : (u : Name) → nat_eq (number s p) (number s u) ≡ false
      → lines_on (number s u) first ≡ []
  pub to_clients : (client : ℕ) → get view.clients client ≡ None → lines_to client first ≡ []
  pub on_linked : (u : Name) → nat_eq (number s p) (number s u) ≡ false → (line : List ℕ)
      (lines : List (List ℕ)) → map (λ _. line_text parts) (filter (is_on (number s u)) ways)
      ≡ line ∷ lines → AreLinked links t u

module _ (s : ItemSetting) (links : List Link) (p t : Name) (w : of_side.SideState) (view : View)
    (takes : TakesFrom s.streams t p) (fits : Fits s t w view)
    (forest : AreLinkedAlike links w.tree.forest t) where
  -- the end by which it came is that of p
  on_arrival : (u : Name) → nat_eq (number s p) (number s u) ≡ true → AreLinked links t u
  on_arrival u back =
      let linked_to_p = forest.back p (fits.sound.parents t p takes) in
      subst (AreLinked links t)
      (one_place s.names p u (among_linked s links t w view fits forest p linked_to_p)
      (eqb-true (number s p) (number s u) back)) linked_to_p

  module _ (after : Served) (so : IsPutOutSo s links p t view after) where
    abbrev line_on_ways : ℕ → List (List ℕ)
    line_on_ways k = map (λ _. line_text so.parts) (filter (is_on k) so.ways)

    pub lines_put_out : (k : ℕ) → lines_on k after.out ≡ lines_on k so.first ++ line_on_ways k
    lines_put_out k =
        ap (lines_on k) so.out ∙ lines_behind k so.first (on_links so.ways so.parts)
        ∙ ap (λ l. lines_on k so.first ++ l) (on_these k so.ways so.parts)

    none_closed : closings after.out ≡ []
    none_closed = ap closings so.out ∙ closed_behind so.first
        (on_links so.ways so.parts) so.closes_none (none_closed_on_links so.ways so.parts)

    goes_to_linked : (u : Name) (line : List ℕ) (lines : List (List ℕ))
        → lines_on (number s u) after.out ≡ line ∷ lines → AreLinked links t u
    goes_to_linked u line lines is = by (nat_eq (number s p) (number s u)) refl
      where
        by : (b : Bool) → nat_eq (number s p) (number s u) ≡ b → AreLinked links t u
        by true back = on_arrival u back
        by false other =
            so.on_linked u other line lines
            (sym (lines_put_out (number s u)
            ∙ ap (λ l. l ++ line_on_ways (number s u)) (so.on_no_other u other)) ∙ is)

    goes_to_own : (client : ℕ) (line : List ℕ) (lines : List (List ℕ))
        → lines_to client after.out ≡ line ∷ lines → is_home_of s.homes t client ≡ true
    goes_to_own client line lines is = by (is_home_of s.homes t client) refl
      where
        by : (b : Bool) → is_home_of s.homes t client ≡ b → b ≡ true
        by true home = refl
        by false away =
            cc (sym (ap (lines_to client) so.out
            ∙ but_links client so.first so.ways so.parts
            ∙ so.to_clients client (client_here s p t w view takes fits client
            ∙ ap (λ b. cond b (get w.hall.clients client) None) away)) ∙ is)

    pub answer_so : lines_on (number s p) after.out ++ owed_to s after.state p ≡ owed_to s view p
        → IsAnswer s links p t view after
    answer_so pays = record {
      closes_none = none_closed;
      to_linked = goes_to_linked;
      to_own = goes_to_own;
      pays = pays;
    }

    -- nothing is owed to who has named itself, whatever is kept of other servers
    still_none_owed : after.state.ends ≡ view.ends → (u : Name)
        → (AreLinked links t u → w.tree.knows u ≡ true) → owed_to s after.state u ≡ []
    still_none_owed ends u known =
        ap (λ ends. option_map_or (owed_at s after.state u) (get ends (number s u)) []) ends
        ∙ by (get view.ends (number s u)) refl
      where
        by : (o : Option End) → get view.ends (number s u) ≡ o
            → option_map_or (owed_at s after.state u) o [] ≡ []
        by None there = refl
        by (Some end) there =
            ap (λ far. if is_some far then []
            else map line_text (owed_by after.state (number s u) u end))
            (far_is s links t w view fits forest u end there
            ∙ ap (λ b. if b then Some u else None)
            (known (end_linked s links t w view fits forest u end there)))

    pub reply_so : (back : List (List ℕ)) → lines_on (number s p) after.out ≡ back
        → after.state.ends ≡ view.ends → w.tree.knows p ≡ true → ((u : Name) → AreLinked links t u
        → u ≢ p → w.tree.knows u ≡ true) → IsGoodReply s links p t view after back
    reply_so back goes_back ends knows_p known = record {
      closes_none = none_closed;
      to_linked = goes_to_linked;
      to_own = goes_to_own;
      pays =
          ap (λ l. lines_on (number s p) after.out ++ l) (still_none_owed ends p (λ there. knows_p))
          ∙ append-nil (lines_on (number s p) after.out)
          ∙ goes_back
          ∙ sym (ap (λ l. l ++ back) (owes_none s links t w view fits forest p (λ there. knows_p)));
      others = λ u other.
          let before = owes_none s links t w view fits forest u (λ there. known u there other) in
          record {
            owes_as_before = still_none_owed ends u (λ there. known u there other)
                ∙ sym before;
            in_turn = inr before;
          };
      met_stay =
          λ u met. ap (λ ends. option_map_or is_met (get ends (number s u)) false) ends ∙ met;
    }
