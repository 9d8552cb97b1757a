-- The lines of a handshake are read as they are written, and what comes of them.
use Rattle.irc_follow.specs.Lemmas.CarriedLines.{info_carried}
use Rattle.irc_line.specs.Lines.{IsLine}
use Rattle.std.proofs.Common.{◌≡◌, ℕ, Bool, true, false, cond, is_some, Option, Some, None}
use Rattle.std.proofs.Common.{Ok, Err, List, [], ◌∷◌, refl, sym, ap, ◌∙◌, unwrap_or, lit≤}
use Rattle.std.proofs.Common.{if◌then◌else◌}
use Rattle.std.specs.FinMap.{get, insert}
use Rattle.std.specs.List.{list_all}
use Rattle.std.specs.Option.{option_map_or}
use Rattle.std.specs.Cmp.{first_so}
use Rattle.irc_batch.specs.Batches.{end_of_link}
use Rattle.irc_batch.specs.declared.close_reason.CloseReason.{CloseReason}
use Rattle.irc_batch.specs.declared.close_reason.CloseReason.TheVariants as reason
use Rattle.irc_link_words.specs.GreetingLines.{greeting}
use Rattle.irc_link_words.specs.Openings.{greeting_opens, opening_of}
use Rattle.irc_link_words.specs.Peers.{refusal}
use Rattle.irc_link_words.specs.WholeLines.{GreetingFits, PassFits}
use Rattle.irc_link_words.specs.declared.openings.Opening.TheVariants as opening
use Rattle.irc_burst.specs.DeedsMeant.{a_server, deeds_meant}
use Rattle.irc_burst.specs.HandshakeMeant.{handshake_meant, out_of_place}
use Rattle.irc_line.specs.Messages.{IsPlain, line_text, message_of}
use Rattle.irc_line.specs.Reading.{read_of}
use Rattle.irc_names.specs.Names.{IsServer}
use Rattle.irc_stage.specs.Ends.{End, is_met}
use Rattle.irc_routes.specs.Info.{IsInfo, is_text_byte}
use Rattle.irc_routes.specs.Known.{Known}
use Rattle.irc_stage.specs.EffectTold.{Served, in_silence, with_sent}
use Rattle.irc_stage.specs.Linked.{is_taken, with_far, with_row}
use Rattle.irc_stage.specs.Lemmas.Numbers.{get-with, same_number-refl}
use Rattle.irc_stage.specs.View.{View, password_for}
use Rattle.irc_server.specs.DeedTold.{gain_told, told_by}
use Rattle.irc_server.specs.Heard.{Heard, closes, heard, meets, met_unless, opened}
use Rattle.irc_server.specs.LinkServed.{after_heard, line_served, on_link, owes}
use Rattle.irc_server.specs.Lemmas.Fronts.{lost_link_behind}
use Rattle.irc_server.specs.Served.{link_says, served}
use Rattle.irc_readback.specs.Lemmas.LinesReadBack.{command_plain}
use Rattle.irc_follow.specs.Lemmas.Neighbours.{IsKnownOfLines}
use Rattle.irc_follow.specs.Lemmas.SaidGainToldOn.{text_no_nul}
use Rattle.irc_items.specs.GoodLines.{closings}

-- what is known of reading, and of the lines of a handshake
pub record IsKnownOfHandshakes : Type 0 where
  pub lines : IsKnownOfLines
  pub passwords : PassFits
  pub names : GreetingFits

-- ---- SERVER

greeting_plain : IsKnownOfHandshakes → (known : Known) → IsServer known.name
    → IsInfo known.about.info → IsPlain (greeting known)
greeting_plain laws known name info = record {
  prefix_no_space = refl;
  prefix_no_nul = refl;
  command = command_plain _ _ refl refl refl;
  middle = (
    (laws.lines.names.server known.name name).plain,
    (command_plain _ _ refl refl refl, (command_plain _ _ refl refl refl, tt)),
  );
  last_no_nul =
      text_no_nul known.about.info (first_so (list_all is_text_byte known.about.info) _ info);
  count = lit≤ tt;
}

pub greeting_is_read : IsKnownOfHandshakes → (known : Known)
    → IsServer known.name → IsInfo known.about.info
    → read_of (line_text (greeting known)) ≡ Ok (message_of (greeting known))
greeting_is_read laws known name info =
    sym (laws.lines.alone (line_text (greeting known)) (Ok (message_of (greeting known)))
    (laws.lines.written (greeting known) (greeting_plain laws known name info)
    (laws.names known name info)))

pub greeting_is_line : IsKnownOfHandshakes → (known : Known) → IsServer known.name
    → IsInfo known.about.info → IsLine (line_text (greeting known))
greeting_is_line laws known name info = laws.lines.as_line (greeting known) (record {
  sender = refl;
  command = refl;
  command_some = λ e. cc e;
  middle = ((laws.lines.names.server known.name name).carried, (refl, (refl, tt)));
  last = info_carried known.about.info info;
})

pub greeting_opening : (known : Known) → IsInfo known.about.info → (has_password : Bool)
    → opening_of has_password (message_of (greeting known))
    ≡ Some (greeting_opens has_password (Some (known.name, known.about.info)))
unfolding opening_of
greeting_opening known info has_password = ap (λ b.
    Some (greeting_opens has_password (if b then Some (known.name, known.about.info)
    else None))) info

-- ---- what a server that is not met hears of it

-- the reason for which it closes the link, or it has met the server
pub data HearsGreeting (view : View) (k : ℕ) (end : End) (known : Known) : Type 0 where
  it_closes : (why : CloseReason) → heard view k end (read_of (line_text (greeting known)))
      ≡ closes why → HearsGreeting view k end known
  it_meets : heard view k end (read_of (line_text (greeting known)))
      ≡ meets known.name known.about.info → HearsGreeting view k end known

module _ (laws : IsKnownOfHandshakes) (view : View) (k : ℕ) (end : End) (known : Known)
    (not_met : is_met end ≡ false) (name : IsServer known.name)
    (info : IsInfo known.about.info) where
  pub heard_is : heard view k end (read_of (line_text (greeting known))) ≡ opened view end
      (greeting_opens (is_some end.password) (Some (known.name, known.about.info)))
  unfolding heard handshake_meant
  heard_is =
      ap (heard view k end) (greeting_is_read laws known name info)
      ∙ ap (λ b. if b then Rattle.irc_server.specs.Heard.of_met
      (deeds_meant view.room view.routes k (message_of (greeting known)))
      else opened view end (handshake_meant (is_some end.password) view.room view.routes k
      (message_of (greeting known)))) not_met
      ∙ ap (λ o. opened view end (unwrap_or o (Err (out_of_place
      (deeds_meant view.room view.routes k (message_of (greeting known)))))))
      (greeting_opening known info (is_some end.password))

  pub hears_greeting : HearsGreeting view k end known
  hears_greeting = by (is_some end.password) refl
    where
      met_or : (o : Option CloseReason) → refusal (password_for view known.name)
          (unwrap_or end.password []) view.routes known.name ≡ o
          → heard view k end (read_of (line_text (greeting known))) ≡ met_unless
          (refusal (password_for view known.name)
          (unwrap_or end.password []) view.routes known.name) known.name known.about.info
          → HearsGreeting view k end known
      met_or None e is = it_meets (is ∙ ap (λ o. met_unless o known.name known.about.info) e)
      met_or (Some why) e is =
          it_closes why (is ∙ ap (λ o. met_unless o known.name known.about.info) e)

      by : (b : Bool) → is_some end.password ≡ b → HearsGreeting view k end known
      by false e = it_closes reason.Order (heard_is
          ∙ ap (λ b. opened view end (greeting_opens b (Some (known.name, known.about.info)))) e)
      by true e = met_or (refusal (password_for view known.name)
          (unwrap_or end.password []) view.routes known.name) refl
          (heard_is ∙ ap
          (λ b. opened view end (greeting_opens b (Some (known.name, known.about.info)))) e
          ∙ ap (λ b. opened view end (if b then Ok (opening.Greeting known.name known.about.info)
          else Err reason.UnknownPeer)) name)

-- ---- a server that has named itself is met

-- A server that is not met yet has met the one that names itself, unless it closes the link.
abbrev pub GreetingIsMet : Type 0
GreetingIsMet = (view : View) (k : ℕ) (end : End) (known : Known) → get view.ends k ≡ Some end
    → is_met end ≡ false → IsServer known.name → IsInfo known.about.info
    → closings (served view (link_says k (read_of (line_text (greeting known))))).out ≡ []
    → option_map_or is_met (get (served view
    (link_says k (read_of (line_text (greeting known))))).state.ends k) false ≡ true

closing_shows : (k : ℕ) (why : CloseReason) (view : View)
    → closings (after_heard view k (closes why)).out ≡ [] → ⊥
closing_shows k why view none = let e = sym (ap (λ (s : Served). closings s.out)
    (lost_link_behind k (end_of_link k why ∷ []) (in_silence view))) ∙ none in cc e

ends_told : (k : ℕ) (name info : List ℕ) (s : Served)
    → (told_by k (a_server s.state.routes.name name 1 1 info) s).state.ends ≡ s.state.ends
unfolding told_by
ends_told k name info s = by (is_taken s.state.routes k name 1)
  where
    by : (b : Bool) → (if b then gain_told k s.state.routes.name name info
        (record s { state = with_row k s.state.routes.name name 1 1 info s.state })
        else s).state.ends ≡ s.state.ends
    by true = refl
    by false = refl

met_end : (view : View) (k : ℕ) (name : List ℕ) (end : End) → get view.ends k ≡ Some end
    → option_map_or is_met (get (with_far k name view).ends k) false ≡ true
met_end view k name end is =
    ap (λ o. option_map_or is_met (get
    (option_map_or (λ (e : End). record view {
      ends = insert view.ends k
          (record e { far = Some name });
    }) o view).ends k) false) is
    ∙ ap (λ o. option_map_or is_met o false)
    (get-with view.ends k (record end { far = Some name }) k
    ∙ ap (λ b. cond b (Some (record end { far = Some name })) (get view.ends k))
    (same_number-refl k))

routes_of_far : (view : View) (k : ℕ) (name : List ℕ) → (with_far k name view).routes ≡ view.routes
routes_of_far view k name = by (get view.ends k)
  where
    by : (o : Option End) → (option_map_or (λ (e : End). record view {
      ends = insert view.ends k
          (record e { far = Some name });
    }) o view).routes ≡ view.routes
    by None = refl
    by (Some end) = refl

meets_is_met : (view : View) (k : ℕ) (name info : List ℕ) (end : End) → get view.ends k ≡ Some end
    → option_map_or is_met (get (after_heard view k (meets name info)).state.ends k) false ≡ true
meets_is_met view k name info end is =
    ap (λ (r : List ℕ). option_map_or is_met
    (get (told_by k (a_server r name 1 1 info) (with_sent (on_link k (owes view k name))
    (in_silence (with_far k name view)))).state.ends k) false)
    (sym (ap (λ (known : Known). known.name) (routes_of_far view k name)))
    ∙ ap (λ ends. option_map_or is_met (get ends k) false)
    (ends_told k name info
    (with_sent (on_link k (owes view k name)) (in_silence (with_far k name view))))
    ∙ met_end view k name end is

pub greeting_is_met : IsKnownOfHandshakes → GreetingIsMet
unfolding served
greeting_is_met laws view k end known is not_met name info open_still =
    by (hears_greeting laws view k end known not_met name info)
  where
    served_is : (h : Heard) → heard view k end (read_of (line_text (greeting known))) ≡ h
        → line_served view k (read_of (line_text (greeting known))) (get view.ends k)
        ≡ after_heard view k h
    served_is h e = ap (line_served view k (read_of (line_text (greeting known)))) is
        ∙ ap (after_heard view k) e

    by : HearsGreeting view k end known → option_map_or is_met (get (line_served view k
        (read_of (line_text (greeting known))) (get view.ends k)).state.ends k) false ≡ true
    by (it_closes why e) = absurd (closing_shows k why view
        (sym (ap (λ (s : Served). closings s.out) (served_is (closes why) e)) ∙ open_still))
    by (it_meets e) = ap (λ (s : Served). option_map_or is_met (get s.state.ends k) false)
        (served_is (meets known.name known.about.info) e)
        ∙ meets_is_met view k known.name known.about.info end is
