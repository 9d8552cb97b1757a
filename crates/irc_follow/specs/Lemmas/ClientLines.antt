-- What one client receives of what is put out to clients: what its user is shown.
use Rattle.std.proofs.Common.{◌≡◌, ℕ, Bool, true, false, cond, T, Option, Some, None, List, [], ◌∷◌}
use Rattle.std.proofs.Common.{◌++◌, refl, sym, ◌∙◌, ap, map, filter, filter_map, nat_eq}
use Rattle.std.proofs.Common.{option_to_list, if◌then◌else◌}
use Rattle.std.proofs.lemmas.Bool.{eqb-true, eq-eqb}
use Rattle.std.proofs.lemmas.List.Elements.{filter_map-append}
use Rattle.std.specs.Cmp.Lexicographic.{bytes_decides}
use Rattle.std.specs.FinMap.{entries, entries_sorted, find, get, get-entries, is_sorted}
use Rattle.std.specs.FinMap.Entries.{below_all}
use Rattle.std.specs.List.{cons_option, flat_map}
use Rattle.std.specs.Ordering.{nat_cmp}
use Rattle.std.proofs.Math.Facts.{and_yes}
use Rattle.irc_names.specs.Fold.{key, same}
use Rattle.irc_batch.specs.Batches.{Sent, line_to}
use Rattle.irc_room.specs.effect.Effect.{Effect}
use Rattle.irc_room.specs.Room.{Room, IsWellFormed}
use Rattle.irc_room.specs.Seen.{Showing, seen}
use Rattle.irc_room.specs.Viewers.{shows_to}
use Rattle.irc_room.specs.Lemmas.OneViewer.{one_viewers_lines}
use Rattle.irc_stage.specs.declared.clients.Client.{Client}
use Rattle.irc_stage.specs.declared.clients.Client.TheVariants.{Registering, Registered}
use Rattle.irc_stage.specs.Handle.{is_client, to_viewer}
use Rattle.irc_stage.specs.RoomMachine.{Clients}
use Rattle.irc_stage.specs.Lemmas.Numbers.{none_behind, one_number, same_number, same_number-refl}
use Rattle.irc_server.specs.Owed.{line_to_conn, lines_to}

-- the order of two nicknames plays no part
same_turned : (a b : List ℕ) → same a b ≡ same b a
same_turned a b = by (same a b) (same b a) refl refl
  where
    by : (c d : Bool) → same a b ≡ c → same b a ≡ d → c ≡ d
    by true true e f = refl
    by false false e f = refl
    by true false e f = cc (sym
        (sym f ∙ (bytes_decides (key b) (key a)).1 (sym ((bytes_decides (key a) (key b)).0 e))))
    by false true e f =
        cc (sym e ∙ (bytes_decides (key a) (key b)).1 (sym ((bytes_decides (key b) (key a)).0 f)))

module _ (who : ℕ) where
  -- of one showing
  abbrev pub told_line : Showing → Option Client → List (List ℕ)
  told_line showing None = []
  told_line showing (Some client) =
      if is_client showing.viewer client then showing.line ∷ [] else []

  abbrev chosen : Showing → ℕ × Client → Option Sent
  chosen showing c = if is_client showing.viewer c.1 then Some (line_to c.0 showing.line) else None

  of_entries : (showing : Showing) (es : List (ℕ × Client)) → T (is_sorted nat_cmp es)
      → lines_to who (filter_map (chosen showing) es) ≡ told_line showing (find nat_cmp who es)
  of_entries showing [] rise = refl
  of_entries showing (e ∷ es) rise =
      by_number (same_number who e.0) refl (of_entries showing es (and_yes _ _ rise).1)
    where
      rest : List Sent
      rest = filter_map (chosen showing) es

      low : T (below_all nat_cmp e.0 es)
      low = (and_yes _ _ rise).0

      first : (b : Bool) → nat_eq e.0 who ≡ true → lines_to who rest ≡ []
          → lines_to who (cons_option (if b then Some (line_to e.0 showing.line) else None) rest)
          ≡ (if b then showing.line ∷ [] else [])
      first true one none =
          ap (λ c. cons_option (if c then Some (showing.line) else None) (lines_to who rest)) one
          ∙ ap (λ l. showing.line ∷ l) none
      first false one none = none

      later : (b : Bool) → nat_eq e.0 who ≡ false → lines_to who (cons_option
          (if b then Some (line_to e.0 showing.line) else None) rest) ≡ lines_to who rest
      later true two =
          ap (λ c. cons_option (if c then Some (showing.line) else None) (lines_to who rest)) two
      later false two = refl

      other : (b : Bool) → nat_eq e.0 who ≡ b → same_number who e.0 ≡ false → b ≡ false
      other false is two = refl
      other true is two =
          cc (sym two ∙ ap (same_number who) (eqb-true e.0 who is) ∙ same_number-refl who)

      by_number : (b : Bool) → same_number who e.0 ≡ b → lines_to who rest ≡ told_line showing
          (find nat_cmp who es) → lines_to who (cons_option (chosen showing e) rest)
          ≡ told_line showing (cond b (Some e.1) (find nat_cmp who es))
      by_number true one behind =
          let is = one_number who e.0 one in
          first (is_client showing.viewer e.1) (eq-eqb e.0 who (sym is))
          (behind ∙ ap (told_line showing) (ap (λ n. find nat_cmp n es) is ∙ none_behind e es low))
      by_number false two behind =
          later (is_client showing.viewer e.1) (other (nat_eq e.0 who) refl two) ∙ behind

  pub to_one : (clients : Clients) (showing : Showing)
      → lines_to who (to_viewer clients showing) ≡ told_line showing (get clients who)
  to_one clients showing = of_entries showing (entries clients) (entries_sorted clients)
      ∙ ap (told_line showing) (sym (get-entries clients who))

  -- of some, one after another
  abbrev told_lines : Option Client → List Showing → List (List ℕ)
  told_lines client [] = []
  told_lines client (showing ∷ showings) = told_line showing client ++ told_lines client showings

  of_showings : (clients : Clients) (showings : List Showing)
      → lines_to who (flat_map (to_viewer clients) showings) ≡ told_lines (get clients who) showings
  of_showings clients [] = refl
  of_showings clients (showing ∷ showings) =
      filter_map-append (line_to_conn who) (to_viewer clients showing)
      (flat_map (to_viewer clients) showings)
      ∙ ap (λ l. l ++ lines_to who (flat_map (to_viewer clients) showings)) (to_one clients showing)
      ∙ ap (λ l. told_line showing (get clients who) ++ l) (of_showings clients showings)

  none_waiting : (client : Option Client) → ((showing : Showing) → told_line showing client ≡ [])
      → (showings : List Showing) → told_lines client showings ≡ []
  none_waiting client none [] = refl
  none_waiting client none (showing ∷ showings) =
      ap (λ l. l ++ told_lines client showings) (none showing) ∙ none_waiting client none showings

  of_user : (nick : List ℕ) (showings : List Showing) → told_lines (Some (Registered nick)) showings
      ≡ map (λ (s : Showing). s.line) (filter (λ (s : Showing). same s.viewer nick) showings)
  of_user nick [] = refl
  of_user nick (showing ∷ showings) =
      ap (λ b. (if b then showing.line ∷ [] else [])
      ++ told_lines (Some (Registered nick)) showings) (same_turned nick showing.viewer)
      ∙ by (same showing.viewer nick) (of_user nick showings)
    where
      by : (b : Bool) → told_lines (Some (Registered nick)) showings
          ≡ map (λ (s : Showing). s.line) (filter (λ (s : Showing). same s.viewer nick) showings)
          → (if b then showing.line ∷ [] else []) ++ told_lines (Some (Registered nick)) showings
          ≡ map (λ (s : Showing). s.line)
          (cond b (showing ∷ filter (λ (s : Showing). same s.viewer nick) showings)
          (filter (λ (s : Showing). same s.viewer nick) showings))
      by true rest = ap (λ l. showing.line ∷ l) rest
      by false rest = rest

  -- what an effect shows to a client
  abbrev pub client_shown : Room → Effect → Option Client → List (List ℕ)
  client_shown room effect None = []
  client_shown room effect (Some (Registering pending)) = []
  client_shown room effect (Some (Registered nick)) = option_to_list (shows_to room effect nick)

  pub effect_lines : (clients : Clients) (room : Room) (effect : Effect)
      → IsWellFormed room → lines_to who (flat_map (to_viewer clients) (seen room effect))
      ≡ client_shown room effect (get clients who)
  effect_lines clients room effect well =
      of_showings clients (seen room effect) ∙ by (get clients who)
    where
      by : (o : Option Client) → told_lines o (seen room effect) ≡ client_shown room effect o
      by None = none_waiting None (λ _. refl) (seen room effect)
      by (Some (Registering pending)) =
          none_waiting (Some (Registering pending)) (λ _. refl) (seen room effect)
      by (Some (Registered nick)) =
          of_user nick (seen room effect) ∙ one_viewers_lines room effect nick well
