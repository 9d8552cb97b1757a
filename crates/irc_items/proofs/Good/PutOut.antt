-- What is put out: which of it closes a link, and which of it goes on one link.
use Rattle.std.proofs.Common.{◌≡◌, ℕ, true, false, cond, Bool, Some, None, List, [], ◌∷◌, ◌++◌, map}
use Rattle.std.proofs.Common.{filter, nat_eq, not, refl, sym, ◌∙◌, ap, if◌then◌else◌}
use Rattle.std.proofs.lemmas.Bool.{eqb-true, eq-eqb}
use Rattle.std.proofs.lemmas.List.Elements.{filter_map-append}
use Rattle.std.specs.FinMap.{get}
use Rattle.std.specs.List.{cons_option, flat_map}
use Rattle.irc_batch.specs.Batches.{Sent}
use Rattle.irc_line.specs.Messages.{Written, line_text, text}
use Rattle.irc_room.specs.effect.Effect.{Effect}
use Rattle.irc_room.specs.Seen.{Showing, seen}
use Rattle.irc_stage.specs.Ways.{but}
use Rattle.irc_stage.specs.EffectTold.{is_elsewhere, on_links, shown_at, Served, all_changed}
use Rattle.irc_stage.specs.Handle.{to_viewer}
use Rattle.irc_stage.specs.RoomMachine.{Clients}
use Rattle.irc_stage.specs.View.{View}
use Rattle.irc_server.specs.LinkServed.{on_link}
use Rattle.irc_server.specs.Owed.{lines_to}
use Rattle.irc_follow.specs.Says.{body, lines_on}
use Rattle.irc_follow.specs.Lemmas.LinesOnLinks.{bare}
use Rattle.irc_follow.specs.Lemmas.ClientLines.{to_one, told_line}
use Rattle.irc_follow.specs.Lemmas.ToldClients as told_to
use Rattle.irc_follow.specs.Lemmas.SaidEffectShown.{lines_behind as lines_to_behind}
use Rattle.irc_items.specs.GoodLines.{closings, reason_of}

-- ---- no link is closed

pub closed_behind : (one other : List Sent) → closings one ≡ [] → closings other ≡ []
    → closings (one ++ other) ≡ []
closed_behind one other first second =
    filter_map-append reason_of one other ∙ ap (λ l. l ++ closings other) first ∙ second

pub none_closed_on_links : (links : List ℕ) (parts : Written) → closings (on_links links parts) ≡ []
none_closed_on_links [] parts = refl
none_closed_on_links (link ∷ links) parts = none_closed_on_links links parts

pub none_closed_on_link : (link : ℕ) (lines : List Written) → closings (on_link link lines) ≡ []
none_closed_on_link link [] = refl
none_closed_on_link link (parts ∷ lines) = none_closed_on_link link lines

pub none_closed_by_effect : (view : View) (effect : Effect) → closings (shown_at view effect) ≡ []
none_closed_by_effect = told_to.none_by_effect reason_of (λ conn line. refl)

-- nor by effects in turn
pub none_closed_by_all : (effects : List Effect) (s : Served)
    → closings (all_changed effects s).out ≡ closings s.out
none_closed_by_all = told_to.none_by_all reason_of (λ conn line. refl)

-- ---- on one link

abbrev pub is_on : ℕ → ℕ → Bool
is_on k link = nat_eq link k

-- the link by which a line came is none of the others
pub but_itself : (k : ℕ) (links : List ℕ) → filter (is_on k) (but (Some k) links) ≡ []
but_itself k [] = refl
but_itself k (link ∷ links) = by (nat_eq k link) refl (but_itself k links)
  where
    by : (b : Bool) → nat_eq k link ≡ b → filter (is_on k) (but (Some k) links) ≡ []
        → filter (is_on k) (cond (not b) (link ∷ but (Some k) links) (but (Some k) links)) ≡ []
    by true back rest = rest
    by false other rest =
        ap (λ b. cond b (link ∷ filter (is_on k) (but (Some k) links))
        (filter (is_on k) (but (Some k) links))) (turned (nat_eq link k) refl) ∙ rest
      where
        turned : (b : Bool) → nat_eq link k ≡ b → b ≡ false
        turned false is = refl
        turned true is = cc (sym other ∙ eq-eqb k link (sym (eqb-true link k is)))

pub all_on_it : (k : ℕ) (lines : List Written) → lines_on k (on_link k lines) ≡ map line_text lines
all_on_it k [] = refl
all_on_it k (parts ∷ lines) =
    ap (λ b. cons_option (if b then Some (body (text parts)) else None)
    (lines_on k (on_link k lines))) (eq-eqb k k refl)
    ∙ ap (λ l. l ∷ lines_on k (on_link k lines)) (bare parts)
    ∙ ap (λ l. line_text parts ∷ l) (all_on_it k lines)

-- ---- to clients

pub none_to_clients : (who link : ℕ) (lines : List Written) → lines_to who (on_link link lines) ≡ []
none_to_clients who link [] = refl
none_to_clients who link (parts ∷ lines) = none_to_clients who link lines

-- who is no client is shown nothing
module _ (client : ℕ) where
  none_to_viewers : (clients : Clients) → get clients client ≡ None → (showings : List Showing)
      → lines_to client (flat_map (to_viewer clients) showings) ≡ []
  none_to_viewers clients none [] = refl
  none_to_viewers clients none (showing ∷ showings) =
      lines_to_behind client (to_viewer clients showing) (flat_map (to_viewer clients) showings)
      ∙ ap (λ l. l ++ lines_to client (flat_map (to_viewer clients) showings))
      (to_one client clients showing ∙ ap (told_line client showing) none)
      ∙ none_to_viewers clients none showings

  pub none_shown : (view : View) (effect : Effect) → get view.clients client ≡ None
      → lines_to client (shown_at view effect) ≡ []
  none_shown view effect none = by (is_elsewhere view effect)
    where
      by : (b : Bool) → lines_to client
          (if b then [] else flat_map (to_viewer view.clients) (seen view.room effect)) ≡ []
      by true = refl
      by false = none_to_viewers view.clients none (seen view.room effect)
