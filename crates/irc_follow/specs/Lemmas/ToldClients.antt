-- Of what clients are told, who looks for anything else finds nothing: for lines on a link, say, or
-- for links that are closed.
use Rattle.std.proofs.Common.{◌≡◌, ℕ, Bool, true, false, Option, Some, None, List, [], ◌∷◌, ◌++◌}
use Rattle.std.proofs.Common.{append-nil, filter_map, refl, ◌∙◌, ap, if◌then◌else◌}
use Rattle.std.proofs.lemmas.List.Elements.{filter_map-append}
use Rattle.std.specs.FinMap.{entries}
use Rattle.std.specs.List.{cons_option, flat_map}
use Rattle.irc_batch.specs.Batches.{Sent, end_of, line_to}
use Rattle.irc_room.specs.effect.Effect.{Effect}
use Rattle.irc_room.specs.Seen.{Showing, seen}
use Rattle.irc_stage.specs.declared.clients.Client.{Client}
use Rattle.irc_stage.specs.EffectTold.{Served, all_changed, changed, changed_if, counts, ends_of}
use Rattle.irc_stage.specs.EffectTold.{is_elsewhere, shown_at}
use Rattle.irc_stage.specs.Handle.{is_client, to_viewer}
use Rattle.irc_stage.specs.RoomMachine.{Clients}
use Rattle.irc_stage.specs.View.{View}

-- what is put out for some of these
abbrev pub for_some : {Y : Type 0} → (Y → Bool) → (Y → Sent) → List Y → List Sent
for_some test sent ys = filter_map (λ y. if test y then Some (sent y) else None) ys

module _ {X : Type 0} (find : Sent → Option X) where
  abbrev found : List Sent → List X
  found out = filter_map find out

  pub none_for_some : {Y : Type 0} (test : Y → Bool) (sent : Y → Sent)
      → ((y : Y) → find (sent y) ≡ None) → (ys : List Y) → found (for_some test sent ys) ≡ []
  none_for_some test sent none [] = refl
  none_for_some test sent none (y ∷ ys) = by (test y) (none_for_some test sent none ys)
    where
      by : (b : Bool) → found (for_some test sent ys) ≡ []
          → found (cons_option (if b then Some (sent y) else None) (for_some test sent ys)) ≡ []
      by true rest = ap (λ o. cons_option o (found (for_some test sent ys))) (none y) ∙ rest
      by false rest = rest

  module _ (none_told : (conn : ℕ) (line : List ℕ) → find (line_to conn line) ≡ None) where
    pub none_to_viewer : (clients : Clients) (showing : Showing)
        → found (to_viewer clients showing) ≡ []
    none_to_viewer clients showing =
        none_for_some (λ (c : ℕ × Client). is_client showing.viewer c.1)
        (λ (c : ℕ × Client). line_to c.0 showing.line)
        (λ c. none_told c.0 showing.line) (entries clients)

    pub none_to_viewers : (clients : Clients) (showings : List Showing)
        → found (flat_map (to_viewer clients) showings) ≡ []
    none_to_viewers clients [] = refl
    none_to_viewers clients (showing ∷ showings) =
        filter_map-append find (to_viewer clients showing) (flat_map (to_viewer clients) showings)
        ∙ ap (λ l. l ++ found (flat_map (to_viewer clients) showings))
        (none_to_viewer clients showing)
        ∙ none_to_viewers clients showings

    pub none_by_effect : (view : View) (effect : Effect) → found (shown_at view effect) ≡ []
    none_by_effect view effect = by (is_elsewhere view effect)
      where
        by : (b : Bool) → found (if b then []
            else flat_map (to_viewer view.clients) (seen view.room effect)) ≡ []
        by true = refl
        by false = none_to_viewers view.clients (seen view.room effect)

    none_by_one : (effect : Effect) (s : Served) → found (changed_if effect s).out ≡ found s.out
    none_by_one effect s = by (counts s.state effect)
      where
        by : (b : Bool) → found (if b then changed effect s else s).out ≡ found s.out
        by true =
            filter_map-append find s.out (shown_at s.state effect)
            ∙ ap (λ l. found s.out ++ l) (none_by_effect s.state effect)
            ∙ append-nil (found s.out)
        by false = refl

    pub none_by_all : (effects : List Effect) (s : Served)
        → found (all_changed effects s).out ≡ found s.out
    none_by_all [] s = refl
    none_by_all (effect ∷ effects) s =
        none_by_all effects (changed_if effect s) ∙ none_by_one effect s

    -- whoever is killed is told why, and closed
    pub none_to_killed : ((conn : ℕ) → find (end_of conn) ≡ None)
        → (clients : Clients) (nick line : List ℕ) → found
        (to_viewer clients (record { viewer = nick; line = line }) ++ ends_of nick clients) ≡ []
    none_to_killed none_ends clients nick line =
        filter_map-append find (to_viewer clients error) (ends_of nick clients)
        ∙ ap (λ l. l ++ found (ends_of nick clients)) (none_to_viewer clients error)
        ∙ none_for_some (λ (c : ℕ × Client). is_client nick c.1) (λ (c : ℕ × Client). end_of c.0)
        (λ c. none_ends c.0) (entries clients)
      where
        error : Showing
        error = record { viewer = nick; line = line }
