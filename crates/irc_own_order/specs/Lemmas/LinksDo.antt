-- What comes by a link is done as one room machine does it.
use Rattle.std.proofs.Common.{◌≡◌, ℕ, Bool, true, false, Option, None, List, [], ◌∷◌, ◌++◌, refl}
use Rattle.std.proofs.Common.{sym, ◌∙◌, ap, append-nil, subst, if◌then◌else◌}
use Rattle.std.specs.Bool.{⊤}
use Rattle.std.specs.List.{flat_map}
use Rattle.irc_batch.specs.Batches.{Sent, end_of_link}
use Rattle.irc_commands.specs.Closing.{error_line}
use Rattle.irc_link_writer.specs.Written.{wire}
use Rattle.irc_room.specs.After.{after}
use Rattle.irc_room.specs.effect.Effect.{Effect}
use Rattle.irc_room.specs.effect.Effect.TheVariants.{Quit}
use Rattle.irc_room.specs.Effects.{IsPossible}
use Rattle.irc_room.specs.Seen.{seen}
use Rattle.irc_routes.specs.Known.{place_of}
use Rattle.irc_stage.specs.RoomMachine.{Clients, RoomMachine}
use Rattle.irc_stage.specs.Handle.{clients_after, to_viewer}
use Rattle.irc_stage.specs.EffectTold.{Served, changed, client_ended, effect_told, ends_of}
use Rattle.irc_stage.specs.EffectTold.{in_silence, is_elsewhere, on_links, ways_at, with_sent}
use Rattle.irc_stage.specs.Lemmas.Counting.{counted, quit_possible, same_clients_elsewhere}
use Rattle.irc_stage.specs.Linked.{told_on_all, unlinked}
use Rattle.irc_stage.specs.View.{View, machine_of, with_end}
use Rattle.irc_stage.specs.Ways.{but, met_links}
use Rattle.irc_server.specs.LinkServed.{on_link}
use Rattle.irc_server.specs.Moves.{Move, answers, does, comes, shows, takes_out, tells_on, learns}
use Rattle.irc_server.specs.Moves.{forgets, respells, Moves, none, next, OfLinks, Closings}
use Rattle.irc_server.specs.Moves.{IsServed, opens_link, refuses_link, ignores_link, listens}
use Rattle.irc_server.specs.Moves.{closes_link, loses_link}
use Rattle.irc_server.specs.Served.{ReadEvent, of_client}
use Rattle.irc_own_order.specs.Doings.{an_effect, a_spelling, an_ending, a_place}
use Rattle.irc_own_order.specs.OwnOrder.{IsOfGiver, done_here}
use Rattle.irc_own_order.specs.Lemmas.ToClients.{none_on_links, none_on_link, viewers_are}
use Rattle.irc_own_order.specs.Lemmas.ToClients.{ending_is}
use Rattle.irc_own_order.specs.Lemmas.InTurn.{IsBetween, nothing_between, elsewhere, one_between}
use Rattle.irc_own_order.specs.Lemmas.InTurn.{then_between, IsBetweenBy, quietly, then_by}

-- ---- effects, whoever does them

module _ (start : RoomMachine) (giver : Option ℕ) where
  -- an invitation that is another server's is not done here
  pub changed_by : (effect : Effect) (s : Served) → IsPossible s.state.room effect
      → IsOfGiver start giver (an_effect effect)
      → IsBetweenBy start giver (done_here s.state effect) s (changed effect s)
  changed_by effect s can of_giver = by (is_elsewhere s.state effect) refl
    where
      shown : List Sent
      shown = flat_map (to_viewer s.state.clients) (seen s.state.room effect)

      served_by : Bool → Served
      served_by b = record {
        state = record s.state {
          clients = clients_after effect s.state.clients;
          room = if b then s.state.room else after s.state.room effect;
        };
        out = s.out ++ (if b then [] else shown);
      }

      by : (b : Bool) → is_elsewhere s.state effect ≡ b
          → IsBetweenBy start giver (if b then [] else effect ∷ []) s (served_by b)
      by true is = record {
        between = elsewhere start giver s (served_by true) []
            (ap (λ (clients : Clients). record {
              place = place_of s.state.routes;
              clients = clients;
              room = s.state.room;
            }) (same_clients_elsewhere s.state effect is)) refl refl;
        effects_are = refl;
      }
      by false is = record {
        between = one_between start giver s (served_by false) (an_effect effect) shown refl refl
            (viewers_are s.state.clients (seen s.state.room effect))
            (record { of_giver = of_giver; can_be = can });
        effects_are = refl;
      }

  -- what it puts out on links is no client's
  pub told_by : (arrival : Option ℕ) (effect : Effect) (s : Served)
      → IsPossible s.state.room effect → IsOfGiver start giver (an_effect effect)
      → IsBetweenBy start giver (done_here s.state effect) s (effect_told arrival effect s)
  told_by arrival effect s can of_giver =
      let told = effect_told arrival effect s in
      let lines = on_links (ways_at s.state arrival effect)
      (wire s.state.room s.state.routes effect) in
      subst (λ effects. IsBetweenBy start giver effects s told)
      (append-nil (done_here s.state effect))
      (then_by start giver (done_here s.state effect) [] s (changed effect s) told
      (changed_by effect s can of_giver)
      (quietly start giver (changed effect s) told
      (elsewhere start giver (changed effect s) told lines refl refl
      (none_on_links (ways_at s.state arrival effect)
      (wire s.state.room s.state.routes effect))) refl))

-- ---- moves of links

module _ (start : RoomMachine) where
  ended_between : (nick words : List ℕ) (s : Served)
      → IsBetween start None s (client_ended nick words s)
  ended_between nick words s =
      one_between start None s (client_ended nick words s) (an_ending nick words)
      (to_viewer s.state.clients (record { viewer = nick; line = error_line words })
      ++ ends_of nick s.state.clients) refl refl
      (ending_is s.state.clients (record { viewer = nick; line = error_line words }) nick)
      (record { of_giver = refl; can_be = tt })

  -- servers come or go
  placed_between : (s t : Served)
      → machine_of t.state ≡ record (machine_of s.state) { place = place_of t.state.routes }
      → t.out ≡ s.out → IsBetween start None s t
  placed_between s t same quiet =
      one_between start None s t (a_place (place_of t.state.routes)) [] same
      (quiet ∙ sym (append-nil s.out)) refl (record { of_giver = refl; can_be = tt })

  move_between : {s t : Served} → Move OfLinks s t → IsBetween start None s t
  move_between (answers conn line by here) = absurd by
  move_between (does conn effect by) = absurd by
  move_between (comes {s} arrival effect by is) =
      (told_by start None arrival effect s (counted s.state effect is).0 tt).between
  move_between (shows {s} arrival effect by is) =
      (changed_by start None effect s (counted s.state effect is).0 tt).between
  move_between (takes_out {s} arrival nick words true by there) =
      then_between start None s (changed (Quit nick words) s)
      (client_ended nick words (changed (Quit nick words) s))
      (changed_by start None (Quit nick words) s
      (quit_possible s.state.room nick words there) tt).between
      (ended_between nick words (changed (Quit nick words) s))
  move_between (takes_out {s} arrival nick words false by there) = ended_between nick words s
  move_between (tells_on {s} arrival parts by) =
      elsewhere start None s (told_on_all arrival parts s)
      (on_links (but arrival (met_links s.state.ends)) parts) refl refl
      (none_on_links (but arrival (met_links s.state.ends)) parts)
  move_between {s} {t} (learns number uplink name distance token info by met) =
      placed_between s t refl refl
  move_between {s} {t} (forgets arrival name by) = placed_between s t refl refl
  move_between {s} {t} (respells arrival channel by) =
      one_between start None s t (a_spelling channel) [] refl (sym (append-nil s.out)) refl
      (record { of_giver = refl; can_be = tt })

  moves_between : {s t : Served} → Moves OfLinks s t → IsBetween start None s t
  moves_between {s} none = nothing_between start None s s refl refl
  moves_between {s} {t} (next {between = between} move moves) =
      then_between start None s between t (move_between move) (moves_between moves)

  unlinked_between : (number : ℕ) (s : Served)
      → IsBetween start None s (record s { state = unlinked number s.state })
  unlinked_between number s =
      placed_between s (record s { state = unlinked number s.state }) refl refl

-- ---- events

abbrev pub IsByLink : ReadEvent → Type 0
IsByLink (of_client client_event) = ⊥
IsByLink other = ⊤

pub link_between : (start : RoomMachine) {view : View} {event : ReadEvent} {closed : Closings}
    {s : Served} → IsByLink event → IsServed view event closed s
    → IsBetween start None (in_silence view) s
link_between start {view} by (opens_link number starts lines) =
    elsewhere start None (in_silence view)
    (with_sent (on_link number lines) (in_silence (with_end number starts view)))
    (on_link number lines) refl refl (none_on_link number lines)
link_between start {view} by (refuses_link number starts why) =
    elsewhere start None (in_silence view)
    (with_sent (end_of_link number why ∷ []) (in_silence view)) (end_of_link number why ∷ [])
    refl refl refl
link_between start {view} by (ignores_link number read) =
    nothing_between start None (in_silence view) (in_silence view) refl refl
link_between start {view} by (listens {s} number read ends lines here still moves) =
    let begun : Served =
    with_sent (on_link number lines) (in_silence (record view { ends = ends })) in
    then_between start None (in_silence view) begun s
    (elsewhere start None (in_silence view) begun (on_link number lines) refl refl
    (none_on_link number lines))
    (moves_between start moves)
link_between start {view} by (closes_link {s} number read why here moves) =
    let begun : Served = with_sent (end_of_link number why ∷ []) (in_silence view) in
    then_between start None (in_silence view) s (record s { state = unlinked number s.state })
    (then_between start None (in_silence view) begun s
    (elsewhere start None (in_silence view) begun (end_of_link number why ∷ []) refl refl refl)
    (moves_between start moves))
    (unlinked_between start number s)
link_between start {view} by (loses_link {s} number moves) =
    then_between start None (in_silence view) s (record s { state = unlinked number s.state })
    (moves_between start moves) (unlinked_between start number s)
link_between start by other = absurd by
