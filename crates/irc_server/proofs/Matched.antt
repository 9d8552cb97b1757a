-- What happens by a link leaves clients and users matched, and the room well formed.
use Rattle.std.proofs.Common.{◌≡◌, ℕ, false, refl, ◌∙◌, ap, subst, if◌then◌else◌}
use Rattle.std.specs.Bool.{⊤}
use Rattle.std.specs.Option.{option_map_or}
use Rattle.irc_names.specs.Fold.{key}
use Rattle.irc_names.specs.Tables.{row}
use Rattle.irc_users.specs.UserTable.{is_home}
use Rattle.irc_room.specs.effect.Effect.TheVariants.{Quit}
use Rattle.irc_room.specs.Lemmas.RespelledRooms.{respelled_is_well_formed}
use Rattle.irc_routes.specs.Known.{added, place_of, without_link, without_server}
use Rattle.irc_routes.specs.Place.{Place}
use Rattle.irc_stage.specs.RoomMachine.{RoomMachine}
use Rattle.irc_stage.specs.View.{View, machine_of}
use Rattle.irc_stage.specs.Matched.{IsMatched}
use Rattle.irc_stage.specs.EffectTold.{Served, changed, client_ended, in_silence}
use Rattle.irc_stage.specs.Linked.{unlinked}
use Rattle.irc_stage.specs.Lemmas.Counting.{Holds, changed_stays, taken_out_stays, told_holds}
use Rattle.irc_server.specs.Served.{ReadEvent, of_client}
use Rattle.irc_server.specs.Moves.{Move, answers, does, comes, shows, takes_out, tells_on, learns}
use Rattle.irc_server.specs.Moves.{forgets, respells, Moves, OfLinks, Closings, IsServed}
use Rattle.irc_server.specs.Moves.{opens_link, refuses_link, ignores_link, listens, closes_link}
use Rattle.irc_server.specs.Moves.{loses_link}
use Rattle.irc_server.specs.Lemmas.ServedByMoves.{kept}

-- how many links and servers there are does not matter
moved : (machine : RoomMachine) (place : Place) → place.name ≡ machine.place.name
    → IsMatched machine → IsMatched (record machine { place = place })
moved machine place same matched = record {
  registered_is_user = λ conn nick is.
      ap (λ name. option_map_or (is_home name) (row machine.room.users (key nick)) false) same
      ∙ matched.registered_is_user conn nick is;
  user_has_one = matched.user_has_one;
  spelled = matched.spelled;
  user_has_client = λ fold user is home. matched.user_has_client fold user is (home ∙ same);
}

move_holds : (s t : Served) → Move OfLinks s t → Holds s → Holds t
move_holds s t (answers conn line by here) holds = absurd by
move_holds s t (does conn effect by) holds = absurd by
move_holds s t (comes arrival effect by is) holds =
    told_holds arrival effect s (changed_stays effect s holds is)
move_holds s t (shows arrival effect by is) holds = changed_stays effect s holds is
move_holds s t (takes_out arrival nick words there by is) holds =
    subst (λ b. Holds (client_ended nick words (if b then changed (Quit nick words) s else s))) is
    (taken_out_stays nick words s holds)
move_holds s t (learns number uplink name distance token info by met) holds = record {
  matched = moved (machine_of s.state)
      (place_of (added number uplink name distance token info s.state.routes)) refl holds.matched;
  well = holds.well;
}
move_holds s t (forgets arrival name by) holds = record {
  matched =
      moved (machine_of s.state) (place_of (without_server name s.state.routes)) refl holds.matched;
  well = holds.well;
}
-- how a channel is spelled does not matter
move_holds s t (respells arrival channel by) holds = record {
  matched = record {
    registered_is_user = holds.matched.registered_is_user;
    user_has_one = holds.matched.user_has_one;
    spelled = holds.matched.spelled;
    user_has_client = holds.matched.user_has_client;
  };
  well = respelled_is_well_formed channel s.state.room holds.well;
}
move_holds s t (tells_on arrival parts by) holds =
    record { matched = holds.matched; well = holds.well }

moves_hold : {s t : Served} → Moves OfLinks s t → Holds s → Holds t
moves_hold moves holds = kept OfLinks Holds move_holds moves holds

unlinked_holds : (number : ℕ) (s : Served) → Holds s
    → Holds (record s { state = unlinked number s.state })
unlinked_holds number s holds = record {
  matched = moved (machine_of s.state) (place_of (without_link number s.state.routes)) refl
      holds.matched;
  well = holds.well;
}

abbrev pub IsByLink : ReadEvent → Type 0
IsByLink (of_client client_event) = ⊥
IsByLink other = ⊤

-- what ends keep, and what is put out, does not matter
pub served_holds : {view : View} {event : ReadEvent} {closed : Closings} {s : Served}
    → IsByLink event → IsServed view event closed s → Holds (in_silence view) → Holds s
served_holds by (listens number read ends lines here still moves) holds =
    moves_hold moves (record { matched = holds.matched; well = holds.well })
served_holds by (closes_link {s} number read why here moves) holds =
    unlinked_holds number s
    (moves_hold moves (record { matched = holds.matched; well = holds.well }))
served_holds by (loses_link {s} number moves) holds =
    unlinked_holds number s (moves_hold moves holds)
served_holds by (opens_link number starts lines) holds =
    record { matched = holds.matched; well = holds.well }
served_holds by (refuses_link number starts why) holds =
    record { matched = holds.matched; well = holds.well }
served_holds by (ignores_link number read) holds = holds
served_holds by other holds = absurd by
