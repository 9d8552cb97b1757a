-- A server is a room machine to its clients, but for who is invited; without links it is that
-- machine.
use Rattle.std.proofs.Common.{List, [], ◌∷◌, ◌++◌, refl, sym, ◌∙◌, ap}
use Rattle.irc_batch.specs.Batches.{Sent}
use Rattle.irc_room.specs.OtherInvitations.{AlikeStayAlike}
use Rattle.irc_room.specs.Room.{IsWellFormed}
use Rattle.irc_routes.specs.Known.{others}
use Rattle.irc_stage.specs.RoomMachine.{RoomMachine}
use Rattle.irc_stage.specs.View.{View, machine_of}
use Rattle.irc_stage.specs.ClientTold.{client_told}
use Rattle.irc_stage.specs.EffectTold.{Served}
use Rattle.irc_stage.specs.Handle.{handled}
use Rattle.irc_stage.specs.Matched.{StaysMatched}
use Rattle.irc_stage.specs.Lemmas.Alone.{place_is_kept, told_back}
use Rattle.irc_stage.specs.Lemmas.Twins.{matched_there, told_twins}
use Rattle.irc_server.specs.Lemmas.ServedByMoves.{served_by_moves}
use Rattle.irc_server.proofs.Matched.{IsByLink, served_holds}
use Rattle.irc_server.specs.Owed.{lines_to, lines_owed, owed_by_machine, LoneServerOwesTheSame}
use Rattle.irc_server.specs.Served.{ReadEvent, of_client, link_up, link_says, link_down, served}
use Rattle.irc_server.specs.Served.{AreMatched, LoneServerIsOneRoom, ServedStaysMatched}

-- ---- without links

pub one_room : LoneServerIsOneRoom
unfolding served
one_room view client_event alone =
    let after = (handled (machine_of view) client_event).state in
    let whole = told_back view alone client_event in
    record {
      whole = whole;
      state = ap (λ (s : Served). machine_of s.state) whole
          ∙ ap (λ place. record { place = place; clients = after.clients; room = after.room })
          (sym (place_is_kept (machine_of view) client_event));
      out = ap (λ (s : Served). s.out) whole;
      alone = record {
        no_ends = ap (λ (s : Served). s.state.ends) whole ∙ alone.no_ends;
        no_others = ap (λ (s : Served). others s.state.routes) whole ∙ alone.no_others;
      };
    }

pub owes_the_same : LoneServerIsOneRoom → LoneServerOwesTheSame
owes_the_same is_one view [] alone conn = refl
owes_the_same is_one view (client_event ∷ client_events) alone conn =
    let same = is_one view client_event alone in
    let after = (served view (of_client client_event)).state in
    ap (λ (out : List Sent). lines_to conn out ++ lines_owed conn after client_events) same.out
    ∙ ap (λ lines. lines_to conn (handled (machine_of view) client_event).out ++ lines)
    (owes_the_same is_one after client_events same.alone conn
    ∙ ap (λ (m : RoomMachine). owed_by_machine conn m client_events) same.state)

-- ---- clients and users stay matched

by_link : (view : View) → AreMatched view → IsWellFormed view.room → (event : ReadEvent)
    → IsByLink event → AreMatched (served view event).state
by_link view matched well event by =
    (served_holds by (served_by_moves view event)
    (record { matched = matched; well = well })).matched

pub served_stays_matched : AlikeStayAlike → StaysMatched → ServedStaysMatched
unfolding served
served_stays_matched stay stays view matched well (of_client client_event) due =
    matched_there (handled (machine_of view) client_event).state
    (machine_of (client_told view client_event).state) (told_twins stay view client_event)
    (stays (machine_of view) matched well client_event due)
served_stays_matched stay stays view matched well (link_up link starts) due =
    by_link view matched well (link_up link starts) tt
served_stays_matched stay stays view matched well (link_says link read) due =
    by_link view matched well (link_says link read) tt
served_stays_matched stay stays view matched well (link_down link) due =
    by_link view matched well (link_down link) tt
