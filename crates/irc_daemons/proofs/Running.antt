-- Runs of daemons, step by step, as a network that goes on.
use Rattle.std.proofs.Common.{◌≡◌, ℕ, Bool, is_some, Option, Some, None, List, [], ◌++◌, append-nil}
use Rattle.std.proofs.Common.{sym, ◌∙◌, ap, subst}
use Rattle.irc_line.specs.Laws.{PiecesCompleteTheSame}
use Rattle.irc_outbox.specs.Calls.{Call}
use Rattle.irc_relay.specs.Laws.{LinkTakenOut}
use Rattle.irc_relay.specs.Links.{Name}
use Rattle.irc_server.specs.Connected.{WhoIsConnected}
use Rattle.irc_server.specs.LineEnds.{ServedLinesEnd}
use Rattle.irc_server.specs.Own.{ServedGoesToItsOwn, ServedKeepsEnds}
use Rattle.irc_world.specs.Laws.{WorldIsSound}
use Rattle.irc_world.specs.Stepping.{Item}
use Rattle.irc_world.specs.World.{Setting}
use Rattle.irc_network.specs.Whole.{NewIsWhole, RestAsLines}
use Rattle.irc_items.specs.Laws.{RefusalsAreTheWorlds}
use Rattle.irc_net.specs.Laws.{EveryRunIsKept, KeptIsOwed, SettingsStay, StaysKept}
use Rattle.irc_daemons.specs.Alike.{ServedAlike}
use Rattle.irc_daemons.specs.Clients.{ClientsStay}
use Rattle.irc_daemons.specs.Daemons.{AreLinksOpen, Daemons}
use Rattle.irc_daemons.specs.EachStep.{EachStep}
use Rattle.irc_daemons.specs.Items.{AreItems, IsApartStep}
use Rattle.irc_daemons.specs.NewDaemons.{names_in, settings_in}
use Rattle.irc_daemons.specs.OneRoom.{DaemonsAreOneRoom, SendAsOneRoom}
use Rattle.irc_daemons.specs.Runs.{NoneMeanwhile, Runs, first_told, no_step, one_more, second_told}
use Rattle.irc_daemons.specs.Steps.{Steps}
use Rattle.irc_daemons.specs.Tellings.{Owing, read_event_by}
use Rattle.irc_daemons.proofs.Changing.{IsWhole, first_half, placed_of, then_whole}
use Rattle.irc_daemons.proofs.EachStep.{any_step}
use Rattle.irc_daemons.proofs.Going.{goes_on, owing_send, told_send}
use Rattle.irc_daemons.proofs.Lacking.{front_of_more}
use Rattle.irc_daemons.proofs.NewDaemons.{net, new_going, new_same, new_told}
use Rattle.irc_daemons.proofs.Owing.{IsHalf, none_among, still_half}
use Rattle.irc_daemons.proofs.WhoStays.{clients_stay}

-- the laws of what lies below
pub record Laws : Type 0 where
  pub pieces : PiecesCompleteTheSame
  pub lines_end : ServedLinesEnd
  pub own : ServedGoesToItsOwn
  pub connected : WhoIsConnected
  pub keeps_ends : ServedKeepsEnds
  pub alike : ServedAlike
  pub new_is_whole : NewIsWhole
  pub rest : RestAsLines
  pub world : WorldIsSound
  pub taken_out : LinkTakenOut
  pub refusals : RefusalsAreTheWorlds
  pub stays : StaysKept
  pub set_up : SettingsStay
  pub owed : KeptIsOwed
  pub run_is_kept : EveryRunIsKept

module _ {W : Type 0} (is_after : W → List Call → Type 0) (each : EachStep is_after) (laws : Laws)
    (names : List Name) (settings : List Setting) where
  stay : ClientsStay
  stay = clients_stay laws.connected

  -- each server was told of all its links, or one is still to be told
  abbrev HasCome : List Item → Option Owing → Daemons W → Type 0
  HasCome items None daemons = IsWhole settings names items daemons
  HasCome items (Some owing) daemons = IsHalf settings names items owing daemons

  -- ---- one step more

  module _ (place : ℕ) (items more : List Item) (old new : Daemons W)
      (step : Steps is_after place old new) (links : AreLinksOpen new)
      (are : AreItems names new place step.did.events more) (apart : IsApartStep step)
    where
      told_still : IsWhole settings names items old → IsWhole settings names (items ++ more) new
      told_still whole =
          let followed = any_step is_after each names place more old new whole.net step tt links are
          apart (whole.told place)
          (placed_of settings names items old whole.net whole.going whole.same) whole.same in
          record {
            net = followed.last;
            going = goes_on laws.stays laws.set_up settings items whole.net more followed.last
                whole.going followed.leads;
            same = followed.is_as;
            told = λ x y.
                ap (λ (f : ℕ → ℕ → Bool). f x y) step.same_ways ∙ whole.told x y
                ∙ ap (λ (f : ℕ → ℕ → Option ℕ). is_some (f x y)) (sym step.same_ends);
          }

      owing_still : (owing : Owing) → more ≡ [] → IsHalf settings names items owing old
          → IsHalf settings names (items ++ more) owing new
      owing_still owing none half =
          subst (λ xs. IsHalf settings names xs owing new)
          (sym (append-nil items) ∙ ap (λ xs. items ++ xs) (sym none))
          (still_half is_after laws.pieces laws.lines_end laws.own stay laws.keeps_ends laws.alike
          laws.stays laws.set_up settings names items owing place old new
          half step links (none_among names new place step.did.events more are none))

      one_step : (owing : Option Owing) → NoneMeanwhile owing more → HasCome items owing old
          → HasCome (items ++ more) owing new
      one_step None none come = told_still come
      one_step (Some owing) none come = owing_still owing none come

  -- ---- all of them

  module _ (begin : Daemons W) (first : IsWhole settings names [] begin) where
    pub run : (items : List Item) (owing : Option Owing) (now : Daemons W)
        → Runs is_after names settings begin items owing now → HasCome items owing now
    run items owing now no_step = first
    run items owing now
        (one_more place before more waiting between new runs step links are apart none) =
        one_step place before more between new step links are apart waiting none
        (run before waiting between runs)
    run items owing now (first_told place other mine theirs before item between new runs quiet
        of_item may telling) =
        first_half is_after laws.pieces laws.lines_end laws.own stay laws.connected laws.alike
        settings names before laws.stays laws.set_up between new
        (run before None between runs) quiet place other laws.world laws.taken_out laws.rest
        laws.refusals mine theirs item of_item may telling
    run items owing now (second_told waiting before between new runs telling) =
        then_whole is_after laws.pieces laws.lines_end laws.own stay laws.connected laws.alike
        settings names before between new waiting
        (run before (Some waiting) between runs) telling

    pub sends : (items : List Item) (owing : Option Owing) (now : Daemons W)
        → HasCome items owing now → SendAsOneRoom settings items owing now
    sends items None now come =
        told_send laws.owed settings items names now come.net come.going come.same
    sends items (Some owing) now come =
        owing_send laws.owed settings items names now owing come.less come.more come.going come.same
        (front_of_more owing.place
        (read_event_by owing.tidings owing.other) come.less come.more come.lacks)

module _ {W : Type 0} (is_after : W → List Call → Type 0) (each : EachStep is_after)
    (laws : Laws) where
  pub daemons_are_one_room : DaemonsAreOneRoom is_after
  daemons_are_one_room configs items owing begin now new runs =
      let first : IsWhole (settings_in new) (names_in new) [] begin = record {
        net = net laws.new_is_whole configs begin new;
        going = new_going laws.new_is_whole configs begin new laws.run_is_kept;
        same = new_same laws.new_is_whole configs begin new;
        told = new_told laws.new_is_whole configs begin new;
      } in
      sends is_after each laws (names_in new) (settings_in new) begin first items owing now
      (run is_after each laws (names_in new) (settings_in new) begin first items owing now runs)
