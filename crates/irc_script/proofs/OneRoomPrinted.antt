-- What a script prints is what each client receives of one room.
use Rattle.std.proofs.Common.{◌≡◌, ℕ, zero, suc, Ok, List, [], ◌++◌, ap, sym, subst, refl, ◌∙◌}
use Rattle.std.specs.List.{AllByRecursion}
use Rattle.irc_relay.specs.Relay.{IsFront}
use Rattle.irc_net.specs.ByteNetwork.{ByteNetwork}
use Rattle.irc_net.specs.Laws.{AnswersAreReceived, KeptIsOwed, SettingsStay, StaysKept}
use Rattle.irc_net.specs.OneRoom.{IsKeptSound}
use Rattle.irc_net.specs.Owed.{owed_by_network}
use Rattle.irc_net.specs.SetUp.{settings_of}
use Rattle.irc_net.specs.Sound.{owed_now}
use Rattle.irc_net.specs.NetworkLaws.{ReceiptsAreReceived}
use Rattle.irc_net.specs.Network.{received_by}
use Rattle.irc_script.specs.Networks.{first_net, first_network, script_settings}
use Rattle.irc_script.specs.OneRoom.{lines_shown_to, owed_in, IsPrintedOf}
use Rattle.irc_script.specs.RunLaws.{PrintsOneRoom}
use Rattle.irc_script.specs.Runs.{Runs}
use Rattle.irc_script.specs.Scripts.{ScriptAsked, Request, script_lines, script_read}
use Rattle.irc_script.proofs.EntriesPrinted.{Shows, runs_shown}
use Rattle.irc_script.proofs.FirstIsNew.{AreServers, first_is_new, servers_named}
use Rattle.irc_script.proofs.ReadWithin.{front_within, read_within, servers_read}
use Rattle.irc_script.proofs.StaysSetUp.{first_set_up, runs_set_up}
use Rattle.irc_script.proofs.StaysSound.{IsRequestWithin, runs_kept}

-- of what holds of networks, what is needed of them
pub record AreOneRoom : Type 0 where
  pub owed : KeptIsOwed
  pub set_up : SettingsStay

nothing_received : (names : List (List ℕ)) (client : ℕ)
    → received_by (first_network names) client ≡ []
nothing_received names zero = refl
nothing_received names (suc earlier) = refl

printed_of : AreOneRoom → (names : List (List ℕ)) (net : ByteNetwork) (text : List ℕ)
    → IsKeptSound net → settings_of net.network ≡ script_settings names
    → Shows (first_net names) net text → IsPrintedOf names net text
printed_of laws names net text kept set_up shown = record {
  entries = shown.entries;
  text_is = shown.text_is;
  received = received;
  front =
      λ client. subst (λ lines. IsFront lines (owed_in names net client)) (sym (received client))
      (subst (IsFront (received_by net.network client)) (same client)
      ((laws.owed net client kept).front refl));
  at_rest =
      λ rest client. received client ∙ (laws.owed net client kept).all refl rest ∙ same client;
  settings = set_up;
  sound = kept.sound;
}
  where
    received : (client : ℕ) → lines_shown_to client shown.entries ≡ received_by net.network client
    received client = sym (shown.received client
        ∙ ap (λ ls. ls ++ lines_shown_to client shown.entries) (nothing_received names client))

    same : (client : ℕ) → owed_now net.network client ≡ owed_in names net client
    same client = ap (λ settings. owed_by_network settings net.network.items client) set_up

-- the network with which a script that is read begins is sound,
pub first_kept : StaysKept → (text : List ℕ) (asked : ScriptAsked) → script_read text ≡ Ok asked
    → IsKeptSound (first_net asked.servers)
first_kept keeping text asked read =
    keeping.new (first_network asked.servers)
    (first_is_new asked.servers (subst AreServers (sym (servers_read text asked read))
    (servers_named (script_lines text))))

-- and so it is behind each of the requests
sound_behind : StaysKept → (text : List ℕ) (asked : ScriptAsked) (requests left : List Request)
    (net : ByteNetwork) (printed : List ℕ) → script_read text ≡ Ok asked → asked.requests ≡ requests
    ++ left → Runs (first_net asked.servers) requests net printed → IsKeptSound net
sound_behind keeping text asked requests left net printed read parts runs =
    runs_kept keeping within runs (first_kept keeping text asked read)
  where
    within : AllByRecursion IsRequestWithin requests
    within = front_within IsRequestWithin requests left
        (subst (AllByRecursion IsRequestWithin) parts (read_within text asked read))

pub prints_one_room : StaysKept → AreOneRoom → ReceiptsAreReceived → AnswersAreReceived
    → PrintsOneRoom
prints_one_room keeping laws receipts answers text asked requests left net printed read parts runs =
    printed_of laws asked.servers net printed
    (sound_behind keeping text asked requests left net printed read parts runs)
    (runs_set_up laws.set_up runs ∙ first_set_up asked.servers)
    (runs_shown receipts answers runs)
