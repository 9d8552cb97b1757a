-- By what the calls of a network promise, what is read of it is what its items make for servers
-- that are set up by its configurations.
use Rattle.std.proofs.Common.{◌≡◌, ◌≤◌, ℕ, true, false, true≢false, Option, Some, None, Result, Ok}
use Rattle.std.proofs.Common.{Err, OnOk, List, option_map, refl, sym, ◌∙◌, ap, subst, if◌then◌else◌}
use Rattle.irc_net.specs.ByteNetwork.{is_byte_rest}
use Rattle.irc_net.specs.SetUp.{settings_of}
use Rattle.irc_net.specs.Sound.{most_of_last}
use Rattle.irc_net.specs.declared.answer.Answer.{Answer}
use Rattle.irc_net.specs.declared.fault.NetFault.{NetFault}
use Rattle.irc_net.specs.declared.fault.NetFault.TheVariants as fault
use Rattle.irc_net.specs.declared.making.NetConfigFault.{NetConfigFault}
use Rattle.irc_net.specs.Calls.{BytesTaken, IsGiven, IsSettled, NetView, given_it, given_refused}
use Rattle.irc_net.specs.Calls.{given_to_failed, given_wants_memory, taking_by_failed}
use Rattle.irc_net.specs.Calls.{taking_refused, taking_wants_memory}
use Rattle.irc_net.specs.Faults.{fault_by, is_refusal, item_fault}
use Rattle.irc_net.specs.Laws.{EveryNetworkIsOneRoom}
use Rattle.irc_net.specs.Making.{IsNetMade}
use Rattle.irc_net.specs.OneRoom.{IsOneRoomNet, IsOwed, RefusesAsTheWorld, TakesFew}
use Rattle.irc_net.specs.Running.{IsOneRoomOf, given, made, settled, taken}
use Rattle.irc_net.specs.Network.{Receipt}
use Rattle.irc_net.specs.Refusing.{fault_at_rest}
use Rattle.irc_net.specs.Links.{Name}
use Rattle.irc_net.specs.Relay.{IsFront}
use Rattle.irc_net.specs.config.Config.{Config}
use Rattle.irc_net.specs.Owed.{owed_by_network, world_of}
use Rattle.irc_net.specs.Refused.{Refusal, refused}
use Rattle.irc_net.specs.Stepping.{Item}
use Rattle.irc_net.specs.World.{Setting, new_world}
use Rattle.irc_routes.specs.declared.programs.Programs.{Programs}
use Rattle.tests_networks.specs.Played.{Answered, AnswersAsOwed, Begins, GoesOn, IsWhole, PlaysOn}
use Rattle.tests_networks.specs.Played.{ReadsOwed, RunsAreOwed, TookFew}

-- ---- what is done

pub begins : (programs : Name → Programs) (configs : List Config)
    (result : Result NetView NetConfigFault)
    → IsNetMade programs configs result → Begins programs configs result
begins programs configs (Ok net) so = made so
begins programs configs (Err why) so = tt

pub plays_on : (old new : NetView) (item : Item) (result : Result Answer NetFault)
    → IsGiven old item result new → PlaysOn old item result new
plays_on old new item (Ok answer) gives = λ within programs configs items run. given run within gives refl
plays_on old new item (Err why) gives = tt

pub came : (old new : NetView) (from to : Name) (count taken_now : ℕ) (receipts : List Receipt)
    → BytesTaken old from to count (Ok (taken_now, receipts)) new → GoesOn old new
came old new from to count taken_now receipts takes = λ programs configs items run. taken run takes

refused_stays : (old new : NetView) (from to : Name) (count : ℕ) (why : NetFault)
    → BytesTaken old from to count (Err why) new → is_refusal why ≡ true → GoesOn old new
refused_stays old new from to count why (taking_refused stands is) refusal =
    λ programs configs items run. run
refused_stays old new from to count why (taking_wants_memory stands none failed) refusal =
    absurd (cc refusal)
refused_stays old new from to count why (taking_by_failed failed) refusal = absurd (cc refusal)

pub may_go : (old new : NetView) (from to : Name) (count : ℕ) (why : NetFault)
    (result : Result (Unit {0}) NetFault) → BytesTaken old from to count (Err why) new
    → OnOk result (is_refusal why ≡ true) → OnOk result (GoesOn old new)
may_go old new from to count why (Ok _) takes refusal =
    refused_stays old new from to count why takes refusal
may_go old new from to count why (Err other) takes refusal = tt

pub comes_to_rest : (old new : NetView) (counted : ℕ) (receipts : List Receipt)
    → IsSettled old (Ok (counted, receipts)) new → GoesOn old new
comes_to_rest old new counted receipts settles = λ programs configs items run. settled run settles

-- ---- of what was given, by servers as they are set up

module _ {X : Type 0} (made_of : List Setting → List Item → X) (net : NetView)
    (programs : Name → Programs) (configs : List Config) (items : List Item) where
  same_of : (so : IsOneRoomOf programs configs items net) → made_of
      (settings_of net.network.network) net.network.network.items ≡ made_of so.settings items
  same_of so = ap (λ settings. made_of settings net.network.network.items) so.stay
      ∙ ap (made_of so.settings) so.given

abbrev most_by : List Setting → List Item → ℕ
most_by settings items = most_of_last settings new_world items

abbrev refused_by : Item → List Setting → List Item → Option Refusal
refused_by item settings items = refused settings (world_of settings items) item

abbrev owed_by : ℕ → List Setting → List Item → List (List ℕ)
owed_by client settings items = owed_by_network settings items client

module _ (law : EveryNetworkIsOneRoom) where
  pub reads_owed : (net : NetView) (client : ℕ) (lines : List (List ℕ)) → IsOwed net client lines
      → ReadsOwed net client lines
  reads_owed net client lines owed programs configs items run =
      let so = law programs configs items net run in
      record {
        settings = so.settings;
        are_settings = so.are_settings;
        front = subst (IsFront lines) (same_of (owed_by client) net programs configs items so)
            (owed.front so.stands);
        all = λ rest. owed.all so.stands rest ∙ same_of (owed_by client) net programs configs items so;
      }

  pub took_few : (net : NetView) (count : ℕ) → TakesFew net count → TookFew net count
  took_few net count few programs configs items run =
      let so = law programs configs items net run in
      record {
        settings = so.settings;
        are_settings = so.are_settings;
        few = subst (λ n. count ≤ n) (same_of most_by net programs configs items so) (few so.stands);
      }

  pub whole : (net : NetView) → IsOneRoomNet net → IsWhole net
  whole net room programs configs items run =
      let so = law programs configs items net run in
      record {
        settings = so.settings;
        are_settings = so.are_settings;
        received = λ rest client. (room.at_rest so.stands rest).received client
            ∙ same_of (owed_by client) net programs configs items so;
        servers = room.at_rest so.stands;
        coming = room.coming so.stands;
        closes_none = room.closes_none so.stands;
        opens = room.opens so.stands;
      }

  -- ---- what is refused

  at_rest_fault : (net : NetView) (item : Item) → is_byte_rest net.network ≡ true
      → item_fault net.network item ≡ option_map fault_by (fault_at_rest net.network.network item)
  unfolding item_fault
  at_rest_fault net item rest =
      ap (λ b. if b then option_map fault_by (fault_at_rest net.network.network item)
      else Some fault.NotAtRest) rest

  answered_by : (refusal : Option Refusal) (old new : NetView) (item : Item)
      (result : Result Answer NetFault) → old.failed ≡ false → item_fault old.network item
      ≡ option_map fault_by refusal → IsGiven old item result new → Answered refusal result
  answered_by None old new item result stands is (given_it _ gives) = tt
  answered_by (Some refusal) old new item result stands is (given_it _ gives) =
      absurd (let no = sym gives.none ∙ is in cc no)
  answered_by None old new item result stands is (given_refused _ some) =
      absurd (let no = sym some ∙ is in cc no)
  answered_by (Some refusal) old new item result stands is (given_refused {fault = why} _ some) =
      same_fault why (fault_by refusal) (sym some ∙ is)
    where
      same_fault : (a b : NetFault) → Some a ≡ Some b → a ≡ b
      same_fault a b e = cc e
  answered_by None old new item result stands is (given_wants_memory _ none failed) = refl
  answered_by (Some refusal) old new item result stands is (given_wants_memory _ none failed) =
      absurd (let no = sym none ∙ is in cc no)
  answered_by refusal old new item result stands is (given_to_failed failed) =
      absurd (true≢false (sym failed ∙ stands))

  pub answers_as_owed : (old new : NetView) (item : Item) (result : Result Answer NetFault)
      → IsGiven old item result new → RefusesAsTheWorld old item → AnswersAsOwed old item result
  answers_as_owed old new item result gives refuses rest programs configs items run =
      let so = law programs configs items old run in
      record {
        settings = so.settings;
        are_settings = so.are_settings;
        answered = answered_by (refused_by item so.settings items) old new item result so.stands
            (at_rest_fault old item rest ∙ ap (option_map fault_by)
            (refuses so.stands rest ∙ same_of (refused_by item) old programs configs items so)) gives;
      }

  -- ---- by the law alone

  pub runs_are_owed : RunsAreOwed
  runs_are_owed net programs configs items run =
      let so = law programs configs items net run in
      record {
        owed = λ client. record {
          settings = so.settings;
          are_settings = so.are_settings;
          front = so.front client;
          all = λ rest. so.all rest client;
        };
        few = record { settings = so.settings; are_settings = so.are_settings; few = so.few };
        refused_so = λ rest item. record {
          settings = so.settings;
          are_settings = so.are_settings;
          refused_so = so.refuses rest item;
        };
        whole = whole net so.servers programs configs items run;
      }
