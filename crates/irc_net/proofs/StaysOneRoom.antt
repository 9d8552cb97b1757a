-- What a network keeps, and what it is to its clients then.
use Rattle.std.proofs.Common.{◌≡◌, ◌+◌, ◌≤◌, min, ℕ, zero, suc, Bool, true, false, Option, Some}
use Rattle.std.proofs.Common.{None, List, [], refl, sym, ◌∙◌, ap, subst, arith, if◌then◌else◌}
use Rattle.std.proofs.Common.{one-add}
use Rattle.std.specs.Option.{option_and_then, option_map}
use Rattle.std.proofs.Math.Nat.{min-le_right}
use Rattle.irc_world.specs.Owed.{owed_by_network}
use Rattle.irc_world.specs.Stepping.{Item}
use Rattle.irc_world.specs.World.{Setting, new_world}
use Rattle.irc_world.specs.Refused.{Refusal, refused}
use Rattle.irc_world.specs.WithinLimits.{IsItemWithin}
use Rattle.irc_relay.specs.Relay.{IsFront}
use Rattle.irc_network.specs.Network.{Progress, Direction, Network, delivered, first_direction}
use Rattle.irc_network.specs.Network.{given}
use Rattle.irc_network.specs.Network.{begun, max_count, next_in_turn, received_by}
use Rattle.irc_network.specs.Refusing.{fault_at_rest}
use Rattle.irc_items.specs.Kept.{DeliveryKeepsSound, KeepsItems, TakenAreFew}
use Rattle.irc_items.specs.Laws.{GivenStaysSound, IsGivenAtRest, NewLinkIsOpen, NewNetworkIsSound}
use Rattle.irc_items.specs.Laws.{NoLinkIsClosed, ReceivedIsFront, RefusalsAreTheWorlds}
use Rattle.irc_items.specs.Laws.{RestIsOneRoom, WaitingAreLines}
use Rattle.irc_items.specs.OneRoom.{IsOneRoom}
use Rattle.irc_items.specs.Sound.{IsSound, most_now, most_of_last, owed_now, world_now}
use Rattle.irc_items.specs.SetUp.{IsNew, settings_of}
use Rattle.irc_network.specs.ByteNetwork.{ByteNetwork, bytes_come}
use Rattle.irc_network.specs.ByteNetwork.{progress_in_lines, net_in_lines, is_byte_rest}
use Rattle.irc_network.specs.ByteNetwork.{item_given}
use Rattle.irc_network.specs.Turns.{TurnsGo, lines_in_turn, none_yet, turn_first, turn_taken}
use Rattle.irc_network.specs.Whole.{AreLinesWaiting, BytesComeAsLines, Delivers, GivenAsLines}
use Rattle.irc_network.specs.Whole.{NewIsWhole, RestAsLines, TurnAsLines, TurnsAsLines}
use Rattle.irc_network.specs.Whole.{no_line, no_more, no_pipes, one_first, one_line}
use Rattle.irc_network.specs.Loops.Coming.{come_between, progress_of}
use Rattle.irc_net.specs.Calls.{NetView, standing}
use Rattle.irc_net.specs.Laws.{KeptIsOwed, StaysKept}
use Rattle.irc_forest.specs.declared.places.EndPlaces.{EndPlaces}
use Rattle.irc_network.specs.declared.receipt.Receipt.{Receipt as KeptReceipt}
use Rattle.irc_net.specs.Faults.{fault_by, item_fault}
use Rattle.irc_net.specs.declared.fault.NetFault.TheVariants as fault
use Rattle.irc_net.specs.OneRoom.{IsKeptSound, IsOneRoomNet, IsOwed, RefusesAsTheWorld, TakesFew}
use Rattle.irc_net.proofs.StaysSetUp.{settings_in_lines}

-- what always holds of a network, while memory is there
abbrev pub IsKept : NetView → Type 0
IsKept net = net.failed ≡ false → IsKeptSound net.network

-- ---- what a network is to its clients

-- of who it is, bytes on their way change nothing
pub same_received : (net : ByteNetwork) (client : ℕ)
    → received_by (net_in_lines net) client ≡ received_by net.network client
same_received net zero = refl
same_received net (suc earlier) = refl

-- nor of what is owed: servers are set up as they are where links carry lines
same_owed : (net : ByteNetwork) (client : ℕ)
    → owed_now (net_in_lines net) client ≡ owed_now net.network client
same_owed net client = ap (λ (settings : List Setting).
    owed_by_network settings net.network.items client) (settings_in_lines net)

same_most : (net : ByteNetwork) → most_now (net_in_lines net) ≡ most_now net.network
same_most net = ap (λ (settings : List Setting). most_of_last settings new_world net.network.items)
    (settings_in_lines net)

pub owed_front : ReceivedIsFront → (net : ByteNetwork) (client : ℕ) → IsKeptSound net
    → IsFront (received_by net.network client) (owed_now net.network client)
owed_front is_front net client kept =
    subst (λ lines. IsFront lines (owed_now net.network client)) (same_received net client)
    (subst (IsFront (received_by (net_in_lines net) client)) (same_owed net client)
    (is_front (net_in_lines net) client kept.sound))

pub owed_all : RestIsOneRoom → RestAsLines → (net : ByteNetwork) (client : ℕ) → IsKeptSound net
    → is_byte_rest net ≡ true → received_by net.network client ≡ owed_now net.network client
owed_all one_room resting net client kept rest =
    sym (same_received net client) ∙ (one_room (net_in_lines net) kept.sound
    (resting net kept.whole rest).at_rest).received client ∙ same_owed net client

pub owed : ReceivedIsFront → RestIsOneRoom → RestAsLines → (net : NetView) (client : ℕ)
    (lines : List (List ℕ)) → IsKept net → lines ≡ received_by net.network.network client
    → IsOwed net client lines
owed is_front one_room resting net client lines kept is = record {
  front = λ stands. subst (λ ls. IsFront ls (owed_now net.network.network client)) (sym is)
      (owed_front is_front net.network client (kept stands));
  all = λ stands rest. is ∙ owed_all one_room resting net.network client (kept stands) rest;
}

pub kept_owed : ReceivedIsFront → RestIsOneRoom → RestAsLines → KeptIsOwed
kept_owed is_front one_room resting net client kept =
    owed is_front one_room resting (standing net) client (received_by net.network client)
    (λ stands. kept) refl

pub few_taken : TakenAreFew → (net : ByteNetwork) → IsKeptSound net
    → net.network.taken ≤ most_now net.network
few_taken few net kept =
    subst (λ n. net.network.taken ≤ n) (same_most net) (few (net_in_lines net) kept.sound)

pub takes_few : TakenAreFew → (net : NetView) (count : ℕ) → IsKept net
    → count ≡ net.network.network.taken → TakesFew net count
takes_few few net count kept is stands =
    subst (λ n. n ≤ most_now net.network.network) (sym is) (few_taken few net.network (kept stands))

-- of what a network is before a call
abbrev RefusesSo : Item → Network → Type 0
RefusesSo item net = fault_at_rest net item ≡ refused (settings_of net) (world_now net) item

pub refuses : RefusalsAreTheWorlds → RestAsLines → (net old : NetView) (item : Item) → IsKept net
    → net ≡ old → RefusesAsTheWorld old item
refuses refusals resting net old item kept is =
    subst (λ old. RefusesAsTheWorld old item) is (λ stands rest.
    let resting_so = resting net.network (kept stands).whole rest in
    subst (RefusesSo item) resting_so.as_lines
    (refusals (net_in_lines net.network) item (kept stands).sound resting_so.at_rest))

pub one_room : RestIsOneRoom → NoLinkIsClosed → NewLinkIsOpen → RestAsLines → (net : NetView)
    → IsKept net → IsOneRoomNet net
one_room at_rest no_link new_link resting net kept = record {
  coming = λ stands. (kept stands).sound;
  at_rest = λ stands rest.
      let resting_so = resting net.network (kept stands).whole rest in
      subst IsOneRoom resting_so.as_lines
      (at_rest (net_in_lines net.network) (kept stands).sound resting_so.at_rest);
  closes_none = λ stands. no_link (net_in_lines net.network) (kept stands).sound;
  opens = λ stands near far. new_link (net_in_lines net.network) near far (kept stands).sound;
}

-- ---- a new one

pub kept_new : NewNetworkIsSound → NewIsWhole → (net : Network) → IsNew net
    → IsKeptSound (no_pipes net)
kept_new law as_new net new =
    let so = as_new net new.queues in
    record {
      sound = subst IsSound (sym so.as_lines) (law net new);
      whole = so.whole;
      counted = subst (λ n. n ≤ max_count) (sym new.taken) (omega arith);
    }

-- ---- an item

pub record IsFree (net : ByteNetwork) (item : Item) : Type 0 where
  pub at_rest : is_byte_rest net ≡ true
  pub none : fault_at_rest net.network item ≡ None

free : (net : ByteNetwork) (item : Item) → item_fault net item ≡ None → IsFree net item
unfolding item_fault
free net item = by (is_byte_rest net) refl (fault_at_rest net.network item) refl
  where
    by : (b : Bool) → is_byte_rest net ≡ b → (o : Option Refusal) → fault_at_rest net.network item
        ≡ o → (if b then option_map fault_by o else Some fault.NotAtRest) ≡ None → IsFree net item
    by false rest o is none = cc none
    by true rest (Some refusal) is none = cc none
    by true rest None is none = record { at_rest = rest; none = is }

given_taken : (net : Network) (item : Item) → (given item net).state.taken ≡ 0
unfolding given
given_taken net item = refl

-- what waits in a sound network are lines
pub are_lines : WaitingAreLines → (net : Network) → IsSound net → AreLinesWaiting net
are_lines waiting net sound place to node is = waiting net place to node sound is

pub kept_given : GivenStaysSound → WaitingAreLines → GivenAsLines → RestAsLines
    → (net : ByteNetwork) (item : Item) → IsKeptSound net → item_fault net item ≡ None
    → IsItemWithin item → IsKeptSound (item_given item net).state
kept_given given_sound waiting as_lines resting net item kept none within =
    let is_free = free net item none in
    let resting_so = resting net kept.whole is_free.at_rest in
    let at : IsGivenAtRest (net_in_lines net) item = record {
      at_rest = resting_so.at_rest;
      taken = ap (λ (n : Network). fault_at_rest n item) resting_so.as_lines ∙ is_free.none;
      within = within;
    } in
    let sound = given_sound (net_in_lines net) item kept.sound at in
    let so = as_lines net item kept.whole is_free.at_rest
    (are_lines waiting (given item (net_in_lines net)).state sound) in
    record {
      sound = subst IsSound (sym (ap (λ (c : Progress Network). c.state) so.as_lines)) sound;
      whole = so.whole;
      counted =
          subst (λ n. n ≤ max_count) (sym (ap (λ (c : Progress Network). c.state.taken) so.as_lines
          ∙ given_taken (net_in_lines net) item)) (omega arith);
    }

-- ---- lines that are delivered

none_kept : (net : Network) → net.taken ≤ max_count → KeepsItems 0 net net
none_kept net few =
    record { sound = λ sound. sound; most = refl; taken = no_more_of net.taken max_count few }
  where
    no_more_of : (n most : ℕ) → n ≤ most → n ≡ min (n + 0) most
    no_more_of n most few = omega (arith, few)

both_kept : (one other : ℕ) (a b c : Network) → KeepsItems one a b → KeepsItems other b c
    → KeepsItems (one + other) a c
both_kept one other a b c p q = record {
  sound = λ sound. q.sound (p.sound sound);
  most = q.most ∙ p.most;
  taken = added a.taken b.taken c.taken one other max_count p.taken q.taken;
}
  where
    added : (x y z n m most : ℕ) → y ≡ min (x + n) most → z ≡ min (y + m) most
        → z ≡ min (x + (n + m)) most
    added x y z n m most first second = omega (arith, first, second)

few_now : (count : ℕ) (old new : Network) → KeepsItems count old new → new.taken ≤ max_count
few_now count old new keeps =
    subst (λ n. n ≤ max_count) (sym keeps.taken) (min-le_right (old.taken + count) max_count)

pub deliveries_keep : DeliveryKeepsSound → {from to count : ℕ} {old new : Progress Network}
    → Delivers from to count old new → old.state.taken ≤ max_count
    → KeepsItems count old.state new.state
deliveries_keep law {old = old} no_more few = none_kept old.state few
deliveries_keep law {from = from} {to = to} {old = old} {new = new}
    (one_first {count = count} {between = between} is rest) few =
    let first = law from to old between is few in
    subst (λ n. KeepsItems n old.state new.state) (one-add count)
    (both_kept 1 count old.state between.state new.state first
    (deliveries_keep law rest (few_now 1 old.state between.state first)))

-- ---- bytes that come

pub kept_come : DeliveryKeepsSound → WaitingAreLines → BytesComeAsLines
    → (net : ByteNetwork) (from to count : ℕ) → IsKeptSound net
    → IsKeptSound (bytes_come from to count (begun net)).state
kept_come law waiting as_lines net from to count kept =
    let come = as_lines from to count (begun net) kept.whole in
    let keeps = deliveries_keep law come.delivers kept.counted in
    let sound = keeps.sound kept.sound in
    let are = are_lines waiting come.last.state sound in
    let same = come.as_lines are in
    record {
      sound = subst IsSound (sym (ap (λ (c : Progress Network). c.state) same)) sound;
      whole = come.whole are;
      counted = subst (λ n. n ≤ max_count) (sym (ap (λ (c : Progress Network). c.state.taken) same))
          (few_now _ (net_in_lines net) come.last.state keeps);
    }

-- as the code lets them come
pub kept_by : StaysKept → (net new : ByteNetwork) (ends : EndPlaces)
    (count : ℕ) (none lines : List KeptReceipt) → IsKeptSound net → none ≡ []
    → progress_of new lines ≡ come_between ends count (progress_of net none) → IsKeptSound new
kept_by stays net new ends count none lines kept begins comes =
    subst IsKeptSound (sym (ap (λ (c : Progress ByteNetwork). c.state)
    (comes ∙ ap (λ ls. come_between ends count (progress_of net ls)) begins)))
    (stays.come net ends.near ends.far count kept)

pub kept_item : StaysKept → (net new : ByteNetwork) (item : Item) (lines : List KeptReceipt)
    → IsKeptSound net → item_fault net item ≡ None → IsItemWithin item
    → progress_of new lines ≡ item_given item net → IsKeptSound new
kept_item stays net new item lines kept none within is =
    subst IsKeptSound (sym (ap (λ (c : Progress ByteNetwork). c.state) is))
    (stays.given net item kept none within)

-- ---- turns

pub record AreTurning : Type 0 where
  pub delivered : DeliveryKeepsSound
  pub waiting : WaitingAreLines
  pub turns : TurnAsLines

-- a turn keeps a network sound, and counts for the lines that it completes
pub record IsTurnKept (old new : Progress ByteNetwork) : Type 0 where
  pub kept : IsKeptSound new.state
  pub keeps : KeepsItems (lines_in_turn old.state) (net_in_lines old.state) (net_in_lines new.state)

pub data IsTurnOf (old new : Progress ByteNetwork) : Type 0 where
  nothing : lines_in_turn old.state ≡ 0 → progress_in_lines new ≡ progress_in_lines old
      → IsTurnOf old new
  next_line : lines_in_turn old.state ≡ 1
      → next_in_turn (progress_in_lines old) ≡ Some (progress_in_lines new) → IsTurnOf old new

delivery_of : (old new : Progress Network) → next_in_turn old ≡ Some new
    → (d : Direction) × (delivered d.from d.to old ≡ Some new)
delivery_of old new is = by (first_direction old.state) is
  where
    by : (o : Option Direction) → option_and_then (λ (d : Direction). delivered d.from d.to old) o
        ≡ Some new → (d : Direction) × (delivered d.from d.to old ≡ Some new)
    by None none = cc none
    by (Some d) some = (d, some)

module _ (laws : AreTurning) where
  pub turn_as : (old new : Progress ByteNetwork) → IsKeptSound old.state → turn_taken old ≡ Some new
      → TurnsAsLines old new
  turn_as old new kept turn =
      laws.turns old new kept.whole
      (are_lines laws.waiting (net_in_lines old.state) kept.sound) turn

  pub turn_kept : (old new : Progress ByteNetwork) → IsKeptSound old.state
      → turn_taken old ≡ Some new → IsTurnKept old new
  turn_kept old new kept turn = by (turn_as old new kept turn)
    where
      by : TurnsAsLines old new → IsTurnKept old new
      by (no_line none same whole) =
          let net_is : net_in_lines old.state ≡ net_in_lines new.state =
          sym (ap (λ (c : Progress Network). c.state) same) in
          record {
            kept = record {
              sound = subst IsSound net_is kept.sound;
              whole = whole;
              counted = subst (λ (n : Network). n.taken ≤ max_count) net_is kept.counted;
            };
            keeps =
                subst (λ n. KeepsItems n (net_in_lines old.state) (net_in_lines new.state))
                (sym none)
                (subst (KeepsItems 0 (net_in_lines old.state)) net_is
                (none_kept (net_in_lines old.state) kept.counted));
          }
      by (one_line last one next same whole) =
          let d = delivery_of (progress_in_lines old) last next in
          let keeps =
          laws.delivered d.0.from d.0.to (progress_in_lines old) last d.1 kept.counted in
          let sound = keeps.sound kept.sound in
          let are = are_lines laws.waiting last.state sound in
          let net_is : last.state ≡ net_in_lines new.state =
          sym (ap (λ (c : Progress Network). c.state) (same are)) in
          record {
            kept = record {
              sound = subst IsSound net_is sound;
              whole = whole are;
              counted = subst (λ (n : Network). n.taken ≤ max_count) net_is
                  (few_now 1 (net_in_lines old.state) last.state keeps);
            };
            keeps = subst (λ n. KeepsItems n (net_in_lines old.state) (net_in_lines new.state))
                (sym one) (subst (KeepsItems 1 (net_in_lines old.state)) net_is keeps);
          }

  -- where links carry lines it is nothing, or the next line in turn
  pub turn_is : (old new : Progress ByteNetwork) → IsKeptSound old.state → turn_taken old ≡ Some new
      → IsTurnOf old new
  turn_is old new kept turn = by (turn_as old new kept turn)
    where
      by : TurnsAsLines old new → IsTurnOf old new
      by (no_line none same whole) = nothing none same
      by (one_line last one next same whole) =
          let d = delivery_of (progress_in_lines old) last next in
          let sound = (laws.delivered d.0.from d.0.to
          (progress_in_lines old) last d.1 kept.counted).sound kept.sound in
          next_line one (next ∙ ap Some (sym (same (are_lines laws.waiting last.state sound))))

  -- so do turns one after another
  pub record AreTurnsKept (count : ℕ) (old new : Progress ByteNetwork) : Type 0 where
    pub kept : IsKeptSound new.state
    pub keeps : KeepsItems count (net_in_lines old.state) (net_in_lines new.state)

  pub turns_kept : {count : ℕ} {old new : Progress ByteNetwork} → TurnsGo count old new
      → IsKeptSound old.state → AreTurnsKept count old new
  turns_kept {old = old} none_yet kept =
      record { kept = kept; keeps = none_kept (net_in_lines old.state) kept.counted }
  turns_kept {old = old} {new = new}
      (turn_first {count = count} {between = between} turn all_is rest) kept =
      let one = turn_kept old between kept turn in
      let more = turns_kept rest one.kept in
      record {
        kept = more.kept;
        keeps =
            subst (λ n. KeepsItems n (net_in_lines old.state) (net_in_lines new.state)) (sym all_is)
            (both_kept (lines_in_turn old.state) count (net_in_lines old.state)
            (net_in_lines between.state) (net_in_lines new.state) one.keeps more.keeps);
      }
