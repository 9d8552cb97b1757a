-- Whatever a network has run to, it is one room of those who are set up as they were given.
use Rattle.std.proofs.Common.{◌≡◌, ◌≤◌, ℕ, Bool, true, false, Option, Some, None, Ok, List, [], ◌∷◌}
use Rattle.std.proofs.Common.{◌++◌, option_map, refl, sym, ◌∙◌, ap, subst, if◌then◌else◌}
use Rattle.std.specs.Option.{option_and_then, option_map_or}
use Rattle.irc_relay.specs.Links.{Name}
use Rattle.irc_relay.specs.Relay.{IsFront}
use Rattle.irc_routes.specs.declared.programs.Programs.{Programs}
use Rattle.irc_server.specs.declared.config.Config.{Config}
use Rattle.irc_world.specs.Owed.{owed_by_network, world_of}
use Rattle.irc_world.specs.Refused.{refused}
use Rattle.irc_world.specs.Stepping.{Item}
use Rattle.irc_world.specs.WithinLimits.{IsItemWithin}
use Rattle.irc_world.specs.World.{new_world}
use Rattle.irc_network.specs.ByteNetwork.{ByteNetwork, bytes_come, is_byte_rest}
use Rattle.irc_network.specs.Whole.{RestAsLines}
use Rattle.irc_items.specs.Kept.{TakenAreFew}
use Rattle.irc_items.specs.Laws.{NewLinkIsOpen, NoLinkIsClosed, ReceivedIsFront}
use Rattle.irc_items.specs.Laws.{RefusalsAreTheWorlds, RestIsOneRoom}
use Rattle.irc_items.specs.SetUp.{settings_of}
use Rattle.irc_items.specs.Sound.{most_of_last}
use Rattle.irc_net.specs.declared.answer.Answer.{Answer}
use Rattle.irc_net.specs.declared.fault.NetFault.TheVariants as fault
use Rattle.irc_net.specs.Calls.{BytesTaken, Delivers, IsDelivered, IsGiven, IsSettled, NetView}
use Rattle.irc_net.specs.Calls.{Settles, delivers_it, given_it, line_between, piece_between}
use Rattle.irc_net.specs.Calls.{settles_it, standing, takes_them, pipe_between}
use Rattle.irc_net.specs.Faults.{fault_by, item_fault}
use Rattle.irc_net.specs.Laws.{EachSettles, EveryNetworkIsOneRoom, EveryRunIsKept, SettingsStay}
use Rattle.irc_net.specs.Laws.{StaysKept, StaysSetUp}
use Rattle.irc_net.specs.Making.{AreSettingsOf, IsNetMade, made_of}
use Rattle.irc_net.specs.OneRoom.{IsKeptSound}
use Rattle.irc_net.specs.Running.{HasRun, delivered, given, made, settled, taken}
use Rattle.irc_net.proofs.NewNet.{made_is_new}
use Rattle.irc_net.proofs.StaysOneRoom.{few_taken, one_room, owed_all, owed_front, refuses}
use Rattle.irc_network.specs.Network.{LinkPlaces, Receipt, begun, link_places, received_by}
use Rattle.irc_network.specs.Refusing.{fault_at_rest}
use Rattle.irc_pipes.specs.Pipes.{has_byte, through_line_feed}

-- ---- what it has run to

record IsRun (programs : Name → Programs) (configs : List Config) (items : List Item)
    (net : ByteNetwork) : Type 0 where
  kept : IsKeptSound net
  settings : AreSettingsOf programs configs (settings_of net.network)
  given_so : net.network.items ≡ items

record IsStanding (programs : Name → Programs) (configs : List Config) (items : List Item)
    (net : NetView) : Type 0 where
  stands : net.failed ≡ false
  is_run : IsRun programs configs items net.network

module _ (stays : StaysKept) (set_up : SettingsStay) (programs : Name → Programs)
    (configs : List Config) where
  run_at : {items : List Item} {new : NetView} {last : ByteNetwork} → new ≡ standing last
      → IsRun programs configs items last → IsStanding programs configs items new
  run_at {items = items} after is_run =
      subst (IsStanding programs configs items) (sym after)
      (record { stands = refl; is_run = is_run })

  stays_run : {items : List Item} (old new : ByteNetwork) → IsRun programs configs items old
      → IsKeptSound new → StaysSetUp old new old.network.items → IsRun programs configs items new
  stays_run old new before kept stay = record {
    kept = kept;
    settings = subst (AreSettingsOf programs configs) (sym stay.settings) before.settings;
    given_so = stay.items_are ∙ before.given_so;
  }

  come_run : {items : List Item} (net : ByteNetwork) (from to count : ℕ)
      → IsRun programs configs items net
      → IsRun programs configs items (bytes_come from to count (begun net)).state
  come_run net from to count before =
      stays_run net (bytes_come from to count (begun net)).state before
      (stays.come net from to count before.kept) (set_up.come net from to count)

  made_run : (net : NetView) → IsNetMade programs configs (Ok net)
      → IsStanding programs configs [] net
  made_run net so = record {
    stands = so.1;
    is_run = record {
      kept = subst IsKeptSound (sym so.2.network_is)
          (stays.new (made_of programs so.2.ordered)
          (made_is_new programs configs so.2.ordered so.0 so.2.same_ones));
      settings = (set_up.made programs configs net.network so.2).settings;
      given_so = (set_up.made programs configs net.network so.2).items_are;
    };
  }

  given_run : {items : List Item} (old new : NetView) (item : Item) (answer : Answer)
      → IsGiven old item (Ok answer) new → IsItemWithin item → IsStanding programs configs items old
      → IsStanding programs configs (items ++ item ∷ []) new
  given_run old new item answer (given_it stands gives) within before =
      let stay = set_up.given old.network item in
      run_at gives.after (record {
        kept = stays.given old.network item before.is_run.kept gives.none within;
        settings =
            subst (AreSettingsOf programs configs) (sym stay.settings) before.is_run.settings;
        given_so = stay.items_are ∙ ap (λ items. items ++ item ∷ []) before.is_run.given_so;
      })

  taken_run : {items : List Item} (old new : NetView) (from to : Name) (count came : ℕ)
      (receipts : List Receipt) → BytesTaken old from to count (Ok (came, receipts)) new
      → IsStanding programs configs items old → IsStanding programs configs items new
  taken_run {items = items} old new from to count came receipts (takes_them stands takes) before =
      run_at takes.after (by (link_places old.network.network from to))
    where
      by : (o : Option LinkPlaces) → IsRun programs configs items
          (option_map_or (piece_between count old.network) o (begun old.network)).state
      by None = before.is_run
      by (Some ends) = come_run old.network ends.near ends.far count before.is_run

  delivered_run : {items : List Item} (old new : NetView) (from to : Name) (was_taken : Bool)
      (receipts : List Receipt) → IsDelivered old from to (Ok (was_taken, receipts)) new
      → IsStanding programs configs items old → IsStanding programs configs items new
  delivered_run {items = items} old new from to was_taken receipts
      (delivers_it stands none delivers) before =
      by (link_places old.network.network from to) delivers
    where
      count : LinkPlaces → ℕ
      count ends = through_line_feed (pipe_between old.network ends).bytes

      took : (ends : LinkPlaces) (b : Bool)
          → Delivers (if b then Some (piece_between (count ends) old.network ends)
          else None) old.network was_taken receipts new → IsStanding programs configs items new
      took ends false so = run_at so.2 before.is_run
      took ends true so =
          run_at so.2 (come_run old.network ends.near ends.far (count ends) before.is_run)

      by : (o : Option LinkPlaces) → Delivers (option_and_then (line_between old.network) o)
          old.network was_taken receipts new → IsStanding programs configs items new
      by None so = run_at so.2 before.is_run
      by (Some ends) so = took ends (has_byte (pipe_between old.network ends)) so

  settled_run : {items : List Item} (old new : NetView) (counted : ℕ) (receipts : List Receipt)
      → IsSettled old (Ok (counted, receipts)) new → IsStanding programs configs items old
      → IsStanding programs configs items new
  settled_run old new counted receipts (settles_it stands settles) before =
      let so : Settles old.network counted receipts (standing settles.last.state) =
      subst (Settles old.network counted receipts) settles.after settles in
      run_at settles.after (stays_run old.network settles.last.state before.is_run
      (stays.settled old.network settles.last.state counted receipts before.is_run.kept so)
      (set_up.settled old.network settles.last.state counted receipts so))

  run : {items : List Item} {net : NetView} → HasRun programs configs items net
      → IsStanding programs configs items net
  run {net = net} (made so) = made_run net so
  run {net = new}
      (given {old = old} {item = item} {answer = answer} before within gives items_are) =
      subst (λ items. IsStanding programs configs items new) (sym items_are)
      (given_run old new item answer gives within (run before))
  run {net = new} (taken {old = old} {from = from} {to = to} {count = count} {taken = came}
      {receipts = receipts} before takes) =
      taken_run old new from to count came receipts takes (run before)
  run {net = new} (delivered {old = old} {from = from} {to = to} {was_taken = was_taken}
      {receipts = receipts} before delivers) =
      delivered_run old new from to was_taken receipts delivers (run before)
  run {net = new} (settled {old = old} {counted = counted} {receipts = receipts} before settles) =
      settled_run old new counted receipts settles (run before)

pub every_run : StaysKept → SettingsStay → EveryRunIsKept
every_run stays set_up programs configs items net has_run =
    (run stays set_up programs configs has_run).is_run.kept

-- ---- that is one room

pub record AreOneRoom : Type 0 where
  pub stays : StaysKept
  pub set_up : SettingsStay
  pub front : ReceivedIsFront
  pub room : RestIsOneRoom
  pub settle : EachSettles
  pub few : TakenAreFew
  pub refusals : RefusalsAreTheWorlds
  pub closes_none : NoLinkIsClosed
  pub opens : NewLinkIsOpen
  pub rest : RestAsLines

at_rest_fault : (net : ByteNetwork) (item : Item) → is_byte_rest net ≡ true
    → item_fault net item ≡ option_map fault_by (fault_at_rest net.network item)
unfolding item_fault
at_rest_fault net item rest = ap (λ b. if b
    then option_map fault_by (fault_at_rest net.network item) else Some fault.NotAtRest) rest

pub every_network : AreOneRoom → EveryNetworkIsOneRoom
every_network laws programs configs items net has_run =
    let so = run laws.stays laws.set_up programs configs has_run in
    let kept = so.is_run.kept in
    let same = so.is_run.given_so in
    let settings = settings_of net.network.network in
    record {
      settings = settings;
      are_settings = so.is_run.settings;
      stay = refl;
      stands = so.stands;
      given = same;
      front = λ client. subst (λ taken_now. IsFront (received_by net.network.network client)
          (owed_by_network settings taken_now client)) same
          (owed_front laws.front net.network client kept);
      all = λ rest client. owed_all laws.room laws.rest net.network client kept rest
          ∙ ap (λ taken_now. owed_by_network settings taken_now client) same;
      settles = laws.settle net.network kept;
      few = subst (λ taken_now. net.network.network.taken
          ≤ most_of_last settings new_world taken_now) same (few_taken laws.few net.network kept);
      refuses = λ rest item. at_rest_fault net.network item rest
          ∙ ap (option_map fault_by)
          (refuses laws.refusals laws.rest net net item (λ stands. kept) refl so.stands rest
          ∙ ap (λ taken_now. refused settings (world_of settings taken_now) item) same);
      servers = one_room laws.room laws.closes_none laws.opens laws.rest net (λ stands. kept);
    }
