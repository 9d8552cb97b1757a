-- A network that goes on stays sound, is set up as it was, and has been given the items; and what
-- its clients have received is what they are owed.
use Rattle.std.proofs.Common.{◌≡◌, ℕ, suc, true, ◌&&◌, Some, None, List, [], ◌∷◌, ◌++◌}
use Rattle.std.proofs.Common.{append_assoc, append-nil, refl, sym, ◌∙◌, ap, subst}
use Rattle.std.proofs.lemmas.Grind.{flat_map-append}
use Rattle.std.specs.FinMap.{FinMap, keys}
use Rattle.std.specs.List.{flat_map, list_all}
use Rattle.std.specs.Ordering.{nat_cmp}
use Rattle.irc_relay.specs.Links.{Name}
use Rattle.irc_relay.specs.Relay.{IsFront}
use Rattle.irc_world.specs.Owed.{owed_by_network}
use Rattle.irc_world.specs.Stepping.{Item}
use Rattle.irc_world.specs.World.{Setting}
use Rattle.irc_network.specs.Network.{received_by}
use Rattle.irc_items.specs.SetUp.{settings_of}
use Rattle.irc_items.specs.Sound.{owed_now}
use Rattle.irc_pipes.specs.Pipes.{LinkPipe, Pipes, are_still, is_still, pipe_at, pipe_in}
use Rattle.irc_network.specs.ByteNetwork.{ByteNetwork, is_byte_rest}
use Rattle.irc_net.specs.Laws.{KeptIsOwed, SettingsStay, StaysKept}
use Rattle.irc_net.specs.OneRoom.{IsKeptSound}
use Rattle.irc_daemons.specs.AsNetwork.{IsAsNetwork, LeadsTo, has_come, is_given, no_more}
use Rattle.irc_daemons.specs.Daemons.{Daemons}
use Rattle.irc_daemons.specs.Items.{IsQuiet}
use Rattle.irc_daemons.specs.OneRoom.{SendAsOneRoom, stream_owed}
use Rattle.irc_daemons.specs.Receiving.{bytes_received}
use Rattle.irc_daemons.specs.Tellings.{Owing}

-- ---- as it goes on

-- of a network whose servers are set up so, and which was given these items
pub record IsGoing (settings : List Setting) (items : List Item) (net : ByteNetwork) : Type 0 where
  pub kept : IsKeptSound net
  pub settings_are : settings_of net.network ≡ settings
  pub items_are : net.network.items ≡ items

module _ (stays : StaysKept) (set_up : SettingsStay) (settings : List Setting)
    (before : List Item) where
  pub goes_on : (old : ByteNetwork) (items : List Item) (new : ByteNetwork)
      → IsGoing settings before old → LeadsTo old items new → IsGoing settings (before ++ items) new
  goes_on old items new going no_more =
      subst (λ xs. IsGoing settings xs old) (sym (append-nil before)) going
  goes_on old items new going (is_given front item between first none within) =
      let at = goes_on old front between going first in
      let stay = set_up.given between item in record {
        kept = stays.given between item at.kept none within;
        settings_are = stay.settings ∙ at.settings_are;
        items_are = stay.items_are ∙ ap (λ xs. xs ++ item ∷ []) at.items_are
            ∙ append_assoc before front (item ∷ []);
      }
  goes_on old items new going (has_come front from to count between first way) =
      let at = goes_on old front between going first in
      let stay = set_up.come between from to count in record {
        kept = stays.come between from to count at.kept;
        settings_are = stay.settings ∙ at.settings_are;
        items_are = stay.items_are ∙ at.items_are;
      }

-- ---- at rest

still_row : (row : FinMap nat_cmp LinkPipe) (numbers : List ℕ)
    → ((to : ℕ) → is_still (pipe_in to row) ≡ true)
    → list_all (λ to. is_still (pipe_in to row)) numbers ≡ true
still_row row [] all = refl
still_row row (to ∷ numbers) all = ap (λ b. b && list_all (λ q. is_still (pipe_in q row)) numbers)
    (all to) ∙ still_row row numbers all

still_rows : (pipes : Pipes) → ((x y : ℕ) → is_still (pipe_at pipes x y) ≡ true)
    → are_still pipes ≡ true
still_rows [] all = refl
still_rows (row ∷ pipes) all = ap (λ b. b && are_still pipes) (still_row row (keys row) (all 0))
    ∙ still_rows pipes (λ x. all (suc x))

pub quiet_rests : {W : Type 0} (names : List Name) (daemons : Daemons W) (net : ByteNetwork)
    → IsAsNetwork names daemons net → IsQuiet daemons → is_byte_rest net ≡ true
quiet_rests names daemons net same quiet =
    still_rows net.pipes (λ x y. ap is_still (same.as_bytes.pipes x y) ∙ quiet x y)

-- ---- fronts

pub front_on : (xs ys zs : List ℕ) → IsFront xs ys → IsFront ys zs → IsFront xs zs
front_on xs ys zs one other =
    (one.0 ++ other.0, sym (append_assoc xs one.0 other.0) ∙ ap (λ l. l ++ other.0) one.1 ∙ other.1)

joined_front : (lines all : List (List ℕ)) → IsFront lines all
    → IsFront (flat_map (λ line. line) lines) (flat_map (λ line. line) all)
joined_front lines all front = (
  flat_map (λ line. line) front.0,
  sym (flat_map-append (λ line. line) lines front.0)
      ∙ ap (flat_map (λ line. line)) front.1,
)

-- ---- what clients are sent

-- what a client of a network that goes on has received
module _ (owed : KeptIsOwed) (settings : List Setting) (items : List Item) (net : ByteNetwork)
    (going : IsGoing settings items net) where
  owed_is : (client : ℕ) → owed_now net.network client ≡ owed_by_network settings items client
  owed_is client =
      ap (λ s. owed_by_network s net.network.items client) going.settings_are
      ∙ ap (λ xs. owed_by_network settings xs client) going.items_are

  pub front_now : (client : ℕ)
      → IsFront (bytes_received net.network client) (stream_owed settings items client)
  front_now client =
      joined_front (received_by net.network client) (owed_by_network settings items client)
      (subst (IsFront (received_by net.network client)) (owed_is client)
      ((owed net client going.kept).front refl))

  pub all_now : is_byte_rest net ≡ true → (client : ℕ)
      → bytes_received net.network client ≡ stream_owed settings items client
  all_now rest client =
      ap (flat_map (λ line. line)) ((owed net client going.kept).all refl rest ∙ owed_is client)

module _ {W : Type 0} (owed : KeptIsOwed) (settings : List Setting) (items : List Item)
    (names : List Name) (daemons : Daemons W) where
  -- where each end of a link was told of it
  pub told_send : (net : ByteNetwork) → IsGoing settings items net → IsAsNetwork names daemons net
      → SendAsOneRoom settings items None daemons
  told_send net going same = record {
    written = λ client.
        front_on (daemons.written client) (bytes_received net.network client)
        (stream_owed settings items client) (same.are_received.front client)
        (front_now owed settings items net going client);
    sent = λ client place conn is.
        subst (λ bytes. IsFront bytes (stream_owed settings items client))
        (same.are_received.there place client conn is.seat is.is_there)
        (front_now owed settings items net going client);
    all = λ none quiet client place conn is.
        sym (same.are_received.there place client conn is.seat is.is_there)
        ∙ all_now owed settings items net going (quiet_rests names daemons net same quiet) client;
  }

  -- where one is still to be told, and a network in which it was told has received more
  pub owing_send : (owing : Owing) (less more : ByteNetwork)
      → IsGoing settings items more → IsAsNetwork names daemons less → ((client : ℕ)
      → IsFront (bytes_received less.network client) (bytes_received more.network client))
      → SendAsOneRoom settings items (Some owing) daemons
  owing_send owing less more going same fronts = record {
    written = λ client.
        front_on (daemons.written client) (bytes_received less.network client)
        (stream_owed settings items client) (same.are_received.front client)
        (front_less client);
    sent = λ client place conn is.
        subst (λ bytes. IsFront bytes (stream_owed settings items client))
        (same.are_received.there place client conn is.seat is.is_there) (front_less client);
    all = λ none quiet client place conn is. cc none;
  }
    where
      front_less : (client : ℕ)
          → IsFront (bytes_received less.network client) (stream_owed settings items client)
      front_less client =
          front_on (bytes_received less.network client) (bytes_received more.network client)
          (stream_owed settings items client) (fronts client)
          (front_now owed settings items more going client)
