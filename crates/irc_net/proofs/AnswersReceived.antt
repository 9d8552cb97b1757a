-- What a call answers is what clients have received by it.
use Rattle.std.proofs.Common.{◌≡◌, ℕ, zero, suc, Bool, true, false, Option, Some, None, Ok, List}
use Rattle.std.proofs.Common.{[], ◌∷◌, append-nil, option_map, refl, sym, ◌∙◌, subst}
use Rattle.std.proofs.Common.{if◌then◌else◌}
use Rattle.std.specs.Option.{option_and_then, option_map_or}
use Rattle.irc_relay.specs.Links.{Name}
use Rattle.irc_world.specs.Stepping.{Item}
use Rattle.irc_network.specs.Behind.{emptied}
use Rattle.irc_network.specs.ByteNetwork.{ByteNetwork, all_heard}
use Rattle.irc_network.specs.ByteNetwork.{bytes_come, completed_in, progress_without_pipes}
use Rattle.irc_network.specs.ByteNetwork.{item_given}
use Rattle.irc_network.specs.Turns.{TurnsGo, none_yet, turn_first, turn_in, turn_taken}
use Rattle.irc_net.specs.declared.answer.Answer.{Answer}
use Rattle.irc_net.specs.Calls.{BytesTaken, Delivers, IsDelivered, IsGiven, IsSettled, NetView}
use Rattle.irc_net.specs.Calls.{delivers_it, given_it, line_between, piece_between, settles_it}
use Rattle.irc_net.specs.Calls.{standing, takes_them, pipe_between}
use Rattle.irc_net.specs.Laws.{AnswersAreReceived, HasReceived}
use Rattle.irc_network.specs.Laws.{ReceiptsAreReceived}
use Rattle.irc_network.specs.Network.{AreReceived, Progress, LinkPlaces, Network, Receipt, begun}
use Rattle.irc_network.specs.Network.{link_places, given, heard, received_by}
use Rattle.irc_network.specs.Views.{receipts_of}
use Rattle.irc_pipes.specs.Pipes.{Direction, first_direction, has_byte, through_line_feed}

-- since clients had received what they have in a network
abbrev IsTold : Network → Progress ByteNetwork → Type 0
IsTold net progress = AreReceived net (progress_without_pipes progress)

nothing_told : (net : Network) → AreReceived net (begun net)
nothing_told net client = sym (append-nil (received_by net client))

-- what is written is received by nobody
emptied_received : (net : Network) (client : ℕ)
    → received_by (emptied net) client ≡ received_by net client
emptied_received net zero = refl
emptied_received net (suc earlier) = refl

as_progress : (old new : NetView) (receipts : List Receipt) (last : Progress ByteNetwork)
    → new ≡ standing last.state → receipts ≡ last.out → IsTold old.network.network last
    → HasReceived old.network new.network receipts
as_progress old new receipts last after same told =
    subst (λ (n : NetView). HasReceived old.network n.network receipts) (sym after)
    (subst (HasReceived old.network last.state) (sym same) told)

none_received : (old new : NetView) (receipts : List Receipt) → new ≡ standing old.network
    → receipts ≡ [] → HasReceived old.network new.network receipts
none_received old new receipts after none =
    as_progress old new receipts (begun old.network) after none
    (nothing_told old.network.network)

module _ (law : ReceiptsAreReceived) where
  heard_told : (net : Network) (from to : ℕ) (lines : List (List ℕ)) (progress : Progress Network)
      → AreReceived net progress → AreReceived net
      (all_heard from to progress lines)
  heard_told net from to [] progress told = told
  heard_told net from to (line ∷ lines) progress told =
      heard_told net from to lines (heard from to progress line)
      (law.heard from to line net progress told)

  come_told : (net : Network) (from to count : ℕ) (progress : Progress ByteNetwork)
      → IsTold net progress → IsTold net (bytes_come from to count progress)
  unfolding bytes_come
  come_told net from to count progress told client =
      let last =
      all_heard from to (progress_without_pipes progress)
      (completed_in progress.state from to count)
      in
      emptied_received last.state client ∙ heard_told net from to
      (completed_in progress.state from to count) (progress_without_pipes progress) told client

  item_told : (net : ByteNetwork) (item : Item) → IsTold net.network (item_given item net)
  unfolding item_given
  item_told net item client =
      emptied_received (given item net.network).state client ∙ law.given item net.network client

  turn_told : (net : Network) (old new : Progress ByteNetwork) → turn_taken old ≡ Some new
      → IsTold net old → IsTold net new
  turn_told net old new turn told = by (first_direction old.state.pipes) turn
    where
      same_some : (a b : Progress ByteNetwork) → Some a ≡ Some b → a ≡ b
      same_some a b is = cc is

      by : (o : Option Direction) → option_map (turn_in old) o ≡ Some new → IsTold net new
      by None none = absurd (cc none)
      by (Some d) some = subst (IsTold net) (same_some (turn_in old d) new some)
          (come_told net d.from d.to _ old told)

  turns_told : (net : Network) {count : ℕ} {old new : Progress ByteNetwork} → TurnsGo count old new
      → IsTold net old → IsTold net new
  turns_told net none_yet told = told
  turns_told net {old = old} (turn_first {between = between} turn all_is rest) told =
      turns_told net rest (turn_told net old between turn told)

  piece_told : (count : ℕ) (net : ByteNetwork) (o : Option LinkPlaces)
      → IsTold net.network (option_map_or (piece_between count net) o (begun net))
  piece_told count net None = nothing_told net.network
  piece_told count net (Some ends) =
      come_told net.network ends.near ends.far count (begun net) (nothing_told net.network)

  abbrev through : ByteNetwork → LinkPlaces → Progress ByteNetwork
  through net ends = piece_between (through_line_feed (pipe_between net ends).bytes) net ends

  line_told : (net : ByteNetwork) (ends : LinkPlaces) (last : Progress ByteNetwork)
      → line_between net ends ≡ Some last → IsTold net.network last
  line_told net ends last = by (has_byte (pipe_between net ends))
    where
      same_some : (a b : Progress ByteNetwork) → Some a ≡ Some b → a ≡ b
      same_some a b is = cc is

      by : (b : Bool) → (if b then Some (through net ends) else None) ≡ Some last
          → IsTold net.network last
      by false none = absurd (cc none)
      by true some = subst (IsTold net.network) (same_some (through net ends) last some)
          (come_told net.network ends.near ends.far _ (begun net) (nothing_told net.network))

  -- ---- each call

  given_received : (old new : NetView) (item : Item) (answer : Answer) → IsGiven old item
      (Ok answer) new → HasReceived old.network new.network (receipts_of answer.lines.items)
  given_received old new item answer (given_it stands gives) =
      as_progress old new (receipts_of answer.lines.items)
      (item_given item old.network) gives.after gives.receipts (item_told old.network item)

  taken_received : (old new : NetView) (from to : Name) (count taken : ℕ) (receipts : List Receipt)
      → BytesTaken old from to count (Ok (taken, receipts)) new
      → HasReceived old.network new.network receipts
  taken_received old new from to count taken receipts (takes_them stands takes) =
      as_progress old new receipts _ takes.after takes.received
      (piece_told count old.network (link_places old.network.network from to))

  delivered_received : (old new : NetView) (from to : Name) (was_taken : Bool)
      (receipts : List Receipt) → IsDelivered old from to (Ok (was_taken, receipts)) new
      → HasReceived old.network new.network receipts
  delivered_received old new from to was_taken receipts (delivers_it stands none delivers) =
      by (link_places old.network.network from to) delivers
    where
      took : (ends : LinkPlaces) (o : Option (Progress ByteNetwork))
          → line_between old.network ends ≡ o → Delivers o old.network was_taken receipts new
          → HasReceived old.network new.network receipts
      took ends None is so = none_received old new receipts so.2 so.1
      took ends (Some last) is so =
          as_progress old new receipts last so.2 so.1 (line_told old.network ends last is)

      by : (o : Option LinkPlaces) → Delivers (option_and_then (line_between old.network) o)
          old.network was_taken receipts new → HasReceived old.network new.network receipts
      by None so = none_received old new receipts so.2 so.1
      by (Some ends) so = took ends (line_between old.network ends) refl so

  settled_received : (old new : NetView) (counted : ℕ) (receipts : List Receipt)
      → IsSettled old (Ok (counted, receipts)) new → HasReceived old.network new.network receipts
  settled_received old new counted receipts (settles_it stands settles) =
      as_progress old new receipts settles.last settles.after settles.received
      (turns_told old.network.network settles.goes (nothing_told old.network.network))

  pub answers_are_received : AnswersAreReceived
  answers_are_received = record {
    given = given_received;
    taken = taken_received;
    delivered = delivered_received;
    settled = settled_received;
  }
