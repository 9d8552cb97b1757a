-- What the deliveries of a network keep.
use Rattle.std.proofs.Common.{◌≡◌, ℕ, zero, suc, ◌+◌, ◌≤◌, min, Option, Some, None, List, [], ◌∷◌}
use Rattle.std.proofs.Common.{refl, sym, ap, subst, ◌∙◌, arith}
use Rattle.std.specs.Option.{option_and_then, option_map_or}
use Rattle.std.proofs.Math.Nat.{min-le_right}
use Rattle.irc_line.specs.Reading.{read_of}
use Rattle.irc_stage.specs.View.{View}
use Rattle.irc_server.specs.Served.{ReadEvent, link_says}
use Rattle.irc_world.specs.World.{new_world}
use Rattle.irc_network.specs.Network.{Progress, Network, Served, Node, node_asked, asked_at}
use Rattle.irc_network.specs.Network.{line_counted, delivered, left, max_count, none_yet, reply}
use Rattle.irc_network.specs.Network.{node_at, taken_of, then_one, waiting, with_reply, with_node}
use Rattle.irc_items.specs.Kept.{DeliveryKeepsSound, SettlingKeepsSound, TakenAreFew}
use Rattle.irc_items.specs.Laws.{DeliveryKeepsSettings, DeliveryStaysSound}
use Rattle.irc_items.specs.SetUp.{settings_of}
use Rattle.irc_items.specs.Sound.{most_of_last}
use Rattle.irc_items.proofs.Nodes.SentOut.{all_sent, IsSentOut}
use Rattle.irc_items.proofs.Nodes.NodeChanged.{set_there}

-- ---- lines that are delivered

pub record IsOnlyTaken (old new : Network) : Type 0 where
  pub items : new.items ≡ old.items
  pub taken : new.taken ≡ old.taken

replied_taken : (place : ℕ) (progress : Progress Network) (node : Node) (answer : Served)
    → node_at progress.state place ≡ Some node
    → IsOnlyTaken progress.state (with_reply place progress node answer).state
replied_taken place progress node answer is =
    record { items = sent.changed.items; taken = sent.taken }
  where
    sent : IsSentOut place answer.out (record node { server = Some answer.state })
        (record progress {
          state = with_node place
              (record node { server = Some answer.state }) progress.state;
        })
        (with_reply place progress node answer)
    sent = all_sent place answer.out (record node { server = Some answer.state })
        (record progress {
          state = with_node place
              (record node { server = Some answer.state }) progress.state;
        })
        (set_there progress.state.nodes place node (record node { server = Some answer.state }) is)

asked_taken : (place : ℕ) (read_event : ReadEvent) (progress : Progress Network)
    → IsOnlyTaken progress.state (node_asked place read_event progress).state
unfolding node_asked
asked_taken place read_event progress = by (node_at progress.state place) refl
  where
    same : (net : Network) → IsOnlyTaken net net
    same net = record { items = refl; taken = refl }

    at : (node : Node) → node_at progress.state place ≡ Some node → (o : Option View) → node.server
        ≡ o → IsOnlyTaken progress.state (asked_at place read_event progress node).state
    at node is None e = subst (λ o. IsOnlyTaken progress.state (option_map_or
        (λ (view : View). with_reply place progress node (reply view read_event)) o progress).state)
        (sym e) (same progress.state)
    at node is (Some view) e = subst
        (λ o. IsOnlyTaken progress.state (option_map_or (λ (view : View).
        with_reply place progress node (reply view read_event)) o progress).state) (sym e)
        (replied_taken place progress node (reply view read_event) is)

    by : (o : Option Node) → node_at progress.state place ≡ o → IsOnlyTaken progress.state
        (option_map_or (asked_at place read_event progress)
        (node_at progress.state place) progress).state
    by None e = subst (λ o. IsOnlyTaken progress.state
        (option_map_or (asked_at place read_event progress) o progress).state) (sym e)
        (same progress.state)
    by (Some node) e = subst (λ o. IsOnlyTaken progress.state (option_map_or
        (asked_at place read_event progress) o progress).state) (sym e) (at node e node.server refl)

pub record IsOneMore (old new : Network) : Type 0 where
  pub items : new.items ≡ old.items
  pub taken : new.taken ≡ min (old.taken + 1) max_count

pub delivered_one : (from to : ℕ) (old new : Progress Network) → delivered from to old ≡ Some new
    → IsOneMore old.state new.state
unfolding delivered
delivered_one from to old new is = by (node_at old.state from) refl
  where
    same_some : (a b : Progress Network) → Some a ≡ Some b → a ≡ b
    same_some a b e = cc e

    taken : (node : Node) → (lines : List (List ℕ)) → taken_of from to old node lines ≡ Some new
        → IsOneMore old.state new.state
    taken node [] e = absurd (cc e)
    taken node (first ∷ rest) e = subst (λ (c : Progress Network). IsOneMore old.state c.state)
        (same_some _ new e) (record { items = one.items; taken = one.taken })
      where
        one : IsOnlyTaken (line_counted (with_node from (left to rest node) old.state))
            (node_asked to (link_says from (read_of first)) (record old {
              state = line_counted
                  (with_node from (left to rest node) old.state);
            })).state
        one = asked_taken to (link_says from (read_of first))
            (record old { state = line_counted (with_node from (left to rest node) old.state) })

    by : (o : Option Node) → node_at old.state from ≡ o → IsOneMore old.state new.state
    by None e = absurd (let no = sym (ap (option_and_then
        (λ (node : Node). taken_of from to old node (waiting node to))) e) ∙ is in cc no)
    by (Some node) e = taken node (waiting node to) (sym (ap (option_and_then
        (λ (node : Node). taken_of from to old node (waiting node to))) e) ∙ is)

module _ (settings : DeliveryKeepsSettings) (stays : DeliveryStaysSound) where
  pub delivery_keeps_sound : DeliveryKeepsSound
  delivery_keeps_sound from to old new is few = record {
    sound = λ sound. stays from to old new sound is;
    most = ap (λ s. most_of_last s new_world new.state.items) (settings from to old new is)
        ∙ ap (most_of_last (settings_of old.state) new_world) one.items;
    taken = one.taken;
  }
    where
      one : IsOneMore old.state new.state
      one = delivered_one from to old new is

  pub settling_keeps_sound : SettlingKeepsSound
  settling_keeps_sound zero old new none_yet few =
      record { sound = λ sound. sound; most = refl; taken = none old.state.taken few }
    where
      none : (taken : ℕ) → taken ≤ max_count → taken ≡ min (taken + 0) max_count
      none taken few = omega arith
  settling_keeps_sound (suc count) old new
      (then_one {between = mid} {direction = way} before _ is) few =
      let first = settling_keeps_sound count old mid before few in
      let last = delivery_keeps_sound way.from way.to mid new is (subst (λ n. n ≤ max_count)
      (sym first.taken) (min-le_right (old.state.taken + count) max_count)) in
      record {
        sound = λ sound. last.sound (first.sound sound);
        most = last.most ∙ first.most;
        taken = added old.state.taken mid.state.taken new.state.taken count first.taken last.taken;
      }
    where
      added : (a b c count : ℕ) → b ≡ min (a + count) max_count → c ≡ min (b + 1) max_count
          → c ≡ min (a + suc count) max_count
      added a b c count one two = omega arith

pub taken_are_few : TakenAreFew
taken_are_few net sound = let few = sound.coming.few 0 in omega arith
