-- What clients of a network receive of what a server puts out.
use Rattle.std.proofs.Common.{◌≡◌, ℕ, zero, suc, Bool, true, false, is_some, Option, Some, None}
use Rattle.std.proofs.Common.{List, [], ◌∷◌, ◌++◌, append_assoc, append-nil, nat_eq, refl, sym, ◌∙◌}
use Rattle.std.proofs.Common.{ap, subst, option_map, unwrap_or, if◌then◌else◌}
use Rattle.std.proofs.lemmas.Bool.{eqb-true}
use Rattle.std.proofs.lemmas.Grind.{flat_map-append}
use Rattle.std.specs.List.{flat_map, slice_get, slice_set}
use Rattle.std.specs.Option.{option_map_or}
use Rattle.std.proofs.Math.Nat.{suc_inj}
use Rattle.irc_pipes.specs.Lemmas.PutPipes.{one_before}
use Rattle.irc_names.specs.Lemmas.PlainFacts.{nat_eq-turned}
use Rattle.irc_batch.specs.Batches.{Sent, end_of, end_of_link, line_on, line_to}
use Rattle.irc_line.specs.Reading.{read_of}
use Rattle.irc_server.specs.Served.{ReadEvent, link_says}
use Rattle.irc_stage.specs.View.{View}
use Rattle.irc_network.specs.Network.{Progress, Network, Served, Node, all_sent_out, asked_at}
use Rattle.irc_network.specs.Network.{has_received, has_received_at, heard, line_counted}
use Rattle.irc_network.specs.Network.{line_queued, reply, sent_out, node_asked, node_at}
use Rattle.irc_network.specs.Network.{node_changed_at, with_reply, with_node}
use Rattle.irc_daemons.specs.Alike.{bytes_to, client_bytes}
use Rattle.irc_daemons.specs.Receiving.{bytes_received, has_come}
use Rattle.irc_daemons.proofs.Lists.{set_elsewhere, set_here}
use Rattle.irc_daemons.proofs.Sent.{Lines, server_at}

abbrev joined : Lines → List ℕ
joined lines = flat_map (λ text. text) lines

-- each client has received these bytes behind what it had
pub record Gets (bytes : ℕ → List ℕ) (old new : Network) : Type 0 where
  pub come : (client : ℕ) → has_come new client ≡ has_come old client
  pub more : (client : ℕ) → has_come old client ≡ true
      → bytes_received new client ≡ bytes_received old client ++ bytes client

gets_none : (old new : Network) → new.received ≡ old.received → Gets (λ client. []) old new
gets_none old new same = record {
  come = λ client. come_same client;
  more = λ client has. received_same client ∙ sym (append-nil (bytes_received old client));
}
  where
    come_same : (client : ℕ) → has_come new client ≡ has_come old client
    come_same zero = refl
    come_same (suc earlier) = ap (λ (lines : List Lines). is_some (slice_get lines earlier)) same

    received_same : (client : ℕ) → bytes_received new client ≡ bytes_received old client
    received_same zero = refl
    received_same (suc earlier) =
        ap (λ (lines : List Lines). joined (unwrap_or (slice_get lines earlier) [])) same

-- what clients have received once one has received a line more
abbrev received_then : List Lines → ℕ → List ℕ → Lines → List Lines
received_then received earlier text lines = slice_set received earlier (lines ++ text ∷ [])

-- a line of one client is none of another
line_of_other : (one q : ℕ) (text : List ℕ) → nat_eq one q ≡ false
    → bytes_to q (line_to one text) ≡ []
line_of_other one q text two = ap (λ b. if b then text else []) two

gets_line : (client : ℕ) (text : List ℕ) (progress : Progress Network) → Gets
    (λ q. bytes_to q (line_to client text)) progress.state (has_received client text progress).state
gets_line zero text progress = record {
  come = λ q. refl;
  more = λ q has. sym (append-nil (bytes_received progress.state q))
      ∙ ap (λ bs. bytes_received progress.state q ++ bs) (sym (nobody q has (nat_eq zero q) refl));
}
  where
    nobody : (q : ℕ) → has_come progress.state q ≡ true → (b : Bool) → nat_eq zero q ≡ b
        → bytes_to q (line_to zero text) ≡ []
    nobody q has true one = cc (ap (has_come progress.state) (eqb-true zero q one) ∙ has)
    nobody q has false two = line_of_other zero q text two
gets_line (suc earlier) text progress = by (slice_get progress.state.received earlier) refl
  where
    by : (o : Option Lines) → slice_get progress.state.received earlier ≡ o
        → Gets (λ q. bytes_to q (line_to (suc earlier) text)) progress.state
        (option_map_or (has_received_at earlier text progress) o progress).state
    by None at = record {
      come = λ q. refl;
      more = λ q has. sym (append-nil (bytes_received progress.state q)) ∙ ap (λ bs.
          bytes_received progress.state q ++ bs) (sym (nobody q has (nat_eq (suc earlier) q) refl));
    }
      where
        nobody : (q : ℕ) → has_come progress.state q ≡ true → (b : Bool)
            → nat_eq (suc earlier) q ≡ b → bytes_to q (line_to (suc earlier) text) ≡ []
        nobody q has true one =
            cc (sym (ap is_some at) ∙ ap (has_come progress.state) (eqb-true (suc earlier) q one)
            ∙ has)
        nobody q has false two = line_of_other (suc earlier) q text two
    by (Some lines) at = record { come = come_now; more = more_now }
      where
        come_by : (d : ℕ) (b : Bool) → nat_eq d earlier ≡ b
            → is_some (slice_get (received_then progress.state.received earlier text lines) d)
            ≡ is_some (slice_get progress.state.received d)
        come_by d true one =
            ap (λ n. is_some
            (slice_get (received_then progress.state.received earlier text lines) n))
            (eqb-true d earlier one)
            ∙ ap is_some (set_here progress.state.received earlier lines (lines ++ text ∷ []) at)
            ∙ ap is_some (sym at)
            ∙ ap (λ n. is_some (slice_get progress.state.received n)) (sym (eqb-true d earlier one))
        come_by d false two =
            ap is_some (set_elsewhere progress.state.received earlier d (lines ++ text ∷ []) two)

        come_now : (q : ℕ) → has_come (has_received_at earlier text progress lines).state q
            ≡ has_come progress.state q
        come_now zero = refl
        come_now (suc d) = come_by d (nat_eq d earlier) refl

        more_by : (d : ℕ) (b : Bool) → nat_eq (suc earlier) (suc d) ≡ b → joined
            (unwrap_or (slice_get (received_then progress.state.received earlier text lines) d) [])
            ≡ joined (unwrap_or (slice_get progress.state.received d) [])
            ++ (if b then text else [])
        more_by d true one =
            let same : d ≡ earlier = sym (suc_inj (eqb-true (suc earlier) (suc d) one)) in
            ap (λ n. joined (unwrap_or
            (slice_get (received_then progress.state.received earlier text lines) n) [])) same
            ∙ ap (λ o. joined (unwrap_or o []))
            (set_here progress.state.received earlier lines (lines ++ text ∷ []) at)
            ∙ flat_map-append (λ t. t) lines (text ∷ [])
            ∙ ap (λ bs. joined lines ++ bs) (append-nil text)
            ∙ ap (λ o. joined (unwrap_or o []) ++ text) (sym at)
            ∙ ap (λ n. joined (unwrap_or (slice_get progress.state.received n) []) ++ text)
            (sym same)
        more_by d false two =
            ap (λ o. joined (unwrap_or o []))
            (set_elsewhere progress.state.received earlier d (lines ++ text ∷ [])
            (nat_eq-turned d earlier ∙ one_before earlier d two))
            ∙ sym (append-nil (joined (unwrap_or (slice_get progress.state.received d) [])))

        more_now : (q : ℕ) → has_come progress.state q ≡ true
            → bytes_received (has_received_at earlier text progress lines).state q
            ≡ bytes_received progress.state q ++ bytes_to q (line_to (suc earlier) text)
        more_now zero has = cc has
        more_now (suc d) has = more_by d (nat_eq (suc earlier) (suc d)) refl

gets_queued : (place to : ℕ) (text : List ℕ) (net : Network)
    → Gets (λ q. []) net (node_changed_at place (line_queued to text) net)
gets_queued place to text net = by (node_at net place)
  where
    by : (o : Option Node) → Gets (λ q. []) net
        (option_map_or (λ node. with_node place (line_queued to text node) net) o net)
    by None = gets_none net net refl
    by (Some node) = gets_none net (with_node place (line_queued to text node) net) refl

gets_one : (place : ℕ) (sent : Sent) (progress : Progress Network)
    → Gets (λ q. bytes_to q sent) progress.state (sent_out place sent progress).state
gets_one place (line_to client text) progress = gets_line client text progress
gets_one place (end_of client) progress = gets_none progress.state progress.state refl
gets_one place (line_on link text) progress = gets_queued place link text progress.state
gets_one place (end_of_link link reason) progress = gets_none progress.state progress.state refl

gets_all : (place : ℕ) (outs : List Sent) (progress : Progress Network)
    → Gets (λ q. client_bytes q outs) progress.state (all_sent_out place outs progress).state
gets_all place [] progress = gets_none progress.state progress.state refl
gets_all place (sent ∷ outs) progress =
    let first = gets_one place sent progress in
    let second = gets_all place outs (sent_out place sent progress) in record {
      come = λ q. second.come q ∙ first.come q;
      more = λ q has.
          second.more q (first.come q ∙ has)
          ∙ ap (λ bs. bs ++ client_bytes q outs) (first.more q has)
          ∙ append_assoc (bytes_received progress.state q) (bytes_to q sent) (client_bytes q outs);
    }

module _ (place : ℕ) (read_event : ReadEvent) (view : View) where
  abbrev answer : Served
  answer = reply view read_event

  pub asked_gets : (progress : Progress Network)
      → server_at progress.state place ≡ Some (Some view) → Gets
      (λ q. client_bytes q answer.out) progress.state (node_asked place read_event progress).state
  unfolding node_asked
  asked_gets progress is = by_node (node_at progress.state place) is
    where
      at_node : (node : Node) → Gets (λ q. client_bytes q answer.out) progress.state
          (with_reply place progress node answer).state
      at_node node =
          let gets = gets_all place answer.out (record progress {
            state = with_node place
                (record node { server = Some answer.state }) progress.state;
          }) in
          record {
            come = λ q. gets.come q ∙ unmoved q;
            more = λ q has. gets.more q
                (unmoved q ∙ has) ∙ ap (λ bs. bs ++ client_bytes q answer.out) (same_bytes q);
          }
        where
          unmoved : (q : ℕ) → has_come (with_node place
              (record node { server = Some answer.state }) progress.state) q
              ≡ has_come progress.state q
          unmoved zero = refl
          unmoved (suc d) = refl

          same_bytes : (q : ℕ) → bytes_received
              (with_node place (record node { server = Some answer.state }) progress.state) q
              ≡ bytes_received progress.state q
          same_bytes zero = refl
          same_bytes (suc d) = refl

      by_view : (node : Node) (o : Option View) → o ≡ Some view
          → Gets (λ q. client_bytes q answer.out) progress.state (option_map_or
          (λ (v : View). with_reply place progress node (reply v read_event)) o progress).state
      by_view node None none = cc none
      by_view node (Some v) one =
          subst (λ (w : View). Gets (λ q. client_bytes q answer.out) progress.state
          (with_reply place progress node (reply w read_event)).state)
          (sym (ap (λ o. unwrap_or o v) one)) (at_node node)

      by_node : (o : Option Node) → option_map (λ (s : Node). s.server) o ≡ Some (Some view)
          → Gets (λ q. client_bytes q answer.out) progress.state
          (option_map_or (asked_at place read_event progress) o progress).state
      by_node None none = cc none
      by_node (Some node) some = by_view node node.server (ap (λ o. unwrap_or o None) some)

pub heard_gets : (from to : ℕ) (line : List ℕ) (view : View) (progress : Progress Network)
    → server_at progress.state to ≡ Some (Some view) → Gets (λ q. client_bytes q
    (reply view (link_says from (read_of line))).out) progress.state
    (heard from to progress line).state
heard_gets from to line view progress is =
    let gets = asked_gets to (link_says from (read_of line)) view
    (record progress { state = line_counted progress.state }) is in record {
      come = λ q. gets.come q ∙ unmoved q;
      more = λ q has.
          gets.more q (unmoved q ∙ has) ∙ ap (λ bs. bs
          ++ client_bytes q (reply view (link_says from (read_of line))).out) (same_bytes q);
    }
  where
    unmoved : (q : ℕ) → has_come (line_counted progress.state) q ≡ has_come progress.state q
    unmoved zero = refl
    unmoved (suc d) = refl

    same_bytes : (q : ℕ)
        → bytes_received (line_counted progress.state) q ≡ bytes_received progress.state q
    same_bytes zero = refl
    same_bytes (suc d) = refl
