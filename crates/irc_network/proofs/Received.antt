-- What clients receive while something is done to a network is what its progress has among its
-- receipts.
use Rattle.std.proofs.Common.{◌≡◌, ℕ, zero, suc, nat_eq, Bool, true, false, Option, Some, None}
use Rattle.std.proofs.Common.{List, [], ◌∷◌, ◌++◌, unwrap_or, ap, sym, subst, refl, ◌∙◌, append-nil}
use Rattle.std.proofs.Common.{append_assoc, if◌then◌else◌}
use Rattle.std.proofs.Math.Dec.{eqb-suc-suc, eqb-suc-zero, eqb-zero-suc}
use Rattle.std.proofs.lemmas.List.Elements.{filter_map-append}
use Rattle.std.specs.List.{cons_option, slice_get, slice_set}
use Rattle.std.specs.Option.{option_and_then, option_map_or}
use Rattle.irc_batch.specs.Batches.{Sent, line_to as line_out, end_of, line_on, end_of_link}
use Rattle.irc_line.specs.Reading.{read_of}
use Rattle.irc_network.specs.Laws.{ReceiptsAreReceived}
use Rattle.irc_network.specs.Network.{Progress, LinkPlaces, Network, Receipt, Node, TakesInTurn}
use Rattle.irc_network.specs.Network.{all_sent_out, asked_at, begun, node_asked, node_asked_if}
use Rattle.irc_network.specs.Network.{node_changed_at, line_counted, delivered, done_by}
use Rattle.irc_network.specs.Network.{link_places, given, has_received, has_received_at, home_place}
use Rattle.irc_network.specs.Network.{left, servers_parted, servers_linked, none_yet, server_place}
use Rattle.irc_network.specs.Network.{line_queued, receipt, received_by, reply, sent_out, node_at}
use Rattle.irc_network.specs.Network.{taken_of, then_one, waiting, with_client, with_reply}
use Rattle.irc_network.specs.Network.{with_node, line_received, lines_of_client}
use Rattle.irc_relay.specs.Links.{Name}
use Rattle.irc_server.specs.Served.{ReadEvent, link_says}
use Rattle.irc_stage.specs.View.{View}
use Rattle.irc_world.specs.Stepping.{Item, connect, line, gone, link, cut}

-- since clients had received so much
abbrev pub IsTold : (ℕ → List (List ℕ)) → Progress Network → Type 0
IsTold before progress = (client : ℕ) → received_by progress.state client ≡ before client
    ++ lines_of_client client progress.out

pub nothing_told : (net : Network) → IsTold (received_by net) (begun net)
nothing_told net client = sym (append-nil (received_by net client))

same_received : (old new : Network) → new.received ≡ old.received → (client : ℕ)
    → received_by new client ≡ received_by old client
same_received old new same zero = refl
same_received old new same (suc earlier) =
    ap (λ (inboxes : List (List (List ℕ))). unwrap_or (slice_get inboxes earlier) []) same

-- nothing is received
told_still : (before : ℕ → List (List ℕ)) (old new : Progress Network) → new.state.received
    ≡ old.state.received → new.out ≡ old.out → IsTold before old → IsTold before new
told_still before old new same receipts told client =
    same_received old.state new.state same client ∙ told client
    ∙ ap (λ rs. before client ++ lines_of_client client rs) (sym receipts)

-- ---- a line to a client

-- the line alone, where it goes there
abbrev if_there : ℕ → ℕ → List ℕ → List (List ℕ)
if_there one other text = cons_option (if nat_eq one other then Some text else None) []

not_there : (b : Bool) (lines : List (List ℕ)) (text : List ℕ) → b ≡ false
    → lines ≡ lines ++ cons_option (if b then Some text else None) []
not_there true lines text is = cc is
not_there false lines text is = sym (append-nil lines)

next_there : (before : List (List ℕ)) (one other : ℕ) (text : List ℕ)
    → before ++ if_there one other text ≡ before ++ if_there (suc one) (suc other) text
next_there before one other text =
    ap (λ b. before ++ cons_option (if b then Some text else None) []) (sym (eqb-suc-suc one other))

put_behind : (inboxes : List (List (List ℕ))) (earlier other : ℕ)
    (lines : List (List ℕ)) (text : List ℕ) → slice_get inboxes earlier ≡ Some lines
    → unwrap_or (slice_get (slice_set inboxes earlier (lines ++ text ∷ [])) other) []
    ≡ unwrap_or (slice_get inboxes other) [] ++ if_there earlier other text
put_behind [] earlier other lines text is = cc is
put_behind (inbox ∷ inboxes) zero zero lines text is = ap (λ ls. ls ++ text ∷ []) (one_inbox is)
  where
    one_inbox : Some inbox ≡ Some lines → lines ≡ inbox
    one_inbox e = cc e
put_behind (inbox ∷ inboxes) zero (suc other) lines text is =
    not_there (nat_eq 0 (suc other)) (unwrap_or (slice_get inboxes other) []) text
    (eqb-zero-suc other)
put_behind (inbox ∷ inboxes) (suc earlier) zero lines text is =
    not_there (nat_eq (suc earlier) 0) inbox text (eqb-suc-zero earlier)
put_behind (inbox ∷ inboxes) (suc earlier) (suc other) lines text is =
    put_behind inboxes earlier other lines text is
    ∙ next_there (unwrap_or (slice_get inboxes other) []) earlier other text

received_behind : (progress : Progress Network) (earlier : ℕ) (text : List ℕ)
    (lines : List (List ℕ)) → slice_get progress.state.received earlier ≡ Some lines → (client : ℕ)
    → received_by (has_received_at earlier text progress lines).state client
    ≡ received_by progress.state client ++ if_there (suc earlier) client text
received_behind progress earlier text lines is zero =
    not_there (nat_eq (suc earlier) 0) [] text (eqb-suc-zero earlier)
received_behind progress earlier text lines is (suc other) =
    put_behind progress.state.received earlier other lines text is
    ∙ next_there (unwrap_or (slice_get progress.state.received other) []) earlier other text

told_behind : (client earlier : ℕ) (text : List ℕ) (receipts : List Receipt)
    → lines_of_client client (receipts ++ receipt (suc earlier) text ∷ [])
    ≡ lines_of_client client receipts ++ if_there (suc earlier) client text
told_behind client earlier text receipts =
    filter_map-append (line_received client) receipts (receipt (suc earlier) text ∷ [])

told_at : (before : ℕ → List (List ℕ)) (progress : Progress Network) (earlier : ℕ) (text : List ℕ)
    (lines : List (List ℕ)) → slice_get progress.state.received earlier ≡ Some lines
    → IsTold before progress → IsTold before (has_received_at earlier text progress lines)
told_at before progress earlier text lines is told client =
    received_behind progress earlier text lines is client
    ∙ ap (λ ls. ls ++ if_there (suc earlier) client text) (told client)
    ∙ append_assoc (before client) (lines_of_client client progress.out)
    (if_there (suc earlier) client text)
    ∙ ap (λ ls. before client ++ ls) (sym (told_behind client earlier text progress.out))

client_told : (before : ℕ → List (List ℕ)) (client : ℕ) (text : List ℕ)
    (progress : Progress Network) → IsTold before progress
    → IsTold before (has_received client text progress)
client_told before zero text progress told = told
client_told before (suc earlier) text progress told =
    by (slice_get progress.state.received earlier) refl
  where
    by : (o : Option (List (List ℕ))) → slice_get progress.state.received earlier ≡ o
        → IsTold before (option_map_or (has_received_at earlier text progress) o progress)
    by None is = told
    by (Some lines) is = told_at before progress earlier text lines is told

-- ---- what a server puts out

changed_received : (place : ℕ) (change : Node → Node) (net : Network)
    → (node_changed_at place change net).received ≡ net.received
changed_received place change net = by (node_at net place)
  where
    by : (o : Option Node) → (option_map_or
        (λ (node : Node). with_node place (change node) net) o net).received ≡ net.received
    by None = refl
    by (Some node) = refl

sent_told : (before : ℕ → List (List ℕ)) (place : ℕ) (sent : Sent) (progress : Progress Network)
    → IsTold before progress → IsTold before (sent_out place sent progress)
sent_told before place (line_out client text) progress told =
    client_told before client text progress told
sent_told before place (end_of client) progress told = told
sent_told before place (line_on to text) progress told =
    told_still before progress (sent_out place (line_on to text) progress)
    (changed_received place (line_queued to text) progress.state) refl told
sent_told before place (end_of_link to reason) progress told = told

all_told : (before : ℕ → List (List ℕ)) (place : ℕ) (out : List Sent) (progress : Progress Network)
    → IsTold before progress → IsTold before (all_sent_out place out progress)
all_told before place [] progress told = told
all_told before place (sent ∷ out) progress told =
    all_told before place out (sent_out place sent progress)
    (sent_told before place sent progress told)

replied_told : (before : ℕ → List (List ℕ)) (place : ℕ) (read_event : ReadEvent)
    (progress : Progress Network) (node : Node) (view : View) → IsTold before progress
    → IsTold before (with_reply place progress node (reply view read_event))
replied_told before place read_event progress node view told =
    all_told before place (reply view read_event).out (put node)
    (told_still before progress (put node) refl refl told)
  where
    put : Node → Progress Network
    put node = record progress {
      state = with_node place
          (record node { server = Some (reply view read_event).state }) progress.state;
    }

asked_told : (before : ℕ → List (List ℕ)) (place : ℕ)
    (read_event : ReadEvent) (progress : Progress Network) → IsTold before progress
    → IsTold before (node_asked place read_event progress)
unfolding node_asked
asked_told before place read_event progress told = by (node_at progress.state place)
  where
    at : (node : Node) (o : Option View) → IsTold before (option_map_or
        (λ (view : View). with_reply place progress node (reply view read_event)) o progress)
    at node None = told
    at node (Some view) = replied_told before place read_event progress node view told

    by : (o : Option Node)
        → IsTold before (option_map_or (asked_at place read_event progress) o progress)
    by None = told
    by (Some node) = at node node.server

-- ---- lines that are delivered

delivered_told : (before : ℕ → List (List ℕ)) (from to : ℕ) (old new : Progress Network)
    → delivered from to old ≡ Some new → IsTold before old → IsTold before new
unfolding delivered
delivered_told before from to old new is told = by (node_at old.state from) is
  where
    same_progress : (a b : Progress Network) → Some a ≡ Some b → a ≡ b
    same_progress a b e = cc e

    took : (node : Node) (lines : List (List ℕ)) → taken_of from to old node lines ≡ Some new
        → IsTold before new
    took node [] e = absurd (cc e)
    took node (first ∷ rest) e =
        let between : Progress Network =
        record old { state = record (with_node from (left to rest node) old.state) { taken = _ } }
        in
        subst (IsTold before)
        (same_progress (node_asked to (link_says from (read_of first)) between) new e)
        (asked_told before to (link_says from (read_of first)) between
        (told_still before old between refl refl told))

    by : (o : Option Node) → option_and_then (λ (node : Node).
        taken_of from to old node (waiting node to)) o ≡ Some new → IsTold before new
    by None e = absurd (cc e)
    by (Some node) e = took node (waiting node to) e

pub taken_told : (before : ℕ → List (List ℕ)) {count : ℕ} {old new : Progress Network}
    → TakesInTurn count old new → IsTold before old → IsTold before new
taken_told before none_yet told = told
taken_told before (then_one {between = between} {last = last} {direction = d} earlier way is) told =
    delivered_told before d.from d.to between last is (taken_told before earlier told)

-- ---- what is given

one_inbox_more : (inboxes : List (List (List ℕ))) (earlier : ℕ) → unwrap_or
    (slice_get (inboxes ++ [] ∷ []) earlier) [] ≡ unwrap_or (slice_get inboxes earlier) []
one_inbox_more [] zero = refl
one_inbox_more [] (suc earlier) = refl
one_inbox_more (inbox ∷ inboxes) zero = refl
one_inbox_more (inbox ∷ inboxes) (suc earlier) = one_inbox_more inboxes earlier

client_more : (net : Network) (home : Name) (client : ℕ)
    → received_by (with_client home net) client ≡ received_by net client
client_more net home zero = refl
client_more net home (suc earlier) = one_inbox_more net.received earlier

asked_of_told : (before : ℕ → List (List ℕ)) (place : Option ℕ) (read_event : ReadEvent)
    (progress : Progress Network) → IsTold before progress
    → IsTold before (node_asked_if place read_event progress)
asked_of_told before None read_event progress told = told
asked_of_told before (Some place) read_event progress told =
    asked_told before place read_event progress told

-- both ends are asked, once the network is changed so
both_told : (net between : Network) (near far : ℕ) (one other : ReadEvent)
    → between.received ≡ net.received
    → IsTold (received_by net) (node_asked far other (node_asked near one (begun between)))
both_told net between near far one other same =
    asked_told (received_by net) far other (node_asked near one (begun between))
    (asked_told (received_by net) near one (begun between)
    (told_still (received_by net) (begun net) (begun between) same refl (nothing_told net)))

done_told : (item : Item) (net : Network) → IsTold (received_by net) (done_by item net)
done_told (connect server host) net =
    asked_of_told (received_by net) (server_place net server) _ (begun (with_client server net))
    (λ client. client_more net server client ∙ sym (append-nil (received_by net client)))
done_told (line client bytes) net =
    asked_of_told (received_by net) (home_place net client) _ (begun net) (nothing_told net)
done_told (gone client) net =
    asked_of_told (received_by net) (home_place net client) _ (begun net) (nothing_told net)
done_told (link near far) net = by (link_places net near far)
  where
    by : (o : Option LinkPlaces)
        → IsTold (received_by net) (option_map_or (servers_linked near far net) o (begun net))
    by None = nothing_told net
    by (Some ends) = both_told net _ ends.near ends.far _ _
        (changed_received ends.far _ _ ∙ changed_received ends.near _ _)
done_told (cut near far) net = by (link_places net near far)
  where
    by : (o : Option LinkPlaces)
        → IsTold (received_by net) (option_map_or (servers_parted near far net) o (begun net))
    by None = nothing_told net
    by (Some ends) = both_told net _ ends.near ends.far _ _
        (changed_received ends.far _ _ ∙ changed_received ends.near _ _)

pub given_told : (item : Item) (net : Network) → IsTold (received_by net) (given item net)
unfolding given
given_told item net =
    told_still (received_by net) (done_by item net) (given item net) refl refl (done_told item net)

pub receipts_are_received : ReceiptsAreReceived
receipts_are_received = record {
  heard = λ from to bytes net between are.
      asked_told (received_by net) to (link_says from (read_of bytes))
      (record between { state = line_counted between.state })
      (told_still (received_by net) between
      (record between { state = line_counted between.state }) refl refl are);
  given = λ item net. given_told item net;
  delivered = λ from to net new is. delivered_told (received_by net) from to (begun net) new is
      (nothing_told net);
  in_turn = λ count net new takes. taken_told (received_by net) takes (nothing_told net);
}
