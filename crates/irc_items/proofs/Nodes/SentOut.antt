-- What becomes of a network by what one of its servers puts out: lines wait behind the others on
-- its ways, and are received behind all else.
use Rattle.std.proofs.Common.{◌≡◌, ℕ, zero, suc, Bool, true, false, cond, nat_eq, Option, Some}
use Rattle.std.proofs.Common.{None, List, [], ◌∷◌, ◌++◌, append-nil, append_assoc, length}
use Rattle.std.proofs.Common.{refl, sym, ◌∙◌, ap, subst, if◌then◌else◌, option_map}
use Rattle.std.proofs.lemmas.Bool.{eq-eqb, eqb-true, true≢false}
use Rattle.std.specs.FinMap.{get, insert}
use Rattle.std.specs.List.{filter_map, cons_option, slice_get, slice_set}
use Rattle.std.specs.Option.{option_map_or}
use Rattle.std.proofs.Math.Nat.{suc_inj}
use Rattle.irc_batch.specs.Batches.{Sent, line_to, end_of, line_on, end_of_link}
use Rattle.irc_stage.specs.Lemmas.Numbers.{get-with, one_number, same_number, same_number-is}
use Rattle.irc_server.specs.Owed.{line_to_conn as line_to_for, lines_to}
use Rattle.irc_follow.specs.Says.{line_on_link, lines_on}
use Rattle.irc_network.specs.Network.{Progress, Node, all_sent_out, line_body, has_received}
use Rattle.irc_network.specs.Network.{Network, has_received_at, line_queued, sent_out, node_at}
use Rattle.irc_network.specs.Network.{with_node}
use Rattle.irc_items.proofs.Nodes.NodeChanged.{IsNodeChanged, changed_twice, not_changed}
use Rattle.irc_items.proofs.Nodes.NodeChanged.{only_received, same_server, set_length, set_other}
use Rattle.irc_items.proofs.Nodes.NodeChanged.{set_there, node_set}

pub record IsSentOut (place : ℕ) (out : List Sent) (node : Node)
    (old new : Progress Network) : Type 0 where
  pub after : Node
  pub changed : IsNodeChanged place after old.state new.state
  pub server : after.server ≡ node.server
  pub taken : new.state.taken ≡ old.state.taken
  pub ways : (to : ℕ) → get after.queues to ≡ option_map (λ lines. lines ++ lines_on to out)
      (get node.queues to)
  pub inboxes : length new.state.received ≡ length old.state.received
  pub received : (earlier : ℕ) → slice_get new.state.received earlier
      ≡ option_map (λ lines. lines ++ lines_to (suc earlier) out)
      (slice_get old.state.received earlier)

-- ---- lines behind others

nothing_behind : (more : List (List ℕ)) → more ≡ [] → (o : Option (List (List ℕ)))
    → o ≡ option_map (λ lines. lines ++ more) o
nothing_behind more none None = refl
nothing_behind more none (Some lines) =
    ap Some (sym (ap (λ ls. lines ++ ls) none ∙ append-nil lines))

none_either : (more : List (List ℕ)) (o : Option (List (List ℕ))) → o ≡ None
    → o ≡ option_map (λ lines. lines ++ more) o
none_either more o none = none ∙ sym (ap (option_map (λ lines. lines ++ more)) none)

module _ (f : Sent → Option (List ℕ)) where
  one_then : (o : Option (List ℕ)) (lines : List (List ℕ))
      → cons_option o [] ++ lines ≡ cons_option o lines
  one_then None lines = refl
  one_then (Some line) lines = refl

  joined : (sent : Sent) (out : List Sent) (o : Option (List (List ℕ))) → option_map (λ lines. lines
      ++ filter_map f out) (option_map (λ lines. lines ++ filter_map f (sent ∷ [])) o)
      ≡ option_map (λ lines. lines ++ filter_map f (sent ∷ out)) o
  joined sent out None = refl
  joined sent out (Some lines) =
      ap Some (append_assoc lines (filter_map f (sent ∷ [])) (filter_map f out)
      ∙ ap (λ ls. lines ++ ls) (one_then (f sent) (filter_map f out)))

-- ---- nothing is put out

pub nothing_sent : (place : ℕ) (out : List Sent) (node : Node) (progress : Progress Network)
    → node_at progress.state place ≡ Some node → ((to : ℕ) → lines_on to out ≡ [])
    → ((earlier : ℕ) → lines_to (suc earlier) out ≡ []) → IsSentOut place out node progress progress
nothing_sent place out node progress is no_line none_received = record {
  after = node;
  changed = not_changed place node progress.state is;
  server = refl;
  taken = refl;
  ways = λ to. nothing_behind (lines_on to out) (no_line to) (get node.queues to);
  inboxes = refl;
  received = λ earlier. nothing_behind (lines_to (suc earlier) out) (none_received earlier)
      (slice_get progress.state.received earlier);
}

-- ---- a line to a client, or on a way

-- the line alone, where it goes there
abbrev if_there : Bool → List ℕ → List (List ℕ)
if_there b text = cons_option (if b then Some text else None) []

not_it : (received : List (List (List ℕ))) (earlier : ℕ) (text : List ℕ)
    → slice_get received earlier ≡ None → (other : ℕ) → slice_get received other ≡ option_map
    (λ lines. lines ++ if_there (nat_eq (suc earlier) (suc other)) text) (slice_get received other)
not_it received earlier text none other = by (nat_eq (suc earlier) (suc other)) refl
  where
    by : (b : Bool) → nat_eq (suc earlier) (suc other) ≡ b → slice_get received other
        ≡ option_map (λ lines. lines ++ if_there b text) (slice_get received other)
    by true one = none_either (text ∷ []) (slice_get received other)
        (ap (slice_get received)
        (sym (suc_inj (eqb-true (suc earlier) (suc other) one))) ∙ none)
    by false two = nothing_behind [] refl (slice_get received other)

it_is : (received : List (List (List ℕ))) (earlier : ℕ) (text : List ℕ) (lines : List (List ℕ))
    → slice_get received earlier ≡ Some lines → (other : ℕ)
    → slice_get (slice_set received earlier (lines ++ text ∷ [])) other
    ≡ option_map (λ before. before ++ if_there (nat_eq (suc earlier) (suc other)) text)
    (slice_get received other)
it_is received earlier text lines is other = by (nat_eq (suc earlier) (suc other)) refl
  where
    by : (b : Bool) → nat_eq (suc earlier) (suc other) ≡ b
        → slice_get (slice_set received earlier (lines ++ text ∷ [])) other
        ≡ option_map (λ before. before ++ if_there b text) (slice_get received other)
    by true one =
        let e = suc_inj (eqb-true (suc earlier) (suc other) one) in
        ap (slice_get (slice_set received earlier (lines ++ text ∷ []))) (sym e)
        ∙ set_there received earlier lines (lines ++ text ∷ []) is
        ∙ sym
        (ap (option_map (λ before. before ++ text ∷ [])) (ap (slice_get received) (sym e) ∙ is))
    by false two =
        set_other received earlier other (lines ++ text ∷ [])
        (λ e. true≢false (sym (eq-eqb (suc earlier) (suc other) (ap suc (sym e))) ∙ two))
        ∙ nothing_behind [] refl (slice_get received other)

abbrev on_way : ℕ → List ℕ → ℕ → List (List ℕ)
on_way to text other = if_there (nat_eq to other) (line_body text)

no_way : (to : ℕ) (text : List ℕ) (node : Node) → get node.queues to ≡ None → (other : ℕ)
    → get node.queues other ≡ option_map (λ lines. lines ++ on_way to text other)
    (get node.queues other)
no_way to text node none other = by (nat_eq to other) refl
  where
    by : (b : Bool) → nat_eq to other ≡ b → get node.queues other
        ≡ option_map (λ lines. lines ++ if_there b (line_body text)) (get node.queues other)
    by true one = none_either (line_body text ∷ []) (get node.queues other)
        (ap (get node.queues) (sym (eqb-true to other one)) ∙ none)
    by false two = nothing_behind [] refl (get node.queues other)

a_way : (to : ℕ) (text : List ℕ) (node : Node) (lines : List (List ℕ)) → get node.queues to
    ≡ Some lines → (other : ℕ) → get (insert node.queues to (lines ++ line_body text ∷ [])) other
    ≡ option_map (λ before. before ++ on_way to text other) (get node.queues other)
a_way to text node lines is other = get-with node.queues to (lines ++ line_body text ∷ []) other
    ∙ by (nat_eq to other) refl (same_number other to) refl
  where
    by : (b : Bool) → nat_eq to other ≡ b → (c : Bool) → same_number other to ≡ c
        → cond c (Some (lines ++ line_body text ∷ [])) (get node.queues other)
        ≡ option_map (λ before. before ++ if_there b (line_body text)) (get node.queues other)
    by true one true also = sym (ap (option_map (λ before. before ++ line_body text ∷ []))
        (ap (get node.queues) (sym (eqb-true to other one)) ∙ is))
    by true one false not_one =
        absurd (true≢false (sym (same_number-is other to (sym (eqb-true to other one))) ∙ not_one))
    by false two true one =
        absurd (true≢false (sym (eq-eqb to other (sym (one_number other to one))) ∙ two))
    by false two false also = nothing_behind [] refl (get node.queues other)

ways_queued : (to : ℕ) (text : List ℕ) (node : Node) (other : ℕ)
    → get (line_queued to text node).queues other ≡ option_map
    (λ lines. lines ++ on_way to text other) (get node.queues other)
ways_queued to text node other = by (get node.queues to) refl
  where
    put : List (List ℕ) → Node
    put lines = record node { queues = insert node.queues to (lines ++ line_body text ∷ []) }

    by : (o : Option (List (List ℕ))) → get node.queues to ≡ o
        → get (line_queued to text node).queues other ≡ option_map
        (λ lines. lines ++ on_way to text other) (get node.queues other)
    by None none = ap (λ (s : Node). get s.queues other) (ap (λ o. option_map_or put o node) none)
        ∙ no_way to text node none other
    by (Some lines) is = ap (λ (s : Node). get s.queues other)
        (ap (λ o. option_map_or put o node) is) ∙ a_way to text node lines is other

server_queued : (to : ℕ) (text : List ℕ) (node : Node)
    → (line_queued to text node).server ≡ node.server
server_queued to text node = by (get node.queues to)
  where
    put : List (List ℕ) → Node
    put lines = record node { queues = insert node.queues to (lines ++ line_body text ∷ []) }

    by : (o : Option (List (List ℕ))) → (option_map_or put o node).server ≡ node.server
    by None = refl
    by (Some lines) = refl

-- no client has the number 0
nobodys : (text : List ℕ) (earlier : ℕ) → lines_to (suc earlier) (line_to zero text ∷ []) ≡ []
nobodys text earlier = by (nat_eq zero (suc earlier)) refl
  where
    by : (b : Bool) → nat_eq zero (suc earlier) ≡ b
        → lines_to (suc earlier) (line_to zero text ∷ []) ≡ []
    by true e = absurd (let no = eqb-true zero (suc earlier) e in cc no)
    by false e = ap (λ b. if_there b text) e

-- ---- one thing is put out

module _ (place : ℕ) (node : Node) (progress : Progress Network)
    (is : node_at progress.state place ≡ Some node) where
  one_received : (earlier : ℕ) (text : List ℕ) (o : Option (List (List ℕ)))
      → slice_get progress.state.received earlier ≡ o → IsSentOut place (line_to (suc earlier) text
      ∷ []) node progress (option_map_or (has_received_at earlier text progress) o progress)
  one_received earlier text None none = record {
    after = node;
    changed = not_changed place node progress.state is;
    server = refl;
    taken = refl;
    ways = λ to. nothing_behind [] refl (get node.queues to);
    inboxes = refl;
    received = not_it progress.state.received earlier text none;
  }
  one_received earlier text (Some lines) there = record {
    after = node;
    changed = only_received place node progress.state
        (slice_set progress.state.received earlier (lines ++ text ∷ [])) is;
    server = refl;
    taken = refl;
    ways = λ to. nothing_behind [] refl (get node.queues to);
    inboxes = set_length progress.state.received earlier (lines ++ text ∷ []);
    received = it_is progress.state.received earlier text lines there;
  }

  received_line : (client : ℕ) (text : List ℕ)
      → IsSentOut place (line_to client text ∷ []) node progress (has_received client text progress)
  received_line zero text =
      nothing_sent place (line_to zero text ∷ []) node progress is (λ to. refl) (nobodys text)
  received_line (suc earlier) text =
      one_received earlier text (slice_get progress.state.received earlier) refl

  queued_line : (to : ℕ) (text : List ℕ) → IsSentOut place (line_on to text ∷ []) node progress
      (record progress { state = with_node place (line_queued to text node) progress.state })
  queued_line to text = record {
    after = line_queued to text node;
    changed = node_set place node (line_queued to text node) progress.state
        (with_node place (line_queued to text node) progress.state) is
        (same_server node (line_queued to text node) (server_queued to text node)) refl;
    server = server_queued to text node;
    taken = refl;
    ways = ways_queued to text node;
    inboxes = refl;
    received = λ earlier. nothing_behind [] refl (slice_get progress.state.received earlier);
  }

  one_sent : (sent : Sent)
      → IsSentOut place (sent ∷ []) node progress (sent_out place sent progress)
  one_sent (line_to client text) = received_line client text
  one_sent (end_of client) =
      nothing_sent place (end_of client ∷ []) node progress is (λ to. refl) (λ earlier. refl)
  one_sent (line_on to text) =
      subst (λ net. IsSentOut place (line_on to text ∷ []) node progress
      (record progress { state = net }))
      (sym (ap (λ o. option_map_or (λ
      (s : Node). with_node place (line_queued to text s) progress.state) o progress.state) is))
      (queued_line to text)
  one_sent (end_of_link to reason) =
      nothing_sent place (end_of_link to reason ∷ []) node progress is
      (λ link. refl) (λ earlier. refl)

-- ---- all of it

sent_then : (place : ℕ) (sent : Sent) (out : List Sent) (node : Node)
    (old mid new : Progress Network)
    (first : IsSentOut place (sent ∷ []) node old mid) → IsSentOut place out first.after mid new
    → IsSentOut place (sent ∷ out) node old new
sent_then place sent out node old mid new first rest = record {
  after = rest.after;
  changed =
      changed_twice place first.after rest.after old.state mid.state new.state first.changed
      rest.changed;
  server = rest.server ∙ first.server;
  taken = rest.taken ∙ first.taken;
  ways = λ to. rest.ways to ∙ ap (option_map (λ lines. lines ++ lines_on to out)) (first.ways to)
      ∙ joined (line_on_link to) sent out (get node.queues to);
  inboxes = rest.inboxes ∙ first.inboxes;
  received = λ earlier. rest.received earlier
      ∙ ap (option_map (λ lines. lines ++ lines_to (suc earlier) out)) (first.received earlier)
      ∙ joined (line_to_for (suc earlier)) sent out (slice_get old.state.received earlier);
}

pub all_sent : (place : ℕ) (out : List Sent) (node : Node) (progress : Progress Network)
    → node_at progress.state place ≡ Some node
    → IsSentOut place out node progress (all_sent_out place out progress)
all_sent place [] node progress is =
    nothing_sent place [] node progress is (λ to. refl) (λ earlier. refl)
all_sent place (sent ∷ out) node progress is =
    let first = one_sent place node progress is sent in
    sent_then place sent out node progress (sent_out place sent progress)
    (all_sent_out place out (sent_out place sent progress)) first
    (all_sent place out first.after (sent_out place sent progress) first.changed.is_after)
