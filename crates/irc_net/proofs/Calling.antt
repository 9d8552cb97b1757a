-- What comes of a call, from what the network has done.
use Rattle.std.specs.Option.{option_and_then, option_map, option_map_or}
use Rattle.std.proofs.Common.{◌≡◌, ◌+◌, ◌++◌, ◌∷◌, ◌∙◌, ◌||◌, ◌==◌, not, inl, inr, is_some, min, ℕ}
use Rattle.std.proofs.Common.{zero, suc, take, drop, length, ◌≤◌, Bool, true, false, Option}
use Rattle.std.proofs.Common.{Some, None, Result, Ok, Err, IsErrAnd, List, [], refl, sym, subst, ap}
use Rattle.std.proofs.Common.{if◌then◌else◌, take_all}
use Rattle.std.specs.List.{slice_get}
use Rattle.std.proofs.lemmas.Option.{same_Some}
use Rattle.irc_relay.specs.Links.{Name}
use Rattle.irc_world.specs.Stepping.{Item}
use Rattle.irc_net.specs.declared.answer.Answer.{Answer}
use Rattle.irc_network.specs.declared.receipt.Receipt.{Receipt as KeptReceipt}
use Rattle.irc_net.specs.declared.fault.NetFault.{NetFault}
use Rattle.irc_net.specs.declared.fault.NetFault.TheVariants.{Memory}
use Rattle.irc_net.specs.declared.step.Step.{Step}
use Rattle.irc_net.specs.declared.step.StepAnswer.{StepAnswer}
use Rattle.irc_net.specs.declared.step.StepAnswer.TheVariants.{Refused}
use Rattle.irc_network.specs.ByteNetwork.{ByteNetwork}
use Rattle.irc_network.specs.Loops.Coming.{bytes_between, come_between, progress_of}
use Rattle.irc_line.specs.Bytes.{line_feed}
use Rattle.irc_relay.specs.Links.{linked as are_linked}
use Rattle.irc_world.specs.Refused.{Refusal, no_such_server, not_linked}
use Rattle.irc_pipes.specs.Pipes.{is_none, through_line_feed}
use Rattle.irc_net.specs.Calls.{ArePlayed, BytesTaken, Breaks, Delivers, IsDelivered, IsGiven}
use Rattle.irc_net.specs.Calls.{IsSettled, IsStep, IsStepDone, NetView, PlaysSteps, Settles}
use Rattle.irc_net.specs.Calls.{StopsAt, count_between, delivery, line_between, piece}
use Rattle.irc_net.specs.Calls.{piece_between, standing, step_refused, then_one, pipe_between}
use Rattle.irc_net.specs.Loops.Coming.{AreEnds, ComesTo, HaveComeTo, IsNoWay}
use Rattle.irc_net.specs.Calls as calls
use Rattle.irc_net.specs.Faults.{deliver_fault, fault_by, is_refusal, item_fault}
use Rattle.irc_net.specs.Loops.Settling.{SettlesAt}
use Rattle.irc_forest.specs.declared.places.EndPlaces.{EndPlaces}
use Rattle.irc_network.specs.Loops.Progress.{ends_now}
use Rattle.irc_network.specs.Network.{Progress, LinkPlaces, Network, Receipt, begun, link_places}
use Rattle.irc_network.specs.Network.{server_place}
use Rattle.irc_network.specs.Refusing.{way_fault}
use Rattle.irc_net.specs.Views.{answers_now, counted_now, delivered_now}
use Rattle.irc_network.specs.Views.{receipts_of}
use Rattle.std.specs.Global.{Vec}
use Rattle.std.proofs.Math.Numerals.{suc-eq-add-one}

-- ---- memory runs out

pub given_wants : (old new : NetView) (item : Item) (r : Result Answer NetFault)
    → IsErrAnd r (λ e. e ≡ Memory) → old.failed ≡ false → item_fault old.network item ≡ None
    → new.failed ≡ true → IsGiven old item r new
given_wants old new item (Ok answer) is stands none failed = absurd is
given_wants old new item (Err e) is stands none failed =
    subst (λ e. IsGiven old item (Err e) new) (sym is) (calls.given_wants_memory stands none failed)

pub settling_wants : (old new : NetView) (r : Result (ℕ × Vec KeptReceipt) NetFault) → IsErrAnd r
    (λ e. e ≡ Memory) → old.failed ≡ false → new.failed ≡ true → IsSettled old (counted_now r) new
settling_wants old new (Ok answer) is stands failed = absurd is
settling_wants old new (Err e) is stands failed =
    subst (λ e. IsSettled old (Err e) new) (sym is) (calls.settling_wants_memory stands failed)

-- ---- two servers that are not linked, or a network for which memory ran out

no_delivery : (net : NetView) (from to : Name) (fault : NetFault) → IsNoWay net from to fault
    → IsDelivered net from to (Err fault) net
no_delivery net from to fault (inl failed) = subst (λ e. IsDelivered net from to (Err e) net)
    (sym failed.1) (calls.delivery_by_failed failed.0)
no_delivery net from to fault (inr refused) = calls.delivery_refused refused.0 refused.1

pub delivery_fails : (net : NetView) (from to : Name) (fault : NetFault)
    (r : Result (Bool × Vec KeptReceipt) NetFault) → IsErrAnd r (λ e. e ≡ fault)
    → IsNoWay net from to fault → IsDelivered net from to (delivered_now r) net
delivery_fails net from to fault (Ok answer) is no_way = absurd is
delivery_fails net from to fault (Err e) is no_way =
    subst (λ f. IsDelivered net from to (Err f) net) (sym is) (no_delivery net from to fault no_way)

no_taking : (net : NetView) (from to : Name) (count : ℕ) (fault : NetFault)
    → IsNoWay net from to fault → BytesTaken net from to count (Err fault) net
no_taking net from to count fault (inl failed) = subst
    (λ e. BytesTaken net from to count (Err e) net) (sym failed.1) (calls.taking_by_failed failed.0)
no_taking net from to count fault (inr refused) = calls.taking_refused refused.0 refused.1

pub taking_fails : (net : NetView) (from to : Name) (count : ℕ) (fault : NetFault)
    (r : Result (ℕ × Vec KeptReceipt) NetFault) → IsErrAnd r (λ e. e ≡ fault)
    → IsNoWay net from to fault → BytesTaken net from to count (counted_now r) net
taking_fails net from to count fault (Ok answer) is no_way = absurd is
taking_fails net from to count fault (Err e) is no_way =
    subst (λ f. BytesTaken net from to count (Err f) net) (sym is)
    (no_taking net from to count fault no_way)

-- linked servers are there
placed : (net : Network) (near far : Name) → way_fault net near far ≡ None
    → (ends : LinkPlaces) × (link_places net near far ≡ Some ends)
placed net near far none = by (server_place net near) (server_place net far) none
  where
    by : (one other : Option ℕ)
        → (if not (is_some one) || not (is_some other) then Some no_such_server
        else (if are_linked net.links near far then None else Some not_linked)) ≡ None
        → (ends : LinkPlaces) × (option_and_then
        (λ x. option_map (λ y. record { near = x; far = y }) other) one ≡ Some ends)
    by None other is = cc is
    by (Some one) None is = cc is
    by (Some one) (Some other) is = (record { near = one; far = other }, refl)

pub are_placed : (net : ByteNetwork) (near far : Name) → deliver_fault net near far ≡ None
    → link_places net.network near far ≡ None → ⊥
unfolding deliver_fault
are_placed net near far none nowhere = by (way_fault net.network near far) refl none
  where
    by : (o : Option Refusal) → way_fault net.network near far ≡ o
        → option_map fault_by o ≡ None → ⊥
    by None is left = let there = placed net.network near far is in cc (sym nowhere ∙ there.1)
    by (Some refusal) is left = cc left

-- ---- what was done

-- memory is there for it
pub stands_so : (net : NetView) → net.failed ≡ false → net ≡ standing net.network
stands_so net stands = ap (λ b. record { failed = b; network = net.network }) stands

no_feed : (bytes : List ℕ) → through_line_feed bytes ≡ 0 → not (is_none bytes) ≡ false
no_feed [] is = refl
no_feed (byte ∷ bytes) is = by (byte == line_feed) is
  where
    by : (b : Bool) → (if b then 1 else suc (through_line_feed bytes)) ≡ 0 → true ≡ false
    by true none = cc none
    by false none = cc none

some_feed : (bytes : List ℕ) → (through_line_feed bytes ≡ 0 → ⊥) → not (is_none bytes) ≡ true
some_feed [] some = absurd (some refl)
some_feed (byte ∷ bytes) some = refl

-- between two servers at these places
between_none : (net : ByteNetwork) (from to : Name) (ends : LinkPlaces)
    → link_places net.network from to ≡ Some ends
    → through_line_feed (pipe_between net ends).bytes ≡ 0 → delivery net from to ≡ None
between_none net from to ends is none =
    ap (option_and_then (line_between net)) is
    ∙ ap (λ b. if b then Some (piece_between (through_line_feed (pipe_between net ends).bytes) net
    ends) else None) (no_feed (pipe_between net ends).bytes none)

between_some : (net : ByteNetwork) (from to : Name) (ends : LinkPlaces)
    → link_places net.network from to ≡ Some ends
    → (through_line_feed (pipe_between net ends).bytes ≡ 0 → ⊥) → delivery net from to
    ≡ Some (piece_between (through_line_feed (pipe_between net ends).bytes) net ends)
between_some net from to ends is some =
    ap (option_and_then (line_between net)) is
    ∙ ap (λ b. if b then Some (piece_between (through_line_feed (pipe_between net ends).bytes) net
    ends) else None) (some_feed (pipe_between net ends).bytes some)

-- no byte was on its way
pub none_came : (net : NetView) (from to : Name) (ends : EndPlaces) (lines : List KeptReceipt)
    → AreEnds net from to ends → through_line_feed (pipe_between net.network (ends_now ends)).bytes
    ≡ 0 → lines ≡ [] → IsDelivered net from to (Ok (false, receipts_of lines)) net
none_came net from to ends lines are none nothing =
    calls.delivers_it are.stands are.none
    (subst (λ o. Delivers o net.network false (receipts_of lines) net)
    (sym (between_none net.network from to (ends_now ends) are.ends_are none))
    (refl, ap receipts_of nothing, stands_so net are.stands))

-- some were
pub some_came : (old new : NetView) (from to : Name) (ends : EndPlaces)
    (count taken : ℕ) (lines : List KeptReceipt) → AreEnds old from to ends
    → count ≡ through_line_feed (pipe_between old.network (ends_now ends)).bytes
    → (count ≡ 0 → ⊥) → ComesTo old ends count taken (receipts_of lines) new
    → IsDelivered old from to (Ok (true, receipts_of lines)) new
some_came old new from to ends count taken lines are is some comes =
    calls.delivers_it are.stands are.none
    (subst (λ o. Delivers o old.network true (receipts_of lines) new)
    (sym (between_some old.network from to (ends_now ends) are.ends_are (λ none. some (is ∙ none))
    ∙ ap (λ n. Some (piece_between n old.network (ends_now ends))) (sym is)))
    (refl, comes.received, comes.after))

pub line_wants : (old new : NetView) (from to : Name) (ends : EndPlaces) (fault : NetFault)
    (r : Result (Bool × Vec KeptReceipt) NetFault) → IsErrAnd r (λ e. e ≡ fault)
    → AreEnds old from to ends → (fault ≡ Memory) × (new.failed ≡ true)
    → IsDelivered old from to (delivered_now r) new
line_wants old new from to ends fault (Ok answer) is are wants = absurd is
line_wants old new from to ends fault (Err e) is are wants =
    subst (λ f. IsDelivered old from to (Err f) new) (sym (is ∙ wants.0))
    (calls.delivery_wants_memory are.stands are.none wants.1)

-- so many bytes came, or memory ran out
pub pieces_came : (old new : NetView) (from to : Name) (ends : EndPlaces)
    (count : ℕ) (r : Result (ℕ × List Receipt) NetFault) → AreEnds old from to ends
    → HaveComeTo old ends count r new → BytesTaken old from to count r new
pieces_came old new from to ends count (Ok pair) are comes =
    calls.takes_them are.stands (record {
      none = are.none;
      taken_is = comes.taken_is
          ∙ sym (ap (λ o. option_map_or (count_between count old.network) o 0) are.ends_are);
      received = comes.received ∙ sym (ap (λ (c : Progress ByteNetwork). c.out) at);
      after = comes.after ∙ sym (ap (λ (c : Progress ByteNetwork). standing c.state) at);
    })
  where
    at : piece count old.network from to ≡ piece_between count old.network (ends_now ends)
    at = ap (λ o. option_map_or (piece_between count old.network) o (begun old.network))
        are.ends_are
pieces_came old new from to ends count (Err fault) are wants =
    subst (λ f. BytesTaken old from to count (Err f) new) (sym wants.0)
    (calls.taking_wants_memory are.stands are.none wants.1)

-- as the code answers it
pub came_to : (old : NetView) (net new : ByteNetwork) (ends : EndPlaces)
    (count taken : ℕ) (lines none : List KeptReceipt) → net ≡ old.network → none ≡ []
    → taken ≡ min count (bytes_between net ends) → progress_of new lines ≡ come_between ends count
    (progress_of net none) → ComesTo old ends count taken (receipts_of lines) (standing new)
came_to old net new ends count taken lines none same begins taken_is comes = record {
  taken_is = taken_is ∙ ap (λ n. min count (bytes_between n ends)) same;
  received = ap (λ (c : Progress ByteNetwork). c.out) so;
  after = ap (λ (c : Progress ByteNetwork). standing c.state) so;
}
  where
    so : progress_of new lines ≡ piece_between count old.network (ends_now ends)
    so = comes ∙ ap (λ n. come_between ends count (progress_of n none)) same
        ∙ ap (λ ls. come_between ends count (progress_of old.network ls)) begins

pub coming_wants : (old new : NetView) (ends : EndPlaces) (count : ℕ)
    (r : Result (ℕ × Vec KeptReceipt) NetFault) → IsErrAnd r (λ e. e ≡ Memory) → new.failed ≡ true
    → HaveComeTo old ends count (counted_now r) new
coming_wants old new ends count (Ok answer) is failed = absurd is
coming_wants old new ends count (Err e) is failed = (is, failed)

pub settles_by : (net new : ByteNetwork) (lines : List KeptReceipt) (count : ℕ) → SettlesAt count
    (begun net) (progress_of new lines)
    → Settles net count (receipts_of lines) (standing new)
settles_by net new lines count so = record {
  count = so.turns.count;
  last = progress_of new lines;
  goes = so.turns.goes;
  rest = so.rest;
  counts = so.turns.counts;
  received = refl;
  after = refl;
}

-- ---- a step that is refused, or for which memory is wanting

pub refused_step : (old new : NetView) (step : Step) (fault : NetFault) → Breaks old step fault new
    → (is_refusal fault ≡ true → IsStep old step (Refused fault) new)
    → IsStepDone old step (step_refused fault) new
refused_step old new step fault breaks refuses = by (is_refusal fault) refl
  where
    by : (b : Bool) → is_refusal fault ≡ b
        → IsStepDone old step (if b then Ok (Refused fault) else Err fault) new
    by true is = refuses is
    by false is = (breaks, is)

-- ---- steps in turn

taken_on : (steps : List Step) (i : ℕ) (step : Step) → slice_get steps i ≡ Some step
    → take (suc i) steps ≡ take i steps ++ step ∷ []
taken_on [] i step is = cc is
taken_on (first ∷ steps) zero step is = ap (λ s. s ∷ []) (same_Some first step is)
taken_on (first ∷ steps) (suc i) step is = ap (λ ss. first ∷ ss) (taken_on steps i step is)

parted : (steps : List Step) (i : ℕ) (step : Step) → slice_get steps i ≡ Some step
    → steps ≡ take i steps ++ step ∷ drop (suc i) steps
parted [] i step is = cc is
parted (first ∷ steps) zero step is = ap (λ s. s ∷ steps) (same_Some first step is)
parted (first ∷ steps) (suc i) step is = ap (λ ss. first ∷ ss) (parted steps i step is)

pub plays_on : {first between last : NetView} (steps : List Step) (answers more : List StepAnswer)
    (i : ℕ) (step : Step) (answer : StepAnswer) → PlaysSteps first (take i steps) answers between
    → IsStep between step answer last → slice_get steps i ≡ Some step
    → more ≡ answers ++ answer ∷ [] → PlaysSteps first (take (i + 1) steps) more last
plays_on {first = first} {last = last} steps answers more i step answer plays done is behind =
    subst (λ n. PlaysSteps first (take n steps) more last) (suc-eq-add-one i)
    (then_one step answer plays done (taken_on steps i step is) behind)

pub stops : {first between last : NetView} (steps : List Step) (answers : List StepAnswer)
    (i : ℕ) (step : Step) (fault : NetFault) → PlaysSteps first (take i steps) answers between
    → slice_get steps i ≡ Some step → IsStepDone between step (Err fault) last
    → StopsAt first steps fault last
stops {between = between} steps answers i step fault plays is broke = record {
  done = take i steps;
  step = step;
  left = drop (suc i) steps;
  parts = parted steps i step is;
  answers = answers;
  between = between;
  plays = plays;
  breaks = broke.0;
  is_want = broke.1;
}

pub none_played : (old : NetView) (answers : List StepAnswer) → answers ≡ []
    → PlaysSteps old [] answers old
none_played old answers is = subst (λ done. PlaysSteps old [] done old) (sym is) calls.none_yet

pub all_played : {old new : NetView} (steps : List Step) (answers : List StepAnswer) (i : ℕ)
    → length steps ≤ i → PlaysSteps old (take i steps) answers new
    → ArePlayed old steps (Ok answers) new
all_played {old = old} {new = new} steps answers i behind plays =
    calls.plays_them (subst (λ ss. PlaysSteps old ss answers new) (take_all i steps behind) plays)

pub play_stops : (old new : NetView) (steps : List Step) (fault : NetFault)
    (r : Result (Vec StepAnswer) NetFault) → IsErrAnd r (λ e. e ≡ fault)
    → StopsAt old steps fault new → ArePlayed old steps (answers_now r) new
play_stops old new steps fault (Ok answers) is stops = absurd is
play_stops old new steps fault (Err e) is stops =
    subst (λ f. ArePlayed old steps (Err f) new) (sym is) (calls.stops_at stops)

pub play_wants : (old new : NetView) (steps : List Step) (fault : NetFault)
    (r : Result (Vec StepAnswer) NetFault) → IsErrAnd r (λ e. e ≡ fault) → fault ≡ Memory
    → new.failed ≡ true → ArePlayed old steps (answers_now r) new
play_wants old new steps fault (Ok answers) is memory failed = absurd is
play_wants old new steps fault (Err e) is memory failed = subst
    (λ f. ArePlayed old steps (Err f) new) (sym (is ∙ memory)) (calls.answers_want_memory failed)
