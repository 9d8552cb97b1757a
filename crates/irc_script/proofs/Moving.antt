-- What a move comes to, by what the network answered.
use Rattle.std.proofs.Common.{◌≡◌, ℕ, Bool, true, false, cond, Option, Some, None, Result, Ok, Err}
use Rattle.std.proofs.Common.{List, [], ◌∷◌, ap, sym, subst, refl, ◌∙◌}
use Rattle.std.specs.List.{flat_map}
use Rattle.irc_net.specs.ByteNetwork.{ByteNetwork, item_given}
use Rattle.irc_net.specs.declared.answer.Answer.{Answer}
use Rattle.irc_net.specs.receipt.Receipt.{Receipt as KeptReceipt}
use Rattle.irc_net.specs.declared.fault.NetFault.{NetFault}
use Rattle.irc_net.specs.Calls.{NetView, BytesTaken, IsGiven, IsDelivered, Delivers, IsSettled}
use Rattle.irc_net.specs.Calls.{delivery, piece, piece_count, takes_them, taking_refused}
use Rattle.irc_net.specs.Calls.{taking_wants_memory, taking_by_failed, given_it, given_refused}
use Rattle.irc_net.specs.Calls.{given_wants_memory, given_to_failed, delivers_it, delivery_refused}
use Rattle.irc_net.specs.Calls.{delivery_wants_memory, delivery_by_failed, settles_it}
use Rattle.irc_net.specs.Faults.{deliver_fault, is_refusal}
use Rattle.irc_net.specs.Network.{Progress, Receipt}
use Rattle.irc_net.specs.NetworkViews.{receipts_of}
use Rattle.irc_relay.specs.Links.{Name}
use Rattle.irc_net.specs.Stepping.{Item}
use Rattle.irc_script.specs.declared.fault.Trouble.{Trouble}
use Rattle.irc_script.specs.declared.fault.Trouble.TheVariants.{Memory}
use Rattle.irc_script.specs.Loops.Steps.{Breaks, IsFaultPrinted, IsPlayed, IsPut, taken_count}
use Rattle.irc_script.specs.Moves.{Move, gives, delivers_line, takes_bytes, settles_all}
use Rattle.irc_script.specs.Printing.{fault_number, printed, refusal_number, taken_text}
use Rattle.irc_script.specs.Runs.{Comes, MoveOutcome, delivered_by, delivered_or, given_or}
use Rattle.irc_script.specs.Runs.{lines_received, move_refused, taken_or}
use Rattle.irc_script.specs.Sinks.{Sink}
use Rattle.irc_script.proofs.Playing.{breaks_first, played_one}

-- a move by what it comes to, in other words
played_as : (r : Result (Unit {0}) Trouble) (first : ByteNetwork) (m : Move)
    (outcome : MoveOutcome) (text : List ℕ) (last : ByteNetwork) (old new : Sink)
    → Comes first m outcome → text ≡ outcome.text → last ≡ outcome.network → IsPut r old new text
    → IsPlayed r first (m ∷ []) last old new
played_as r first m outcome text last old new comes text_is last_is p =
    subst (λ n. IsPlayed r first (m ∷ []) n old new) (sym last_is)
    (played_one r first m outcome old new comes (subst (λ t. IsPut r old new t) text_is p))

-- nothing came of a move
pub none_played : (r : Result (Unit {0}) Trouble) (first last : ByteNetwork) (moves : List Move)
    (old new : Sink) → r ≡ Err Memory → new ≡ old → IsPlayed r first moves last old new
none_played r first last moves old new failed same =
    subst (λ x. IsPlayed x first moves last old new) (sym failed) (subst
    (λ s. Breaks Memory first moves old s) (sym same) (breaks_first Memory first moves old))

-- the number of a refusal is printed
fault_played : (r : Result (Unit {0}) Trouble) (first : ByteNetwork) (m : Move)
    (fault : NetFault) (old new : Sink) → Comes first m (move_refused fault first)
    → IsFaultPrinted (refusal_number fault) r old new → IsPlayed r first (m ∷ []) first old new
fault_played r first m fault old new comes p = by (is_refusal fault) p
  where
    by : (b : Bool) → IsFaultPrinted (cond b (Some (fault_number fault)) None) r old new
        → IsPlayed r first (m ∷ []) first old new
    by true printed = played_one r first m (move_refused fault first) old new comes printed
    by false none = none_played r first first (m ∷ []) old new none.0 none.1

-- ---- an item

pub given_played : (r : Result (Unit {0}) Trouble) (first last : NetView)
    (item : Item) (answer : Answer) (lines : List KeptReceipt) (old new : Sink)
    → IsGiven first item (Ok answer) last → lines ≡ answer.lines.items
    → IsPut r old new (flat_map printed (receipts_of lines))
    → IsPlayed r first.network (gives item ∷ []) last.network old new
given_played r first last item answer lines old new (given_it alive g) same p =
    played_as r first.network (gives item) (lines_received (item_given item first.network))
    (flat_map printed (receipts_of lines)) last.network old new
    (sym (ap (λ (f : Option NetFault). given_or f item first.network) g.none))
    (ap (flat_map printed) (ap receipts_of same ∙ g.receipts))
    (ap (λ (v : NetView). v.network) g.after) p

pub refusal_played : (r : Result (Unit {0}) Trouble) (first last : NetView) (item : Item)
    (fault : NetFault) (old new : Sink) → IsGiven first item (Err fault) last
    → IsFaultPrinted (refusal_number fault) r old new
    → IsPlayed r first.network (gives item ∷ []) last.network old new
refusal_played r first last item fault old new (given_refused alive is) p =
    fault_played r first.network (gives item) fault old new
    (sym (ap (λ (f : Option NetFault). given_or f item first.network) is)) p
refusal_played r first last item fault old new (given_wants_memory alive none failed) p =
    none_played r first.network last.network (gives item ∷ []) old new p.0 p.1
refusal_played r first last item fault old new (given_to_failed failed) p =
    none_played r first.network last.network (gives item ∷ []) old new p.0 p.1

-- ---- a delivery

taken_so : (r : Result (Unit {0}) Trouble) (first last : NetView)
    (from to : Name) (was_taken : Bool) (receipts : List Receipt) (old new : Sink)
    → deliver_fault first.network from to ≡ None → (o : Option (Progress ByteNetwork))
    → delivery first.network from to ≡ o → Delivers o first.network was_taken receipts last
    → IsPut r old new (taken_text (taken_count was_taken) receipts)
    → IsPlayed r first.network (delivers_line from to ∷ []) last.network old new
taken_so r first last from to was_taken receipts old new none o is so p = by o is so
  where
    comes : (o : Option (Progress ByteNetwork)) → delivery first.network from to ≡ o
        → Comes first.network (delivers_line from to) (delivered_by o first.network)
    comes o is = sym (ap (λ (f : Option NetFault). delivered_or f from to first.network) none
        ∙ ap (λ (c : Option (Progress ByteNetwork)). delivered_by c first.network) is)

    by : (o : Option (Progress ByteNetwork)) → delivery first.network from to ≡ o
        → Delivers o first.network was_taken receipts last
        → IsPlayed r first.network (delivers_line from to ∷ []) last.network old new
    by None is so =
        played_as r first.network (delivers_line from to) (delivered_by None first.network)
        (taken_text (taken_count was_taken) receipts) last.network old new
        (comes None is)
        (ap (λ b. taken_text (taken_count b) receipts) so.0 ∙ ap (taken_text 0) so.1)
        (ap (λ (v : NetView). v.network) so.2) p
    by (Some progress) is so =
        played_as r first.network (delivers_line from to)
        (delivered_by (Some progress) first.network)
        (taken_text (taken_count was_taken) receipts) last.network old new
        (comes (Some progress) is) (ap (λ b. taken_text (taken_count b) receipts) so.0
        ∙ ap (taken_text 1) so.1) (ap (λ (v : NetView). v.network) so.2) p

pub delivered_played : (r : Result (Unit {0}) Trouble) (first last : NetView) (from to : Name)
    (was_taken : Bool) (count : ℕ) (kept lines : List KeptReceipt)
    (old new : Sink)
    → IsDelivered first from to (Ok (was_taken, receipts_of kept)) last
    → count ≡ taken_count was_taken → lines ≡ kept
    → IsPut r old new (taken_text count (receipts_of lines))
    → IsPlayed r first.network (delivers_line from to ∷ []) last.network old new
delivered_played r first last from to was_taken count kept lines old new
    (delivers_it alive none so) count_is same p =
    taken_so r first last from to was_taken (receipts_of kept) old new none
    (delivery first.network from to) refl so
    (subst (λ ls. IsPut r old new (taken_text (taken_count was_taken) (receipts_of ls))) same
    (subst (λ n. IsPut r old new (taken_text n (receipts_of lines))) count_is p))

pub undelivered_played : (r : Result (Unit {0}) Trouble)
    (first last : NetView) (from to : Name) (fault : NetFault) (old new : Sink)
    → IsDelivered first from to (Err fault) last → IsFaultPrinted (refusal_number fault) r old new
    → IsPlayed r first.network (delivers_line from to ∷ []) last.network old new
undelivered_played r first last from to fault old new (delivery_refused alive is) p =
    fault_played r first.network (delivers_line from to) fault old new
    (sym (ap (λ (f : Option NetFault). delivered_or f from to first.network) is)) p
undelivered_played r first last from to fault old new (delivery_wants_memory alive none failed) p =
    none_played r first.network last.network (delivers_line from to ∷ []) old new p.0 p.1
undelivered_played r first last from to fault old new (delivery_by_failed failed) p =
    none_played r first.network last.network (delivers_line from to ∷ []) old new p.0 p.1

-- ---- bytes

abbrev taken_as : ℕ → ByteNetwork → Name → Name → MoveOutcome
taken_as count net from to =
    record {
      text = taken_text (piece_count count net from to) (piece count net from to).out;
      network = (piece count net from to).state;
    }

pub bytes_played : (r : Result (Unit {0}) Trouble) (first last : NetView)
    (from to : Name) (count came : ℕ) (kept lines : List KeptReceipt) (old new : Sink)
    → BytesTaken first from to count (Ok (came, receipts_of kept)) last
    → lines ≡ kept → IsPut r old new (taken_text came (receipts_of lines))
    → IsPlayed r first.network (takes_bytes from to count ∷ []) last.network old new
bytes_played r first last from to count came kept lines old new (takes_them alive t) same p =
    played_as r first.network (takes_bytes from to count) (taken_as count first.network from to)
    (taken_text came (receipts_of lines)) last.network old new
    (sym (ap (λ (f : Option NetFault). taken_or f from to count first.network) t.none))
    (ap (λ ls. taken_text came (receipts_of ls)) same ∙ ap (taken_text came) t.received
    ∙ ap (λ n. taken_text n (piece count first.network from to).out) t.taken_is)
    (ap (λ (v : NetView). v.network) t.after) p

pub no_bytes_played : (r : Result (Unit {0}) Trouble) (first last : NetView) (from to : Name)
    (count : ℕ) (fault : NetFault) (old new : Sink) → BytesTaken first from to count
    (Err fault) last → IsFaultPrinted (refusal_number fault) r old new
    → IsPlayed r first.network (takes_bytes from to count ∷ []) last.network old new
no_bytes_played r first last from to count fault old new (taking_refused alive is) p =
    fault_played r first.network (takes_bytes from to count) fault old new
    (sym (ap (λ (f : Option NetFault). taken_or f from to count first.network) is)) p
no_bytes_played r first last from to count fault old new (taking_wants_memory alive none failed) p =
    none_played r first.network last.network (takes_bytes from to count ∷ []) old new p.0 p.1
no_bytes_played r first last from to count fault old new (taking_by_failed failed) p =
    none_played r first.network last.network (takes_bytes from to count ∷ []) old new p.0 p.1

-- ---- settling

abbrev settled_as : ℕ → List Receipt → ByteNetwork → MoveOutcome
settled_as count receipts last = record { text = taken_text count receipts; network = last }

pub settled_played : (r : Result (Unit {0}) Trouble) (first last : NetView)
    (count : ℕ) (kept lines : List KeptReceipt) (old new : Sink)
    → IsSettled first (Ok (count, receipts_of kept)) last → lines ≡ kept
    → IsPut r old new (taken_text count (receipts_of lines))
    → IsPlayed r first.network (settles_all ∷ []) last.network old new
settled_played r first last count kept lines old new (settles_it alive s) same p =
    played_as r first.network settles_all (settled_as count (receipts_of kept) s.last.state)
    (taken_text count (receipts_of lines)) last.network old new
    (record {
      count = count;
      receipts = receipts_of kept;
      settles = record {
        count = s.count;
        last = s.last;
        goes = s.goes;
        rest = s.rest;
        counts = s.counts;
        received = s.received;
        after = refl;
      };
      text_is = refl;
    }) (ap (λ ls. taken_text count (receipts_of ls)) same) (ap (λ
    (v : NetView). v.network) s.after) p
