-- What is printed, entry by entry, and what clients receive by it.
use Rattle.std.proofs.Common.{◌≡◌, ℕ, true, Option, Some, None, List, [], ◌∷◌, ◌++◌, map, ap, sym}
use Rattle.std.proofs.Common.{subst, refl, ◌∙◌, append-nil, append_assoc}
use Rattle.std.proofs.lemmas.Grind.{flat_map-append}
use Rattle.std.proofs.lemmas.List.Elements.{filter_map-append}
use Rattle.std.proofs.lemmas.List.Folds.{flat_map-map}
use Rattle.std.specs.List.{cons_option, flat_map}
use Rattle.irc_net.specs.ByteNetwork.{ByteNetwork, item_given}
use Rattle.irc_net.specs.declared.fault.NetFault.{NetFault}
use Rattle.irc_net.specs.Calls.{Delivers, delivers_it, delivery, piece, piece_count, settles_it}
use Rattle.irc_net.specs.Calls.{standing, takes_them}
use Rattle.irc_net.specs.Faults.{deliver_fault, item_fault}
use Rattle.irc_net.specs.Laws.{AnswersAreReceived, HasReceived}
use Rattle.irc_net.specs.NetworkLaws.{ReceiptsAreReceived}
use Rattle.irc_net.specs.Network.{Progress, Receipt, lines_of_client, received_by}
use Rattle.irc_net.specs.Stepping.{Item}
use Rattle.irc_script.specs.Moves.{Move, gives, delivers_line, takes_bytes, settles_all}
use Rattle.irc_script.specs.OneRoom.{ScriptEntry, counts, entry_text, line_to, lines_shown_to}
use Rattle.irc_script.specs.OneRoom.{receives}
use Rattle.irc_script.specs.OneRoom.{refuses}
use Rattle.irc_script.specs.Printing.{count_line, fault_number, printed, refusal_line, taken_text}
use Rattle.irc_script.specs.Runs.{Comes, MoveOutcome, Plays, Runs, delivered_by, delivered_or, end}
use Rattle.irc_script.specs.Runs.{given_or, move, nothing, request, taken_or}
use Rattle.irc_script.specs.Scripts.{Request}

-- what was printed between two moments, and what clients received by it
pub record Shows (first last : ByteNetwork) (text : List ℕ) : Type 0 where
  pub entries : List ScriptEntry
  pub text_is : text ≡ flat_map entry_text entries
  pub received : (client : ℕ) → received_by last.network client ≡ received_by first.network client
      ++ lines_shown_to client entries

shows_nothing : (net : ByteNetwork) → Shows net net []
shows_nothing net = record {
  entries = [];
  text_is = refl;
  received = λ client. sym (append-nil (received_by net.network client));
}

shows_both : {a b c : ByteNetwork} {s t : List ℕ} → Shows a b s → Shows b c t → Shows a c (s ++ t)
shows_both {a = a} {t = t} p q = record {
  entries = p.entries ++ q.entries;
  text_is = ap (λ x. x ++ t) p.text_is ∙ ap (λ x. flat_map entry_text p.entries ++ x) q.text_is
      ∙ sym (flat_map-append entry_text p.entries q.entries);
  received = λ client. q.received client
      ∙ ap (λ ls. ls ++ lines_shown_to client q.entries) (p.received client)
      ∙ append_assoc (received_by a.network client) (lines_shown_to client p.entries)
      (lines_shown_to client q.entries)
      ∙ ap (λ ls. received_by a.network client ++ ls)
      (sym (filter_map-append (line_to client) p.entries q.entries));
}

count_shown : (net : ByteNetwork) (count : ℕ) → Shows net net (count_line count)
count_shown net count = record {
  entries = counts count ∷ [];
  text_is = sym (append-nil (count_line count));
  received = λ client. sym (append-nil (received_by net.network client));
}

refusal_shown : (net : ByteNetwork) (fault : NetFault)
    → Shows net net (refusal_line (fault_number fault))
refusal_shown net fault = record {
  entries = refuses fault ∷ [];
  text_is = sym (append-nil (refusal_line (fault_number fault)));
  received = λ client. sym (append-nil (received_by net.network client));
}

-- what a client receives of these
receipts_shown : (client : ℕ) (receipts : List Receipt)
    → lines_shown_to client (map receives receipts) ≡ lines_of_client client receipts
receipts_shown client [] = refl
receipts_shown client (receipt ∷ receipts) =
    ap (cons_option (line_to client (receives receipt))) (receipts_shown client receipts)

progress_shown : (first : ByteNetwork) (progress : Progress ByteNetwork)
    → HasReceived first progress.state progress.out
    → Shows first progress.state (flat_map printed progress.out)
progress_shown first progress are = record {
  entries = map receives progress.out;
  text_is = sym (flat_map-map entry_text receives progress.out);
  received = λ client. are client ∙ ap (λ lines. received_by first.network client ++ lines)
      (sym (receipts_shown client progress.out));
}

-- lines were taken, and their number is printed behind
taken_shown : (first : ByteNetwork) (progress : Progress ByteNetwork) (count : ℕ)
    → HasReceived first progress.state progress.out
    → Shows first progress.state (taken_text count progress.out)
taken_shown first progress count are =
    shows_both (progress_shown first progress are) (count_shown progress.state count)

-- ---- what comes of a move

-- what is written on its way nobody has received
given_received : ReceiptsAreReceived → (item : Item) (net : ByteNetwork)
    → HasReceived net (item_given item net).state (item_given item net).out
unfolding item_given
given_received law item net = law.given item net.network

abbrev ShowsOutcome : ByteNetwork → MoveOutcome → Type 0
ShowsOutcome first outcome = Shows first outcome.network outcome.text

module _ (law : ReceiptsAreReceived) (answers : AnswersAreReceived) where
  comes_shown : (first : ByteNetwork) (m : Move) (outcome : MoveOutcome) → Comes first m outcome
      → ShowsOutcome first outcome
  comes_shown first (gives item) outcome is = by (item_fault first item) is
    where
      by : (o : Option NetFault) → outcome ≡ given_or o item first → ShowsOutcome first outcome
      by None e = subst (ShowsOutcome first) (sym e)
          (progress_shown first (item_given item first) (given_received law item first))
      by (Some fault) e = subst (ShowsOutcome first) (sym e) (refusal_shown first fault)
  comes_shown first (delivers_line from to) outcome is = by (deliver_fault first from to) refl is
    where
      came : deliver_fault first from to ≡ None → (progress : Progress ByteNetwork)
          → delivery first from to
          ≡ Some progress → HasReceived first progress.state progress.out
      came none progress some =
          answers.delivered (standing first) (standing progress.state) from to true progress.out
          (delivers_it refl none
          (subst (λ o. Delivers o first true progress.out (standing progress.state)) (sym some)
          (refl, refl, refl)))

      took : deliver_fault first from to ≡ None → (o : Option (Progress ByteNetwork))
          → delivery first from to ≡ o → outcome ≡ delivered_by o first → ShowsOutcome first outcome
      took none None nothing_there e = subst (ShowsOutcome first) (sym e) (count_shown first 0)
      took none (Some progress) some e =
          subst (ShowsOutcome first) (sym e)
          (taken_shown first progress 1 (came none progress some))

      by : (o : Option NetFault) → deliver_fault first from to ≡ o
          → outcome ≡ delivered_or o from to first → ShowsOutcome first outcome
      by None none e = took none (delivery first from to) refl e
      by (Some fault) some e = subst (ShowsOutcome first) (sym e) (refusal_shown first fault)
  comes_shown first (takes_bytes from to count) outcome is =
      by (deliver_fault first from to) refl is
    where
      came : deliver_fault first from to ≡ None
          → HasReceived first (piece count first from to).state (piece count first from to).out
      came none =
          answers.taken (standing first) (standing (piece count first from to).state) from to count
          (piece_count count first from to)
          (piece count first from to).out
          (takes_them refl (record { none = none; taken_is = refl; received = refl; after = refl }))

      by : (o : Option NetFault) → deliver_fault first from to ≡ o
          → outcome ≡ taken_or o from to count first → ShowsOutcome first outcome
      by None none e =
          subst (ShowsOutcome first) (sym e) (taken_shown first (piece count first from to)
          (piece_count count first from to) (came none))
      by (Some fault) some e = subst (ShowsOutcome first) (sym e) (refusal_shown first fault)
  comes_shown first settles_all outcome is =
      subst (Shows first outcome.network) (sym is.text_is)
      (taken_shown first (record { state = outcome.network; out = is.receipts }) is.count
      (answers.settled (standing first) (standing outcome.network) is.count is.receipts
      (settles_it refl is.settles)))

  -- one after another

  plays_shown : {first last : ByteNetwork} {moves : List Move} {text : List ℕ}
      → Plays first moves last text → Shows first last text
  plays_shown {first = first} nothing = shows_nothing first
  plays_shown {first = first} {last = last} (move {m = m} outcome comes text_is rest) =
      subst (Shows first last) (sym text_is)
      (shows_both (comes_shown first m outcome comes) (plays_shown rest))

  pub runs_shown : {first last : ByteNetwork} {requests : List Request} {text : List ℕ}
      → Runs first requests last text → Shows first last text
  runs_shown {first = first} end = shows_nothing first
  runs_shown {first = first} {last = last} (request text_is plays rest) =
      subst (Shows first last) (sym text_is) (shows_both (plays_shown plays) (runs_shown rest))
