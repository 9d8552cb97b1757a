-- A line from another one, with other parameters.
use Rattle.std.proofs.Common.{ℕ, ◌≡◌, ◌-◌, zero, suc, Option, List, [], ◌∷◌, length, take, refl}
use Rattle.std.proofs.Common.{sym, ap, slice_get, ◌∙◌}
use Rattle.std.specs.Borrow.{Bor}
use Rattle.std.proofs.lemmas.List.{length-map, take-map}
use Rattle.irc_line.specs.MessageViews.{optional_now, parsed}
use Rattle.irc_line.specs.Messages.{Written}
use Rattle.irc_line.specs.PartViews.{sender, words_now}
use Rattle.irc_line.specs.declared.reading.Message.{Message}
use Rattle.irc_line.specs.declared.writing.Prefix.{Prefix}
use Rattle.irc_crossing.specs.Hearing.{sender_again, written_with}

abbrev pub got_now : (words : List (Bor (List ℕ))) (place : ℕ)
    → optional_now (slice_get words place) ≡ slice_get (words_now words) place
got_now [] place = refl
got_now (word ∷ words) zero = refl
got_now (word ∷ words) (suc place) = got_now words place

abbrev pub written_as : (from : Option (List ℕ)) (message : Message)
    (words middle : List (Bor (List ℕ))) (prefix : Prefix)
    (last : Option (Bor (List ℕ))) → sender prefix ≡ sender_again from
    → middle ≡ take (length words - 1) words → optional_now last ≡ optional_now
    (slice_get words (length words - 1)) → Path Written (record {
      sender = sender prefix;
      command = message.command.now;
      middle = words_now middle;
      last = optional_now last;
    })
    (written_with from (parsed message) (words_now words))
written_as from message words middle prefix last sender_is middle_is last_is =
    let count : length words ≡ length (words_now words) =
    sym (length-map words (λ (word : Bor (List ℕ)). word.now)) in
    λ i. record {
      sender = sender_is i;
      command = message.command.now;
      middle = (ap words_now middle_is ∙ sym (take-map (λ (word : Bor (List ℕ)). word.now)
          (length words - 1) words) ∙ ap (λ n. take (n - 1) (words_now words)) count) i;
      last = (last_is ∙ got_now words (length words - 1)
          ∙ ap (λ n. slice_get (words_now words) (n - 1)) count) i;
    }
