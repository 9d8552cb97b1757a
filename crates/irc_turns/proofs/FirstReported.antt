-- The first of the queue is reported.
use Rattle.std.proofs.Common.{◌≡◌, ⊎_elim, ℕ, Bool, false, cond, Option, Some, None, List, []}
use Rattle.std.proofs.Common.{◌∷◌, length, drop, refl, sym, ◌∙◌, ap, subst, arith}
use Rattle.slab.specs.Slab.{with_value}
use Rattle.irc_turns.specs.declared.talkers.Report.{Report}
use Rattle.irc_turns.specs.declared.talkers.Report.TheVariants as report
use Rattle.irc_turns.specs.declared.round.Round.{Round}
use Rattle.irc_turns.specs.declared.talker.Talker.{Talker}
use Rattle.irc_turns.specs.Talking.{is_asked}
use Rattle.irc_turns.specs.Numbered.{NumberedTalkers, SameButQueue, talker_at, talker_changed_if}
use Rattle.irc_turns.specs.Numbered.{only, reason_for, held_for, IsHeldFor, talker_report}
use Rattle.irc_turns.specs.Numbered.{talker_heard, turn_read, ReportsOf, ReportsFirst}
use Rattle.irc_turns.specs.Rounds.{read_by}
use Rattle.irc_turns.specs.declared.holding.Reason.{Reason}

-- whoever is held back, the queue stays
same_queue : (why : Option Reason) (number now : ℕ) (old new : NumberedTalkers)
    → IsHeldFor why number now old new → new.queue ≡ old.queue
same_queue None number now old new same = ap (λ (s : NumberedTalkers). s.queue) same
same_queue (Some why) number now old new either =
    ⊎_elim (λ (e : new ≡ held_for why number now old). ap (λ (s : NumberedTalkers). s.queue) e)
    (λ (e : new ≡ old). ap (λ (s : NumberedTalkers). s.queue) e) either

-- what is reported of one that is held back, or not
pub reported : (old popped held new : NumberedTalkers) (number : ℕ) (behind : List ℕ)
    (round round_after : Round) (result : Option Report) → old.queue ≡ number ∷ behind → popped
    ≡ record old { queue = popped.queue }
    → IsHeldFor (reason_for popped round.began number) number round.began popped held
    → result ≡ talker_report number (talker_at held number) → new ≡ only talker_heard number held
    → round_after ≡ turn_read number (talker_at held number) round
    → ReportsFirst old new round result round_after
reported old popped held new number behind round round_after result queued is_popped is_held told
    left reader =
    subst (λ q. ReportsOf q old new round result round_after) (sym queued) record {
      held = held;
      is_held =
          subst (λ (s : NumberedTalkers). IsHeldFor (reason_for s round.began number) number
          round.began s held)
          (is_popped
          ∙ ap (λ q. record old { queue = q }) (sym (same_queue _ number round.began popped
          held is_held) ∙ sym (ap (λ (s : NumberedTalkers). s.queue) left)))
          is_held;
      result_is = told;
      left = left;
      reader_is = reader;
    }

-- a number under which there is no talker any more
pub none_there : (held : NumberedTalkers) (number : ℕ) → talker_at held number ≡ None
    → held ≡ only talker_heard number held
none_there held number none = sym (ap (λ o.
    record held { by_number = talker_changed_if talker_heard number held.by_number o }) none)

pub none_read : (held : NumberedTalkers) (number : ℕ) (round : Round) → talker_at held number ≡ None
    → round ≡ turn_read number (talker_at held number) round
none_read held number round none = sym (ap (λ o. turn_read number o round) none)

pub none_told : (held : NumberedTalkers) (number : ℕ) → talker_at held number ≡ None
    → None ≡ talker_report number (talker_at held number)
none_told held number none = sym (ap (talker_report number) none)

-- one that is asked, or is not
pub as_heard : (held : NumberedTalkers) (number : ℕ) (talker : Talker) (b : Bool)
    → talker_at held number ≡ Some talker → is_asked talker ≡ b → record held {
      by_number = with_value held.by_number number
          (cond b (record talker { is_readable = false; was_held = false }) talker);
    } ≡ only talker_heard number held
as_heard held number talker b there asked =
    sym (ap (λ o. record held
    { by_number = talker_changed_if talker_heard number held.by_number o }) there
    ∙ ap (λ v. record held {
      by_number = with_value held.by_number number
          (cond v (record talker { is_readable = false; was_held = false }) talker);
    }) asked)

pub as_told : (held : NumberedTalkers) (number : ℕ) (talker : Talker) (b : Bool)
    → talker_at held number ≡ Some talker → is_asked talker ≡ b
    → Some (cond b (report.Readable number) (report.Writable number)) ≡ talker_report number
    (talker_at held number)
as_told held number talker b there asked =
    sym (ap (talker_report number) there
    ∙ ap (λ v. Some (cond v (report.Readable number) (report.Writable number))) asked)

pub as_read : (held : NumberedTalkers) (number : ℕ) (talker : Talker) (b : Bool) (round : Round)
    → talker_at held number ≡ Some talker → is_asked talker ≡ b
    → cond b (read_by round number talker.is_client) round
    ≡ turn_read number (talker_at held number) round
as_read held number talker b round there asked =
    sym (ap (λ o. turn_read number o round) there
    ∙ ap (λ v. cond v (read_by round number talker.is_client) round) asked)

-- where nothing leaves the queue, nothing stood in it
none_first : (queue : List ℕ) → queue ≡ drop 1 queue → queue ≡ []
none_first [] same = refl
none_first (first ∷ behind) same = absurd (omega (arith, ap length same))

pub none_reported : (old new : NumberedTalkers) (round : Round) (result : Option Report)
    → old.queue ≡ drop 1 old.queue → result ≡ None → SameButQueue old new
    → ReportsFirst old new round result round
none_reported old new round result same none others =
    subst (λ q. ReportsOf q old new round result round) (sym (none_first old.queue same))
    (none, (others, refl))
