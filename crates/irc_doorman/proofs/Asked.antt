-- A client that is silent is asked.
use Rattle.std.proofs.Common.{◌≡◌, ℕ, Bool, true, false, Option, Some, None, Result, Ok, Err, OnOk}
use Rattle.std.proofs.Common.{List, [], ◌∷◌, ◌++◌, refl, sym, ◌∙◌, ap, subst}
use Rattle.std.specs.Option.{option_map}
use Rattle.std.proofs.lemmas.Option.{same_Some}
use Rattle.irc_line.specs.Messages.{text}
use Rattle.irc_batch.specs.Batches.{Batch, Sent, line_to, put_line}
use Rattle.irc_stage.specs.View.{View}
use Rattle.irc_engine.specs.Machines.{Handles, IsStillConnected}
use Rattle.irc_engine.specs.Lemmas.Stills.{nobody_goes_by}
use Rattle.irc_doorman.specs.declared.asks.Asks.{Asks}
use Rattle.irc_doorman.specs.declared.guest.Guest.{Guest}
use Rattle.irc_doorman.specs.Doormen.{asks_it, change_guest, ends_it, is_gone, is_there}
use Rattle.irc_doorman.specs.Doormen.{quits, state_of, with_guest, with_guests, Guests, IsAsked}
use Rattle.irc_doorman.specs.Doormen.{State}
use Rattle.irc_doorman.specs.Guests.{guest_asked}
use Rattle.irc_doorman.specs.Texts.{ping}

-- one of whom it is known whether it was asked is known
pub record IsKnown (guest : Option Guest) (was_asked : Bool) : Type 0 where
  pub known : Guest
  pub guest_is : guest ≡ Some known
  pub asked_is : known.is_asked ≡ was_asked

pub known_by : (guest : Option Guest) (answer : Option Bool) (was_asked : Bool)
    → answer ≡ option_map (λ (one : Guest). one.is_asked) guest → answer ≡ Some was_asked
    → IsKnown guest was_asked
known_by (Some guest) (Some b) was_asked by is = record {
  known = guest;
  guest_is = refl;
  asked_is = same_Some _ _ (sym by ∙ is);
}
known_by (Some guest) None was_asked by is = cc is
known_by None answer was_asked by is = cc (sym by ∙ is)

pub unknown_by : (guest : Option Guest) (answer : Option Bool)
    → answer ≡ option_map (λ (one : Guest). one.is_asked) guest → answer ≡ None → guest ≡ None
unknown_by (Some guest) answer by is = cc (sym by ∙ is)
unknown_by None answer by is = refl

module _ {M : Type 0} (server_of : M → Option View) (handles : Handles M) (asks : Asks)
    (moment conn : ℕ) (old : State M) where
  pub gone : (guests : Guests) → is_there (server_of old.machine) conn ≡ false
      → guests ≡ with_guest conn None old.guests
      → IsAsked server_of handles asks moment conn old (with_guests guests old)
  gone guests none is =
      subst (λ g. IsAsked server_of handles asks moment conn old (with_guests g old)) (sym is)
      (is_gone none)

  pub ended : {E : Type 0} (r : Result (Unit {0}) E) (new : State M) (guest : Option Guest)
      → is_there (server_of old.machine) conn ≡ true → old.guests conn ≡ guest → IsKnown guest true
      → OnOk r (handles old.machine (quits conn) old.outs (Ok tt) new.machine new.outs)
      → new.guests ≡ with_guest conn None old.guests
      → OnOk r (IsAsked server_of handles asks moment conn old new)
  ended (Ok _) new guest there is known by guests_are =
      ends_it known.known new there (is ∙ known.guest_is) known.asked_is by guests_are
  ended (Err e) new guest there is known by guests_are = tt

  pub asked : {E : Type 0} (r : Result (Unit {0}) E) (guests : Guests) (outs : List Sent)
      (guest : Option Guest) → is_there (server_of old.machine) conn ≡ true
      → old.guests conn ≡ guest → IsKnown guest false
      → guests ≡ change_guest conn (guest_asked moment) old.guests
      → OnOk r (outs ≡ old.outs ++ line_to conn (text (ping asks.server)) ∷ [])
      → OnOk r (IsAsked server_of handles asks moment conn old (state_of old.machine guests outs))
  asked (Ok _) guests outs guest there is known guests_are said =
      subst (λ g. IsAsked server_of handles asks moment conn old (state_of old.machine g outs))
      (sym guests_are)
      (subst (λ o. IsAsked server_of handles asks moment conn old
      (state_of old.machine (change_guest conn (guest_asked moment) old.guests) o)) (sym said)
      (asks_it known.known there (is ∙ known.guest_is) known.asked_is))
  asked (Err e) guests outs guest there is known guests_are said = tt

pub still_said : {E : Type 0} (r : Result (Unit {0}) E) (server : Option View)
    (before after : List Sent) (conn : ℕ) (line : List ℕ)
    → OnOk r (after ≡ before ++ line_to conn line ∷ [])
    → OnOk r (IsStillConnected server before server after)
still_said (Ok _) server before after conn line is =
    nobody_goes_by server before (line_to conn line ∷ []) after (λ q. refl) (λ q. refl) is
still_said (Err e) server before after conn line is = tt

-- what is put out of a batch
pub put_said : {E : Type 0} (r : Result (Unit {0}) E) (new old : Batch) (conn : ℕ)
    (line said : List ℕ) → line ≡ said → OnOk r (new ≡ put_line (λ x. line_to conn x) line old)
    → OnOk r (new.outs ≡ old.outs ++ line_to conn said ∷ [])
put_said (Ok _) new old conn line said is put =
    ap (λ (b : Batch). b.outs) put ∙ ap (λ l. old.outs ++ line_to conn l ∷ []) is
put_said (Err e) new old conn line said is put = tt
