-- Where nothing is asked, a doorman is its machine.
use Rattle.std.proofs.Common.{◌≡◌, ℕ, Bool, true, false, nat_eq, Option, Some, None, Result, Ok}
use Rattle.std.proofs.Common.{List, [], ◌++◌, refl, sym, ◌∙◌, ap, append-nil, subst}
use Rattle.std.proofs.Common.{if◌then◌else◌}
use Rattle.std.specs.Option.{option_map}
use Rattle.irc_batch.specs.Batches.{Sent}
use Rattle.irc_stage.specs.View.{View}
use Rattle.irc_server.specs.declared.event.Event.{Event}
use Rattle.irc_server.specs.declared.event.Event.TheVariants.{Connect, Line, Gone, LinkUp, LinkLine}
use Rattle.irc_server.specs.declared.event.Event.TheVariants.{LinkDown}
use Rattle.irc_engine.specs.Machines.{Dues, Handles, IsDue}
use Rattle.irc_doorman.specs.declared.asks.Asks.{Asks}
use Rattle.irc_doorman.specs.declared.doorman.Doorman.{Doorman}
use Rattle.irc_doorman.specs.declared.guest.Fate.{Fate}
use Rattle.irc_doorman.specs.declared.guest.Fate.TheVariants.{Passes}
use Rattle.irc_doorman.specs.declared.guest.Guest.{Guest}
use Rattle.irc_doorman.specs.Doormen.{admits, change_guest, conn_of, fate_at, given, guest_at}
use Rattle.irc_doorman.specs.Doormen.{guests_behind, is_there, line_fate, nobody, passes, silent_at}
use Rattle.irc_doorman.specs.Doormen.{state_of, state_with, told, watches, with_guest, AreAsked}
use Rattle.irc_doorman.specs.Doormen.{Guests, IsPassed, KnowsNobody, PassesAll, State}
use Rattle.irc_doorman.specs.Doormen.{WatchesNobody}
use Rattle.irc_doorman.specs.Guests.{asks_anything, new_guest}

none : Guests
none conn = None

passes_by : (there : Bool) (guest : Option Guest) (line : List ℕ) → guest ≡ None
    → line_fate there guest line ≡ Passes
passes_by true None line is = refl
passes_by true (Some guest) line is = cc is
passes_by false guest line is = refl

fate_is : (server : Option View) (guests : Guests) (event : Event)
    → ((conn : ℕ) → guests conn ≡ None) → fate_at server guests event ≡ Passes
fate_is server guests (Line conn line) empty =
    passes_by (is_there server conn) (guests conn) line.items (empty conn)
fate_is server guests (Connect conn host) empty = refl
fate_is server guests (Gone conn) empty = refl
fate_is server guests (LinkUp link name) empty = refl
fate_is server guests (LinkLine link line) empty = refl
fate_is server guests (LinkDown link) empty = refl

still_none : (b : Bool) (change : Guest → Guest) (guest : Option Guest) → guest ≡ None
    → (if b then option_map change guest else guest) ≡ None
still_none true change None is = refl
still_none true change (Some guest) is = cc is
still_none false change guest is = is

left_none : (b : Bool) (guest : Option Guest) → guest ≡ None
    → (if b then None else guest) ≡ None
left_none true guest is = refl
left_none false guest is = is

not_new : (b : Bool) (more guests : Guests) (conn : ℕ) → b ≡ false → guests conn ≡ None
    → (if b then more else guests) conn ≡ None
not_new true more guests conn off is = cc off
not_new false more guests conn off is = is

nobody_behind : (asks : Asks) (moment : ℕ) (event : Event) (guests : Guests)
    → asks_anything asks ≡ false → ((conn : ℕ) → guests conn ≡ None) → (q : ℕ)
    → guests_behind asks moment event guests q ≡ None
nobody_behind asks moment (Connect conn host) guests off empty q =
    not_new (asks_anything asks) (with_guest conn (Some (new_guest asks moment)) guests) guests q
    off (empty q)
nobody_behind asks moment (Line conn line) guests off empty q =
    still_none (nat_eq conn q) _ (guests q) (empty q)
nobody_behind asks moment (Gone conn) guests off empty q =
    left_none (nat_eq conn q) (guests q) (empty q)
nobody_behind asks moment (LinkUp link name) guests off empty q = empty q
nobody_behind asks moment (LinkLine link line) guests off empty q = empty q
nobody_behind asks moment (LinkDown link) guests off empty q = empty q

module _ {M : Type 0} (server_of : M → Option View) (handles : Handles M) where
  passed_all : (old new : Doorman M) (event : Event) (before between : List Sent)
      → asks_anything old.asks ≡ false → KnowsNobody old
      → IsPassed handles old event before (Ok tt) new between
      → handles old.machine event before (Ok tt) new.machine between × KnowsNobody new
  passed_all old new event before between off empty (passes done known same) = (
    done,
    known ∙ (λ i q. nobody_behind old.asks old.moment event (guest_at old.guests) off
        (λ conn. ap (λ guests. guests conn) empty) q i),
  )

  pub passes_all : PassesAll server_of handles
  passes_all old new event before after off empty (admits fate between is passed said) =
      let so : fate ≡ Passes = is ∙ fate_is (server_of old.machine) (guest_at old.guests) event
      (λ conn. ap (λ guests. guests conn) empty) in
      let by : IsPassed handles old event before (Ok tt) new between =
      subst (λ (f : Fate). IsPassed handles old (given f event) before (Ok tt) new between) so
      passed in
      let same : after ≡ between = said ∙ ap (λ (f : Fate). between ++ told old.asks f
      (conn_of event)) so ∙ append-nil between in
      let all = passed_all old new event before between off empty by in (
        subst (λ outs. handles old.machine event before (Ok tt) new.machine outs) (sym same) all.0,
        all.1,
      )

  none_asked : (asks : Asks) (moment : ℕ) (conns : List ℕ) (old new : State M) → conns ≡ []
      → AreAsked server_of handles asks moment conns old new → new ≡ old
  none_asked asks moment conns old new empty asked = by old new
      (subst (λ some. AreAsked server_of handles asks moment some old new) empty asked)
    where
      by : (old new : State M) → AreAsked server_of handles asks moment [] old new → new ≡ old
      by old new nobody = refl

  pub watches_nobody : (dues : Dues M) → WatchesNobody server_of handles dues
  watches_nobody dues old new moment before after off (watches machine between due asked a b c) =
      let same : state_with new after ≡ state_of machine (guest_at old.guests) between =
      none_asked old.asks moment
      (silent_at old.asks.ping_after old.next_look moment old.guests)
      (state_of machine (guest_at old.guests) between) (state_with new after)
      (ap (λ seconds. silent_at seconds old.next_look moment old.guests) off) asked in (
        subst (λ (s : State M). IsDue dues old.machine moment before (Ok tt) s.machine s.outs)
            (sym same) due,
        ap (λ (s : State M). s.guests) same,
      )
