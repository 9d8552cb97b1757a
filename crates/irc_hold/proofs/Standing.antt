-- Who is connected where a line is kept, or the machine is given a kept one in its place; and why
-- that is refused.
use Rattle.std.proofs.Common.{◌≡◌, ℕ, Option, None, Some, Result, Ok, Err, IfErr, OnOk, List, refl}
use Rattle.std.proofs.Common.{sym, subst}
use Rattle.arrayvec.specs.ArrayVec.{ArrayVec}
use Rattle.irc_batch.specs.Batches.{Sent}
use Rattle.irc_stage.specs.View.{View}
use Rattle.irc_server.specs.declared.event.Event.{Event}
use Rattle.irc_server.specs.declared.event.Event.TheVariants.{Connect, Line, Gone, LinkUp, LinkLine}
use Rattle.irc_server.specs.declared.event.Event.TheVariants.{LinkDown}
use Rattle.irc_server.specs.declared.event.ServerFault.{ServerFault}
use Rattle.irc_engine.specs.Machines.{is_owed, ran_out_before, runs_out_now, IsConnectedBy}
use Rattle.irc_engine.specs.Machines.{IsRefusal}
use Rattle.irc_engine.specs.Lemmas.Stills.{event_by_still, nobody_goes, still_by_event}
use Rattle.irc_hold.specs.declared.hold.Hold.{Hold}
use Rattle.irc_hold.specs.declared.hold.Negotiations.{Negotiations}
use Rattle.irc_hold.specs.declared.line.Fate.TheVariants.{Keeps, Ends}
use Rattle.irc_hold.specs.Holds.{fate_at, fate_by, has_no_room, held_at, in_place_of}
use Rattle.irc_hold.specs.Holds.{keeps, Helds, IsKept}

-- ---- by one line of a client as by another

line_as : (conn : ℕ) (one other : ArrayVec ℕ) (server after : Option View)
    (before end : List Sent) → IsConnectedBy server (Line conn one) before after end
    → IsConnectedBy server (Line conn other) before after end
line_as conn one other server after before end by =
    event_by_still (Line conn other) (λ q. refl) (λ q. refl) (λ q. refl) (λ q. refl) server after
    before end
    (still_by_event (Line conn one) (λ q. refl) (λ q. refl) (λ q. refl) (λ q. refl) server after
    before end by)

owed_as : (conn : ℕ) (one other : ArrayVec ℕ) (server : Option View) (fault : ServerFault)
    → IsRefusal server (Line conn one) fault → IsRefusal server (Line conn other) fault
owed_as conn one other server fault runs_out_now = runs_out_now
owed_as conn one other server fault ran_out_before = ran_out_before
owed_as conn one other server fault (is_owed view f server_is owed) =
    is_owed view f server_is owed

quiet_line : (conn : ℕ) (line : ArrayVec ℕ) (server : Option View) (before : List Sent)
    → IsConnectedBy server (Line conn line) before server before
quiet_line conn line server before =
    event_by_still (Line conn line) (λ q. refl) (λ q. refl) (λ q. refl) (λ q. refl) server server
    before before (nobody_goes server before)

-- ---- a kept line in place of another, and a line that is kept

data IsLine (event : Event) : Type 0 where
  is_line : (conn : ℕ) (line : ArrayVec ℕ) → event ≡ Line conn line → IsLine event

by_kept : (event : Event) → IsLine event → (kept : Option (ArrayVec ℕ))
    (server after : Option View) (before end : List Sent)
    → IsConnectedBy server (in_place_of event kept) before after end
    → IsConnectedBy server event before after end
by_kept event of_client None server after before end by = by
by_kept event (is_line conn line is) (Some other) server after before end by =
    subst (λ e. IsConnectedBy server e before after end) (sym is)
    (line_as conn other line server after before end
    (subst (λ e. IsConnectedBy server (in_place_of e (Some other)) before after end) is by))

owed_kept : (event : Event) → IsLine event → (kept : Option (ArrayVec ℕ))
    (server : Option View) (fault : ServerFault)
    → IsRefusal server (in_place_of event kept) fault → IsRefusal server event fault
owed_kept event of_client None server fault owed = owed
owed_kept event (is_line conn line is) (Some other) server fault owed =
    subst (λ e. IsRefusal server e fault) (sym is) (owed_as conn other line server fault
    (subst (λ e. IsRefusal server (in_place_of e (Some other)) fault) is owed))

nobody_by : (event : Event) → IsLine event → (server : Option View) (before : List Sent)
    → IsConnectedBy server event before server before
nobody_by event (is_line conn line is) server before =
    subst (λ e. IsConnectedBy server e before server before) (sym is)
    (quiet_line conn line server before)

-- ---- which events have these fates

module _ (negotiations : Negotiations) (helds : Helds) (server : Option View) where
  ends_line : (event : Event) → Ends ≡ fate_at negotiations server helds event → IsLine event
  ends_line (Line conn line) is = is_line conn line refl
  ends_line (Connect conn host) is = cc is
  ends_line (Gone conn) is = cc is
  ends_line (LinkUp link name) is = cc is
  ends_line (LinkLine link line) is = cc is
  ends_line (LinkDown link) is = cc is

  keeps_line : (event : Event) → Keeps ≡ fate_at negotiations server helds event → IsLine event
  keeps_line (Line conn line) is = is_line conn line refl
  keeps_line (Connect conn host) is = cc is
  keeps_line (Gone conn) is = cc is
  keeps_line (LinkUp link name) is = cc is
  keeps_line (LinkLine link line) is = cc is
  keeps_line (LinkDown link) is = cc is

  pub released_connected : (event : Event) → Ends ≡ fate_at negotiations server helds event
      → (kept : Option (ArrayVec ℕ)) (after : Option View) (before end : List Sent)
      (r : Result (Unit {0}) ServerFault)
      → OnOk r (IsConnectedBy server (in_place_of event kept) before after end)
      → OnOk r (IsConnectedBy server event before after end)
  released_connected event is kept after before end (Ok _) by =
      by_kept event (ends_line event is) kept server after before end by
  released_connected event is kept after before end (Err fault) by = tt

  pub released_refused : (event : Event) → Ends ≡ fate_at negotiations server helds event
      → (kept : Option (ArrayVec ℕ)) (r : Result (Unit {0}) ServerFault)
      → IfErr r (IsRefusal server (in_place_of event kept)) → IfErr r (IsRefusal server event)
  released_refused event is kept (Ok _) owed = tt
  released_refused event is kept (Err fault) owed =
      owed_kept event (ends_line event is) kept server fault owed

module _ {M : Type 0} (server_of : M → Option View) (old new : Hold M) (event : Event) where
  pub kept_connected : Keeps ≡ fate_by server_of old event → (before : List Sent)
      (r : Result (Unit {0}) ServerFault) → IsKept server_of Keeps old event r new
      → OnOk r (IsConnectedBy (server_of old.machine) event before (server_of new.machine) before)
  kept_connected is before r (keeps same helds_are alike) =
      subst (λ m. IsConnectedBy (server_of old.machine) event before (server_of m) before)
      (sym same) (nobody_by event
      (keeps_line old.negotiations (held_at old.helds) (server_of old.machine) event is)
      (server_of old.machine) before)
  kept_connected is before r (has_no_room same takes) = tt

  pub kept_refused : (r : Result (Unit {0}) ServerFault) → IsKept server_of Keeps old event r new
      → IfErr r (IsRefusal (server_of old.machine) event)
  kept_refused r (keeps same helds_are alike) = tt
  kept_refused r (has_no_room same takes) = runs_out_now
