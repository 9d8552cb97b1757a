-- Over a list of events each connection receives what it is owed.
use Rattle.std.proofs.Common.{◌≡◌, Option, Some, Result, Ok, Err, List, [], ◌∷◌, ◌++◌, refl, sym}
use Rattle.std.proofs.Common.{◌∙◌, ap, append-nil, append_assoc, inl, inr, subst, OnOk}
use Rattle.std.proofs.lemmas.List.Elements.{filter_map-append}
use Rattle.irc_server.specs.declared.event.Event.{Event}
use Rattle.irc_batch.specs.Batches.{Sent}
use Rattle.irc_server.specs.declared.event.ServerFault.{ServerFault}
use Rattle.irc_stage.specs.View.{View}
use Rattle.irc_stage.specs.Handle.{ClientEvent}
use Rattle.irc_server.specs.Served.{ReadEvent, of_client, served}
use Rattle.irc_server.specs.ReadEvents.{read_event_of, Does, IsHandled, takes_it, AreHandled}
use Rattle.irc_server.specs.Owed.{line_to_conn, lines_to, after_all, lines_owed, AllReceive}
use Rattle.irc_server.specs.Owed.{AreOfClients, Receives}

receives_more : (view after : View) (event : Event) (client_event : ClientEvent)
    (left : List ClientEvent)
    (out out_between : List Sent) (new : Option View)
    (out_after : List Sent) → read_event_of event ≡ of_client client_event
    → Does view event out after out_between → Receives after left out_between new out_after
    → Receives view (client_event ∷ left) out new out_after
receives_more view after event client_event left out out_between new out_after event_is does later =
    let put = (served view (of_client client_event)).out in
    let view_is : after ≡ (served view (of_client client_event)).state =
    does.view_is ∙ ap (λ (o : ReadEvent). (served view o).state) event_is in
    let out_is : out_between ≡ out ++ put =
    does.out_is ∙ ap (λ (o : ReadEvent). out ++ (served view o).out) event_is in
    record {
      view_is = later.view_is ∙ ap (λ (v : View). Some (after_all v left)) view_is;
      received = λ conn.
          later.received conn
          ∙ ap (λ l. lines_to conn l ++ lines_owed conn after left) out_is
          ∙ ap (λ l. l ++ lines_owed conn after left)
          (filter_map-append (line_to_conn conn) out put)
          ∙ append_assoc (lines_to conn out) (lines_to conn put) (lines_owed conn after left)
          ∙ ap (λ (v : View). lines_to conn out
          ++ (lines_to conn put ++ lines_owed conn v left)) view_is;
    }

-- the first event is handled, and those behind it
by_between : {view : View} {event : Event} {out out_between : List Sent} {between : Option View}
    (client_event : ClientEvent) (events : List Event) (left : List ClientEvent)
    (new : Option View) (out_after : List Sent) → read_event_of event ≡ of_client client_event
    → ((after : View) → AreHandled (Some after) events out_between (Ok tt) new out_after
    → Receives after left out_between new out_after)
    → IsHandled (Some view) event out (Ok tt) between out_between
    → AreHandled between events out_between (Ok tt) new out_after
    → Receives view (client_event ∷ left) out new out_after
by_between {view = view} {event = event} {out = out} {out_between = out_between} client_event events
    left new out_after event_is later (takes_it {new = after} none does) more =
    receives_more view after event client_event left out out_between new out_after event_is does
    (later after more)

by_first : (view : View) (event : Event) (client_event : ClientEvent) (events : List Event)
    (left : List ClientEvent) (out : List Sent) (new : Option View) (out_after : List Sent)
    → read_event_of event ≡ of_client client_event → ((after : View) (out_between : List Sent)
    → AreHandled (Some after) events out_between (Ok tt) new out_after
    → Receives after left out_between new out_after) → AreHandled (Some view) (event ∷ events) out
    (Ok tt) new out_after → Receives view (client_event ∷ left) out new out_after
by_first view event client_event events left out new out_after event_is later (inl stops) =
    absurd (let is = stops.result_is in cc)
by_first view event client_event events left out new out_after event_is later (inr goes) =
    by_between client_event events left new out_after event_is
    (λ after more. later after goes.out_between more) goes.is_handled goes.left_is

head_is : {X : Type 0} (x y : X) (xs ys : List X) → x ∷ xs ≡ y ∷ ys → x ≡ y
head_is x y xs ys is = cc is

rest_is : {X : Type 0} (x y : X) (xs ys : List X) → x ∷ xs ≡ y ∷ ys → xs ≡ ys
rest_is x y xs ys is = cc is

pub receives : (view : View) (events : List Event) (client_events : List ClientEvent)
    (out : List Sent)
    (new : Option View) (out_after : List Sent) → AreOfClients events client_events → AreHandled
    (Some view) events out (Ok tt) new out_after → Receives view client_events out new out_after
receives view [] [] out new out_after are all = record {
  view_is = all.1;
  received = λ conn. ap (lines_to conn) all.2 ∙ sym (append-nil (lines_to conn out));
}
receives view [] (client_event ∷ left) out new out_after are all = absurd (cc are)
receives view (event ∷ events) [] out new out_after are all = absurd (cc are)
receives view (event ∷ events) (client_event ∷ left) out new out_after are all =
    by_first view event client_event events left out new out_after (head_is _ _ _ _ are)
    (λ after out_between more. receives after events left out_between new out_after
    (rest_is _ _ _ _ are) more) all

pub received_by : (result : Result (Unit {0}) ServerFault) (old : Option View)
    (events : List Event) (out : List Sent) (new : Option View) (out_after : List Sent)
    → AreHandled old events out result new out_after
    → OnOk result (AllReceive old events out new out_after)
received_by (Ok done) old events out new out_after all =
    λ view client_events is are. receives view events client_events out new out_after are
    (subst (λ (o : Option View). AreHandled o events out (Ok tt) new out_after) is all)
received_by (Err fault) old events out new out_after all = tt

-- in a loop over events: the first of those that are left

pub goes_on : (old between : Option View) (event : Event) (all events : List Event)
    (out out_between : List Sent) (first result : Result (Unit {0}) ServerFault)
    (new : Option View) (out_after : List Sent) → all ≡ event ∷ events → first ≡ Ok tt
    → IsHandled old event out first between out_between
    → AreHandled between events out_between result new out_after
    → AreHandled old all out result new out_after
goes_on old between event all events out out_between first result new out_after all_are first_is
    handles left =
    subst (λ es. AreHandled old es out result new out_after) (sym all_are)
    (inr (record {
      between = between;
      out_between = out_between;
      is_handled = subst (λ (r : Result (Unit {0}) ServerFault). IsHandled old event out r between
          out_between) first_is handles;
      left_is = left;
    }))

pub stops : (old : Option View) (event : Event) (all events : List Event) (out : List Sent)
    (first : Result (Unit {0}) ServerFault) (fault : ServerFault)
    (new : Option View) (out_after : List Sent) → all ≡ event ∷ events → first ≡ Err fault
    → IsHandled old event out first new out_after
    → AreHandled old all out (Err fault) new out_after
stops old event all events out first fault new out_after all_are first_is handles =
    subst (λ es. AreHandled old es out (Err fault) new out_after) (sym all_are)
    (inl (record {
      fault = fault;
      result_is = refl;
      is_refused = subst (λ (r : Result (Unit {0}) ServerFault). IsHandled old event out r new
          out_after) first_is handles;
    }))

pub none_left : (old : Option View) (all : List Event) (out : List Sent) → all ≡ []
    → AreHandled old all out (Ok tt) old out
none_left old all out none =
    subst (λ es. AreHandled old es out (Ok tt) old out) (sym none) (refl, refl, refl)
