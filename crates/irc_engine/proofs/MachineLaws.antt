-- A server as what handles the events of an engine: who is connected to it behind an event, and
-- what it refuses.
use Rattle.std.proofs.Common.{◌≡◌, Option, Some, None, IfErr, OnOk, Result}
use Rattle.std.proofs.Common.{List, [], refl, sym, ◌∙◌, subst, append-nil}
use Rattle.std.specs.FinMap.{get}
use Rattle.std.proofs.Math.Bool.{and-true}
use Rattle.irc_batch.specs.Batches.{Sent}
use Rattle.irc_stage.specs.View.{End, View}
use Rattle.irc_server.specs.declared.event.Event.{Event}
use Rattle.irc_server.specs.declared.event.Event.TheVariants.{Connect, Line, Gone, LinkUp, LinkLine}
use Rattle.irc_server.specs.declared.event.Event.TheVariants.{LinkDown}
use Rattle.irc_server.specs.declared.event.ServerFault.{ServerFault}
use Rattle.irc_server.specs.Connected.{has_client, has_link, AreConnectedAfter, WhoIsConnected}
use Rattle.irc_server.specs.Own.{IsNewLink}
use Rattle.irc_server.specs.ReadEvents.{read_event_of, IsHandled, has_failed, refuses_it, takes_it}
use Rattle.irc_server.specs.ReadEvents.{wants_memory}
use Rattle.irc_server.specs.Served.{fault_of, link_there, served}
use Rattle.irc_engine.specs.Machines.{is_owed, ran_out_before, runs_out_now, AreConnectedBy}
use Rattle.irc_engine.specs.Machines.{AreStillConnected, IsConnectedBy, IsRefusal}
use Rattle.irc_engine.specs.Machines.{IsStillConnected}

no_end : (end : Option End) → link_there end ≡ None → end ≡ None
no_end None none = refl
no_end (Some end) none = cc none

-- a link that may be opened is not open yet
new_link : (view : View) (event : Event) → fault_of view event ≡ None
    → IsNewLink view (read_event_of event)
new_link view (Connect conn host) none = tt
new_link view (Line conn line) none = tt
new_link view (Gone conn) none = tt
new_link view (LinkUp link starts) none = no_end (get view.ends link) none
new_link view (LinkLine link line) none = tt
new_link view (LinkDown link) none = tt

as_put_out : (old : View) (event : Event)
    → AreConnectedAfter old (read_event_of event)
    → AreConnectedBy old (read_event_of event) (served old (read_event_of event)).out
    (served old (read_event_of event)).state
as_put_out old event after = record {
  clients = after.clients;
  links = after.links;
  clients_were_there = after.clients_were_there;
  links_were_there = after.links_were_there;
}

one_view : (a b : View) → Some a ≡ Some b → a ≡ b
one_view a b same = cc same

pub server_connects : WhoIsConnected → (event : Event) (server after : Option View)
    (before outs : List Sent) (result : Result (Unit {0}) ServerFault)
    → IsHandled server event before result after outs
    → OnOk result (IsConnectedBy server event before after outs)
server_connects law event server after before outs result
    (takes_it {old = view} {new = view_after} none does) = record {
      outs = (served view (read_event_of event)).out;
      after_is = does.out_is;
      connected = λ behind is. (
        view,
        refl,
        subst (λ (v : View). AreConnectedBy view (read_event_of event)
            (served view (read_event_of event)).out v)
            (sym does.view_is ∙ one_view view_after behind is)
            (as_put_out view event (law view (read_event_of event) (new_link view event none))),
      );
    }
server_connects law event server after before outs result (refuses_it is) = tt
server_connects law event server after before outs result (wants_memory none) = tt
server_connects law event server after before outs result has_failed = tt

pub server_refuses : (event : Event) (server after : Option View)
    (before outs : List Sent) (result : Result (Unit {0}) ServerFault)
    → IsHandled server event before result after outs → IfErr result (IsRefusal server event)
server_refuses event server after before outs result (takes_it none does) = tt
server_refuses event server after before outs result (refuses_it {old = view} {fault = fault} is) =
    is_owed view fault refl is
server_refuses event server after before outs result (wants_memory none) = runs_out_now
server_refuses event server after before outs result has_failed = ran_out_before

-- ---- nothing is due

still_all : (view : View) → AreStillConnected view [] view
still_all view = record {
  clients = λ conn. sym (and-true (has_client view conn));
  links = λ link. sym (and-true (has_link view link));
  clients_were_there = λ conn ended. cc ended;
  links_were_there = λ link ended. cc ended;
}

pub server_stays : (server : Option View) (before : List Sent)
    → IsStillConnected server before server before
server_stays server before = record {
  outs = [];
  after_is = sym (append-nil before);
  connected = λ behind is. (behind, is, still_all behind);
}
