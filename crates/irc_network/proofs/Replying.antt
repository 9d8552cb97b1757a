-- What a server replies, and what it is asked for.
use Rattle.std.proofs.Common.{◌≡◌, true, false, Option, Some, None, Result, List, [], refl, sym}
use Rattle.std.proofs.Common.{◌∙◌, ap, is_some, is_none, if◌then◌else◌}
use Rattle.std.specs.FinMap.{get}
use Rattle.irc_batch.specs.Batches.{Sent}
use Rattle.irc_server.specs.ReadEvents.{IsHandled, has_failed, read_event_of, refuses_it, takes_it}
use Rattle.irc_server.specs.ReadEvents.{wants_memory}
use Rattle.irc_server.specs.Served.{ReadEvent, fault_of, link_there, no_link, not_there, served}
use Rattle.irc_server.specs.Served.{there}
use Rattle.irc_server.specs.declared.event.Event.{Event}
use Rattle.irc_server.specs.declared.event.Event.TheVariants.{Connect, Line, Gone, LinkUp, LinkLine}
use Rattle.irc_server.specs.declared.event.Event.TheVariants.{LinkDown}
use Rattle.irc_server.specs.declared.event.ServerFault.{ServerFault}
use Rattle.irc_stage.specs.declared.clients.Client.{Client}
use Rattle.irc_stage.specs.View.{End, View}
use Rattle.irc_network.specs.Node.{Replies, Served, Node, serves_read_event, reply}
use Rattle.irc_network.specs.Loops.Nodes.{is_want}

-- ---- what is refused is not taken, and what is not refused is

module _ {X : Type 0} where
  pub is_there : (o : Option X) → is_none o ≡ false → is_some o ≡ true
  is_there None e = cc e
  is_there (Some x) e = refl

at_none : (o : Option Client) → there o ≡ None → is_none o ≡ true
at_none None e = refl
at_none (Some c) e = cc e

at_some : (o : Option Client) → not_there o ≡ None → is_some o ≡ true
at_some None e = cc e
at_some (Some c) e = refl

end_none : (o : Option End) → link_there o ≡ None → is_none o ≡ true
end_none None e = refl
end_none (Some c) e = cc e

end_some : (o : Option End) → no_link o ≡ None → is_some o ≡ true
end_some None e = cc e
end_some (Some c) e = refl

pub taken_then : (view : View) (event : Event) → fault_of view event ≡ None
    → serves_read_event view (read_event_of event) ≡ true
taken_then view (Connect conn host) e = at_none (get view.clients conn) e
taken_then view (Line conn line) e = at_some (get view.clients conn) e
taken_then view (Gone conn) e = at_some (get view.clients conn) e
taken_then view (LinkUp link starts) e = end_none (get view.ends link) e
taken_then view (LinkLine link line) e = end_some (get view.ends link) e
taken_then view (LinkDown link) e = end_some (get view.ends link) e

not_none : (o : Option Client) (f : ServerFault) → there o ≡ Some f → is_none o ≡ false
not_none None f e = cc e
not_none (Some c) f e = refl

not_some : (o : Option Client) (f : ServerFault) → not_there o ≡ Some f → is_some o ≡ false
not_some None f e = refl
not_some (Some c) f e = cc e

end_not_none : (o : Option End) (f : ServerFault) → link_there o ≡ Some f → is_none o ≡ false
end_not_none None f e = cc e
end_not_none (Some c) f e = refl

end_not_some : (o : Option End) (f : ServerFault) → no_link o ≡ Some f → is_some o ≡ false
end_not_some None f e = refl
end_not_some (Some c) f e = cc e

pub refused_then : (view : View) (event : Event) (f : ServerFault) → fault_of view event ≡ Some f
    → serves_read_event view (read_event_of event) ≡ false
refused_then view (Connect conn host) f e = not_none (get view.clients conn) f e
refused_then view (Line conn line) f e = not_some (get view.clients conn) f e
refused_then view (Gone conn) f e = not_some (get view.clients conn) f e
refused_then view (LinkUp link starts) f e = end_not_none (get view.ends link) f e
refused_then view (LinkLine link line) f e = end_not_some (get view.ends link) f e
refused_then view (LinkDown link) f e = end_not_some (get view.ends link) f e

-- ---- so a server that is asked replies

abbrev pub served_reply : View → ReadEvent → Served
served_reply view read_event =
    record { state = (served view read_event).state; out = (served view read_event).out }

taken_reply : (view : View) (event : Event) → fault_of view event ≡ None
    → reply view (read_event_of event) ≡ served_reply view (read_event_of event)
taken_reply view event e =
    ap (λ b. if b then served_reply view (read_event_of event)
    else (record { state = view; out = [] })) (taken_then view event e)

still_reply : (view : View) (event : Event) (f : ServerFault) → fault_of view event ≡ Some f
    → reply view (read_event_of event) ≡ record { state = view; out = [] }
still_reply view event f e =
    ap (λ b. if b then served_reply view (read_event_of event)
    else (record { state = view; out = [] })) (refused_then view event f e)

pub answered : {old new : Option View} {event : Event} {out : List Sent}
    {result : Result (Unit {0}) ServerFault}
    (node : Node) → node.server ≡ old → IsHandled old event [] result new out
    → is_want result ≡ false
    → Replies node (read_event_of event) (record node { server = new }) out
answered node at (takes_it {old = view} {event = event} none does) want = record {
  view = view;
  is_view = at;
  new_is = ap (λ (v : View). record node { server = Some v })
      (does.view_is ∙ ap (λ (r : Served). r.state) (sym (taken_reply view event none)));
  out_is = does.out_is ∙ ap (λ (r : Served). r.out) (sym (taken_reply view event none));
}
answered node at (refuses_it {old = view} {event = event} {fault = fault} is) want = record {
  view = view;
  is_view = at;
  new_is = ap (λ (v : View). record node { server = Some v })
      (ap (λ (r : Served). r.state) (sym (still_reply view event fault is)));
  out_is = ap (λ (r : Served). r.out) (sym (still_reply view event fault is));
}
answered node at (wants_memory none) want = cc want
answered node at has_failed want = cc want
