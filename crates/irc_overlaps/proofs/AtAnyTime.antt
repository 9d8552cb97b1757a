-- What a server does not refuse can happen, whatever is on its way.
use Rattle.std.proofs.Common.{◌≡◌, true, false, Some, None, Ok, List, [], refl, sym}
use Rattle.std.proofs.Common.{subst}
use Rattle.irc_batch.specs.Batches.{Sent}
use Rattle.irc_relay.specs.Links.{Name}
use Rattle.irc_server.specs.declared.event.Event.{Event}
use Rattle.irc_server.specs.declared.event.Event.TheVariants.{Connect, Line, Gone, LinkUp, LinkLine}
use Rattle.irc_server.specs.declared.event.Event.TheVariants.{LinkDown}
use Rattle.irc_server.specs.ReadEvents.{IsHandled, read_event_of, takes_it}
use Rattle.irc_server.specs.Served.{fault_of, served}
use Rattle.irc_stage.specs.View.{View}
use Rattle.irc_layer.specs.Ends.{ends_followed, Ends}
use Rattle.irc_layer.specs.Layers.{by_itself, is_heard, LayerView, passes}
use Rattle.irc_layer.specs.Putting.{all_put, ends_behind_all}
use Rattle.irc_overlaps.specs.Networks.{Net, all_sent_out, with_layer, without_end}
use Rattle.irc_overlaps.specs.Steps.{HasHandled, IsGiven, is_of_client}
use Rattle.irc_overlaps.specs.Laws.{GivenAtAnyTime, LostAtAnyTime}

module _ (layer : LayerView) (event : Event) (view : View) where
  -- what the server puts out, what the layer makes of it, and the layer then
  abbrev served_out : List Sent
  served_out = (served view (read_event_of event)).out

  abbrev followed : Ends
  followed = ends_followed event layer.plain layer.ends

  abbrev pub outs_then : List Sent
  outs_then = all_put by_itself served_out followed

  abbrev pub layer_then : LayerView
  layer_then = record {
    server = Some (served view (read_event_of event)).state;
    ends = ends_behind_all by_itself served_out followed;
    plain = layer.plain;
  }

  taken : fault_of view event ≡ None → IsHandled (Some view) event [] (Ok tt)
      (Some (served view (read_event_of event)).state) served_out
  taken none = takes_it none (record { view_is = refl; out_is = refl })

  pub handled : layer.server ≡ Some view → is_heard event layer.ends ≡ false
      → fault_of view event ≡ None → HasHandled layer event outs_then layer_then
  handled server silent none = passes silent (record {
    outs = served_out;
    is_handled = subst (λ old. IsHandled old event [] (Ok tt)
        (Some (served view (read_event_of event)).state) served_out) (sym server) (taken none);
    ends_are = refl;
    plain_is = refl;
    outs_are = refl;
  })

-- the network in which a server has been given an event
abbrev pub given_then : Name → Event → View → Net → Net
given_then s event view net = all_sent_out s (outs_then (net.layer s) event view)
    (with_layer s (layer_then (net.layer s) event view) net)

pub is_given : (s : Name) (event : Event) (view : View) (net : Net)
    → (net.layer s).server ≡ Some view → is_heard event (net.layer s).ends ≡ false
    → fault_of view event ≡ None → IsGiven s event net (given_then s event view net)
is_given s event view net server silent none = record {
  layer = layer_then (net.layer s) event view;
  outs = outs_then (net.layer s) event view;
  handled = handled (net.layer s) event view server silent none;
  new_is = refl;
}

unheard : (event : Event) (ends : Ends) → is_of_client event ≡ true → is_heard event ends ≡ false
unheard (Connect conn host) ends e = refl
unheard (Line conn line) ends e = refl
unheard (Gone conn) ends e = refl
unheard (LinkUp n called) ends e = refl
unheard (LinkLine n line) ends e = cc
unheard (LinkDown n) ends e = refl

pub given_at_any_time : GivenAtAnyTime
given_at_any_time s event view old server client none = record {
  new = given_then s event view old;
  given = record {
    of_client = client;
    is_given = is_given s event view old server (unheard event (old.layer s).ends client) none;
  };
}

pub lost_at_any_time : LostAtAnyTime
lost_at_any_time s n view old server there none = record {
  new = given_then s (LinkDown n) view (without_end s n old);
  lost = record {
    there = there;
    is_given = is_given s (LinkDown n) view (without_end s n old) server refl none;
  };
}
