-- The example.
use Rattle.std.proofs.Common.{◌≡◌, ◌≢◌, ℕ, false, Some, None, codes, refl}
use Rattle.std.proofs.Common.{ap}
use Rattle.std.specs.FinMap.{get-empty}
use Rattle.std.specs.Ordering.{nat_cmp}
use Rattle.irc_line.specs.Bytes.{cut}
use Rattle.irc_line.specs.Messages.{line_text}
use Rattle.irc_line.specs.Reading.{read_of}
use Rattle.irc_relay.specs.Links.{Name, links_without, part, same}
use Rattle.irc_relay.specs.Lemmas.TellingNames.{same_when}
use Rattle.irc_server.specs.declared.event.Event.{Event}
use Rattle.irc_server.specs.declared.event.Event.TheVariants.{Connect, LinkUp}
use Rattle.irc_server.specs.ReadEvents.{read_event_of}
use Rattle.irc_server.specs.Served.{fault_of, link_there, served, there}
use Rattle.irc_stage.specs.ClientTold.{client_told}
use Rattle.irc_stage.specs.Lemmas.Alone.{knows_no_other}
use Rattle.irc_stage.specs.declared.clients.Client.{Client}
use Rattle.irc_stage.specs.View.{End, View}
use Rattle.irc_overlaps.specs.Networks.{Net, end_at, joining}
use Rattle.irc_overlaps.specs.Rest.{IsEndQuiet, IsNew}
use Rattle.irc_overlaps.specs.Steps.{Run, no_step, one_step}
use Rattle.irc_overlaps.specs.Examples.{CallIsClosed, CallIsOnItsWay, a_net, b_net, calls}
use Rattle.irc_overlaps.specs.Examples.{new_server, start, wrong_call, x_net}
use Rattle.irc_overlaps.proofs.AtAnyTime.{given_then, is_given}
use Rattle.irc_overlaps.proofs.AtEnds.{no_end}

differ : (s t : Name) → same s t ≡ false → s ≢ t
differ s t f e = let w = same_when s t e in cc

abbrev call : Event
call = LinkUp 3 (Some b_net)

abbrev called : Net
called = given_then a_net call (new_server a_net) (joining a_net 3 b_net 4 start)

abbrev linked : Net
linked = given_then b_net (LinkUp 4 None) (new_server b_net) called

-- b.net has an end then
abbrev meeting : View
meeting = (served (new_server b_net) (read_event_of (LinkUp 4 None))).state

abbrev come : Event
come = Connect 1 (codes "h")

no_link : (s : Name) (n : ℕ) (starts : _) → fault_of (new_server s) (LinkUp n starts) ≡ None
no_link s n starts = ap link_there (get-empty {X = End} nat_cmp n)

called_layer : (called.layer b_net).server ≡ Some (new_server b_net)
unfolding served read_of line_text cut
called_layer = refl

linked_layer : (linked.layer b_net).server ≡ Some meeting
unfolding served read_of line_text cut
linked_layer = refl

nobody : fault_of meeting come ≡ None
unfolding served
nobody = ap there (get-empty {X = Client} nat_cmp 1)

begins : IsNew start
begins = record {
  no_links = refl;
  layers = λ s. record {
    view = new_server s;
    server_is = refl;
    named = refl;
    alone = record {
      no_ends = refl;
      no_others = knows_no_other s (new_server s).routes.about;
    };
    no_clients = refl;
    empty_room = refl;
    no_ends = refl;
  };
  no_ends = refl;
  none_coming = refl;
  none_told = refl;
  none_closed = refl;
}

run : Run calls start (given_then b_net come meeting linked)
unfolding part
run = one_step (record {
  apart = differ a_net b_net refl;
  near_free = refl;
  far_free = refl;
  between = called;
  near_given = is_given a_net call (new_server a_net) (joining a_net 3 b_net 4 start) refl refl
      (no_link a_net 3 (Some b_net));
  far_given = is_given b_net (LinkUp 4 None) (new_server b_net) called called_layer refl
      (no_link b_net 4 None);
}) (one_step (record {
  of_client = refl;
  is_given = is_given b_net come meeting linked linked_layer refl nobody;
}) no_step)

pub call_is_on_its_way : CallIsOnItsWay
unfolding served client_told read_of line_text cut
call_is_on_its_way = record {
  begins = begins;
  net = given_then b_net come meeting linked;
  run = run;
  linked = refl;
  are_one = record { forth = refl; back = refl };
  coming = refl;
  none_back = refl;
}

-- ---- a call that is closed

abbrev to_nobody : Event
to_nobody = LinkUp 3 (Some x_net)

abbrev given_up : Net
given_up = given_then a_net to_nobody (new_server a_net) (joining a_net 3 x_net 4 start)

abbrev left_open : Net
left_open = given_then x_net (LinkUp 4 None) (new_server x_net) given_up

given_up_layer : (given_up.layer x_net).server ≡ Some (new_server x_net)
unfolding served
given_up_layer = refl

wrong_run : Run wrong_call start left_open
unfolding part
wrong_run = one_step (record {
  apart = differ a_net x_net refl;
  near_free = refl;
  far_free = refl;
  between = given_up;
  near_given = is_given a_net to_nobody (new_server a_net) (joining a_net 3 x_net 4 start) refl refl
      (no_link a_net 3 (Some x_net));
  far_given = is_given x_net (LinkUp 4 None) (new_server x_net) given_up given_up_layer refl
      (no_link x_net 4 None);
}) no_step

near_is_gone : left_open.other a_net 3 ≡ None
unfolding served
near_is_gone = refl

far_is_there : left_open.other x_net 4 ≡ Some (end_at a_net 3)
unfolding served
far_is_there = refl

still_told : IsEndQuiet left_open x_net 4 → ⊥
still_told quiet = no_end (left_open.other a_net 3) x_net 4 near_is_gone
    (quiet.whole a_net 3 far_is_there).back

pub call_is_closed : CallIsClosed
unfolding served links_without
call_is_closed = record {
  net = left_open;
  run = wrong_run;
  no_link = refl;
  near_gone = near_is_gone;
  far_there = far_is_there;
  not_quiet = still_told;
  closing = refl;
}
