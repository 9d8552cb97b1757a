-- Whatever is served, just the link by which a line came is closed that has a reason to be, or one
-- that is opened to nobody known.
use Rattle.std.proofs.Common.{◌≡◌, Bool, true, false, List, [], ◌∷◌, ◌++◌, refl, append-nil, ◌∙◌}
use Rattle.std.proofs.Common.{ap}
use Rattle.std.proofs.lemmas.List.Elements.{filter_map-append}
use Rattle.std.specs.List.{list_all}
use Rattle.irc_batch.specs.Batches.{Sent, end_of, end_of_link, line_on, line_to}
use Rattle.irc_stage.specs.View.{View}
use Rattle.irc_stage.specs.EffectTold.{Served}
use Rattle.irc_server.specs.Served.{ReadEvent}
use Rattle.irc_server.specs.Closings.{ServedClosesItsOwn, closing_of, link_closings}
use Rattle.irc_server.specs.Moves.{Closings, IsServed}
use Rattle.irc_server.specs.Lemmas.ServedByMoves.{served_by_moves}
use Rattle.irc_server.proofs.AllServed.{IsKeptWhenServed, served_so}

-- whether it closes no link, as a test
abbrev is_no_closing : Sent → Bool
is_no_closing (end_of_link link why) = false
is_no_closing other = true

none_closed : (sent : List Sent) → list_all is_no_closing sent ≡ true → link_closings sent ≡ []
none_closed [] all = refl
none_closed (line_to conn line ∷ sent) all = none_closed sent all
none_closed (end_of conn ∷ sent) all = none_closed sent all
none_closed (line_on link line ∷ sent) all = none_closed sent all
none_closed (end_of_link link why ∷ sent) all = absurd (cc all)

-- closings that were there are all of them still, behind what closes no link
closes_behind : (closed : Closings) (out sent : List Sent) → list_all is_no_closing sent ≡ true
    → link_closings out ≡ closed → link_closings (out ++ sent) ≡ closed
closes_behind closed out sent all is_so =
    filter_map-append closing_of out sent ∙ ap (λ l. link_closings out ++ l) (none_closed sent all)
    ∙ append-nil (link_closings out) ∙ is_so

abbrev AreClosings : Closings → List Sent → Type 0
AreClosings closed out = link_closings out ≡ closed

stay_closed : IsKeptWhenServed is_no_closing AreClosings
stay_closed = record {
  nothing = refl;
  one_closed = λ number why. refl;
  behind = closes_behind;
  on_link = λ number parts. refl;
  to_client = λ conn line. refl;
  closing = λ conn. refl;
}

-- just those are closed that are said to be
pub served_closes : {view : View} {event : ReadEvent} {closed : Closings} {s : Served}
    → IsServed view event closed s → link_closings s.out ≡ closed
served_closes what = served_so is_no_closing AreClosings stay_closed what

pub closes_its_own : ServedClosesItsOwn
closes_its_own view read_event = served_closes (served_by_moves view read_event)
