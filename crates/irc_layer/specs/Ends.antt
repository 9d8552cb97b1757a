-- The ends of a server's links, each with what it has put out that the other end may not have read.
use Rattle.std.specs.Prelude.{ℕ, Bool, Option, Some, None, List, [], length, nat_eq, nat_le}
use Rattle.std.specs.Prelude.{if◌then◌else◌}
use Rattle.std.specs.List.{list_any}
use Rattle.std.specs.Option.{option_map}
use Rattle.std.specs.Ordering.{nat_cmp}
use Rattle.std.specs.BTreeMap.{BTreeMap, get}
use Rattle.irc_batch.specs.declared.close_reason.CloseReason.TheVariants.{Order, Parameters}
use Rattle.irc_names.specs.Fold.{same}
use Rattle.irc_crossing.specs.Hearing.{log_after}
use Rattle.irc_crossing.specs.Logs.{unread}
use Rattle.irc_link_end.specs.LinkEnds.{after_hearing, called, calling, heard_at, met}
use Rattle.irc_link_end.specs.declared.offer.Offer.{Offer}
use Rattle.irc_link_end.specs.declared.offer.Offer.TheVariants.{Away}
use Rattle.irc_pieces.specs.declared.piece_end.Heard.{Heard}
use Rattle.irc_pieces.specs.declared.piece_end.Heard.TheVariants.{Fault, Nothing}
use Rattle.irc_server.specs.declared.event.Event.{Event}
use Rattle.irc_server.specs.declared.event.Event.TheVariants.{Connect, Line, Gone, LinkUp, LinkLine}
use Rattle.irc_server.specs.declared.event.Event.TheVariants.{LinkDown}
use Rattle.irc_layer.specs.declared.end.End.{End}
use Rattle.irc_layer.specs.Away.{has_no_place}

-- the end of each link that is there
abbrev pub Ends : Type 0
Ends = ℕ → Option End

abbrev pub end_at : BTreeMap ℕ End → Ends
end_at ends link = get nat_cmp ends link

-- an end is there from now on, or is not
abbrev pub with_end : ℕ → Option End → Ends → Ends
with_end link end ends q = if nat_eq link q then end else ends q

-- an end has changed so, if it is there
abbrev pub change_end : ℕ → (End → End) → Ends → Ends
change_end link change ends q = if nat_eq link q then option_map change (ends q) else ends q

-- whether a server is one of those that are known to refuse words
abbrev pub is_plain : List (List ℕ) → List ℕ → Bool
is_plain plain name = list_any (λ one. same one name) plain

-- what is offered to a server that is called
abbrev pub offered_to : List (List ℕ) → List ℕ → Option Offer
offered_to plain name = if is_plain plain name then None else Some Away

-- The end of a link that begins: of a server that calls this one, or is called.
abbrev pub new_end : Option (List ℕ) → List (List ℕ) → End
new_end None plain = record { link = called; left = 0; log = [] }
new_end (Some name) plain =
    record { link = calling (offered_to plain name); left = 0; log = [] }

-- an end that has heard a line: what the other end says to have read leaves the log
abbrev pub end_hearing : List ℕ → End → End
end_hearing line end = record end {
  link = after_hearing line end.link;
  log = unread (after_hearing line end.link).pieces.counts.taken end.log;
}

-- an end whose other end has named itself, if it has
abbrev pub met_if : Bool → End → End
met_if is_met end = if is_met then record end { link = met end.link } else end

-- an end whose log is as a line leaves it
abbrev pub with_log_after : List ℕ → End → End
with_log_after line end = record end { log = log_after end.log line }

-- whether the other end has said too little of what it has read
abbrev pub is_full : End → Bool
is_full end = nat_le 1048576 (length end.log)

-- what of a line is for the server; where its end has not said what it has read by then, it was due
-- to, and the link is closed; so it is where the line is one that the link has no place for
abbrev pub heard_by : List ℕ → End → Heard
heard_by line end =
    if is_full (end_hearing line end) then Fault Order
    else (if has_no_place line end.link then Fault Parameters else heard_at line end.link)

-- the same, where the link has an end
abbrev pub heard_if : List ℕ → Option End → Heard
heard_if line None = Nothing
heard_if line (Some end) = heard_by line end

-- A link that begins has an end, and one that is lost has none.
abbrev pub ends_followed : Event → List (List ℕ) → Ends → Ends
ends_followed (LinkUp link name) plain ends = with_end link (Some (new_end name plain)) ends
ends_followed (LinkDown link) plain ends = with_end link None ends
ends_followed (LinkLine link line) plain ends = ends
ends_followed (Connect conn host) plain ends = ends
ends_followed (Line conn line) plain ends = ends
ends_followed (Gone conn) plain ends = ends
