-- What the code makes of what happens by a link.
use Rattle.std.specs.Prelude.{◌≡◌, ℕ, ⊤, Bool, true, Option, List, [], is_some, map}
use Rattle.std.specs.Prelude.{if◌then◌else◌}
use Rattle.std.specs.FinMap.{get}
use Rattle.std.specs.Option.{option_and_then}
use Rattle.irc_batch.specs.Batches.{line_on}
use Rattle.irc_burst.specs.DeedsMeant.{a_server}
use Rattle.irc_line.specs.Messages.{Written}
use Rattle.irc_stage.specs.EffectTold.{Served, with_sent}
use Rattle.irc_stage.specs.Linked.{with_far}
use Rattle.irc_stage.specs.View.{End, View}
use Rattle.irc_stage.specs.Ways.{IsMetEnd}
use Rattle.irc_stage.specs.Loops.Handling.{where_it_is}
use Rattle.irc_server.specs.DeedTold.{told_by}
use Rattle.irc_server.specs.Heard.{Heard, meets, tells}
use Rattle.irc_server.specs.LinkServed.{on_link, opening_parts, owes}

-- the server at the other end of a link
abbrev pub far_of : View → ℕ → Option (List ℕ)
far_of view link = option_and_then (λ (end : End). end.far) (get view.ends link)

-- what an end says first, where it was called
abbrev pub greeting_of : View → Bool → List ℕ → List Written
greeting_of view is_called name = if is_called then opening_parts view name else []

-- these lines on a link
abbrev pub lines_told : ℕ → List (List ℕ) → Served → Served
lines_told link lines s = with_sent (map (line_on link) lines) s

-- What is heard at an end can be done: what is told comes by a link that counts, and who names
-- itself by one that is open.
abbrev pub IsHearable : Option End → Heard → Type 0
IsHearable end (tells told) = IsMetEnd end
IsHearable end (meets name info) = is_some end ≡ true
IsHearable end other = ⊤

-- the server at the other end has named itself: it is answered, and then told to all others
abbrev pub met_in : ℕ → List ℕ → List ℕ → Served → Served
met_in link name info s =
    told_by link (a_server s.state.routes.name name 1 1 info)
    (where_it_is (with_far link name s.state)
    (with_sent (on_link link (owes s.state link name)) s))
