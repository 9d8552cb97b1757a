-- What comes to light of links by an event of a server: by the event itself, and by what the server
-- puts out then.
use Rattle.std.specs.Prelude.{ℕ, Option, Some, None, List, [], ◌∷◌, ◌++◌}
use Rattle.std.specs.List.{flat_map}
use Rattle.irc_batch.specs.Batches.{Sent}
use Rattle.irc_routes.specs.Known.{token_in}
use Rattle.irc_routes.specs.Limits.{own_token}
use Rattle.irc_server.specs.declared.event.Event.{Event}
use Rattle.irc_server.specs.declared.event.Event.TheVariants.{LinkUp, LinkLine, LinkDown}
use Rattle.irc_stage.specs.View.{View}
use Rattle.irc_journal.specs.Claims.{claimed_in}
use Rattle.irc_journal.specs.Signs.{Sign, opens, claims, meets, is_gone, sign_of}

-- the server that is known at the other end of a link: each has the same number for itself there
-- (RFC 2813 section 4.1.2)
abbrev pub far_of : Option View → ℕ → Option (List ℕ)
far_of None link = None
far_of (Some view) link = token_in view.routes link own_token

-- by an event, behind which the server is this one
abbrev pub event_signs : Event → Option View → List (ℕ × Sign)
event_signs (LinkUp link called) server = (link, opens called) ∷ []
event_signs (LinkLine link line) server =
    (link, claims (claimed_in line.items)) ∷ (link, meets (far_of server link)) ∷ []
event_signs (LinkDown link) server = (link, is_gone) ∷ []
event_signs other server = []

-- and by what is put out
abbrev pub out_signs : List Sent → List (ℕ × Sign)
out_signs outs = flat_map sign_of outs

abbrev pub signs_by : Event → Option View → List Sent → List (ℕ × Sign)
signs_by event server outs = event_signs event server ++ out_signs outs
