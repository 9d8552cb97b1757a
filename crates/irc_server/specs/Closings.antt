-- Which links a server closes, and why: the one by which a line came that has a reason to be
-- closed, for that reason; and one that it is told to open to a name that no peer of it has. No
-- other link is ever closed by it (RFC 2813 section 4.1).
--
-- a.net has the client al, and the links 3 to b.net and 4 to d.net:
--   `FOO` comes by 3                 3 is closed as UnknownCommand; on 4 goes
--                                    `:a.net SQUIT b.net :a.net b.net`, and 4 stays
--   `:b.net SQUIT b.net` comes by 3  3 is closed as Parameters
--   link 5 is opened to x.net        5 is closed as UnknownPeer
--   al says or does what it likes, al is gone, link 3 is lost
--                                    no link is closed
use Rattle.std.specs.Prelude.{◌≡◌, ℕ, is_none, Option, Some, None, Result, List, [], ◌∷◌}
use Rattle.std.specs.Prelude.{if◌then◌else◌}
use Rattle.std.specs.FinMap.{get}
use Rattle.std.specs.List.{filter_map}
use Rattle.irc_line.specs.declared.reading.LineFault.{LineFault}
use Rattle.irc_line.specs.Messages.{Parsed}
use Rattle.irc_batch.specs.Batches.{Sent, end_of_link}
use Rattle.irc_batch.specs.declared.close_reason.CloseReason.{CloseReason}
use Rattle.irc_batch.specs.declared.close_reason.CloseReason.TheVariants as reason
use Rattle.irc_stage.specs.View.{End, View, password_for}
use Rattle.irc_server.specs.Heard.{Heard, closes, heard}
use Rattle.irc_server.specs.Served.{ReadEvent, of_client, link_up, link_says, link_down, served}

-- the link that is closed, and why
abbrev pub closing_of : Sent → Option (ℕ × CloseReason)
closing_of (end_of_link link why) = Some (link, why)
closing_of other = None

abbrev pub link_closings : List Sent → List (ℕ × CloseReason)
link_closings out = filter_map closing_of out

-- by a line, as it is heard
abbrev pub closing_heard : ℕ → Heard → List (ℕ × CloseReason)
closing_heard link (closes why) = (link, why) ∷ []
closing_heard link other = []

abbrev pub closing_by_line : View → ℕ → Result Parsed LineFault → Option End
    → List (ℕ × CloseReason)
closing_by_line view link read None = []
closing_by_line view link read (Some end) = closing_heard link (heard view link end read)

-- by a link that is opened to a name
abbrev pub closing_opened : View → ℕ → Option (List ℕ) → List (ℕ × CloseReason)
closing_opened view link None = []
closing_opened view link (Some name) =
    if is_none (password_for view name) then (link, reason.UnknownPeer) ∷ [] else []

abbrev pub closings_due : View → ReadEvent → List (ℕ × CloseReason)
closings_due view (of_client client_event) = []
closings_due view (link_up link starts) = closing_opened view link starts
closings_due view (link_says link read) = closing_by_line view link read (get view.ends link)
closings_due view (link_down link) = []

-- Whatever is served, just these are closed.
abbrev pub ServedClosesItsOwn : Type 0
ServedClosesItsOwn = (view : View) (read_event : ReadEvent)
    → link_closings (served view read_event).out ≡ closings_due view read_event
